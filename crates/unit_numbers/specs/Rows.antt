-- A worked row: a program of the class whose unit is entered, and behind which it goes on.
use Rattle.std.specs.Prelude.{ℕ, ◌≡◌, List, [], ◌∷◌, Some, None}
use Rattle.pli_language.specs.declared.condition.Condition.TheVariants as C
use Rattle.pli_typing.specs.TypedTree as Y
use Rattle.pli_meaning.specs.declared.outcome.End.TheVariants as E
use Rattle.pli_meaning.specs.Executing.{meaning}
use Rattle.pli_coding.specs.Images.{picture_of}
use Rattle.pli_coding.specs.SignatureTable.{table_of}
use Rattle.expression_runs.specs.Assignments.{assignment}
use Rattle.expression_runs.specs.Variables.{Spot, number_declared, whole}
use Rattle.pli_headline.specs.Headline.{Headline, parts}

-- DECLARE X FIXED BINARY(31); X = 2147483647; ON FIXEDOVERFLOW BEGIN; X = 1; END; X = X + X - X;

abbrev pub heal_spot : Spot
heal_spot = record { block = 1; level = 0; index = 0 }

abbrev pub heal_value : Y.Number
heal_value = Y.NumberIn (whole heal_spot)

abbrev pub unit_body : Y.Stmts
unit_body = Y.StmtThen [] (assignment heal_spot (Y.NumberConstant 1) 5) (Y.EndOfList [])

abbrev pub unit_head : Y.BlockHead
unit_head = record { kind = Y.UnitBlock; number = 2; level = 1; line = 4 }

abbrev pub heal_sum : Y.Number
heal_sum = Y.Calculated Y.Difference (Y.Calculated Y.Sum heal_value heal_value) heal_value

abbrev pub heal_body : Y.Stmts
heal_body =
    Y.StmtThen [] (assignment heal_spot (Y.NumberConstant 2147483647) 3)
    (Y.StmtThen [] (Y.OnUnit C.FixedOverflow (Y.BlockOf unit_head unit_body) 4)
    (Y.StmtThen [] (assignment heal_spot heal_sum 6) (Y.EndOfList [])))

abbrev pub heal_head : Y.BlockHead
heal_head = record { kind = Y.ProcedureBlock; number = 1; level = 0; line = 1 }

abbrev pub heal_main : Y.Procedure
heal_main = record { block = Y.BlockOf heal_head heal_body; parameters = []; result = None }

abbrev pub heal_program : Y.Program
heal_program =
    record { variables = [] ∷ (number_declared [] ∷ []) ∷ [] ∷ []; procedures = heal_main ∷ [] }

pub record HealKept : Type 0 where
  pub headline : Headline heal_program (picture_of parts heal_program) (table_of heal_program)
  -- it raises FIXEDOVERFLOW, and ends behind its last statement
  pub ends :
      (input : List ℕ) →
      meaning heal_program input 8
      ≡ Some (record { acts = 8; output = []; raised = (C.FixedOverflow, 20) ∷ []; end = E.Finished })
