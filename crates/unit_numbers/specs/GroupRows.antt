-- A worked row: a program of the class with ON in a group in a group.
use Rattle.std.specs.Prelude.{ℕ, ◌≡◌, List, [], ◌∷◌, Some, None}
use Rattle.pli_language.specs.declared.condition.Condition.TheVariants as C
use Rattle.pli_typing.specs.TypedTree as Y
use Rattle.pli_meaning.specs.declared.outcome.End.TheVariants as E
use Rattle.pli_meaning.specs.Executing.{meaning}
use Rattle.pli_coding.specs.Images.{picture_of}
use Rattle.pli_coding.specs.SignatureTable.{table_of}
use Rattle.expression_runs.specs.Assignments.{assignment}
use Rattle.expression_runs.specs.Variables.{Spot, number_declared, whole}
use Rattle.pli_headline.specs.Headline.{Headline, parts}

-- DECLARE X FIXED BINARY(31); X = 2147483647; DO; DO; ON FIXEDOVERFLOW BEGIN; X = 1; END; END;
-- X = X + X - X; END;

abbrev pub group_spot : Spot
group_spot = record { block = 1; level = 0; index = 0 }

abbrev pub group_value : Y.Number
group_value = Y.NumberIn (whole group_spot)

abbrev pub unit_body : Y.Stmts
unit_body = Y.StmtThen [] (assignment group_spot (Y.NumberConstant 1) 5) (Y.EndOfList [])

abbrev pub unit_head : Y.BlockHead
unit_head = record { kind = Y.UnitBlock; number = 2; level = 1; line = 4 }

abbrev pub group_sum : Y.Number
group_sum = Y.Calculated Y.Difference (Y.Calculated Y.Sum group_value group_value) group_value

abbrev pub group_inner : Y.Stmts
group_inner = Y.StmtThen [] (Y.OnUnit C.FixedOverflow (Y.BlockOf unit_head unit_body) 4) (Y.EndOfList [])

abbrev pub group_inside : Y.Stmts
group_inside =
    Y.StmtThen [] (Y.Do group_inner 4) (Y.StmtThen [] (assignment group_spot group_sum 6) (Y.EndOfList []))

abbrev pub group_body : Y.Stmts
group_body =
    Y.StmtThen [] (assignment group_spot (Y.NumberConstant 2147483647) 3)
    (Y.StmtThen [] (Y.Do group_inside 4) (Y.EndOfList []))

abbrev pub group_head : Y.BlockHead
group_head = record { kind = Y.ProcedureBlock; number = 1; level = 0; line = 1 }

abbrev pub group_main : Y.Procedure
group_main = record { block = Y.BlockOf group_head group_body; parameters = []; result = None }

abbrev pub group_program : Y.Program
group_program =
    record { variables = [] ∷ (number_declared [] ∷ []) ∷ [] ∷ []; procedures = group_main ∷ [] }

pub record GroupKept : Type 0 where
  pub headline : Headline group_program (picture_of parts group_program) (table_of group_program)
  -- it raises FIXEDOVERFLOW, and ends behind its last statement
  pub ends :
      (input : List ℕ) →
      meaning group_program input 10
      ≡ Some (record { acts = 10; output = []; raised = (C.FixedOverflow, 20) ∷ []; end = E.Finished })
