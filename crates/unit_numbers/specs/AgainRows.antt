-- A worked row: a program of the class whose unit raises its own condition, and so enters itself.
use Rattle.std.specs.Prelude.{ℕ, ◌≡◌, List, [], ◌∷◌, Some, None}
use Rattle.pli_language.specs.declared.condition.Condition.TheVariants as C
use Rattle.pli_typing.specs.TypedTree as Y
use Rattle.pli_meaning.specs.declared.outcome.End.TheVariants as E
use Rattle.pli_meaning.specs.Executing.{meaning}
use Rattle.pli_coding.specs.Images.{picture_of}
use Rattle.pli_coding.specs.SignatureTable.{table_of}
use Rattle.expression_runs.specs.Assignments.{assignment}
use Rattle.expression_runs.specs.Variables.{Spot, number_declared, whole}
use Rattle.pli_headline.specs.Headline.{Headline, parts}

-- DECLARE X FIXED BINARY(31); X = 2147483647; ON FIXEDOVERFLOW BEGIN; X = X - 536870912; X = X + X; END;
-- X = X + X - X;

abbrev pub again_spot : Spot
again_spot = record { block = 1; level = 0; index = 0 }

abbrev pub again_value : Y.Number
again_value = Y.NumberIn (whole again_spot)

abbrev pub unit_body : Y.Stmts
unit_body =
    Y.StmtThen [] (assignment again_spot (Y.Calculated Y.Difference again_value (Y.NumberConstant 536870912)) 5)
    (Y.StmtThen [] (assignment again_spot (Y.Calculated Y.Sum again_value again_value) 6) (Y.EndOfList []))

abbrev pub unit_head : Y.BlockHead
unit_head = record { kind = Y.UnitBlock; number = 2; level = 1; line = 4 }

abbrev pub again_sum : Y.Number
again_sum = Y.Calculated Y.Difference (Y.Calculated Y.Sum again_value again_value) again_value

abbrev pub again_body : Y.Stmts
again_body =
    Y.StmtThen [] (assignment again_spot (Y.NumberConstant 2147483647) 3)
    (Y.StmtThen [] (Y.OnUnit C.FixedOverflow (Y.BlockOf unit_head unit_body) 4)
    (Y.StmtThen [] (assignment again_spot again_sum 7) (Y.EndOfList [])))

abbrev pub again_head : Y.BlockHead
again_head = record { kind = Y.ProcedureBlock; number = 1; level = 0; line = 1 }

abbrev pub again_main : Y.Procedure
again_main = record { block = Y.BlockOf again_head again_body; parameters = []; result = None }

abbrev pub again_program : Y.Program
again_program =
    record { variables = [] ∷ (number_declared [] ∷ []) ∷ [] ∷ []; procedures = again_main ∷ [] }

pub record AgainKept : Type 0 where
  pub headline : Headline again_program (picture_of parts again_program) (table_of again_program)
  -- it raises FIXEDOVERFLOW, its unit does once more, and it ends behind its last statement
  pub ends :
      (input : List ℕ) →
      meaning again_program input 13
      ≡ Some (record {
        acts = 13;
        output = [];
        raised = (C.FixedOverflow, 20) ∷ (C.FixedOverflow, 20) ∷ [];
        end = E.Finished;
      })
