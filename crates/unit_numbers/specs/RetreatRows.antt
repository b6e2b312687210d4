-- A worked row: a program of the class whose procedure establishes a unit, which leaves two blocks that it called by a
-- jump to its label; behind it the unit is gone.
use Rattle.std.specs.Prelude.{ℕ, ◌≡◌, List, [], ◌∷◌, Some, None}
use Rattle.pli_language.specs.declared.condition.Condition.TheVariants as C
use Rattle.pli_typing.specs.TypedTree as Y
use Rattle.pli_meaning.specs.declared.outcome.End.TheVariants as E
use Rattle.pli_meaning.specs.Control.{Label}
use Rattle.pli_meaning.specs.Executing.{meaning}
use Rattle.pli_coding.specs.Images.{picture_of}
use Rattle.pli_coding.specs.SignatureTable.{table_of}
use Rattle.expression_runs.specs.Assignments.{assignment}
use Rattle.expression_runs.specs.Variables.{Spot, number_declared, whole}
use Rattle.pli_headline.specs.Headline.{Headline, parts}

-- DECLARE X FIXED BINARY(31); Q: PROCEDURE; X = X + X; CALL Q; END Q;
-- P: PROCEDURE; ON FIXEDOVERFLOW GOTO DONE; X = 600000000; CALL Q; DONE: X = 2147483647; END P;
-- CALL P; X = X + X;

abbrev pub retreat_spot : Spot
retreat_spot = record { block = 1; level = 0; index = 0 }

abbrev pub retreat_value : Y.Number
retreat_value = Y.NumberIn (whole retreat_spot)

abbrev pub retreat_label : Label
retreat_label = 68 ∷ 79 ∷ 78 ∷ 69 ∷ []

abbrev pub head_at : (number level line : ℕ) → Y.BlockHead
head_at number level line = record { kind = Y.ProcedureBlock; number = number; level = level; line = line }

abbrev pub twice_value : Y.Number
twice_value = Y.Calculated Y.Sum retreat_value retreat_value

abbrev pub twice_body : Y.Stmts
twice_body =
    Y.StmtThen [] (assignment retreat_spot twice_value 3)
    (Y.StmtThen [] (Y.CallProcedure (Y.Calling 2 0 Y.NoArgument) 3) (Y.EndOfList []))

abbrev pub twice_procedure : Y.Procedure
twice_procedure = record { block = Y.BlockOf (head_at 2 1 3) twice_body; parameters = []; result = None }

abbrev pub gone_head : Y.BlockHead
gone_head = record { kind = Y.SimpleUnit; number = 3; level = 2; line = 5 }

abbrev pub gone_body : Y.Stmts
gone_body = Y.StmtThen [] (Y.Goto 1 retreat_label 5) (Y.EndOfList [])

abbrev pub host_body : Y.Stmts
host_body =
    Y.StmtThen [] (Y.OnUnit C.FixedOverflow (Y.BlockOf gone_head gone_body) 5)
    (Y.StmtThen [] (assignment retreat_spot (Y.NumberConstant 600000000) 6)
    (Y.StmtThen [] (Y.CallProcedure (Y.Calling 2 0 Y.NoArgument) 7)
    (Y.StmtThen (retreat_label ∷ []) (assignment retreat_spot (Y.NumberConstant 2147483647) 8) (Y.EndOfList []))))

abbrev pub host_procedure : Y.Procedure
host_procedure = record { block = Y.BlockOf (head_at 3 1 4) host_body; parameters = []; result = None }

abbrev pub retreat_body : Y.Stmts
retreat_body =
    Y.StmtThen [] (Y.CallProcedure (Y.Calling 3 0 Y.NoArgument) 9)
    (Y.StmtThen [] (assignment retreat_spot twice_value 10) (Y.EndOfList []))

abbrev pub retreat_main : Y.Procedure
retreat_main = record { block = Y.BlockOf (head_at 1 0 1) retreat_body; parameters = []; result = None }

abbrev pub retreat_program : Y.Program
retreat_program =
    record {
      variables = [] ∷ (number_declared [] ∷ []) ∷ [] ∷ [] ∷ [];
      procedures = retreat_main ∷ twice_procedure ∷ host_procedure ∷ [];
    }

pub record RetreatKept : Type 0 where
  pub headline : Headline retreat_program (picture_of parts retreat_program) (table_of retreat_program)
  -- it goes on at the label of the procedure, and no unit is in force behind that
  pub ends :
      (input : List ℕ) →
      meaning retreat_program input 40
      ≡ Some (record {
        acts = 19;
        output = [];
        raised = (C.FixedOverflow, 20) ∷ (C.FixedOverflow, 20) ∷ (C.Error, 20) ∷ [];
        end = E.Error 20 10;
      })
