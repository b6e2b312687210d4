-- A worked row: a program of the class whose procedure establishes a unit, raised in another one that it calls, and
-- reverts it, so that the main procedure's unit is raised there.
use Rattle.std.specs.Prelude.{ℕ, ◌≡◌, List, [], ◌∷◌, Some, None}
use Rattle.pli_language.specs.declared.condition.Condition.TheVariants as C
use Rattle.pli_typing.specs.TypedTree as Y
use Rattle.pli_meaning.specs.declared.outcome.End.TheVariants as E
use Rattle.pli_meaning.specs.Executing.{meaning}
use Rattle.pli_coding.specs.Images.{picture_of}
use Rattle.pli_coding.specs.SignatureTable.{table_of}
use Rattle.expression_runs.specs.Assignments.{assignment}
use Rattle.expression_runs.specs.Variables.{Spot, number_declared, whole}
use Rattle.pli_headline.specs.Headline.{Headline, parts}

-- DECLARE X FIXED BINARY(31); Q: PROCEDURE; X = X + X - X; END Q;
-- P: PROCEDURE; DECLARE Y FIXED BINARY(31); Y = 5; ON FIXEDOVERFLOW BEGIN; X = Y; END; CALL Q;
-- REVERT FIXEDOVERFLOW; X = 2147483647; CALL Q; END P;
-- X = 2147483647; ON FIXEDOVERFLOW STOP; CALL P;

abbrev pub lodge_spot : Spot
lodge_spot = record { block = 1; level = 0; index = 0 }

abbrev pub lodge_value : Y.Number
lodge_value = Y.NumberIn (whole lodge_spot)

-- of the procedure
abbrev pub own_spot : Spot
own_spot = record { block = 3; level = 1; index = 0 }

abbrev pub head_at : (number level line : ℕ) → Y.BlockHead
head_at number level line = record { kind = Y.ProcedureBlock; number = number; level = level; line = line }

abbrev pub lodge_sum : Y.Number
lodge_sum = Y.Calculated Y.Difference (Y.Calculated Y.Sum lodge_value lodge_value) lodge_value

abbrev pub raising_body : Y.Stmts
raising_body = Y.StmtThen [] (assignment lodge_spot lodge_sum 3) (Y.EndOfList [])

abbrev pub raising_procedure : Y.Procedure
raising_procedure = record { block = Y.BlockOf (head_at 2 1 3) raising_body; parameters = []; result = None }

abbrev pub raising_call : (line : ℕ) → Y.Stmt
raising_call line = Y.CallProcedure (Y.Calling 2 0 Y.NoArgument) line

abbrev pub unit_head : Y.BlockHead
unit_head = record { kind = Y.UnitBlock; number = 4; level = 2; line = 6 }

abbrev pub unit_body : Y.Stmts
unit_body = Y.StmtThen [] (assignment lodge_spot (Y.NumberIn (whole own_spot)) 6) (Y.EndOfList [])

abbrev pub host_body : Y.Stmts
host_body =
    Y.StmtThen [] (assignment own_spot (Y.NumberConstant 5) 5)
    (Y.StmtThen [] (Y.OnUnit C.FixedOverflow (Y.BlockOf unit_head unit_body) 6)
    (Y.StmtThen [] (raising_call 7)
    (Y.StmtThen [] (Y.Revert C.FixedOverflow 8)
    (Y.StmtThen [] (assignment lodge_spot (Y.NumberConstant 2147483647) 9)
    (Y.StmtThen [] (raising_call 10) (Y.EndOfList []))))))

abbrev pub host_procedure : Y.Procedure
host_procedure = record { block = Y.BlockOf (head_at 3 1 4) host_body; parameters = []; result = None }

abbrev pub stop_head : Y.BlockHead
stop_head = record { kind = Y.SimpleUnit; number = 1; level = 1; line = 12 }

abbrev pub stop_body : Y.Stmts
stop_body = Y.StmtThen [] (Y.Stop 12) (Y.EndOfList [])

abbrev pub lodge_body : Y.Stmts
lodge_body =
    Y.StmtThen [] (assignment lodge_spot (Y.NumberConstant 2147483647) 11)
    (Y.StmtThen [] (Y.OnUnit C.FixedOverflow (Y.BlockOf stop_head stop_body) 12)
    (Y.StmtThen [] (Y.CallProcedure (Y.Calling 3 0 Y.NoArgument) 13) (Y.EndOfList [])))

abbrev pub lodge_main : Y.Procedure
lodge_main = record { block = Y.BlockOf (head_at 1 0 1) lodge_body; parameters = []; result = None }

abbrev pub lodge_program : Y.Program
lodge_program =
    record {
      variables = [] ∷ (number_declared [] ∷ []) ∷ [] ∷ (number_declared [] ∷ []) ∷ [] ∷ [];
      procedures = lodge_main ∷ raising_procedure ∷ host_procedure ∷ [];
    }

pub record LodgeKept : Type 0 where
  pub headline : Headline lodge_program (picture_of parts lodge_program) (table_of lodge_program)
  -- the procedure's unit returns into the sum of the other one, and then the main procedure's ends the run
  pub ends :
      (input : List ℕ) →
      meaning lodge_program input 40
      ≡ Some (record {
        acts = 22;
        output = [];
        raised = (C.FixedOverflow, 20) ∷ (C.FixedOverflow, 20) ∷ [];
        end = E.Stopped;
      })
