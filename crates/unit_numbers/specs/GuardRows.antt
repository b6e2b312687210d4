-- A worked row: a program of the class whose units are raised in a procedure and in a function, which one of them
-- leaves by a jump.
use Rattle.std.specs.Prelude.{ℕ, ◌≡◌, List, [], ◌∷◌, Some, None}
use Rattle.pli_language.specs.declared.condition.Condition.TheVariants as C
use Rattle.pli_typing.specs.TypedTree as Y
use Rattle.pli_meaning.specs.declared.outcome.End.TheVariants as E
use Rattle.pli_meaning.specs.Control.{Label}
use Rattle.pli_meaning.specs.Executing.{meaning}
use Rattle.pli_coding.specs.Images.{picture_of}
use Rattle.pli_coding.specs.SignatureTable.{table_of}
use Rattle.expression_runs.specs.Assignments.{assignment}
use Rattle.expression_runs.specs.Variables.{Spot, number_declared, whole}
use Rattle.function_runs.specs.Returns.{return_of}
use Rattle.pli_headline.specs.Headline.{Headline, parts}

-- DECLARE X FIXED BINARY(31); P: PROCEDURE; X = X + X; END P;
-- F: PROCEDURE RETURNS(FIXED BINARY(31)); RETURN (X / (X - X)); END F;
-- X = 2147483647; ON FIXEDOVERFLOW BEGIN; X = 1; END; ON ZERODIVIDE GOTO DONE; CALL P; X = F(); DONE: ;

abbrev pub guard_spot : Spot
guard_spot = record { block = 1; level = 0; index = 0 }

abbrev pub guard_value : Y.Number
guard_value = Y.NumberIn (whole guard_spot)

abbrev pub guard_label : Label
guard_label = 68 ∷ 79 ∷ 78 ∷ 69 ∷ []

abbrev pub head_at : (number level line : ℕ) → Y.BlockHead
head_at number level line = record { kind = Y.ProcedureBlock; number = number; level = level; line = line }

abbrev pub twice_body : Y.Stmts
twice_body = Y.StmtThen [] (assignment guard_spot (Y.Calculated Y.Sum guard_value guard_value) 3) (Y.EndOfList [])

abbrev pub twice_procedure : Y.Procedure
twice_procedure = record { block = Y.BlockOf (head_at 2 1 3) twice_body; parameters = []; result = None }

abbrev pub over_value : Y.Number
over_value = Y.Calculated Y.Quotient guard_value (Y.Calculated Y.Difference guard_value guard_value)

abbrev pub over_body : Y.Stmts
over_body = Y.StmtThen [] (return_of over_value 4) (Y.EndOfList [])

abbrev pub over_function : Y.Procedure
over_function =
    record { block = Y.BlockOf (head_at 3 1 4) over_body; parameters = []; result = Some (Y.FixedLeaf 31) }

abbrev pub one_head : Y.BlockHead
one_head = record { kind = Y.UnitBlock; number = 4; level = 1; line = 6 }

abbrev pub one_body : Y.Stmts
one_body = Y.StmtThen [] (assignment guard_spot (Y.NumberConstant 1) 6) (Y.EndOfList [])

abbrev pub gone_head : Y.BlockHead
gone_head = record { kind = Y.SimpleUnit; number = 1; level = 1; line = 7 }

abbrev pub gone_body : Y.Stmts
gone_body = Y.StmtThen [] (Y.Goto 0 guard_label 7) (Y.EndOfList [])

abbrev pub over_call : Y.Number
over_call = Y.NumberFrom (Y.Calling 3 0 Y.NoArgument)

abbrev pub guard_body : Y.Stmts
guard_body =
    Y.StmtThen [] (assignment guard_spot (Y.NumberConstant 2147483647) 5)
    (Y.StmtThen [] (Y.OnUnit C.FixedOverflow (Y.BlockOf one_head one_body) 6)
    (Y.StmtThen [] (Y.OnUnit C.ZeroDivide (Y.BlockOf gone_head gone_body) 7)
    (Y.StmtThen [] (Y.CallProcedure (Y.Calling 2 0 Y.NoArgument) 8)
    (Y.StmtThen [] (assignment guard_spot over_call 9)
    (Y.StmtThen (guard_label ∷ []) (Y.Null 10) (Y.EndOfList []))))))

abbrev pub guard_main : Y.Procedure
guard_main = record { block = Y.BlockOf (head_at 1 0 1) guard_body; parameters = []; result = None }

abbrev pub guard_program : Y.Program
guard_program =
    record {
      variables = [] ∷ (number_declared [] ∷ []) ∷ [] ∷ [] ∷ [] ∷ [];
      procedures = guard_main ∷ twice_procedure ∷ over_function ∷ [];
    }

pub record GuardKept : Type 0 where
  pub headline : Headline guard_program (picture_of parts guard_program) (table_of guard_program)
  -- it raises FIXEDOVERFLOW in the procedure and ZERODIVIDE in the function, and ends behind the label
  pub ends :
      (input : List ℕ) →
      meaning guard_program input 18
      ≡ Some (record {
        acts = 18;
        output = [];
        raised = (C.FixedOverflow, 20) ∷ (C.ZeroDivide, 30) ∷ [];
        end = E.Finished;
      })
