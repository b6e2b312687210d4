-- A worked row: a program of the class with a procedure and a function, which its main procedure calls.
use Rattle.std.specs.Prelude.{ℕ, ◌≡◌, List, [], ◌∷◌, Some, None}
use Rattle.pli_typing.specs.TypedTree as Y
use Rattle.pli_meaning.specs.declared.outcome.End.TheVariants as E
use Rattle.pli_meaning.specs.Executing.{meaning}
use Rattle.pli_coding.specs.Images.{picture_of}
use Rattle.pli_coding.specs.SignatureTable.{table_of}
use Rattle.expression_runs.specs.Assignments.{assignment}
use Rattle.expression_runs.specs.Variables.{Spot, number_declared, whole}
use Rattle.function_runs.specs.Returns.{return_of}
use Rattle.pli_headline.specs.Headline.{Headline, parts}

-- P: PROCEDURE; X = X + 1; END P;
-- F: PROCEDURE RETURNS(FIXED BINARY(31)); DECLARE Y FIXED BINARY(31); Y = X + X; RETURN (Y); END F;
-- DECLARE X FIXED BINARY(31); X = 1; DO WHILE (X < 1000); IF 400 < X THEN CALL P; X = F(); END;

abbrev pub outer_spot : Spot
outer_spot = record { block = 1; level = 0; index = 0 }

abbrev pub own_spot : Spot
own_spot = record { block = 3; level = 1; index = 0 }

abbrev pub outer_value : Y.Number
outer_value = Y.NumberIn (whole outer_spot)

abbrev pub step_call : Y.Stmt
step_call = Y.CallProcedure (Y.Calling 2 0 Y.NoArgument) 8

abbrev pub twice_call : Y.Number
twice_call = Y.NumberFrom (Y.Calling 3 0 Y.NoArgument)

abbrev pub calling_turns : Y.Stmts
calling_turns =
    Y.StmtThen [] (Y.If (Y.NumbersCompared Y.IsLess (Y.NumberConstant 400) outer_value) step_call 8)
    (Y.StmtThen [] (assignment outer_spot twice_call 9) (Y.EndOfList []))

abbrev pub calling_loop : Y.Stmt
calling_loop = Y.DoWhile (Y.NumbersCompared Y.IsLess outer_value (Y.NumberConstant 1000)) calling_turns 7

abbrev pub calling_body : Y.Stmts
calling_body =
    Y.StmtThen [] (assignment outer_spot (Y.NumberConstant 1) 6) (Y.StmtThen [] calling_loop (Y.EndOfList []))

abbrev pub step_body : Y.Stmts
step_body =
    Y.StmtThen [] (assignment outer_spot (Y.Calculated Y.Sum outer_value (Y.NumberConstant 1)) 3) (Y.EndOfList [])

abbrev pub twice_body : Y.Stmts
twice_body =
    Y.StmtThen [] (assignment own_spot (Y.Calculated Y.Sum outer_value outer_value) 5)
    (Y.StmtThen [] (return_of (Y.NumberIn (whole own_spot)) 5) (Y.EndOfList []))

abbrev pub head_at : (number level line : ℕ) → Y.BlockHead
head_at number level line = record { kind = Y.ProcedureBlock; number = number; level = level; line = line }

abbrev pub calling_main : Y.Procedure
calling_main = record { block = Y.BlockOf (head_at 1 0 1) calling_body; parameters = []; result = None }

abbrev pub step_procedure : Y.Procedure
step_procedure = record { block = Y.BlockOf (head_at 2 1 3) step_body; parameters = []; result = None }

abbrev pub twice_function : Y.Procedure
twice_function =
    record { block = Y.BlockOf (head_at 3 1 4) twice_body; parameters = []; result = Some (Y.FixedLeaf 31) }

abbrev pub calling_program : Y.Program
calling_program =
    record {
      variables = [] ∷ (number_declared [] ∷ []) ∷ [] ∷ (number_declared [] ∷ []) ∷ [];
      procedures = calling_main ∷ step_procedure ∷ twice_function ∷ [];
    }

pub record CallingKept : Type 0 where
  pub headline : Headline calling_program (picture_of parts calling_program) (table_of calling_program)
  -- it ends behind its tenth turn, in which it calls the procedure
  pub ends :
      (input : List ℕ) →
      meaning calling_program input 68 ≡ Some (record { acts = 68; output = []; raised = []; end = E.Finished })
