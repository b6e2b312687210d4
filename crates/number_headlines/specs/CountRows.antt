-- A worked row: a program of the class with two loops that count, one in the turns of the other, and a function that is
-- called there.
use Rattle.std.specs.Prelude.{ℕ, ◌≡◌, List, [], ◌∷◌, Some, None}
use Rattle.pli_typing.specs.TypedTree as Y
use Rattle.pli_meaning.specs.declared.outcome.End.TheVariants as E
use Rattle.pli_meaning.specs.Executing.{meaning}
use Rattle.pli_coding.specs.Images.{picture_of}
use Rattle.pli_coding.specs.SignatureTable.{table_of}
use Rattle.expression_runs.specs.Assignments.{assignment}
use Rattle.expression_runs.specs.Variables.{Spot, number_declared, whole}
use Rattle.function_runs.specs.Returns.{return_of}
use Rattle.pli_headline.specs.Headline.{Headline, parts}

-- F: PROCEDURE RETURNS(FIXED BINARY(31)); RETURN (X + I); END F;
-- DECLARE (X, I, J) FIXED BINARY(31); X = 0; DO I = 1 TO 3; DO J = I TO 1 BY -1; X = F(); END; END;

abbrev pub spot_of_main : ℕ → Spot
spot_of_main n = record { block = 1; level = 0; index = n }

abbrev pub number_of_main : ℕ → Y.Number
number_of_main n = Y.NumberIn (whole (spot_of_main n))

abbrev pub added_call : Y.Number
added_call = Y.NumberFrom (Y.Calling 2 0 Y.NoArgument)

abbrev pub inner_turn : Y.Stmts
inner_turn = Y.StmtThen [] (assignment (spot_of_main 0) added_call 6) (Y.EndOfList [])

abbrev pub inner_loop : Y.Stmt
inner_loop =
    Y.DoCount (Y.NumberCounter 31 (whole (spot_of_main 2))) (Y.NumberValue 31 (number_of_main 1))
    (Some (Y.NumberConstant 1)) (Y.Signed Y.Negative (Y.NumberConstant 1)) None inner_turn 5

abbrev pub outer_turn : Y.Stmts
outer_turn = Y.StmtThen [] inner_loop (Y.EndOfList [])

abbrev pub outer_loop : Y.Stmt
outer_loop =
    Y.DoCount (Y.NumberCounter 31 (whole (spot_of_main 1))) (Y.NumberValue 31 (Y.NumberConstant 1))
    (Some (Y.NumberConstant 3)) (Y.NumberConstant 1) None outer_turn 4

abbrev pub counting_body : Y.Stmts
counting_body =
    Y.StmtThen [] (assignment (spot_of_main 0) (Y.NumberConstant 0) 3) (Y.StmtThen [] outer_loop (Y.EndOfList []))

abbrev pub added_body : Y.Stmts
added_body =
    Y.StmtThen [] (return_of (Y.Calculated Y.Sum (number_of_main 0) (number_of_main 1)) 2) (Y.EndOfList [])

abbrev pub block_at_level : (number level line : ℕ) → Y.BlockHead
block_at_level number level line = record { kind = Y.ProcedureBlock; number = number; level = level; line = line }

abbrev pub counting_main : Y.Procedure
counting_main = record { block = Y.BlockOf (block_at_level 1 0 1) counting_body; parameters = []; result = None }

abbrev pub added_function : Y.Procedure
added_function =
    record { block = Y.BlockOf (block_at_level 2 1 2) added_body; parameters = []; result = Some (Y.FixedLeaf 31) }

abbrev pub counting_program : Y.Program
counting_program =
    record {
      variables = [] ∷ (number_declared [] ∷ number_declared [] ∷ number_declared [] ∷ []) ∷ [] ∷ [];
      procedures = counting_main ∷ added_function ∷ [];
    }

pub record CountingKept : Type 0 where
  pub headline : Headline counting_program (picture_of parts counting_program) (table_of counting_program)
  -- it ends behind the third turn of the outer loop, and the sixth of the inner one
  pub ends :
      (input : List ℕ) →
      meaning counting_program input 38 ≡ Some (record { acts = 38; output = []; raised = []; end = E.Finished })
