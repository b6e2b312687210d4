-- A worked row with parameters of a block around: a procedure adds one that it holds to another, and passes both on to
-- its holder, by reference and in a copy.
use Rattle.std.specs.Prelude.{ℕ, ◌≡◌, List, [], ◌∷◌, Some, None}
use Rattle.pli_language.specs.Tree as T
use Rattle.pli_typing.specs.TypedTree as Y
use Rattle.pli_meaning.specs.declared.outcome.End.TheVariants as E
use Rattle.pli_meaning.specs.Executing.{meaning}
use Rattle.pli_coding.specs.Images.{picture_of}
use Rattle.pli_coding.specs.SignatureTable.{table_of}
use Rattle.expression_runs.specs.Assignments.{assignment}
use Rattle.expression_runs.specs.Variables.{Spot, number_declared, whole}
use Rattle.argument_runs.specs.Parameters.{parameter, parameter_declared}
use Rattle.reference_runs.specs.ParameterAssignments as P
use Rattle.pli_headline.specs.Headline.{Headline, parts}

-- SUM: PROCEDURE (N, T); DECLARE (N, T) FIXED BINARY(31);
-- STEP: PROCEDURE; T = T + N; IF N > 1 THEN CALL SUM(N - 1, T); END STEP;
-- CALL STEP; END SUM;
-- DECLARE X FIXED BINARY(31); X = 0; CALL SUM(3, X); PUT EDIT (X) (F(2));

abbrev pub holder_spot : (index : ℕ) → Spot
holder_spot n = record { block = 2; level = 1; index = n }

abbrev pub total_spot : Spot
total_spot = record { block = 1; level = 0; index = 0 }

abbrev pub held_value : (index : ℕ) → Y.Number
held_value n = Y.NumberIn (parameter (holder_spot n))

-- a copy and a reference
abbrev pub sum_of : Y.Number → Y.Reference → (line : ℕ) → Y.Stmt
sum_of first second line =
    Y.CallProcedure
    (Y.Calling 2 0
    (Y.ArgumentThen (Y.ByCopy (Y.FixedLeaf 31) (Y.StoredNumber 31 first))
    (Y.ArgumentThen (Y.ByReference second) Y.NoArgument))) line

abbrev pub again_sum : Y.Stmt
again_sum =
    Y.If (Y.NumbersCompared Y.IsGreater (held_value 0) (Y.NumberConstant 1))
    (sum_of (Y.Calculated Y.Difference (held_value 0) (Y.NumberConstant 1)) (parameter (holder_spot 1)) 6) 6

abbrev pub step_body : Y.Stmts
step_body =
    Y.StmtThen [] (P.assignment (holder_spot 1) (Y.Calculated Y.Sum (held_value 1) (held_value 0)) 5)
    (Y.StmtThen [] again_sum (Y.EndOfList []))

abbrev pub holder_body : Y.Stmts
holder_body = Y.StmtThen [] (Y.CallProcedure (Y.Calling 3 1 Y.NoArgument) 8) (Y.EndOfList [])

abbrev pub total_formats : T.Formats
total_formats = T.FormatThen (record { line = 13; column = 18 }) 1 (T.FixedFormat 2) T.NoFormat

abbrev pub total_put : Y.Stmt
total_put =
    Y.Put None (record {
      items = Y.PutValue (Y.NumberValue 31 (Y.NumberIn (whole total_spot))) ∷ [];
      formats = total_formats;
    } ∷ []) 13

abbrev pub total_body : Y.Stmts
total_body =
    Y.StmtThen [] (assignment total_spot (Y.NumberConstant 0) 11)
    (Y.StmtThen [] (sum_of (Y.NumberConstant 3) (whole total_spot) 12)
    (Y.StmtThen [] total_put (Y.EndOfList [])))

abbrev pub head_at : (number level line : ℕ) → Y.BlockHead
head_at number level line = record { kind = Y.ProcedureBlock; number = number; level = level; line = line }

abbrev pub total_main : Y.Procedure
total_main = record { block = Y.BlockOf (head_at 1 0 1) total_body; parameters = []; result = None }

abbrev pub holder_procedure : Y.Procedure
holder_procedure = record { block = Y.BlockOf (head_at 2 1 2) holder_body; parameters = 0 ∷ 1 ∷ []; result = None }

abbrev pub step_procedure : Y.Procedure
step_procedure = record { block = Y.BlockOf (head_at 3 2 4) step_body; parameters = []; result = None }

abbrev pub holder_program : Y.Program
holder_program =
    record {
      variables = [] ∷ (number_declared [] ∷ []) ∷ (parameter_declared ∷ parameter_declared ∷ []) ∷ [] ∷ [];
      procedures = total_main ∷ holder_procedure ∷ step_procedure ∷ [];
    }

pub record HolderKept : Type 0 where
  pub headline : Headline holder_program (picture_of parts holder_program) (table_of holder_program)
  -- 6 is written
  pub ends :
      (input : List ℕ) →
      meaning holder_program input 23
      ≡ Some (record { acts = 23; output = 32 ∷ 54 ∷ 10 ∷ []; raised = []; end = E.Finished })
