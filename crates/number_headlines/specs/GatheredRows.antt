-- A worked row: a program with a function of two parameters, which is called in an argument of itself in a loop that
-- counts.
use Rattle.std.specs.Prelude.{ℕ, ◌≡◌, List, [], ◌∷◌, Some, None}
use Rattle.pli_language.specs.Tree as T
use Rattle.pli_typing.specs.TypedTree as Y
use Rattle.pli_meaning.specs.declared.outcome.End.TheVariants as E
use Rattle.pli_meaning.specs.Executing.{meaning}
use Rattle.pli_coding.specs.Images.{picture_of}
use Rattle.pli_coding.specs.SignatureTable.{table_of}
use Rattle.expression_runs.specs.Assignments.{assignment}
use Rattle.expression_runs.specs.Variables.{Spot, number_declared, whole}
use Rattle.function_runs.specs.Returns.{return_of}
use Rattle.argument_runs.specs.Parameters.{parameter, parameter_declared}
use Rattle.pli_headline.specs.Headline.{Headline, parts}
use Rattle.list_calls.specs.Arguments.{ByValue}
use Rattle.number_runs.specs.Knowledge.{given_number}

-- ADD: PROCEDURE (N, M) RETURNS(FIXED BINARY(31)); DECLARE (N, M) FIXED BINARY(31); RETURN (N + M); END ADD;
-- DECLARE (X, I) FIXED BINARY(31); X = 0; DO I = 1 TO 3; X = ADD(ADD(X + 1, I - 1), I * I); END; PUT EDIT (X) (F(2));

abbrev pub added_spot : (index : ℕ) → Spot
added_spot n = record { block = 2; level = 1; index = n }

abbrev pub gathered_spot : (index : ℕ) → Spot
gathered_spot n = record { block = 1; level = 0; index = n }

abbrev pub added_value : (index : ℕ) → Y.Number
added_value n = Y.NumberIn (parameter (added_spot n))

abbrev pub gathered_value : (index : ℕ) → Y.Number
gathered_value n = Y.NumberIn (whole (gathered_spot n))

abbrev pub add_body : Y.Stmts
add_body =
    Y.StmtThen [] (return_of (Y.Calculated Y.Sum (added_value 0) (added_value 1)) 3) (Y.EndOfList [])

abbrev pub inner_sum : Y.Number
inner_sum =
    given_number 0 2
    (ByValue (Y.Calculated Y.Sum (gathered_value 0) (Y.NumberConstant 1))
    ∷ ByValue (Y.Calculated Y.Difference (gathered_value 1) (Y.NumberConstant 1)) ∷ [])

abbrev pub outer_sum : Y.Number
outer_sum =
    given_number 0 2
    (ByValue inner_sum ∷ ByValue (Y.Calculated Y.Product (gathered_value 1) (gathered_value 1)) ∷ [])

abbrev pub gathered_turn : Y.Stmts
gathered_turn = Y.StmtThen [] (assignment (gathered_spot 0) outer_sum 7) (Y.EndOfList [])

abbrev pub gathered_loop : Y.Stmt
gathered_loop =
    Y.DoCount (Y.NumberCounter 31 (whole (gathered_spot 1))) (Y.NumberValue 31 (Y.NumberConstant 1))
    (Some (Y.NumberConstant 3)) (Y.NumberConstant 1) None gathered_turn 6

abbrev pub gathered_formats : T.Formats
gathered_formats = T.FormatThen (record { line = 9; column = 18 }) 1 (T.FixedFormat 2) T.NoFormat

abbrev pub gathered_put : Y.Stmt
gathered_put =
    Y.Put None (record { items = Y.PutValue (Y.NumberValue 31 (gathered_value 0)) ∷ []; formats = gathered_formats } ∷
    [])
    9

abbrev pub gathered_body : Y.Stmts
gathered_body =
    Y.StmtThen [] (assignment (gathered_spot 0) (Y.NumberConstant 0) 5)
    (Y.StmtThen [] gathered_loop (Y.StmtThen [] gathered_put (Y.EndOfList [])))

abbrev pub head_at : (number level line : ℕ) → Y.BlockHead
head_at number level line = record { kind = Y.ProcedureBlock; number = number; level = level; line = line }

abbrev pub gathered_main : Y.Procedure
gathered_main = record { block = Y.BlockOf (head_at 1 0 1) gathered_body; parameters = []; result = None }

abbrev pub add_function : Y.Procedure
add_function =
    record { block = Y.BlockOf (head_at 2 1 2) add_body; parameters = 0 ∷ 1 ∷ []; result = Some (Y.FixedLeaf 31) }

abbrev pub gathered_program : Y.Program
gathered_program =
    record {
      variables =
          [] ∷ (number_declared [] ∷ number_declared [] ∷ [])
          ∷ (parameter_declared ∷ parameter_declared ∷ []) ∷ [];
      procedures = gathered_main ∷ add_function ∷ [];
    }

pub record GatheredKept : Type 0 where
  pub headline : Headline gathered_program (picture_of parts gathered_program) (table_of gathered_program)
  -- 20 is written
  pub ends :
      (input : List ℕ) →
      meaning gathered_program input 25
      ≡ Some (record { acts = 25; output = 50 ∷ 48 ∷ 10 ∷ []; raised = []; end = E.Finished })
