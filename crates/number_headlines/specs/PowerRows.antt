-- A worked row with variables beside parameters: a function that raises to a power in a loop that counts.
use Rattle.std.specs.Prelude.{ℕ, ◌≡◌, List, [], ◌∷◌, Some, None}
use Rattle.pli_language.specs.Tree as T
use Rattle.pli_typing.specs.TypedTree as Y
use Rattle.pli_meaning.specs.declared.outcome.End.TheVariants as E
use Rattle.pli_meaning.specs.Executing.{meaning}
use Rattle.pli_coding.specs.Images.{picture_of}
use Rattle.pli_coding.specs.SignatureTable.{table_of}
use Rattle.expression_runs.specs.Assignments.{assignment}
use Rattle.expression_runs.specs.Variables.{Spot, number_declared, whole}
use Rattle.function_runs.specs.Returns.{return_of}
use Rattle.argument_runs.specs.Parameters.{parameter, parameter_declared}
use Rattle.pli_headline.specs.Headline.{Headline, parts}
use Rattle.list_calls.specs.Arguments.{ByValue}
use Rattle.number_runs.specs.Knowledge.{given_number}

-- POWER: PROCEDURE (B, E) RETURNS(FIXED BINARY(31)); DECLARE (B, E, I, R) FIXED BINARY(31); R = 1;
-- DO I = 1 TO E; R = R * B; END; RETURN (R); END POWER;
-- DECLARE X FIXED BINARY(31); X = POWER(3, 4); PUT EDIT (X) (F(2));

abbrev pub power_spot : (index : ℕ) → Spot
power_spot n = record { block = 2; level = 1; index = n }

abbrev pub raised_spot : Spot
raised_spot = record { block = 1; level = 0; index = 0 }

-- its parameters are the first two of its variables, and it makes the others
abbrev pub power_given : (index : ℕ) → Y.Number
power_given n = Y.NumberIn (parameter (power_spot n))

abbrev pub power_own : (index : ℕ) → Y.Number
power_own n = Y.NumberIn (whole (power_spot n))

abbrev pub power_turn : Y.Stmts
power_turn =
    Y.StmtThen [] (assignment (power_spot 3) (Y.Calculated Y.Product (power_own 3) (power_given 0)) 6) (Y.EndOfList [])

abbrev pub power_loop : Y.Stmt
power_loop =
    Y.DoCount (Y.NumberCounter 31 (whole (power_spot 2))) (Y.NumberValue 31 (Y.NumberConstant 1))
    (Some (power_given 1)) (Y.NumberConstant 1) None power_turn 5

abbrev pub power_body : Y.Stmts
power_body =
    Y.StmtThen [] (assignment (power_spot 3) (Y.NumberConstant 1) 4)
    (Y.StmtThen [] power_loop (Y.StmtThen [] (return_of (power_own 3) 8) (Y.EndOfList [])))

abbrev pub raised : Y.Number
raised = given_number 0 2 (ByValue (Y.NumberConstant 3) ∷ ByValue (Y.NumberConstant 4) ∷ [])

abbrev pub raised_formats : T.Formats
raised_formats = T.FormatThen (record { line = 12; column = 18 }) 1 (T.FixedFormat 2) T.NoFormat

abbrev pub raised_put : Y.Stmt
raised_put =
    Y.Put None (record {
      items = Y.PutValue (Y.NumberValue 31 (Y.NumberIn (whole raised_spot))) ∷ [];
      formats = raised_formats;
    } ∷ []) 12

abbrev pub raised_body : Y.Stmts
raised_body = Y.StmtThen [] (assignment raised_spot raised 11) (Y.StmtThen [] raised_put (Y.EndOfList []))

abbrev pub head_at : (number level line : ℕ) → Y.BlockHead
head_at number level line = record { kind = Y.ProcedureBlock; number = number; level = level; line = line }

abbrev pub raised_main : Y.Procedure
raised_main = record { block = Y.BlockOf (head_at 1 0 1) raised_body; parameters = []; result = None }

abbrev pub power_function : Y.Procedure
power_function =
    record { block = Y.BlockOf (head_at 2 1 2) power_body; parameters = 0 ∷ 1 ∷ []; result = Some (Y.FixedLeaf 31) }

abbrev pub raised_program : Y.Program
raised_program =
    record {
      variables =
          [] ∷ (number_declared [] ∷ [])
          ∷ (parameter_declared ∷ parameter_declared ∷ number_declared [] ∷ number_declared [] ∷ []) ∷ [];
      procedures = raised_main ∷ power_function ∷ [];
    }

pub record PowerKept : Type 0 where
  pub headline : Headline raised_program (picture_of parts raised_program) (table_of raised_program)
  -- 81 is written
  pub ends :
      (input : List ℕ) →
      meaning raised_program input 18
      ≡ Some (record { acts = 18; output = 56 ∷ 49 ∷ 10 ∷ []; raised = []; end = E.Finished })
