-- A worked row with functions that return fewer bits: one squares a number in a loop until that has too many, and
-- another tells how far it is.
use Rattle.std.specs.Prelude.{ℕ, ◌≡◌, List, [], ◌∷◌, Some, None}
use Rattle.pli_language.specs.declared.condition.Condition.TheVariants as C
use Rattle.pli_typing.specs.TypedTree as Y
use Rattle.pli_meaning.specs.declared.outcome.End.TheVariants as E
use Rattle.pli_meaning.specs.Executing.{meaning}
use Rattle.pli_coding.specs.Images.{picture_of}
use Rattle.pli_coding.specs.SignatureTable.{table_of}
use Rattle.expression_runs.specs.Assignments.{assignment}
use Rattle.expression_runs.specs.Variables.{Spot, number_declared, whole}
use Rattle.argument_runs.specs.Parameters.{parameter, parameter_declared}
use Rattle.result_runs.specs.Results.{fitted_return}
use Rattle.pli_headline.specs.Headline.{Headline, parts}

-- SQUARE: PROCEDURE (N) RETURNS(FIXED BINARY(15)); DECLARE N FIXED BINARY(31); RETURN (N * N); END SQUARE;
-- NOW: PROCEDURE RETURNS(FIXED BINARY(10)); RETURN (X); END NOW;
-- DECLARE X FIXED BINARY(31); X = 2; DO WHILE (NOW() < 1000); X = SQUARE(X); END;

abbrev pub squared_spot : Spot
squared_spot = record { block = 2; level = 1; index = 0 }

abbrev pub far_spot : Spot
far_spot = record { block = 1; level = 0; index = 0 }

abbrev pub squared_value : Y.Number
squared_value = Y.NumberIn (parameter squared_spot)

abbrev pub far_value : Y.Number
far_value = Y.NumberIn (whole far_spot)

abbrev pub square_of : Y.Reference → Y.Number
square_of r = Y.NumberFrom (Y.Calling 2 0 (Y.ArgumentThen (Y.ByReference r) Y.NoArgument))

abbrev pub now_value : Y.Number
now_value = Y.NumberFrom (Y.Calling 3 0 Y.NoArgument)

abbrev pub squared_body : Y.Stmts
squared_body =
    Y.StmtThen [] (fitted_return 15 (Y.Calculated Y.Product squared_value squared_value) 3) (Y.EndOfList [])

abbrev pub now_body : Y.Stmts
now_body = Y.StmtThen [] (fitted_return 10 far_value 6) (Y.EndOfList [])

abbrev pub far_turn : Y.Stmts
far_turn = Y.StmtThen [] (assignment far_spot (square_of (whole far_spot)) 11) (Y.EndOfList [])

abbrev pub far_body : Y.Stmts
far_body =
    Y.StmtThen [] (assignment far_spot (Y.NumberConstant 2) 9)
    (Y.StmtThen [] (Y.DoWhile (Y.NumbersCompared Y.IsLess now_value (Y.NumberConstant 1000)) far_turn 10)
    (Y.EndOfList []))

abbrev pub head_at : (number level line : ℕ) → Y.BlockHead
head_at number level line = record { kind = Y.ProcedureBlock; number = number; level = level; line = line }

abbrev pub far_main : Y.Procedure
far_main = record { block = Y.BlockOf (head_at 1 0 1) far_body; parameters = []; result = None }

abbrev pub squared_function : Y.Procedure
squared_function =
    record { block = Y.BlockOf (head_at 2 1 2) squared_body; parameters = 0 ∷ []; result = Some (Y.FixedLeaf 15) }

abbrev pub now_function : Y.Procedure
now_function =
    record { block = Y.BlockOf (head_at 3 1 5) now_body; parameters = []; result = Some (Y.FixedLeaf 10) }

abbrev pub far_program : Y.Program
far_program =
    record {
      variables = [] ∷ (number_declared [] ∷ []) ∷ (parameter_declared ∷ []) ∷ [] ∷ [];
      procedures = far_main ∷ squared_function ∷ now_function ∷ [];
    }

pub record FarKept : Type 0 where
  pub headline : Headline far_program (picture_of parts far_program) (table_of far_program)
  -- 256 * 256 has more than 15 bits
  pub ends :
      (input : List ℕ) →
      meaning far_program input 30
      ≡ Some (record {
        acts = 30;
        output = [];
        raised = (C.FixedOverflow, 20) ∷ (C.Error, 20) ∷ [];
        end = E.Error 20 3;
      })
