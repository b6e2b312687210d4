-- A worked row: a program with two variables and a function with a parameter.
use Rattle.std.specs.Prelude.{ℕ, ◌≡◌, List, [], ◌∷◌, Some, None}
use Rattle.pli_language.specs.Tree as T
use Rattle.pli_typing.specs.TypedTree as Y
use Rattle.pli_meaning.specs.declared.outcome.End.TheVariants as E
use Rattle.pli_meaning.specs.Executing.{meaning}
use Rattle.pli_coding.specs.Images.{picture_of}
use Rattle.pli_coding.specs.SignatureTable.{table_of}
use Rattle.expression_runs.specs.Assignments.{assignment}
use Rattle.expression_runs.specs.Variables.{Spot, number_declared, whole}
use Rattle.function_runs.specs.Returns.{return_of}
use Rattle.argument_runs.specs.Parameters.{parameter, parameter_declared}
use Rattle.pli_headline.specs.Headline.{parts, Headline}
use Rattle.list_calls.specs.Arguments.{ByValue}
use Rattle.number_runs.specs.Knowledge.{given_number}

-- SQUARE: PROCEDURE (N) RETURNS(FIXED BINARY(31)); DECLARE N FIXED BINARY(31); RETURN (N * N); END SQUARE;
-- DECLARE (X, Y) FIXED BINARY(31); X = 0; Y = 0; DO WHILE (X < 3); Y = Y + SQUARE(X + 1); X = X + 1; END;
-- PUT EDIT (Y) (F(2));

abbrev pub square_spot : Spot
square_spot = record { block = 2; level = 1; index = 0 }

abbrev pub root_spot : Spot
root_spot = record { block = 1; level = 0; index = 0 }

abbrev pub sum_spot : Spot
sum_spot = record { block = 1; level = 0; index = 1 }

abbrev pub square_value : Y.Number
square_value = Y.NumberIn (parameter square_spot)

abbrev pub root_value : Y.Number
root_value = Y.NumberIn (whole root_spot)

abbrev pub sum_value : Y.Number
sum_value = Y.NumberIn (whole sum_spot)

abbrev pub next_root : Y.Number
next_root = Y.Calculated Y.Sum root_value (Y.NumberConstant 1)

abbrev pub square_body : Y.Stmts
square_body =
    Y.StmtThen [] (return_of (Y.Calculated Y.Product square_value square_value) 3) (Y.EndOfList [])

abbrev pub sum_turns : Y.Stmts
sum_turns =
    Y.StmtThen [] (assignment sum_spot (Y.Calculated Y.Sum sum_value (given_number 0 2 (ByValue next_root ∷ []))) 8)
    (Y.StmtThen [] (assignment root_spot next_root 9) (Y.EndOfList []))

abbrev pub sum_formats : T.Formats
sum_formats = T.FormatThen (record { line = 11; column = 18 }) 1 (T.FixedFormat 2) T.NoFormat

abbrev pub sum_put : Y.Stmt
sum_put =
    Y.Put None (record { items = Y.PutValue (Y.NumberValue 31 sum_value) ∷ []; formats = sum_formats } ∷ []) 11

abbrev pub sum_body : Y.Stmts
sum_body =
    Y.StmtThen [] (assignment root_spot (Y.NumberConstant 0) 6)
    (Y.StmtThen [] (assignment sum_spot (Y.NumberConstant 0) 6)
    (Y.StmtThen [] (Y.DoWhile (Y.NumbersCompared Y.IsLess root_value (Y.NumberConstant 3)) sum_turns 7)
    (Y.StmtThen [] sum_put (Y.EndOfList []))))

abbrev pub head_at : (number level line : ℕ) → Y.BlockHead
head_at number level line = record { kind = Y.ProcedureBlock; number = number; level = level; line = line }

abbrev pub sum_main : Y.Procedure
sum_main = record { block = Y.BlockOf (head_at 1 0 1) sum_body; parameters = []; result = None }

abbrev pub square_function : Y.Procedure
square_function =
    record { block = Y.BlockOf (head_at 2 1 2) square_body; parameters = 0 ∷ []; result = Some (Y.FixedLeaf 31) }

abbrev pub sum_program : Y.Program
sum_program =
    record {
      variables = [] ∷ (number_declared [] ∷ number_declared [] ∷ []) ∷ (parameter_declared ∷ []) ∷ [];
      procedures = sum_main ∷ square_function ∷ [];
    }

pub record SumKept : Type 0 where
  pub headline : Headline sum_program (picture_of parts sum_program) (table_of sum_program)
  -- 14 is written
  pub ends :
      (input : List ℕ) →
      meaning sum_program input 23
      ≡ Some (record { acts = 23; output = 49 ∷ 52 ∷ 10 ∷ []; raised = []; end = E.Finished })
