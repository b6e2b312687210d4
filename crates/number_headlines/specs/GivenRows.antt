-- A worked row: a program of the class with a function that calls itself with a copy, and a procedure that changes its
-- parameter, which is a copy, too.
use Rattle.std.specs.Prelude.{ℕ, ◌≡◌, List, [], ◌∷◌, Some, None}
use Rattle.pli_language.specs.Tree as T
use Rattle.pli_typing.specs.TypedTree as Y
use Rattle.pli_meaning.specs.declared.outcome.End.TheVariants as E
use Rattle.pli_meaning.specs.Executing.{meaning}
use Rattle.pli_coding.specs.Images.{picture_of}
use Rattle.pli_coding.specs.SignatureTable.{table_of}
use Rattle.expression_runs.specs.Assignments.{assignment}
use Rattle.expression_runs.specs.Variables.{Spot, number_declared, whole}
use Rattle.function_runs.specs.Returns.{return_of}
use Rattle.argument_runs.specs.Parameters.{parameter, parameter_declared}
use Rattle.reference_runs.specs.ParameterAssignments as P
use Rattle.pli_headline.specs.Headline.{Headline, parts}
use Rattle.list_calls.specs.Arguments.{ByValue}
use Rattle.number_runs.specs.Knowledge.{given_number, given_statement}

-- FACT: PROCEDURE (N) RETURNS(FIXED BINARY(31)); DECLARE N FIXED BINARY(31);
-- IF N < 2 THEN RETURN (1); RETURN (N * FACT(N - 1)); END FACT;
-- TELL: PROCEDURE (N); DECLARE N FIXED BINARY(31); N = N + N; PUT EDIT (N) (F(4)); END TELL;
-- DECLARE X FIXED BINARY(31); X = FACT(5); CALL TELL(X + 1);

abbrev pub fact_spot : Spot
fact_spot = record { block = 2; level = 1; index = 0 }

abbrev pub tell_spot : Spot
tell_spot = record { block = 3; level = 1; index = 0 }

abbrev pub result_spot : Spot
result_spot = record { block = 1; level = 0; index = 0 }

abbrev pub fact_value : Y.Number
fact_value = Y.NumberIn (parameter fact_spot)

abbrev pub tell_value : Y.Number
tell_value = Y.NumberIn (parameter tell_spot)

abbrev pub result_value : Y.Number
result_value = Y.NumberIn (whole result_spot)

abbrev pub less_one : Y.Number
less_one = Y.Calculated Y.Difference fact_value (Y.NumberConstant 1)

abbrev pub fact_body : Y.Stmts
fact_body =
    Y.StmtThen []
    (Y.If (Y.NumbersCompared Y.IsLess fact_value (Y.NumberConstant 2)) (return_of (Y.NumberConstant 1) 4) 4)
    (Y.StmtThen [] (return_of (Y.Calculated Y.Product fact_value (given_number 0 2 (ByValue less_one ∷ []))) 5)
    (Y.EndOfList []))

abbrev pub tell_formats : T.Formats
tell_formats = T.FormatThen (record { line = 9; column = 18 }) 1 (T.FixedFormat 4) T.NoFormat

abbrev pub tell_put : Y.Stmt
tell_put =
    Y.Put None (record { items = Y.PutValue (Y.NumberValue 31 tell_value) ∷ []; formats = tell_formats } ∷ []) 9

abbrev pub tell_body : Y.Stmts
tell_body =
    Y.StmtThen [] (P.assignment tell_spot (Y.Calculated Y.Sum tell_value tell_value) 8)
    (Y.StmtThen [] tell_put (Y.EndOfList []))

abbrev pub fact_main_body : Y.Stmts
fact_main_body =
    Y.StmtThen [] (assignment result_spot (given_number 0 2 (ByValue (Y.NumberConstant 5) ∷ [])) 12)
    (Y.StmtThen [] (given_statement 0 3 13 (ByValue (Y.Calculated Y.Sum result_value (Y.NumberConstant 1)) ∷ []))
    (Y.EndOfList []))

abbrev pub head_at : (number level line : ℕ) → Y.BlockHead
head_at number level line = record { kind = Y.ProcedureBlock; number = number; level = level; line = line }

abbrev pub fact_main : Y.Procedure
fact_main = record { block = Y.BlockOf (head_at 1 0 1) fact_main_body; parameters = []; result = None }

abbrev pub fact_function : Y.Procedure
fact_function =
    record { block = Y.BlockOf (head_at 2 1 2) fact_body; parameters = 0 ∷ []; result = Some (Y.FixedLeaf 31) }

abbrev pub tell_procedure : Y.Procedure
tell_procedure = record { block = Y.BlockOf (head_at 3 1 6) tell_body; parameters = 0 ∷ []; result = None }

abbrev pub fact_program : Y.Program
fact_program =
    record {
      variables =
          [] ∷ (number_declared [] ∷ []) ∷ (parameter_declared ∷ []) ∷ (parameter_declared ∷ []) ∷ [];
      procedures = fact_main ∷ fact_function ∷ tell_procedure ∷ [];
    }

pub record FactKept : Type 0 where
  pub headline : Headline fact_program (picture_of parts fact_program) (table_of fact_program)
  -- 242 is written
  pub ends :
      (input : List ℕ) →
      meaning fact_program input 23
      ≡ Some (record {
        acts = 23;
        output = 32 ∷ 50 ∷ 52 ∷ 50 ∷ 10 ∷ [];
        raised = [];
        end = E.Finished;
      })
