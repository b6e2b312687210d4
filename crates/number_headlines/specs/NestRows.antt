-- A worked row: two procedures that call one another, one that is inside one of them, and a function that calls itself.
use Rattle.std.specs.Prelude.{ℕ, ◌≡◌, List, [], ◌∷◌, Some, None}
use Rattle.pli_typing.specs.TypedTree as Y
use Rattle.pli_meaning.specs.declared.outcome.End.TheVariants as E
use Rattle.pli_meaning.specs.Executing.{meaning}
use Rattle.pli_coding.specs.Images.{picture_of}
use Rattle.pli_coding.specs.SignatureTable.{table_of}
use Rattle.expression_runs.specs.Assignments.{assignment}
use Rattle.expression_runs.specs.Variables.{Spot, number_declared, whole}
use Rattle.function_runs.specs.Returns.{return_of}
use Rattle.pli_headline.specs.Headline.{Headline, parts}
use Rattle.number_headlines.specs.CallRows.{head_at}

-- P: PROCEDURE; X = X - 1; IF 0 < X THEN CALL Q; END P;
-- Q: PROCEDURE; DECLARE Y FIXED BINARY(31);
--   R: PROCEDURE; X = Y - 1; END R;
--   Y = X; CALL R; CALL P;
-- END Q;
-- F: PROCEDURE RETURNS(FIXED BINARY(31)); IF X < 1 THEN RETURN (X); X = X - 1; RETURN (F() + 1); END F;
-- DECLARE X FIXED BINARY(31); X = 4; CALL P; X = 2; X = F();

abbrev pub count_spot : Spot
count_spot = record { block = 1; level = 0; index = 0 }

abbrev pub kept_spot : Spot
kept_spot = record { block = 3; level = 1; index = 0 }

abbrev pub count_value : Y.Number
count_value = Y.NumberIn (whole count_spot)

abbrev pub kept_value : Y.Number
kept_value = Y.NumberIn (whole kept_spot)

abbrev pub one_less : Y.Number → Y.Number
one_less x = Y.Calculated Y.Difference x (Y.NumberConstant 1)

abbrev pub nest_call : (number level line : ℕ) → Y.Stmt
nest_call number level line = Y.CallProcedure (Y.Calling number level Y.NoArgument) line

abbrev pub again_value : Y.Number
again_value = Y.NumberFrom (Y.Calling 5 0 Y.NoArgument)

abbrev pub nest_body : Y.Stmts
nest_body =
    Y.StmtThen [] (assignment count_spot (Y.NumberConstant 4) 8)
    (Y.StmtThen [] (nest_call 2 0 8)
    (Y.StmtThen [] (assignment count_spot (Y.NumberConstant 2) 8)
    (Y.StmtThen [] (assignment count_spot again_value 8) (Y.EndOfList []))))

abbrev pub fewer_body : Y.Stmts
fewer_body =
    Y.StmtThen [] (assignment count_spot (one_less count_value) 2)
    (Y.StmtThen [] (Y.If (Y.NumbersCompared Y.IsLess (Y.NumberConstant 0) count_value) (nest_call 3 0 2) 2)
    (Y.EndOfList []))

abbrev pub other_body : Y.Stmts
other_body =
    Y.StmtThen [] (assignment kept_spot count_value 5)
    (Y.StmtThen [] (nest_call 4 1 5) (Y.StmtThen [] (nest_call 2 0 5) (Y.EndOfList [])))

abbrev pub within_body : Y.Stmts
within_body = Y.StmtThen [] (assignment count_spot (one_less kept_value) 4) (Y.EndOfList [])

abbrev pub again_body : Y.Stmts
again_body =
    Y.StmtThen []
    (Y.If (Y.NumbersCompared Y.IsLess count_value (Y.NumberConstant 1)) (return_of count_value 7) 7)
    (Y.StmtThen [] (assignment count_spot (one_less count_value) 7)
    (Y.StmtThen [] (return_of (Y.Calculated Y.Sum again_value (Y.NumberConstant 1)) 7) (Y.EndOfList [])))

abbrev pub nest_main : Y.Procedure
nest_main = record { block = Y.BlockOf (head_at 1 0 1) nest_body; parameters = []; result = None }

abbrev pub fewer_procedure : Y.Procedure
fewer_procedure = record { block = Y.BlockOf (head_at 2 1 2) fewer_body; parameters = []; result = None }

abbrev pub other_procedure : Y.Procedure
other_procedure = record { block = Y.BlockOf (head_at 3 1 3) other_body; parameters = []; result = None }

abbrev pub within_procedure : Y.Procedure
within_procedure = record { block = Y.BlockOf (head_at 4 2 4) within_body; parameters = []; result = None }

abbrev pub again_function : Y.Procedure
again_function =
    record { block = Y.BlockOf (head_at 5 1 7) again_body; parameters = []; result = Some (Y.FixedLeaf 31) }

abbrev pub nest_program : Y.Program
nest_program =
    record {
      variables = [] ∷ (number_declared [] ∷ []) ∷ [] ∷ (number_declared [] ∷ []) ∷ [] ∷ [] ∷ [];
      procedures = nest_main ∷ fewer_procedure ∷ other_procedure ∷ within_procedure ∷ again_function ∷ [];
    }

pub record NestKept : Type 0 where
  pub headline : Headline nest_program (picture_of parts nest_program) (table_of nest_program)
  -- it ends behind its function's third call
  pub ends :
      (input : List ℕ) →
      meaning nest_program input 40 ≡ Some (record { acts = 40; output = []; raised = []; end = E.Finished })
