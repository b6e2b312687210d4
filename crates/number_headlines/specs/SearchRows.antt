-- A worked row with jumps: a procedure that calls itself, and in it a function, which leaves all of them for a label of
-- the main procedure.
use Rattle.std.specs.Prelude.{ℕ, ◌≡◌, List, [], ◌∷◌, Some, None}
use Rattle.pli_language.specs.Tree as T
use Rattle.pli_typing.specs.TypedTree as Y
use Rattle.pli_meaning.specs.Control.{Label}
use Rattle.pli_meaning.specs.declared.outcome.End.TheVariants as E
use Rattle.pli_meaning.specs.Executing.{meaning}
use Rattle.pli_coding.specs.Images.{picture_of}
use Rattle.pli_coding.specs.SignatureTable.{table_of}
use Rattle.expression_runs.specs.Assignments.{assignment}
use Rattle.expression_runs.specs.Variables.{Spot, number_declared, whole}
use Rattle.function_runs.specs.Returns.{return_of}
use Rattle.pli_headline.specs.Headline.{Headline, parts}
use Rattle.number_headlines.specs.CallRows.{head_at}

-- SEARCH: PROCEDURE;
--   NEXT: PROCEDURE RETURNS(FIXED BINARY(31)); IF MOD(X * X, 7) = 2 THEN GOTO FOUND; RETURN (X + 1); END NEXT;
--   X = NEXT(); CALL SEARCH; X = 0;
-- END SEARCH;
-- DECLARE X FIXED BINARY(31); X = 1; CALL SEARCH; X = 9; FOUND: PUT EDIT (X) (F(2));

abbrev pub sought_spot : Spot
sought_spot = record { block = 1; level = 0; index = 0 }

abbrev pub sought_value : Y.Number
sought_value = Y.NumberIn (whole sought_spot)

abbrev pub found_label : Label
found_label = 70 ∷ 79 ∷ 85 ∷ 78 ∷ 68 ∷ []

abbrev pub search_call : (line : ℕ) → Y.Stmt
search_call line = Y.CallProcedure (Y.Calling 2 0 Y.NoArgument) line

abbrev pub next_value : Y.Number
next_value = Y.NumberFrom (Y.Calling 3 1 Y.NoArgument)

abbrev pub square_left : Y.Number
square_left = Y.Modulo (Y.Calculated Y.Product sought_value sought_value) (Y.NumberConstant 7)

abbrev pub next_found : Y.Stmt
next_found = Y.If (Y.NumbersCompared Y.IsEqual square_left (Y.NumberConstant 2)) (Y.Goto 0 found_label 3) 3

abbrev pub next_body : Y.Stmts
next_body =
    Y.StmtThen [] next_found
    (Y.StmtThen [] (return_of (Y.Calculated Y.Sum sought_value (Y.NumberConstant 1)) 4) (Y.EndOfList []))

abbrev pub search_body : Y.Stmts
search_body =
    Y.StmtThen [] (assignment sought_spot next_value 5)
    (Y.StmtThen [] (search_call 6)
    (Y.StmtThen [] (assignment sought_spot (Y.NumberConstant 0) 7) (Y.EndOfList [])))

abbrev pub found_formats : T.Formats
found_formats = T.FormatThen (record { line = 11; column = 18 }) 1 (T.FixedFormat 2) T.NoFormat

abbrev pub found_put : Y.Stmt
found_put =
    Y.Put None (record {
      items = Y.PutValue (Y.NumberValue 31 sought_value) ∷ [];
      formats = found_formats;
    } ∷ []) 11

abbrev pub sought_body : Y.Stmts
sought_body =
    Y.StmtThen [] (assignment sought_spot (Y.NumberConstant 1) 8)
    (Y.StmtThen [] (search_call 9)
    (Y.StmtThen [] (assignment sought_spot (Y.NumberConstant 9) 10)
    (Y.StmtThen (found_label ∷ []) found_put (Y.EndOfList []))))

abbrev pub sought_main : Y.Procedure
sought_main = record { block = Y.BlockOf (head_at 1 0 1) sought_body; parameters = []; result = None }

abbrev pub search_procedure : Y.Procedure
search_procedure = record { block = Y.BlockOf (head_at 2 1 2) search_body; parameters = []; result = None }

abbrev pub next_function : Y.Procedure
next_function =
    record { block = Y.BlockOf (head_at 3 2 3) next_body; parameters = []; result = Some (Y.FixedLeaf 31) }

abbrev pub search_program : Y.Program
search_program =
    record {
      variables = [] ∷ (number_declared [] ∷ []) ∷ [] ∷ [] ∷ [];
      procedures = sought_main ∷ search_procedure ∷ next_function ∷ [];
    }

pub record SearchKept : Type 0 where
  pub headline : Headline search_program (picture_of parts search_program) (table_of search_program)
  -- 3 is written, and neither 0 nor 9
  pub ends :
      (input : List ℕ) →
      meaning search_program input 23
      ≡ Some (record { acts = 23; output = 32 ∷ 51 ∷ 10 ∷ []; raised = []; end = E.Finished })
