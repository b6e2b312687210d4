-- A worked row with jumps out of begin blocks: a procedure that calls itself from one, until that leaves all of them
-- for a label of the main procedure.
use Rattle.std.specs.Prelude.{ℕ, ◌≡◌, List, [], ◌∷◌, Some, None}
use Rattle.pli_typing.specs.TypedTree as Y
use Rattle.pli_meaning.specs.declared.outcome.End.TheVariants as E
use Rattle.pli_meaning.specs.Executing.{meaning}
use Rattle.pli_coding.specs.Images.{picture_of}
use Rattle.pli_coding.specs.SignatureTable.{table_of}
use Rattle.expression_runs.specs.Assignments.{assignment}
use Rattle.expression_runs.specs.Variables.{number_declared}
use Rattle.pli_headline.specs.Headline.{Headline, parts}
use Rattle.number_headlines.specs.BeginRows.{begin_at}
use Rattle.number_headlines.specs.CallRows.{head_at}
use Rattle.number_headlines.specs.SearchRows.{found_label, search_call, sought_main, sought_spot, sought_value}

-- ESCAPE: PROCEDURE;
--   BEGIN; X = X + X; IF 9 < X THEN GOTO FOUND; CALL ESCAPE; END;
--   X = 0;
-- END ESCAPE;
-- DECLARE X FIXED BINARY(31); X = 1; CALL ESCAPE; X = 9; FOUND: PUT EDIT (X) (F(2));

abbrev pub doubled : Y.Number
doubled = Y.Calculated Y.Sum sought_value sought_value

abbrev pub escape : Y.Stmt
escape = Y.If (Y.NumbersCompared Y.IsLess (Y.NumberConstant 9) sought_value) (Y.Goto 0 found_label 5) 5

abbrev pub inner_body : Y.Stmts
inner_body =
    Y.StmtThen [] (assignment sought_spot doubled 4)
    (Y.StmtThen [] escape (Y.StmtThen [] (search_call 6) (Y.EndOfList [])))

abbrev pub escape_body : Y.Stmts
escape_body =
    Y.StmtThen [] (Y.Begin (Y.BlockOf (begin_at 3 2 3) inner_body))
    (Y.StmtThen [] (assignment sought_spot (Y.NumberConstant 0) 7) (Y.EndOfList []))

abbrev pub escape_procedure : Y.Procedure
escape_procedure = record { block = Y.BlockOf (head_at 2 1 2) escape_body; parameters = []; result = None }

abbrev pub escape_program : Y.Program
escape_program =
    record {
      variables = [] ∷ (number_declared [] ∷ []) ∷ [] ∷ [] ∷ [];
      procedures = sought_main ∷ escape_procedure ∷ [];
    }

pub record EscapeKept : Type 0 where
  pub headline : Headline escape_program (picture_of parts escape_program) (table_of escape_program)
  -- 16 is written, and neither 0 nor 9
  pub ends :
      (input : List ℕ) →
      meaning escape_program input 26
      ≡ Some (record { acts = 26; output = 49 ∷ 54 ∷ 10 ∷ []; raised = []; end = E.Finished })
