-- A worked row with INITIAL and by reference: variables that INITIAL gave values are passed on by a procedure that calls
-- itself.
use Rattle.std.specs.Prelude.{ℕ, ◌≡◌, List, [], ◌∷◌, Some, None}
use Rattle.pli_typing.specs.TypedTree as Y
use Rattle.pli_meaning.specs.declared.outcome.End.TheVariants as E
use Rattle.pli_meaning.specs.Executing.{meaning}
use Rattle.pli_coding.specs.Images.{picture_of}
use Rattle.pli_coding.specs.SignatureTable.{table_of}
use Rattle.expression_runs.specs.Variables.{number_declared, whole}
use Rattle.argument_runs.specs.Parameters.{parameter_declared}
use Rattle.pli_headline.specs.Headline.{Headline, parts}
use Rattle.number_headlines.specs.EuclidRows.{called_with, divided_put, divided_spot, euclid_procedure, head_at}
use Rattle.number_headlines.specs.InitialRows.{number_items}

-- EUCLID: PROCEDURE (A, B); DECLARE (A, B) FIXED BINARY(31), R FIXED BINARY(31) INITIAL(5);
-- IF B = 0 THEN RETURN; R = MOD(A, B); CALL EUCLID(B, R); A = B; END EUCLID;
-- DECLARE X FIXED BINARY(31) INITIAL(12), Y FIXED BINARY(31) INITIAL(18); CALL EUCLID(X, Y); PUT EDIT (X) (F(2));

abbrev pub lent_body : Y.Stmts
lent_body =
    Y.StmtThen [] (called_with (whole (divided_spot 0)) (whole (divided_spot 1)) 12)
    (Y.StmtThen [] divided_put (Y.EndOfList []))

abbrev pub lent_main : Y.Procedure
lent_main = record { block = Y.BlockOf (head_at 1 0 1) lent_body; parameters = []; result = None }

abbrev pub lent_program : Y.Program
lent_program =
    record {
      variables =
          [] ∷ (number_declared (number_items 12) ∷ number_declared (number_items 18) ∷ [])
          ∷ (parameter_declared ∷ parameter_declared ∷ number_declared (number_items 5) ∷ []) ∷ [];
      procedures = lent_main ∷ euclid_procedure ∷ [];
    }

pub record LentKept : Type 0 where
  pub headline : Headline lent_program (picture_of parts lent_program) (table_of lent_program)
  -- 6 is written
  pub ends :
      (input : List ℕ) →
      meaning lent_program input 23
      ≡ Some (record { acts = 23; output = 32 ∷ 54 ∷ 10 ∷ []; raised = []; end = E.Finished })
