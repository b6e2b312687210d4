-- A worked row with jumps and arguments: a function that calls itself with a parameter, in a loop that counts, until it
-- leaves all of these for a label.
use Rattle.std.specs.Prelude.{ℕ, ◌≡◌, List, [], ◌∷◌, Some, None}
use Rattle.pli_language.specs.Tree as T
use Rattle.pli_typing.specs.TypedTree as Y
use Rattle.pli_meaning.specs.Control.{Label}
use Rattle.pli_meaning.specs.declared.outcome.End.TheVariants as E
use Rattle.pli_meaning.specs.Executing.{meaning}
use Rattle.pli_coding.specs.Images.{picture_of}
use Rattle.pli_coding.specs.SignatureTable.{table_of}
use Rattle.expression_runs.specs.Assignments.{assignment}
use Rattle.expression_runs.specs.Variables.{Spot, number_declared, whole}
use Rattle.function_runs.specs.Returns.{return_of}
use Rattle.argument_runs.specs.Parameters.{parameter, parameter_declared}
use Rattle.pli_headline.specs.Headline.{Headline, parts}
use Rattle.number_headlines.specs.CallRows.{head_at}

-- SEEK: PROCEDURE (N) RETURNS(FIXED BINARY(31)); DECLARE N FIXED BINARY(31);
--   X = N; IF MOD(N * N, 11) = 5 THEN GOTO FOUND; RETURN (SEEK(N + 1));
-- END SEEK;
-- DECLARE (X, I) FIXED BINARY(31); DO I = 2 TO 3; X = SEEK(I); END; FOUND: PUT EDIT ('N=', X) (A, F(2));

abbrev pub quest_spot : (index : ℕ) → Spot
quest_spot n = record { block = 1; level = 0; index = n }

abbrev pub quest_value : Y.Number
quest_value = Y.NumberIn (whole (quest_spot 0))

abbrev pub seek_spot : Spot
seek_spot = record { block = 2; level = 1; index = 0 }

abbrev pub seek_value : Y.Number
seek_value = Y.NumberIn (parameter seek_spot)

abbrev pub quest_label : Label
quest_label = 70 ∷ 79 ∷ 85 ∷ 78 ∷ 68 ∷ []

abbrev pub seek_call : Y.Argument → Y.Number
seek_call x = Y.NumberFrom (Y.Calling 2 0 (Y.ArgumentThen x Y.NoArgument))

abbrev pub seek_left : Y.Number
seek_left = Y.Modulo (Y.Calculated Y.Product seek_value seek_value) (Y.NumberConstant 11)

abbrev pub seek_found : Y.Stmt
seek_found = Y.If (Y.NumbersCompared Y.IsEqual seek_left (Y.NumberConstant 5)) (Y.Goto 0 quest_label 4) 4

-- a copy
abbrev pub seek_next : Y.Number
seek_next =
    seek_call
    (Y.ByCopy (Y.FixedLeaf 31) (Y.StoredNumber 31 (Y.Calculated Y.Sum seek_value (Y.NumberConstant 1))))

abbrev pub seek_body : Y.Stmts
seek_body =
    Y.StmtThen [] (assignment (quest_spot 0) seek_value 3)
    (Y.StmtThen [] seek_found (Y.StmtThen [] (return_of seek_next 5) (Y.EndOfList [])))

-- by reference
abbrev pub quest_call : Y.Number
quest_call = seek_call (Y.ByReference (whole (quest_spot 1)))

abbrev pub quest_turn : Y.Stmts
quest_turn = Y.StmtThen [] (assignment (quest_spot 0) quest_call 8) (Y.EndOfList [])

abbrev pub quest_loop : Y.Stmt
quest_loop =
    Y.DoCount (Y.NumberCounter 31 (whole (quest_spot 1))) (Y.NumberValue 31 (Y.NumberConstant 2))
    (Some (Y.NumberConstant 3)) (Y.NumberConstant 1) None quest_turn 7

abbrev pub quest_formats : T.Formats
quest_formats =
    T.FormatThen (record { line = 10; column = 27 }) 1 (T.TextFormat None)
    (T.FormatThen (record { line = 10; column = 30 }) 1 (T.FixedFormat 2) T.NoFormat)

abbrev pub quest_put : Y.Stmt
quest_put =
    Y.Put None
    (record {
      items =
          Y.PutValue (Y.TextValue (Y.TextConstant (78 ∷ 61 ∷ []))) ∷ Y.PutValue (Y.NumberValue 31 quest_value) ∷ [];
      formats = quest_formats;
    } ∷ []) 10

abbrev pub quest_body : Y.Stmts
quest_body = Y.StmtThen [] quest_loop (Y.StmtThen (quest_label ∷ []) quest_put (Y.EndOfList []))

abbrev pub quest_main : Y.Procedure
quest_main = record { block = Y.BlockOf (head_at 1 0 1) quest_body; parameters = []; result = None }

abbrev pub seek_function : Y.Procedure
seek_function =
    record { block = Y.BlockOf (head_at 2 1 2) seek_body; parameters = 0 ∷ []; result = Some (Y.FixedLeaf 31) }

abbrev pub quest_program : Y.Program
quest_program =
    record {
      variables = [] ∷ (number_declared [] ∷ number_declared [] ∷ []) ∷ (parameter_declared ∷ []) ∷ [];
      procedures = quest_main ∷ seek_function ∷ [];
    }

pub record QuestKept : Type 0 where
  pub headline : Headline quest_program (picture_of parts quest_program) (table_of quest_program)
  -- 4 is found, and no second turn begins
  pub ends :
      (input : List ℕ) →
      meaning quest_program input 20
      ≡ Some (record { acts = 20; output = 78 ∷ 61 ∷ 32 ∷ 52 ∷ 10 ∷ []; raised = []; end = E.Finished })
