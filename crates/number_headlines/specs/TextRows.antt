-- A worked row with texts: a program of the class whose text grows in a loop, waits while a function runs, and is
-- written with a number by a list that has items of both kinds.
use Rattle.std.specs.Prelude.{ℕ, ◌≡◌, List, [], ◌∷◌, Some, None, true}
use Rattle.pli_language.specs.Tree as T
use Rattle.pli_typing.specs.TypedTree as Y
use Rattle.pli_meaning.specs.declared.outcome.End.TheVariants as E
use Rattle.pli_meaning.specs.Executing.{meaning}
use Rattle.pli_coding.specs.Images.{picture_of}
use Rattle.pli_coding.specs.SignatureTable.{table_of}
use Rattle.expression_runs.specs.Assignments.{assignment}
use Rattle.expression_runs.specs.Variables.{Spot, number_declared, whole}
use Rattle.function_runs.specs.Returns.{return_of}
use Rattle.scalar_runs.specs.Scalars.{scalar_declared}
use Rattle.pli_headline.specs.Headline.{Headline, parts}
use Rattle.pli_headline.specs.ProvedSoFar.{text_leaf}
use Rattle.number_headlines.specs.CallRows.{head_at}

-- DECLARE X FIXED BINARY(31), T CHARACTER(8) VARYING;
-- F: PROCEDURE RETURNS(FIXED BINARY(31)); X = X + 1; RETURN (X); END F;
-- X = 7; T = 'A'; DO WHILE (T < 'ABB'); T = T || 'B'; X = LENGTH(T || F()); END; PUT EDIT ('T=', T, X) (A, A, F(4));

abbrev pub count_spot : Spot
count_spot = record { block = 1; level = 0; index = 0 }

abbrev pub word_spot : Spot
word_spot = record { block = 1; level = 0; index = 1 }

abbrev pub count_value : Y.Number
count_value = Y.NumberIn (whole count_spot)

abbrev pub word_value : Y.Text
word_value = Y.TextIn (whole word_spot)

abbrev pub word_type : Y.LeafType
word_type = text_leaf true 8

abbrev pub word_assigned : Y.Text → (line : ℕ) → Y.Stmt
word_assigned source line = Y.Assign (whole word_spot) (Y.StoredText source) line

-- the text waits while the function runs
abbrev pub next_call : Y.Number
next_call = Y.NumberFrom (Y.Calling 2 0 Y.NoArgument)

abbrev pub measured : Y.Number
measured = Y.LengthOf (Y.Joined word_value (Y.TextOfNumber 31 next_call))

abbrev pub word_turns : Y.Stmts
word_turns =
    Y.StmtThen [] (word_assigned (Y.Joined word_value (Y.TextConstant (66 ∷ []))) 6)
    (Y.StmtThen [] (assignment count_spot measured 7) (Y.EndOfList []))

abbrev pub word_loop : Y.Stmt
word_loop = Y.DoWhile (Y.TextsCompared Y.IsLess word_value (Y.TextConstant (65 ∷ 66 ∷ 66 ∷ []))) word_turns 5

abbrev pub word_formats : T.Formats
word_formats =
    T.FormatThen (record { line = 8; column = 28 }) 1 (T.TextFormat None)
    (T.FormatThen (record { line = 8; column = 31 }) 1 (T.TextFormat None)
    (T.FormatThen (record { line = 8; column = 34 }) 1 (T.FixedFormat 4) T.NoFormat))

abbrev pub word_put : Y.Stmt
word_put =
    Y.Put None
    (record {
      items =
          Y.PutValue (Y.TextValue (Y.TextConstant (84 ∷ 61 ∷ []))) ∷ Y.PutValue (Y.TextValue word_value)
          ∷ Y.PutValue (Y.NumberValue 31 count_value) ∷ [];
      formats = word_formats;
    } ∷ []) 8

abbrev pub word_body : Y.Stmts
word_body =
    Y.StmtThen [] (assignment count_spot (Y.NumberConstant 7) 3)
    (Y.StmtThen [] (word_assigned (Y.TextConstant (65 ∷ [])) 4)
    (Y.StmtThen [] word_loop (Y.StmtThen [] word_put (Y.EndOfList []))))

abbrev pub next_body : Y.Stmts
next_body =
    Y.StmtThen [] (assignment count_spot (Y.Calculated Y.Sum count_value (Y.NumberConstant 1)) 2)
    (Y.StmtThen [] (return_of count_value 2) (Y.EndOfList []))

abbrev pub word_main : Y.Procedure
word_main = record { block = Y.BlockOf (head_at 1 0 1) word_body; parameters = []; result = None }

abbrev pub next_function : Y.Procedure
next_function =
    record { block = Y.BlockOf (head_at 2 1 2) next_body; parameters = []; result = Some (Y.FixedLeaf 31) }

abbrev pub word_program : Y.Program
word_program =
    record {
      variables = [] ∷ (number_declared [] ∷ scalar_declared word_type [] ∷ []) ∷ [] ∷ [];
      procedures = word_main ∷ next_function ∷ [];
    }

pub record WordKept : Type 0 where
  pub headline : Headline word_program (picture_of parts word_program) (table_of word_program)
  -- two turns
  pub ends :
      (input : List ℕ) →
      meaning word_program input 22
      ≡ Some (record {
        acts = 22;
        output = 84 ∷ 61 ∷ 65 ∷ 66 ∷ 66 ∷ 32 ∷ 32 ∷ 49 ∷ 55 ∷ 10 ∷ [];
        raised = [];
        end = E.Finished;
      })
