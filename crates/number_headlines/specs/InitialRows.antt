-- A worked row with INITIAL: a program of the class with a table of constants and an asterisk, a text, and a function
-- that calls itself, in whose every block a variable begins anew.
use Rattle.std.specs.Prelude.{ℕ, ◌≡◌, List, [], ◌∷◌, None, pos, Some, true}
use Rattle.pli_language.specs.Tree as T
use Rattle.pli_typing.specs.Signatures.{Bounds}
use Rattle.pli_typing.specs.TypedTree as Y
use Rattle.pli_meaning.specs.declared.outcome.End.TheVariants as E
use Rattle.pli_meaning.specs.Executing.{meaning}
use Rattle.pli_coding.specs.Images.{picture_of}
use Rattle.pli_coding.specs.SignatureTable.{table_of}
use Rattle.expression_runs.specs.Assignments.{assignment}
use Rattle.expression_runs.specs.Variables.{Spot, number_declared, whole}
use Rattle.function_runs.specs.Returns.{return_of}
use Rattle.element_runs.specs.Arrays.{array_declared, element}
use Rattle.scalar_runs.specs.Scalars.{scalar_declared}
use Rattle.pli_headline.specs.Headline.{Headline, parts}
use Rattle.pli_headline.specs.ProvedSoFar.{text_leaf}
use Rattle.number_headlines.specs.CallRows.{head_at}

-- DECLARE F(5) FIXED BINARY(31) INITIAL(1, (2) 2, *, 24), T CHARACTER(4) VARYING INITIAL('F='),
-- I FIXED BINARY(31) INITIAL(1), X FIXED BINARY(31);
-- COUNT: PROCEDURE RETURNS(FIXED BINARY(31)); DECLARE K FIXED BINARY(31) INITIAL(3);
-- K = K + 1; IF I < 1 THEN RETURN (K); I = I - 1; RETURN (K + COUNT()); END COUNT;
-- X = COUNT(); X = F(X - 3) * F(3) + F(X - 4); PUT EDIT (T, X) (A, F(4));

abbrev pub item_of : (repetition : ℕ) → T.InitialValue → T.InitialItem
item_of repetition value = record { repetition = repetition; value = value }

abbrev pub number_items : (n : ℕ) → List T.InitialItem
number_items n = item_of 1 (T.InitialNumber (pos n)) ∷ []

abbrev pub table_bounds : Bounds
table_bounds = record { lower = pos 1; upper = pos 5 }

abbrev pub table_items : List T.InitialItem
table_items =
    item_of 1 (T.InitialNumber (pos 1)) ∷ item_of 2 (T.InitialNumber (pos 2)) ∷ item_of 1 T.InitialSkip
    ∷ item_of 1 (T.InitialNumber (pos 24)) ∷ []

abbrev pub title_type : Y.LeafType
title_type = text_leaf true 4

abbrev pub title_items : List T.InitialItem
title_items = item_of 1 (T.InitialText (70 ∷ 61 ∷ [])) ∷ []

abbrev pub table_spot : Spot
table_spot = record { block = 1; level = 0; index = 0 }

abbrev pub title_spot : Spot
title_spot = record { block = 1; level = 0; index = 1 }

abbrev pub turn_spot : Spot
turn_spot = record { block = 1; level = 0; index = 2 }

abbrev pub result_spot : Spot
result_spot = record { block = 1; level = 0; index = 3 }

abbrev pub local_spot : Spot
local_spot = record { block = 2; level = 1; index = 0 }

abbrev pub value_of : Spot → Y.Number
value_of x = Y.NumberIn (whole x)

abbrev pub less : Spot → (n : ℕ) → Y.Number
less x n = Y.Calculated Y.Difference (value_of x) (Y.NumberConstant n)

abbrev pub entry_at : Y.Number → Y.Number
entry_at subscript = Y.NumberIn (element table_spot subscript)

abbrev pub count_call : Y.Number
count_call = Y.NumberFrom (Y.Calling 2 0 Y.NoArgument)

abbrev pub entries_used : Y.Number
entries_used =
    Y.Calculated Y.Sum
    (Y.Calculated Y.Product (entry_at (less result_spot 3)) (entry_at (Y.NumberConstant 3)))
    (entry_at (less result_spot 4))

abbrev pub title_formats : T.Formats
title_formats =
    T.FormatThen (record { line = 11; column = 19 }) 1 (T.TextFormat None)
    (T.FormatThen (record { line = 11; column = 22 }) 1 (T.FixedFormat 4) T.NoFormat)

abbrev pub title_put : Y.Stmt
title_put =
    Y.Put None
    (record {
      items =
          Y.PutValue (Y.TextValue (Y.TextIn (whole title_spot))) ∷ Y.PutValue (Y.NumberValue 31 (value_of result_spot))
          ∷ [];
      formats = title_formats;
    } ∷ []) 11

abbrev pub initial_body : Y.Stmts
initial_body =
    Y.StmtThen [] (assignment result_spot count_call 9)
    (Y.StmtThen [] (assignment result_spot entries_used 10) (Y.StmtThen [] title_put (Y.EndOfList [])))

abbrev pub count_body : Y.Stmts
count_body =
    Y.StmtThen []
    (assignment local_spot (Y.Calculated Y.Sum (value_of local_spot) (Y.NumberConstant 1)) 5)
    (Y.StmtThen []
    (Y.If (Y.NumbersCompared Y.IsLess (value_of turn_spot) (Y.NumberConstant 1)) (return_of (value_of local_spot) 5) 5)
    (Y.StmtThen [] (assignment turn_spot (less turn_spot 1) 6)
    (Y.StmtThen [] (return_of (Y.Calculated Y.Sum (value_of local_spot) count_call) 6) (Y.EndOfList []))))

abbrev pub initial_main : Y.Procedure
initial_main = record { block = Y.BlockOf (head_at 1 0 1) initial_body; parameters = []; result = None }

abbrev pub count_function : Y.Procedure
count_function =
    record { block = Y.BlockOf (head_at 2 1 4) count_body; parameters = []; result = Some (Y.FixedLeaf 31) }

abbrev pub initial_program : Y.Program
initial_program =
    record {
      variables =
          []
          ∷ (array_declared table_bounds table_items ∷ scalar_declared title_type title_items
          ∷ number_declared (number_items 1) ∷ number_declared [] ∷ [])
          ∷ (number_declared (number_items 3) ∷ []) ∷ [];
      procedures = initial_main ∷ count_function ∷ [];
    }

pub record InitialKept : Type 0 where
  pub headline : Headline initial_program (picture_of parts initial_program) (table_of initial_program)
  -- 24 * 2 + 0
  pub ends :
      (input : List ℕ) →
      meaning initial_program input 16
      ≡ Some (record {
        acts = 16;
        output = 70 ∷ 61 ∷ 32 ∷ 32 ∷ 52 ∷ 56 ∷ 10 ∷ [];
        raised = [];
        end = E.Finished;
      })
