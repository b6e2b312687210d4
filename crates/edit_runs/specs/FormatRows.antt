-- Worked rows: lists of F items, and what PUT SKIP EDIT writes by two of them.
use Rattle.std.specs.Prelude.{ℕ, ◌≡◌, List, [], ◌∷◌, None, Some}
use Rattle.pli_language.specs.Tree as T
use Rattle.pli_typing.specs.TypedTree as Y
use Rattle.pli_meaning.specs.declared.outcome.End.TheVariants as E
use Rattle.pli_meaning.specs.Executing.{meaning}
use Rattle.program_runs.specs.Rows.{row_head}
use Rattle.expression_runs.specs.Assignments.{assignment}
use Rattle.expression_runs.specs.Variables.{Spot, number_declared, whole}
use Rattle.edit_runs.specs.Edits.{IsFixed, Item, Put, put_of}

abbrev pub fixed_then : (repetition width : ℕ) → T.Formats → T.Formats
fixed_then repetition width rest =
    T.FormatThen (record { line = 2; column = 20 }) repetition (T.FixedFormat width) rest

-- ---- the program: DECLARE X FIXED BINARY(31); X = 7; PUT SKIP(2) EDIT (X, X + X, X) (F(3), F(4)) (X) (F(2));

abbrev pub shown_spot : Spot
shown_spot = record { block = 0; level = 0; index = 0 }

abbrev pub shown_number : Y.Number
shown_number = Y.NumberIn (whole shown_spot)

abbrev pub shown_item : Y.Number → Item
shown_item x = record { precision = 31; source = x }

abbrev pub shown_put : Put
shown_put =
    record {
      skip = Some 2;
      first = record {
        first = shown_item shown_number;
        more = shown_item (Y.Calculated Y.Sum shown_number shown_number) ∷ shown_item shown_number ∷ [];
        formats = fixed_then 1 3 (fixed_then 1 4 T.NoFormat);
      };
      more = record { first = shown_item shown_number; more = []; formats = fixed_then 1 2 T.NoFormat } ∷ [];
      line = 4;
    }

abbrev pub shown_rest : Y.Stmts
shown_rest = Y.StmtThen [] (put_of shown_put) (Y.EndOfList [])

abbrev pub shown_body : Y.Stmts
shown_body = Y.StmtThen [] (assignment shown_spot (Y.NumberConstant 7) 3) shown_rest

abbrev pub shown_program : Y.Program
shown_program =
    record {
      variables = (number_declared [] ∷ []) ∷ [];
      procedures =
          record {
            block = Y.BlockOf (row_head 0 0 1) shown_body;
            parameters = [];
            result = None;
          }
          ∷ [];
    }

pub record NumbersShown : Type 0 where
  -- F(8), and 2 F(3), F(5)
  pub one : IsFixed (fixed_then 1 8 T.NoFormat)
  pub repeated : IsFixed (fixed_then 2 3 (fixed_then 1 5 T.NoFormat))
  -- two lines end, the first list is used again, and an act writes each field
  pub written :
      (input : List ℕ) →
      meaning shown_program input 9
      ≡ Some (record {
        acts = 9;
        output = 10 ∷ 10 ∷ 32 ∷ 32 ∷ 55 ∷ 32 ∷ 32 ∷ 49 ∷ 52 ∷ 32 ∷ 32 ∷ 55 ∷ 32 ∷ 55 ∷ 10 ∷ [];
        raised = [];
        end = E.Finished;
      })
