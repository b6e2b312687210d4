-- A worked row: a program of the class that prints a table of numbers and their squares, with PUT SKIP and PUT EDIT.
use Rattle.std.specs.Prelude.{ℕ, ◌≡◌, List, [], ◌∷◌, Some, None}
use Rattle.pli_language.specs.Tree as T
use Rattle.pli_typing.specs.TypedTree as Y
use Rattle.pli_meaning.specs.declared.outcome.End.TheVariants as E
use Rattle.pli_meaning.specs.Executing.{meaning}
use Rattle.pli_coding.specs.Images.{picture_of}
use Rattle.pli_coding.specs.SignatureTable.{table_of}
use Rattle.expression_runs.specs.Assignments.{assignment}
use Rattle.expression_runs.specs.Variables.{Spot, number_declared, whole}
use Rattle.pli_headline.specs.Headline.{Headline, parts}

-- DECLARE X FIXED BINARY(31); X = 1; DO WHILE (X < 4); PUT EDIT (X, X * X) (F(3), X(2), F(3)); PUT SKIP;
-- X = X + 1; END; PUT SKIP(2) EDIT (X) (F(1)) (X - 5) (2 (X(1)), F(2));

abbrev pub entry_spot : Spot
entry_spot = record { block = 1; level = 0; index = 0 }

abbrev pub entry_value : Y.Number
entry_value = Y.NumberIn (whole entry_spot)

abbrev pub shown : Y.Number → Y.PutItem
shown x = Y.PutValue (Y.NumberValue 31 x)

abbrev pub of_width : (line width : ℕ) → T.Formats → T.Formats
of_width line width rest = T.FormatThen (record { line = line; column = 30 }) 1 (T.FixedFormat width) rest

abbrev pub entry_formats : T.Formats
entry_formats =
    of_width 5 3 (T.FormatThen (record { line = 5; column = 34 }) 1 (T.SpaceFormat 2) (of_width 5 3 T.NoFormat))

abbrev pub square : Y.Number
square = Y.Calculated Y.Product entry_value entry_value

abbrev pub entry_put : Y.Stmt
entry_put =
    Y.Put None
    (record { items = shown entry_value ∷ shown square ∷ []; formats = entry_formats } ∷ []) 5

abbrev pub squares_turns : Y.Stmts
squares_turns =
    Y.StmtThen [] entry_put
    (Y.StmtThen [] (Y.Put (Some 1) [] 6)
    (Y.StmtThen [] (assignment entry_spot (Y.Calculated Y.Sum entry_value (Y.NumberConstant 1)) 7) (Y.EndOfList [])))

abbrev pub squares_loop : Y.Stmt
squares_loop = Y.DoWhile (Y.NumbersCompared Y.IsLess entry_value (Y.NumberConstant 4)) squares_turns 4

abbrev pub one_space_twice : T.Formats
one_space_twice =
    T.FormatThen (record { line = 9; column = 40 }) 2
    (T.FormatList (T.FormatThen (record { line = 9; column = 43 }) 1 (T.SpaceFormat 1) T.NoFormat))
    (of_width 9 2 T.NoFormat)

abbrev pub last_put : Y.Stmt
last_put =
    Y.Put (Some 2)
    (record { items = shown entry_value ∷ []; formats = of_width 9 1 T.NoFormat }
    ∷ record {
      items = shown (Y.Calculated Y.Difference entry_value (Y.NumberConstant 5)) ∷ [];
      formats = one_space_twice;
    }
    ∷ []) 9

abbrev pub squares_body : Y.Stmts
squares_body =
    Y.StmtThen [] (assignment entry_spot (Y.NumberConstant 1) 3)
    (Y.StmtThen [] squares_loop (Y.StmtThen [] last_put (Y.EndOfList [])))

abbrev pub squares_head : Y.BlockHead
squares_head = record { kind = Y.ProcedureBlock; number = 1; level = 0; line = 1 }

abbrev pub squares_main : Y.Procedure
squares_main = record { block = Y.BlockOf squares_head squares_body; parameters = []; result = None }

abbrev pub squares_program : Y.Program
squares_program =
    record { variables = [] ∷ (number_declared [] ∷ []) ∷ []; procedures = squares_main ∷ [] }

pub record SquaresKept : Type 0 where
  pub headline : Headline squares_program (picture_of parts squares_program) (table_of squares_program)
  -- three lines, two more that are empty, and a last one
  pub ends :
      (input : List ℕ) →
      meaning squares_program input 35
      ≡ Some (record {
        acts = 35;
        output =
            32 ∷ 32 ∷ 49 ∷ 32 ∷ 32 ∷ 32 ∷ 32 ∷ 49 ∷ 10
            ∷ 32 ∷ 32 ∷ 50 ∷ 32 ∷ 32 ∷ 32 ∷ 32 ∷ 52 ∷ 10
            ∷ 32 ∷ 32 ∷ 51 ∷ 32 ∷ 32 ∷ 32 ∷ 32 ∷ 57 ∷ 10
            ∷ 10 ∷ 10
            ∷ 52 ∷ 32 ∷ 32 ∷ 45 ∷ 49 ∷ 10
            ∷ [];
        raised = [];
        end = E.Finished;
      })
