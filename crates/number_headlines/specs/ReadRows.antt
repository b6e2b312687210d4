-- A worked row: a program of the class that reads pairs of numbers, each in a line of its own behind a first one that
-- is passed over, with GET SKIP EDIT, until the sum of their products is large enough, and writes it.
use Rattle.std.specs.Prelude.{ℕ, ◌≡◌, List, [], ◌∷◌, Some, None}
use Rattle.pli_language.specs.declared.condition.Condition.TheVariants as C
use Rattle.pli_language.specs.Tree as T
use Rattle.pli_typing.specs.TypedTree as Y
use Rattle.pli_meaning.specs.declared.outcome.End.TheVariants as E
use Rattle.pli_meaning.specs.Executing.{meaning}
use Rattle.pli_coding.specs.Images.{picture_of}
use Rattle.pli_coding.specs.SignatureTable.{table_of}
use Rattle.expression_runs.specs.Assignments.{assignment}
use Rattle.expression_runs.specs.Variables.{Spot, number_declared, whole}
use Rattle.pli_headline.specs.Headline.{Headline, parts}

-- DECLARE (X, Y, S) FIXED BINARY(31); S = 0; DO WHILE (S < 50); GET SKIP EDIT (X, Y) (COLUMN(2), 2 (F(2), X(1)));
-- S = S + X * Y; END; GET SKIP; PUT EDIT (S) (F(5));

abbrev pub first_spot : Spot
first_spot = record { block = 1; level = 0; index = 0 }

abbrev pub second_spot : Spot
second_spot = record { block = 1; level = 0; index = 1 }

abbrev pub total_spot : Spot
total_spot = record { block = 1; level = 0; index = 2 }

abbrev pub value_of : Spot → Y.Number
value_of x = Y.NumberIn (whole x)

abbrev pub read_formats : T.Formats
read_formats =
    T.FormatThen (record { line = 5; column = 30 }) 1 (T.ColumnFormat 2)
    (T.FormatThen (record { line = 5; column = 41 }) 2
    (T.FormatList
    (T.FormatThen (record { line = 5; column = 44 }) 1 (T.FixedFormat 2)
    (T.FormatThen (record { line = 5; column = 50 }) 1 (T.SpaceFormat 1) T.NoFormat)))
    T.NoFormat)

abbrev pub pairs_get : Y.Stmt
pairs_get =
    Y.Get (Some 1)
    (record {
      items = Y.GetScalar (whole first_spot) ∷ Y.GetScalar (whole second_spot) ∷ [];
      formats = read_formats;
    }
    ∷ []) 5

abbrev pub pairs_sum : Y.Number
pairs_sum =
    Y.Calculated Y.Sum (value_of total_spot)
    (Y.Calculated Y.Product (value_of first_spot) (value_of second_spot))

abbrev pub pairs_turns : Y.Stmts
pairs_turns = Y.StmtThen [] pairs_get (Y.StmtThen [] (assignment total_spot pairs_sum 6) (Y.EndOfList []))

abbrev pub pairs_loop : Y.Stmt
pairs_loop = Y.DoWhile (Y.NumbersCompared Y.IsLess (value_of total_spot) (Y.NumberConstant 50)) pairs_turns 4

abbrev pub total_formats : T.Formats
total_formats = T.FormatThen (record { line = 9; column = 20 }) 1 (T.FixedFormat 5) T.NoFormat

abbrev pub pairs_put : Y.Stmt
pairs_put =
    Y.Put None
    (record { items = Y.PutValue (Y.NumberValue 31 (value_of total_spot)) ∷ []; formats = total_formats } ∷ []) 9

abbrev pub pairs_body : Y.Stmts
pairs_body =
    Y.StmtThen [] (assignment total_spot (Y.NumberConstant 0) 3)
    (Y.StmtThen [] pairs_loop
    (Y.StmtThen [] (Y.Get (Some 1) [] 8) (Y.StmtThen [] pairs_put (Y.EndOfList []))))

abbrev pub pairs_head : Y.BlockHead
pairs_head = record { kind = Y.ProcedureBlock; number = 1; level = 0; line = 1 }

abbrev pub pairs_main : Y.Procedure
pairs_main = record { block = Y.BlockOf pairs_head pairs_body; parameters = []; result = None }

abbrev pub pairs_program : Y.Program
pairs_program =
    record {
      variables = [] ∷ (number_declared [] ∷ number_declared [] ∷ number_declared [] ∷ []) ∷ [];
      procedures = pairs_main ∷ [];
    }

pub record PairsKept : Type 0 where
  pub headline : Headline pairs_program (picture_of parts pairs_program) (table_of pairs_program)
  -- 'H', ' 02 03' and ' 11 04': 2 * 3 + 11 * 4 is written
  pub ends :
      meaning pairs_program
      (72 ∷ 10 ∷ 32 ∷ 48 ∷ 50 ∷ 32 ∷ 48 ∷ 51 ∷ 10 ∷ 32 ∷ 49 ∷ 49 ∷ 32 ∷ 48 ∷ 52 ∷ 10 ∷ []) 25
      ≡ Some (record {
        acts = 25;
        output = 32 ∷ 32 ∷ 32 ∷ 53 ∷ 48 ∷ 10 ∷ [];
        raised = [];
        end = E.Finished;
      })
  -- 'H' and ' 02': behind the first number of a pair the input ends
  pub stops :
      meaning pairs_program (72 ∷ 10 ∷ 32 ∷ 48 ∷ 50 ∷ 10 ∷ []) 12
      ≡ Some (record {
        acts = 12;
        output = [];
        raised = (C.Endfile, 40) ∷ (C.Error, 40) ∷ [];
        end = E.Error 40 5;
      })
