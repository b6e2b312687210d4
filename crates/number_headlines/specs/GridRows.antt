-- A worked row: a program of the class with an array of two dimensions and of 15 bits, and one of bits. Subscripts are
-- variables of 15 bits and of 31, sums and differences, and bounds are asked for.
use Rattle.std.specs.Prelude.{ℕ, ◌≡◌, List, [], ◌∷◌, None, pos, Some}
use Rattle.pli_language.specs.declared.condition.Condition.TheVariants as C
use Rattle.pli_language.specs.Tree as T
use Rattle.pli_typing.specs.TypedTree as Y
use Rattle.pli_meaning.specs.declared.outcome.End.TheVariants as E
use Rattle.pli_meaning.specs.Executing.{meaning}
use Rattle.pli_coding.specs.Images.{picture_of}
use Rattle.pli_coding.specs.SignatureTable.{table_of}
use Rattle.expression_runs.specs.Assignments.{assignment}
use Rattle.expression_runs.specs.Variables.{Spot, number_declared, whole}
use Rattle.scalar_runs.specs.Assignments.{number_assignment}
use Rattle.scalar_runs.specs.Scalars.{scalar_declared}
use Rattle.array_runs.specs.Arrays.{Grid, element, grid_declared}
use Rattle.array_runs.specs.Laws.{bit_assigned, number_assigned}
use Rattle.pli_headline.specs.Headline.{Headline, parts}

-- DECLARE T(0:3, 0:3) FIXED BINARY(15), B(3) BIT(1), I FIXED BINARY(15), J FIXED BINARY(31);
-- T(LBOUND(T, 1), LBOUND(T, 2)) = 1; I = 0;
-- DO WHILE (I < DIM(T, 1) + HBOUND(T, 2)); I = I + 1; T(I, 0) = 1; J = 0;
-- DO WHILE (J < I); J = J + 1; T(I, J) = T(I - 1, J) + T(I - 1, J - 1); PUT EDIT (T(I, J)) (F(3)); B(J) = T(I, J) > 2;
-- END; IF B(1) THEN T(I, J + 1) = 1; END;

abbrev pub triangle_grid : Grid
triangle_grid =
    record {
      type = Y.FixedLeaf 15;
      bounds = record { lower = pos 0; upper = pos 3 } ∷ record { lower = pos 0; upper = pos 3 } ∷ [];
    }

abbrev pub flags_grid : Grid
flags_grid = record { type = Y.BitLeaf; bounds = record { lower = pos 1; upper = pos 3 } ∷ [] }

abbrev pub triangle_spot : Spot
triangle_spot = record { block = 1; level = 0; index = 0 }

abbrev pub flags_spot : Spot
flags_spot = record { block = 1; level = 0; index = 1 }

abbrev pub row_spot : Spot
row_spot = record { block = 1; level = 0; index = 2 }

abbrev pub column_spot : Spot
column_spot = record { block = 1; level = 0; index = 3 }

abbrev pub row : Y.Number
row = Y.NumberIn (whole row_spot)

abbrev pub column : Y.Number
column = Y.NumberIn (whole column_spot)

abbrev pub more_than : Y.Number → Y.Number
more_than x = Y.Calculated Y.Sum x (Y.NumberConstant 1)

abbrev pub less_than : Y.Number → Y.Number
less_than x = Y.Calculated Y.Difference x (Y.NumberConstant 1)

abbrev pub two : Y.Number → Y.Number → Y.Numbers
two x y = Y.NumberThen x (Y.NumberThen y Y.NoNumber)

abbrev pub one : Y.Number → Y.Numbers
one x = Y.NumberThen x Y.NoNumber

abbrev pub entry_at : Y.Number → Y.Number → Y.Number
entry_at x y = Y.NumberIn (element triangle_spot (two x y))

abbrev pub entry_given : Y.Number → Y.Number → Y.Number → (line : ℕ) → Y.Stmt
entry_given x y source line = number_assigned triangle_spot (two x y) 15 source line

abbrev pub entry_sum : Y.Number
entry_sum = Y.Calculated Y.Sum (entry_at (less_than row) column) (entry_at (less_than row) (less_than column))

abbrev pub entry_formats : T.Formats
entry_formats = T.FormatThen (record { line = 10; column = 27 }) 1 (T.FixedFormat 3) T.NoFormat

abbrev pub entry_put : Y.Stmt
entry_put =
    Y.Put None
    (record { items = Y.PutValue (Y.NumberValue 15 (entry_at row column)) ∷ []; formats = entry_formats } ∷ []) 10

abbrev pub flag_given : Y.Stmt
flag_given =
    bit_assigned flags_spot (one column) (Y.NumbersCompared Y.IsGreater (entry_at row column) (Y.NumberConstant 2)) 11

abbrev pub column_turns : Y.Stmts
column_turns =
    Y.StmtThen [] (assignment column_spot (more_than column) 8)
    (Y.StmtThen [] (entry_given row column entry_sum 9)
    (Y.StmtThen [] entry_put (Y.StmtThen [] flag_given (Y.EndOfList []))))

abbrev pub column_loop : Y.Stmt
column_loop = Y.DoWhile (Y.NumbersCompared Y.IsLess column row) column_turns 7

abbrev pub first_flag : Y.Bit
first_flag = Y.BitIn (element flags_spot (one (Y.NumberConstant 1)))

abbrev pub last_choice : Y.Stmt
last_choice = Y.If first_flag (entry_given row (more_than column) (Y.NumberConstant 1) 13) 13

abbrev pub row_turns : Y.Stmts
row_turns =
    Y.StmtThen [] (number_assignment row_spot 15 (more_than row) 5)
    (Y.StmtThen [] (entry_given row (Y.NumberConstant 0) (Y.NumberConstant 1) 5)
    (Y.StmtThen [] (assignment column_spot (Y.NumberConstant 0) 6)
    (Y.StmtThen [] column_loop (Y.StmtThen [] last_choice (Y.EndOfList [])))))

abbrev pub row_limit : Y.Number
row_limit = Y.Calculated Y.Sum (Y.ElementsOf (whole triangle_spot) 1) (Y.UpperBound (whole triangle_spot) 2)

abbrev pub row_loop : Y.Stmt
row_loop = Y.DoWhile (Y.NumbersCompared Y.IsLess row row_limit) row_turns 4

abbrev pub first_in : (dimension : ℕ) → Y.Number
first_in dimension = Y.LowerBound (whole triangle_spot) dimension

abbrev pub triangle_body : Y.Stmts
triangle_body =
    Y.StmtThen [] (entry_given (first_in 1) (first_in 2) (Y.NumberConstant 1) 3)
    (Y.StmtThen [] (number_assignment row_spot 15 (Y.NumberConstant 0) 3)
    (Y.StmtThen [] row_loop (Y.EndOfList [])))

abbrev pub triangle_head : Y.BlockHead
triangle_head = record { kind = Y.ProcedureBlock; number = 1; level = 0; line = 1 }

abbrev pub triangle_main : Y.Procedure
triangle_main = record { block = Y.BlockOf triangle_head triangle_body; parameters = []; result = None }

abbrev pub triangle_program : Y.Program
triangle_program =
    record {
      variables =
          []
          ∷ (grid_declared triangle_grid [] ∷ grid_declared flags_grid [] ∷ scalar_declared (Y.FixedLeaf 15) []
          ∷ number_declared [] ∷ []) ∷ [];
      procedures = triangle_main ∷ [];
    }

pub record TriangleKept : Type 0 where
  pub headline : Headline triangle_program (picture_of parts triangle_program) (table_of triangle_program)
  -- 1, 2 1, 3 3 1: 3 is the first number past 2, and no row has a fifth number
  pub ends :
      (input : List ℕ) →
      meaning triangle_program input 64
      ≡ Some (record {
        acts = 64;
        output =
            32 ∷ 32 ∷ 49 ∷ 32 ∷ 32 ∷ 50 ∷ 32 ∷ 32 ∷ 49 ∷ 32 ∷ 32 ∷ 51 ∷ 32 ∷ 32 ∷ 51 ∷ 32 ∷ 32 ∷ 49 ∷ 10 ∷ [];
        raised = (C.Error, 102) ∷ [];
        end = E.Error 102 13;
      })
