-- A worked row: a program of the class that puts numbers into an area by way of a pointer, sums and prints them.
use Rattle.std.specs.Prelude.{ℕ, ◌≡◌, List, [], ◌∷◌, Some, None, pos}
use Rattle.pli_language.specs.Tree as T
use Rattle.pli_typing.specs.TypedTree as Y
use Rattle.pli_meaning.specs.declared.outcome.End.TheVariants as E
use Rattle.pli_meaning.specs.Executing.{meaning}
use Rattle.pli_coding.specs.Images.{picture_of}
use Rattle.pli_coding.specs.SignatureTable.{table_of}
use Rattle.expression_runs.specs.Assignments.{assignment}
use Rattle.expression_runs.specs.Variables.{Spot, number_declared, whole}
use Rattle.scalar_runs.specs.Scalars.{scalar_declared}
use Rattle.area_runs.specs.Allocations.{allocation}
use Rattle.area_runs.specs.Based.{based_declared, pointer_declared, through}
use Rattle.area_runs.specs.BasedAssignments as B
use Rattle.area_assignments.specs.Copying.{copying}
use Rattle.area_assignments.specs.Emptying.{emptying}
use Rattle.area_freeings.specs.Freeing.{freeing}
use Rattle.pli_headline.specs.Headline.{Headline, parts}

-- DECLARE A AREA(128), B AREA(64), P POINTER, N FIXED BINARY(31) BASED, (X, S) FIXED BINARY(31); X = 0; S = 0;
-- DO WHILE (X < 4); X = X + 1; ALLOCATE N SET(P) IN(A); P->N = X * X; S = S + P->N; END; FREE P->N; A = EMPTY(); B = A;
-- PUT EDIT (S) (F(2));

abbrev pub store_spot : Spot
store_spot = record { block = 1; level = 0; index = 0 }

abbrev pub copy_spot : Spot
copy_spot = record { block = 1; level = 0; index = 1 }

abbrev pub pointer_spot : Spot
pointer_spot = record { block = 1; level = 0; index = 2 }

abbrev pub based_spot : Spot
based_spot = record { block = 1; level = 0; index = 3 }

abbrev pub root_spot : Spot
root_spot = record { block = 1; level = 0; index = 4 }

abbrev pub sum_spot : Spot
sum_spot = record { block = 1; level = 0; index = 5 }

abbrev pub area_declared : (bytes : ℕ) → Y.DeclaredVariable
area_declared n = scalar_declared (Y.AreaLeaf (Y.ConstantExtent (pos n))) []

abbrev pub root_value : Y.Number
root_value = Y.NumberIn (whole root_spot)

abbrev pub sum_value : Y.Number
sum_value = Y.NumberIn (whole sum_spot)

abbrev pub square_value : Y.Number
square_value = Y.NumberIn (through pointer_spot based_spot)

abbrev pub gather_turns : Y.Stmts
gather_turns =
    Y.StmtThen [] (assignment root_spot (Y.Calculated Y.Sum root_value (Y.NumberConstant 1)) 7)
    (Y.StmtThen [] (allocation based_spot pointer_spot store_spot 8)
    (Y.StmtThen [] (B.assignment pointer_spot based_spot (Y.Calculated Y.Product root_value root_value) 9)
    (Y.StmtThen [] (assignment sum_spot (Y.Calculated Y.Sum sum_value square_value) 10) (Y.EndOfList []))))

abbrev pub gather_formats : T.Formats
gather_formats = T.FormatThen (record { line = 15; column = 18 }) 1 (T.FixedFormat 2) T.NoFormat

abbrev pub gather_put : Y.Stmt
gather_put =
    Y.Put None (record { items = Y.PutValue (Y.NumberValue 31 sum_value) ∷ []; formats = gather_formats } ∷ []) 15

abbrev pub gather_body : Y.Stmts
gather_body =
    Y.StmtThen [] (assignment root_spot (Y.NumberConstant 0) 5)
    (Y.StmtThen [] (assignment sum_spot (Y.NumberConstant 0) 5)
    (Y.StmtThen [] (Y.DoWhile (Y.NumbersCompared Y.IsLess root_value (Y.NumberConstant 4)) gather_turns 6)
    (Y.StmtThen [] (freeing pointer_spot based_spot 12)
    (Y.StmtThen [] (emptying store_spot 13)
    (Y.StmtThen [] (copying copy_spot store_spot 14)
    (Y.StmtThen [] gather_put (Y.EndOfList [])))))))

abbrev pub gather_head : Y.BlockHead
gather_head = record { kind = Y.ProcedureBlock; number = 1; level = 0; line = 1 }

abbrev pub gather_main : Y.Procedure
gather_main = record { block = Y.BlockOf gather_head gather_body; parameters = []; result = None }

abbrev pub gather_program : Y.Program
gather_program =
    record {
      variables =
          []
          ∷ (area_declared 128 ∷ area_declared 64 ∷ pointer_declared ∷ based_declared ∷ number_declared []
          ∷ number_declared [] ∷ [])
          ∷ [];
      procedures = gather_main ∷ [];
    }

pub record GatherKept : Type 0 where
  pub headline : Headline gather_program (picture_of parts gather_program) (table_of gather_program)
  -- 30 is written
  pub ends :
      (input : List ℕ) →
      meaning gather_program input 31
      ≡ Some (record { acts = 31; output = 51 ∷ 48 ∷ 10 ∷ []; raised = []; end = E.Finished })
