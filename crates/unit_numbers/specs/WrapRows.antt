-- A worked row: a program of the class whose unit is raised by a scalar of 15 bits, which goes on with the wrapped
-- number.
use Rattle.std.specs.Prelude.{ℕ, ◌≡◌, List, [], ◌∷◌, Some, None}
use Rattle.pli_language.specs.declared.condition.Condition.TheVariants as C
use Rattle.pli_typing.specs.TypedTree as Y
use Rattle.pli_meaning.specs.declared.outcome.End.TheVariants as E
use Rattle.pli_meaning.specs.Executing.{meaning}
use Rattle.pli_coding.specs.Images.{picture_of}
use Rattle.pli_coding.specs.SignatureTable.{table_of}
use Rattle.expression_runs.specs.Assignments.{assignment}
use Rattle.expression_runs.specs.Variables.{Spot, whole}
use Rattle.scalar_runs.specs.Assignments.{number_assignment}
use Rattle.scalar_runs.specs.Scalars.{scalar_declared}
use Rattle.pli_headline.specs.Headline.{Headline, parts}

-- DECLARE X FIXED BINARY(31), H FIXED BINARY(15); H = 32767; ON FIXEDOVERFLOW BEGIN; X = 1; END; H = H + 1; H = H - X;

abbrev pub wide_spot : Spot
wide_spot = record { block = 1; level = 0; index = 0 }

abbrev pub wrap_spot : Spot
wrap_spot = record { block = 1; level = 0; index = 1 }

abbrev pub wrap_value : Y.Number
wrap_value = Y.NumberIn (whole wrap_spot)

abbrev pub wrap_unit_body : Y.Stmts
wrap_unit_body = Y.StmtThen [] (assignment wide_spot (Y.NumberConstant 1) 5) (Y.EndOfList [])

abbrev pub wrap_unit_head : Y.BlockHead
wrap_unit_head = record { kind = Y.UnitBlock; number = 2; level = 1; line = 4 }

abbrev pub wrap_up : Y.Number
wrap_up = Y.Calculated Y.Sum wrap_value (Y.NumberConstant 1)

abbrev pub wrap_down : Y.Number
wrap_down = Y.Calculated Y.Difference wrap_value (Y.NumberIn (whole wide_spot))

abbrev pub wrap_body : Y.Stmts
wrap_body =
    Y.StmtThen [] (number_assignment wrap_spot 15 (Y.NumberConstant 32767) 3)
    (Y.StmtThen [] (Y.OnUnit C.FixedOverflow (Y.BlockOf wrap_unit_head wrap_unit_body) 4)
    (Y.StmtThen [] (number_assignment wrap_spot 15 wrap_up 6)
    (Y.StmtThen [] (number_assignment wrap_spot 15 wrap_down 7) (Y.EndOfList []))))

abbrev pub wrap_head : Y.BlockHead
wrap_head = record { kind = Y.ProcedureBlock; number = 1; level = 0; line = 1 }

abbrev pub wrap_main : Y.Procedure
wrap_main = record { block = Y.BlockOf wrap_head wrap_body; parameters = []; result = None }

abbrev pub wrap_program : Y.Program
wrap_program =
    record {
      variables =
          [] ∷ (scalar_declared (Y.FixedLeaf 31) [] ∷ scalar_declared (Y.FixedLeaf 15) [] ∷ []) ∷ [] ∷ [];
      procedures = wrap_main ∷ [];
    }

pub record WrapKept : Type 0 where
  pub headline : Headline wrap_program (picture_of parts wrap_program) (table_of wrap_program)
  -- it raises FIXEDOVERFLOW on its way up, and again on its way down, from the lowest number
  pub ends :
      (input : List ℕ) →
      meaning wrap_program input 12
      ≡ Some (record {
        acts = 12;
        output = [];
        raised = (C.FixedOverflow, 20) ∷ (C.FixedOverflow, 20) ∷ [];
        end = E.Finished;
      })
