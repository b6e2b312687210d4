-- A worked row: a program of the class with loops that count, one of them in a unit, and elements that both assign.
use Rattle.std.specs.Prelude.{ℕ, ◌≡◌, List, [], ◌∷◌, pos, Some, None}
use Rattle.pli_language.specs.declared.condition.Condition.TheVariants as C
use Rattle.pli_typing.specs.Signatures.{Bounds}
use Rattle.pli_typing.specs.TypedTree as Y
use Rattle.pli_meaning.specs.declared.outcome.End.TheVariants as E
use Rattle.pli_meaning.specs.Executing.{meaning}
use Rattle.pli_coding.specs.Images.{picture_of}
use Rattle.pli_coding.specs.SignatureTable.{table_of}
use Rattle.expression_runs.specs.Variables.{Spot, number_declared, whole}
use Rattle.element_runs.specs.Arrays.{array_declared, element}
use Rattle.element_runs.specs.Laws.{element_assigned}
use Rattle.pli_headline.specs.Headline.{Headline, parts}

-- DECLARE A(2) FIXED BINARY(31), (I, J) FIXED BINARY(31);
-- A(1) = 2147483647; ON FIXEDOVERFLOW BEGIN; DO J = 1 TO 2; A(J) = J; END; END;
-- DO I = 1 TO 2; A(I) = A(1) + A(1); END;

abbrev pub tally_bounds : Bounds
tally_bounds = record { lower = pos 1; upper = pos 2 }

abbrev pub spot_at : (index : ℕ) → Spot
spot_at n = record { block = 1; level = 0; index = n }

abbrev pub number_at : (index : ℕ) → Y.Number
number_at n = Y.NumberIn (whole (spot_at n))

abbrev pub first_tally : Y.Number
first_tally = Y.NumberIn (element (spot_at 0) (Y.NumberConstant 1))

abbrev pub tally_loop : (index : ℕ) → Y.Stmts → (line : ℕ) → Y.Stmt
tally_loop n turn line =
    Y.DoCount (Y.NumberCounter 31 (whole (spot_at n))) (Y.NumberValue 31 (Y.NumberConstant 1))
    (Some (Y.NumberConstant 2)) (Y.NumberConstant 1) None turn line

abbrev pub unit_turn : Y.Stmts
unit_turn = Y.StmtThen [] (element_assigned (spot_at 0) (number_at 2) (number_at 2) 5) (Y.EndOfList [])

abbrev pub unit_body : Y.Stmts
unit_body = Y.StmtThen [] (tally_loop 2 unit_turn 5) (Y.EndOfList [])

abbrev pub unit_head : Y.BlockHead
unit_head = record { kind = Y.UnitBlock; number = 2; level = 1; line = 4 }

abbrev pub main_turn : Y.Stmts
main_turn =
    Y.StmtThen []
    (element_assigned (spot_at 0) (number_at 1) (Y.Calculated Y.Sum first_tally first_tally) 7) (Y.EndOfList [])

abbrev pub tally_body : Y.Stmts
tally_body =
    Y.StmtThen [] (element_assigned (spot_at 0) (Y.NumberConstant 1) (Y.NumberConstant 2147483647) 3)
    (Y.StmtThen [] (Y.OnUnit C.FixedOverflow (Y.BlockOf unit_head unit_body) 4)
    (Y.StmtThen [] (tally_loop 1 main_turn 6) (Y.EndOfList [])))

abbrev pub tally_head : Y.BlockHead
tally_head = record { kind = Y.ProcedureBlock; number = 1; level = 0; line = 1 }

abbrev pub tally_main : Y.Procedure
tally_main = record { block = Y.BlockOf tally_head tally_body; parameters = []; result = None }

abbrev pub tally_program : Y.Program
tally_program =
    record {
      variables = [] ∷ (array_declared tally_bounds [] ∷ number_declared [] ∷ number_declared [] ∷ []) ∷ [] ∷ [];
      procedures = tally_main ∷ [];
    }

pub record TallyKept : Type 0 where
  pub headline : Headline tally_program (picture_of parts tally_program) (table_of tally_program)
  -- the unit is raised in the first turn, and it ends behind the second
  pub ends :
      (input : List ℕ) →
      meaning tally_program input 18
      ≡ Some (record { acts = 18; output = []; raised = (C.FixedOverflow, 20) ∷ []; end = E.Finished })
