-- A worked row: a program of the class whose units change in a loop, in choices and in a group with a label.
use Rattle.std.specs.Prelude.{ℕ, ◌≡◌, List, [], ◌∷◌, Some, None}
use Rattle.pli_language.specs.declared.condition.Condition.TheVariants as C
use Rattle.pli_typing.specs.TypedTree as Y
use Rattle.pli_meaning.specs.declared.outcome.End.TheVariants as E
use Rattle.pli_meaning.specs.Control.{Label}
use Rattle.pli_meaning.specs.Executing.{meaning}
use Rattle.pli_coding.specs.Images.{picture_of}
use Rattle.pli_coding.specs.SignatureTable.{table_of}
use Rattle.expression_runs.specs.Assignments.{assignment}
use Rattle.expression_runs.specs.Variables.{Spot, number_declared, whole}
use Rattle.pli_headline.specs.Headline.{Headline, parts}

-- DECLARE X FIXED BINARY(31); X = 9; ON FIXEDOVERFLOW SYSTEM; DO WHILE (X > 1);
-- IF X > 5 THEN ON FIXEDOVERFLOW BEGIN; X = 5; END; ELSE DO; LAST: ON FIXEDOVERFLOW BEGIN; X = 1; END; END;
-- IF 2147483647 + X > X THEN ; END; REVERT FIXEDOVERFLOW; X = 2147483647 + X;

abbrev pub shift_spot : Spot
shift_spot = record { block = 1; level = 0; index = 0 }

abbrev pub shift_value : Y.Number
shift_value = Y.NumberIn (whole shift_spot)

abbrev pub shift_label : Label
shift_label = 76 ∷ 65 ∷ 83 ∷ 84 ∷ []

abbrev pub unit_head : (number line : ℕ) → Y.BlockHead
unit_head number line = record { kind = Y.UnitBlock; number = number; level = 1; line = line }

-- a unit that sets X
abbrev pub shift_unit : (number to line : ℕ) → Y.Stmt
shift_unit number to line =
    Y.OnUnit C.FixedOverflow
    (Y.BlockOf (unit_head number line)
    (Y.StmtThen [] (assignment shift_spot (Y.NumberConstant to) line) (Y.EndOfList []))) line

abbrev pub is_above : Y.Number → Y.Number → Y.Bit
is_above x y = Y.NumbersCompared Y.IsGreater x y

abbrev pub shift_sum : Y.Number
shift_sum = Y.Calculated Y.Sum (Y.NumberConstant 2147483647) shift_value

abbrev pub shift_choice : Y.Stmt
shift_choice =
    Y.IfElse (is_above shift_value (Y.NumberConstant 5)) (shift_unit 2 5 6)
    (Y.Do (Y.StmtThen (shift_label ∷ []) (shift_unit 3 1 7) (Y.EndOfList [])) 7) 6

abbrev pub shift_turn : Y.Stmts
shift_turn =
    Y.StmtThen [] shift_choice (Y.StmtThen [] (Y.If (is_above shift_sum shift_value) (Y.Null 8) 8) (Y.EndOfList []))

abbrev pub shift_body : Y.Stmts
shift_body =
    Y.StmtThen [] (assignment shift_spot (Y.NumberConstant 9) 3)
    (Y.StmtThen [] (Y.OnSystem C.FixedOverflow 4)
    (Y.StmtThen [] (Y.DoWhile (is_above shift_value (Y.NumberConstant 1)) shift_turn 5)
    (Y.StmtThen [] (Y.Revert C.FixedOverflow 9)
    (Y.StmtThen [] (assignment shift_spot shift_sum 10) (Y.EndOfList [])))))

abbrev pub shift_head : Y.BlockHead
shift_head = record { kind = Y.ProcedureBlock; number = 1; level = 0; line = 1 }

abbrev pub shift_main : Y.Procedure
shift_main = record { block = Y.BlockOf shift_head shift_body; parameters = []; result = None }

abbrev pub shift_program : Y.Program
shift_program =
    record { variables = [] ∷ (number_declared [] ∷ []) ∷ [] ∷ [] ∷ []; procedures = shift_main ∷ [] }

pub record ShiftKept : Type 0 where
  pub headline : Headline shift_program (picture_of parts shift_program) (table_of shift_program)
  -- one unit is raised in the first turn and the other in the second; behind the loop none is in force
  pub ends :
      (input : List ℕ) →
      meaning shift_program input 40
      ≡ Some (record {
        acts = 25;
        output = [];
        raised = (C.FixedOverflow, 20) ∷ (C.FixedOverflow, 20) ∷ (C.FixedOverflow, 20) ∷ (C.Error, 20) ∷ [];
        end = E.Error 20 10;
      })
