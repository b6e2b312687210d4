-- A worked row: a program of the class with a unit for ERROR, which sets a variable by ONCODE and goes on at a label.
use Rattle.std.specs.Prelude.{ℕ, ◌≡◌, List, [], ◌∷◌, Some, None}
use Rattle.pli_language.specs.declared.condition.Condition.TheVariants as C
use Rattle.pli_typing.specs.TypedTree as Y
use Rattle.pli_meaning.specs.declared.outcome.End.TheVariants as E
use Rattle.pli_meaning.specs.Control.{Label}
use Rattle.pli_meaning.specs.Executing.{meaning}
use Rattle.pli_coding.specs.Images.{picture_of}
use Rattle.pli_coding.specs.SignatureTable.{table_of}
use Rattle.expression_runs.specs.Assignments.{assignment}
use Rattle.expression_runs.specs.Variables.{Spot, number_declared, whole}
use Rattle.pli_headline.specs.Headline.{Headline, parts}

-- DECLARE X FIXED BINARY(31); X = 0; ON ERROR BEGIN; X = ONCODE(); GOTO BACK; END; X = 1 / X;
-- BACK: IF X > 29 THEN SIGNAL FIXEDOVERFLOW;

abbrev pub rescue_spot : Spot
rescue_spot = record { block = 1; level = 0; index = 0 }

abbrev pub rescue_value : Y.Number
rescue_value = Y.NumberIn (whole rescue_spot)

abbrev pub rescue_label : Label
rescue_label = 66 ∷ 65 ∷ 67 ∷ 75 ∷ []

abbrev pub unit_body : Y.Stmts
unit_body =
    Y.StmtThen [] (assignment rescue_spot Y.OnCode 5)
    (Y.StmtThen [] (Y.Goto 0 rescue_label 5) (Y.EndOfList []))

abbrev pub unit_head : Y.BlockHead
unit_head = record { kind = Y.UnitBlock; number = 2; level = 1; line = 4 }

abbrev pub rescue_over : Y.Number
rescue_over = Y.Calculated Y.Quotient (Y.NumberConstant 1) rescue_value

abbrev pub rescue_test : Y.Bit
rescue_test = Y.NumbersCompared Y.IsGreater rescue_value (Y.NumberConstant 29)

abbrev pub rescue_body : Y.Stmts
rescue_body =
    Y.StmtThen [] (assignment rescue_spot (Y.NumberConstant 0) 3)
    (Y.StmtThen [] (Y.OnUnit C.Error (Y.BlockOf unit_head unit_body) 4)
    (Y.StmtThen [] (assignment rescue_spot rescue_over 6)
    (Y.StmtThen (rescue_label ∷ []) (Y.If rescue_test (Y.Signal C.FixedOverflow 7) 7) (Y.EndOfList []))))

abbrev pub rescue_head : Y.BlockHead
rescue_head = record { kind = Y.ProcedureBlock; number = 1; level = 0; line = 1 }

abbrev pub rescue_main : Y.Procedure
rescue_main = record { block = Y.BlockOf rescue_head rescue_body; parameters = []; result = None }

abbrev pub rescue_program : Y.Program
rescue_program =
    record { variables = [] ∷ (number_declared [] ∷ []) ∷ [] ∷ []; procedures = rescue_main ∷ [] }

pub record RescueKept : Type 0 where
  pub headline : Headline rescue_program (picture_of parts rescue_program) (table_of rescue_program)
  -- ERROR is what the system does for ZERODIVIDE, and then for FIXEDOVERFLOW; ONCODE tells which
  pub ends :
      (input : List ℕ) →
      meaning rescue_program input 40
      ≡ Some (record {
        acts = 18;
        output = [];
        raised = (C.ZeroDivide, 30) ∷ (C.Error, 30) ∷ (C.FixedOverflow, 20) ∷ (C.Error, 20) ∷ [];
        end = E.Finished;
      })
