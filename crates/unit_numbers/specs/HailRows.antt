-- A worked row: a program of the class that signals conditions, one with a unit and one without.
use Rattle.std.specs.Prelude.{ℕ, ◌≡◌, List, [], ◌∷◌, Some, None}
use Rattle.pli_language.specs.declared.condition.Condition.TheVariants as C
use Rattle.pli_typing.specs.TypedTree as Y
use Rattle.pli_meaning.specs.declared.outcome.End.TheVariants as E
use Rattle.pli_meaning.specs.Executing.{meaning}
use Rattle.pli_coding.specs.Images.{picture_of}
use Rattle.pli_coding.specs.SignatureTable.{table_of}
use Rattle.expression_runs.specs.Assignments.{assignment}
use Rattle.expression_runs.specs.Variables.{Spot, number_declared, whole}
use Rattle.pli_headline.specs.Headline.{Headline, parts}

-- DECLARE X FIXED BINARY(31); X = 1; ON ZERODIVIDE BEGIN; X = 7; END; SIGNAL ZERODIVIDE;
-- IF X > 5 THEN SIGNAL FIXEDOVERFLOW;

abbrev pub hail_spot : Spot
hail_spot = record { block = 1; level = 0; index = 0 }

abbrev pub hail_value : Y.Number
hail_value = Y.NumberIn (whole hail_spot)

abbrev pub unit_body : Y.Stmts
unit_body = Y.StmtThen [] (assignment hail_spot (Y.NumberConstant 7) 4) (Y.EndOfList [])

abbrev pub unit_head : Y.BlockHead
unit_head = record { kind = Y.UnitBlock; number = 2; level = 1; line = 4 }

abbrev pub hail_test : Y.Bit
hail_test = Y.NumbersCompared Y.IsGreater hail_value (Y.NumberConstant 5)

abbrev pub hail_body : Y.Stmts
hail_body =
    Y.StmtThen [] (assignment hail_spot (Y.NumberConstant 1) 3)
    (Y.StmtThen [] (Y.OnUnit C.ZeroDivide (Y.BlockOf unit_head unit_body) 4)
    (Y.StmtThen [] (Y.Signal C.ZeroDivide 5)
    (Y.StmtThen [] (Y.If hail_test (Y.Signal C.FixedOverflow 6) 6) (Y.EndOfList []))))

abbrev pub hail_head : Y.BlockHead
hail_head = record { kind = Y.ProcedureBlock; number = 1; level = 0; line = 1 }

abbrev pub hail_main : Y.Procedure
hail_main = record { block = Y.BlockOf hail_head hail_body; parameters = []; result = None }

abbrev pub hail_program : Y.Program
hail_program =
    record { variables = [] ∷ (number_declared [] ∷ []) ∷ [] ∷ []; procedures = hail_main ∷ [] }

pub record HailKept : Type 0 where
  pub headline : Headline hail_program (picture_of parts hail_program) (table_of hail_program)
  -- behind the unit it goes on, and has what that set; no unit is in force for the other condition
  pub ends :
      (input : List ℕ) →
      meaning hail_program input 40
      ≡ Some (record {
        acts = 12;
        output = [];
        raised = (C.ZeroDivide, 30) ∷ (C.FixedOverflow, 20) ∷ (C.Error, 20) ∷ [];
        end = E.Error 20 6;
      })
