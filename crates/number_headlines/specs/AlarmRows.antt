-- A worked row: a program of the class that signals a condition, which ends the run.
use Rattle.std.specs.Prelude.{ℕ, ◌≡◌, List, [], ◌∷◌, Some, None}
use Rattle.pli_language.specs.declared.condition.Condition.TheVariants as C
use Rattle.pli_typing.specs.TypedTree as Y
use Rattle.pli_meaning.specs.declared.outcome.End.TheVariants as E
use Rattle.pli_meaning.specs.Executing.{meaning}
use Rattle.pli_coding.specs.Images.{picture_of}
use Rattle.pli_coding.specs.SignatureTable.{table_of}
use Rattle.expression_runs.specs.Assignments.{assignment}
use Rattle.expression_runs.specs.Variables.{Spot, number_declared, whole}
use Rattle.pli_headline.specs.Headline.{Headline, parts}

-- DECLARE X FIXED BINARY(31); X = 7; IF X > 5 THEN SIGNAL ENDFILE(SYSIN); X = 0;

abbrev pub alarm_spot : Spot
alarm_spot = record { block = 1; level = 0; index = 0 }

abbrev pub alarm_value : Y.Number
alarm_value = Y.NumberIn (whole alarm_spot)

abbrev pub alarm_choice : Y.Stmt
alarm_choice = Y.If (Y.NumbersCompared Y.IsGreater alarm_value (Y.NumberConstant 5)) (Y.Signal C.Endfile 4) 4

abbrev pub alarm_body : Y.Stmts
alarm_body =
    Y.StmtThen [] (assignment alarm_spot (Y.NumberConstant 7) 3)
    (Y.StmtThen [] alarm_choice
    (Y.StmtThen [] (assignment alarm_spot (Y.NumberConstant 0) 5) (Y.EndOfList [])))

abbrev pub alarm_head : Y.BlockHead
alarm_head = record { kind = Y.ProcedureBlock; number = 1; level = 0; line = 1 }

abbrev pub alarm_main : Y.Procedure
alarm_main = record { block = Y.BlockOf alarm_head alarm_body; parameters = []; result = None }

abbrev pub alarm_program : Y.Program
alarm_program =
    record { variables = [] ∷ (number_declared [] ∷ []) ∷ []; procedures = alarm_main ∷ [] }

pub record AlarmKept : Type 0 where
  pub headline : Headline alarm_program (picture_of parts alarm_program) (table_of alarm_program)
  -- no unit is in force, so ERROR is raised, too, and the last statement isn't come to
  pub ends :
      (input : List ℕ) →
      meaning alarm_program input 20
      ≡ Some (record {
        acts = 7;
        output = [];
        raised = (C.Endfile, 40) ∷ (C.Error, 40) ∷ [];
        end = E.Error 40 4;
      })
