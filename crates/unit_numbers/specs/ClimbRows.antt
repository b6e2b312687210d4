-- A worked row: a program of the class with a procedure that calls itself until its unit is raised, which leaves all of
-- its blocks by a jump.
use Rattle.std.specs.Prelude.{ℕ, ◌≡◌, List, [], ◌∷◌, Some, None}
use Rattle.pli_language.specs.declared.condition.Condition.TheVariants as C
use Rattle.pli_typing.specs.TypedTree as Y
use Rattle.pli_meaning.specs.declared.outcome.End.TheVariants as E
use Rattle.pli_meaning.specs.Control.{Label}
use Rattle.pli_meaning.specs.Executing.{meaning}
use Rattle.pli_coding.specs.Images.{picture_of}
use Rattle.pli_coding.specs.SignatureTable.{table_of}
use Rattle.expression_runs.specs.Assignments.{assignment}
use Rattle.expression_runs.specs.Variables.{Spot, number_declared, whole}
use Rattle.pli_headline.specs.Headline.{Headline, parts}

-- DECLARE X FIXED BINARY(31); P: PROCEDURE; X = X + X; CALL P; END P;
-- X = 600000000; ON FIXEDOVERFLOW GOTO DONE; CALL P; DONE: ;

abbrev pub climb_spot : Spot
climb_spot = record { block = 1; level = 0; index = 0 }

abbrev pub climb_value : Y.Number
climb_value = Y.NumberIn (whole climb_spot)

abbrev pub climb_label : Label
climb_label = 68 ∷ 79 ∷ 78 ∷ 69 ∷ []

abbrev pub head_at : (number level line : ℕ) → Y.BlockHead
head_at number level line = record { kind = Y.ProcedureBlock; number = number; level = level; line = line }

abbrev pub twice_body : Y.Stmts
twice_body =
    Y.StmtThen [] (assignment climb_spot (Y.Calculated Y.Sum climb_value climb_value) 3)
    (Y.StmtThen [] (Y.CallProcedure (Y.Calling 2 0 Y.NoArgument) 4) (Y.EndOfList []))

abbrev pub twice_procedure : Y.Procedure
twice_procedure = record { block = Y.BlockOf (head_at 2 1 3) twice_body; parameters = []; result = None }

abbrev pub gone_head : Y.BlockHead
gone_head = record { kind = Y.SimpleUnit; number = 1; level = 1; line = 6 }

abbrev pub gone_body : Y.Stmts
gone_body = Y.StmtThen [] (Y.Goto 0 climb_label 6) (Y.EndOfList [])

abbrev pub climb_body : Y.Stmts
climb_body =
    Y.StmtThen [] (assignment climb_spot (Y.NumberConstant 600000000) 5)
    (Y.StmtThen [] (Y.OnUnit C.FixedOverflow (Y.BlockOf gone_head gone_body) 6)
    (Y.StmtThen [] (Y.CallProcedure (Y.Calling 2 0 Y.NoArgument) 7)
    (Y.StmtThen (climb_label ∷ []) (Y.Null 8) (Y.EndOfList []))))

abbrev pub climb_main : Y.Procedure
climb_main = record { block = Y.BlockOf (head_at 1 0 1) climb_body; parameters = []; result = None }

abbrev pub climb_program : Y.Program
climb_program =
    record {
      variables = [] ∷ (number_declared [] ∷ []) ∷ [] ∷ [];
      procedures = climb_main ∷ twice_procedure ∷ [];
    }

pub record ClimbKept : Type 0 where
  pub headline : Headline climb_program (picture_of parts climb_program) (table_of climb_program)
  -- it raises FIXEDOVERFLOW in the second block of the procedure, and ends behind the label
  pub ends :
      (input : List ℕ) →
      meaning climb_program input 14
      ≡ Some (record { acts = 14; output = []; raised = (C.FixedOverflow, 20) ∷ []; end = E.Finished })
