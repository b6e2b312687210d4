-- A worked row: a main procedure that calls a procedure again and again. Where its code stands is not computed: it
-- follows from the laws.
use Rattle.std.specs.Prelude.{ℕ, suc, ◌+◌, ◌^◌, ◌<◌, ◌≡◌, List, [], ◌∷◌, length, None, Some}
use Rattle.rv_meaning.specs.Machine.{memory_size}
use Rattle.pli_typing.specs.TypedTree as Y
use Rattle.pli_meaning.specs.declared.outcome.End.TheVariants as E
use Rattle.pli_meaning.specs.Control.{Label}
use Rattle.pli_meaning.specs.Executing.{meaning, run}
use Rattle.pli_meaning.specs.StorageState.{first_state}
use Rattle.pli_coding.specs.Images.{linked_code}
use Rattle.activation_relation.specs.Layers.{services_of}
use Rattle.run_steps.specs.Reach.{Comes}
use Rattle.program_runs.specs.Starts.{first_family, start_point, never_in}
use Rattle.program_places.specs.Programs.{Main, Run, code_for, image_for}

-- ---- L: CALL P; GOTO L; with P: PROCEDURE; RETURN; END P; inside

abbrev pub turning_label : Label
turning_label = 76 ∷ []

abbrev pub turning_head : Y.BlockHead
turning_head = record { kind = Y.ProcedureBlock; number = 1; level = 0; line = 1 }

abbrev pub turning_call : Y.Stmt
turning_call = Y.CallProcedure (Y.Calling 2 0 Y.NoArgument) 2

abbrev pub turning_rest : Y.Stmts
turning_rest = Y.StmtThen [] (Y.Goto 0 turning_label 3) (Y.EndOfList [])

abbrev pub turning_body : Y.Stmts
turning_body = Y.StmtThen (turning_label ∷ []) turning_call turning_rest

abbrev pub called_head : Y.BlockHead
called_head = record { kind = Y.ProcedureBlock; number = 2; level = 1; line = 4 }

abbrev pub called_body : Y.Stmts
called_body = Y.StmtThen [] (Y.Return 5) (Y.EndOfList [])

abbrev pub bare_procedure : Y.BlockHead → Y.Stmts → Y.Procedure
bare_procedure head body = record { block = Y.BlockOf head body; parameters = []; result = None }

abbrev pub turning_procedure : Main
turning_procedure =
    record { head = turning_head; body = turning_body; others = bare_procedure called_head called_body ∷ [] }

abbrev pub turning_program : Y.Program
turning_program =
    record {
      variables = [] ∷ [] ∷ [] ∷ [];
      procedures = bare_procedure turning_head turning_body ∷ bare_procedure called_head called_body ∷ [];
    }

abbrev pub turning_run : (input : List ℕ) → (acts : ℕ) → Run
turning_run input acts = record { units = []; input = input; acts = acts; serials = 1 }

pub record TurningRan : Type 0 where
  -- whatever memory, input and number of acts that are allowed, the run does what the program does
  pub runs :
      (input first : List ℕ) (acts : ℕ) → acts + 1 < 2 ^ 64 → length first ≡ memory_size →
      Comes (linked_code (code_for turning_program)) 0
      (first_family first (services_of (start_point (image_for turning_program (turning_run input acts)))))
      (services_of (start_point (image_for turning_program (turning_run input acts))))
      (never_in (image_for turning_program (turning_run input acts)))
      (run turning_program (suc acts) acts (first_state input))
  -- it goes on after its ninth act
  pub goes_on :
      (input : List ℕ) →
      meaning turning_program input 9
      ≡ Some (record { acts = 9; output = []; raised = []; end = E.Running })
