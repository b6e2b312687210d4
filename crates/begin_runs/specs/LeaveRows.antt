-- A worked row: a RETURN in two begin blocks, one inside the other, of a main procedure.
use Rattle.std.specs.Prelude.{ℕ, suc, ◌+◌, ◌^◌, ◌<◌, ◌≡◌, List, [], ◌∷◌, length, None, Some}
use Rattle.rv_meaning.specs.Machine.{memory_size}
use Rattle.pli_typing.specs.TypedTree as Y
use Rattle.pli_meaning.specs.declared.outcome.End.TheVariants as E
use Rattle.pli_meaning.specs.Executing.{entered, meaning, run}
use Rattle.pli_meaning.specs.StorageState.{first_state}
use Rattle.pli_coding.specs.Assembly.{Code, Mark, ProcedureEntry, size_of}
use Rattle.pli_coding.specs.Environments.{Environment}
use Rattle.pli_coding.specs.Images.{code_of, environment_of, linked_code, raise_code}
use Rattle.pli_coding.specs.Linking.{links_of}
use Rattle.pli_coding.specs.Procedures.{procedure_environment}
use Rattle.storage_relation.specs.Versions.{no_constants}
use Rattle.activation_relation.specs.Layers.{services_of}
use Rattle.run_steps.specs.Reach.{Comes}
use Rattle.program_runs.specs.Procedures.{Procedure, procedure_code}
use Rattle.program_runs.specs.Rows.{row_head}
use Rattle.program_runs.specs.Starts.{Image, first_family, image_parts, start_of, start_point, never_in}
use Rattle.begin_runs.specs.BeginBlocks.{Inner}

-- ---- the program: BEGIN; BEGIN; RETURN; END; END;

abbrev pub leave_head : (number level line : ℕ) → Y.BlockHead
leave_head number level line = record { kind = Y.BeginBlock; number = number; level = level; line = line }

abbrev pub leave_return : Y.Stmt
leave_return = Y.Return 4

abbrev pub last_body : Y.Stmts
last_body = Y.StmtThen [] leave_return (Y.EndOfList [])

abbrev pub leave_last : Y.Stmt
leave_last = Y.Begin (Y.BlockOf (leave_head 2 2 3) last_body)

abbrev pub first_body : Y.Stmts
first_body = Y.StmtThen [] leave_last (Y.EndOfList [])

abbrev pub leave_first : Y.Stmt
leave_first = Y.Begin (Y.BlockOf (leave_head 1 1 2) first_body)

abbrev pub leave_body : Y.Stmts
leave_body = Y.StmtThen [] leave_first (Y.EndOfList [])

abbrev pub leave_main : Procedure
leave_main = record { head = row_head 0 0 1; body = leave_body; words = 0; saved = 0; variables = [] }

abbrev pub leave_program : Y.Program
leave_program =
    record {
      variables = [];
      procedures =
          record { block = Y.BlockOf (row_head 0 0 1) leave_body; parameters = []; result = None } ∷ [];
    }

-- ---- its image

abbrev pub leave_environment : Environment
leave_environment = procedure_environment (row_head 0 0 1) (environment_of image_parts leave_program)

abbrev pub leave_inner : Y.BlockHead → Y.Stmts → (more : ℕ) → Inner
leave_inner head body more =
    record {
      head = head;
      body = body;
      words = 0;
      variables = [];
      around = record { program = leave_program; enter = entered leave_program more; turns = suc more; line = 0 };
      made = λ q. q;
    }

abbrev pub leave_code : Code
leave_code = code_of image_parts leave_program

abbrev pub leave_coded : Code
leave_coded = Mark (ProcedureEntry 0) ∷ procedure_code leave_environment leave_main

abbrev pub leave_entry : ℕ
leave_entry = size_of (start_of 0) + size_of raise_code

abbrev pub leave_image : (input : List ℕ) → (acts : ℕ) → Image
leave_image input acts =
    record {
      code = linked_code leave_code;
      links = links_of leave_code;
      units = [];
      signatures = [];
      constants = no_constants;
      fills = [];
      input = input;
      acts = acts;
      serials = 1;
    }

pub record LeaveRan : Type 0 where
  pub runs :
      (input first : List ℕ) (acts : ℕ) → acts + 1 < 2 ^ 64 → length first ≡ memory_size →
      Comes (linked_code leave_code) 0 (first_family first (services_of (start_point (leave_image input acts))))
      (services_of (start_point (leave_image input acts))) (never_in (leave_image input acts))
      (run leave_program (suc acts) acts (first_state input))
  -- that ends with its fifth act, since the RETURN ends both begin blocks and the procedure
  pub ends :
      (input : List ℕ) →
      meaning leave_program input 5 ≡ Some (record { acts = 5; output = []; raised = []; end = E.Finished })
