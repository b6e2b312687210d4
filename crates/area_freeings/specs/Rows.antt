-- A worked row: a main procedure that allocates a number in an area, and frees it again and again: the second time
-- nothing lives there.
use Rattle.std.specs.Prelude.{ℕ, suc, pos, ◌+◌, ◌^◌, ◌<◌, ◌≡◌, List, [], ◌∷◌, length, map, None, Some}
use Rattle.rv_meaning.specs.Machine.{memory_size}
use Rattle.pli_language.specs.declared.condition.Condition.TheVariants as C
use Rattle.pli_typing.specs.TypedTree as Y
use Rattle.pli_meaning.specs.declared.outcome.End.TheVariants as E
use Rattle.pli_meaning.specs.Executing.{meaning, run}
use Rattle.pli_meaning.specs.StorageState.{first_state}
use Rattle.pli_serving.specs.Templates.{template_of}
use Rattle.pli_coding.specs.Assembly.{Code, Mark, ProcedureEntry, size_of}
use Rattle.pli_coding.specs.Entries.{variables_code}
use Rattle.pli_coding.specs.Environments.{Environment}
use Rattle.pli_coding.specs.Images.{code_of, environment_of, linked_code, raise_code}
use Rattle.pli_coding.specs.Linking.{links_of}
use Rattle.pli_coding.specs.Procedures.{procedure_environment}
use Rattle.pli_coding.specs.SignatureTable.{table_of}
use Rattle.pli_coding.specs.Statements.{block_held, block_words}
use Rattle.storage_relation.specs.Versions.{no_constants}
use Rattle.activation_relation.specs.Layers.{services_of}
use Rattle.run_steps.specs.Reach.{Comes}
use Rattle.program_runs.specs.Procedures.{Procedure, procedure_code}
use Rattle.program_runs.specs.Rows.{row_head}
use Rattle.program_runs.specs.Starts.{Image, first_family, image_parts, start_of, start_point, never_in}
use Rattle.area_runs.specs.Based.{based_declared, pointer_declared}
use Rattle.area_runs.specs.Rows.{area_declared, area_spot, based_spot, locate_allocation, locate_label, pointer_spot}
use Rattle.area_freeings.specs.Freeing.{freeing}

-- ---- the program: DECLARE A AREA(64), P POINTER, N FIXED BINARY(31) BASED; ALLOCATE N SET(P) IN(A); L: FREE P->N;
-- GOTO L;

abbrev pub release_again : Y.Stmt
release_again = freeing pointer_spot based_spot 5

abbrev pub release_back : Y.Stmt
release_back = Y.Goto 0 locate_label 6

abbrev pub release_end : Y.Stmts
release_end = Y.StmtThen [] release_back (Y.EndOfList [])

abbrev pub release_last : Y.Stmts
release_last = Y.StmtThen (locate_label ∷ []) release_again release_end

abbrev pub release_body : Y.Stmts
release_body = Y.StmtThen [] locate_allocation release_last

abbrev pub release_program : Y.Program
release_program =
    record {
      variables = (area_declared ∷ pointer_declared ∷ based_declared ∷ []) ∷ [];
      procedures =
          record { block = Y.BlockOf (row_head 0 0 1) release_body; parameters = []; result = None } ∷ [];
    }

-- ---- its image

abbrev pub release_environment : Environment
release_environment = procedure_environment (row_head 0 0 1) (environment_of image_parts release_program)

abbrev pub release_main : Procedure
release_main =
    record {
      head = row_head 0 0 1;
      body = release_body;
      words = block_words release_environment 0 release_body;
      saved = block_held release_environment 0 release_body;
      variables = variables_code release_environment 1;
    }

abbrev pub release_code : Code
release_code = code_of image_parts release_program

abbrev pub release_coded : Code
release_coded = Mark (ProcedureEntry 0) ∷ procedure_code release_environment release_main

abbrev pub release_entry : ℕ
release_entry = size_of (start_of 0) + size_of raise_code

abbrev pub release_image : (input : List ℕ) → (acts : ℕ) → Image
release_image input acts =
    record {
      code = linked_code release_code;
      links = links_of release_code;
      units = [];
      signatures = map template_of (table_of release_program);
      constants = no_constants;
      fills = [];
      input = input;
      acts = acts;
      serials = 2;
    }

pub record ReleaseRan : Type 0 where
  -- whatever memory, input and number of acts that are allowed, the run does what the program does
  pub runs :
      (input first : List ℕ) (acts : ℕ) → acts + 1 < 2 ^ 64 → length first ≡ memory_size →
      Comes (linked_code release_code) 0 (first_family first (services_of (start_point (release_image input acts))))
      (services_of (start_point (release_image input acts))) (never_in (release_image input acts))
      (run release_program (suc acts) acts (first_state input))
  -- that ends in the second turn, since what is freed lives no longer
  pub ends :
      (input : List ℕ) →
      meaning release_program input 7
      ≡ Some (record { acts = 7; output = []; raised = (C.Error, 101) ∷ []; end = E.Error 101 5 })
