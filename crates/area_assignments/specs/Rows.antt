-- A worked row: a main procedure that allocates a number in an area, assigns the area to another, and empties it: the
-- pointer then points to nothing that lives, which is told where it is read again.
use Rattle.std.specs.Prelude.{ℕ, suc, pos, ◌+◌, ◌^◌, ◌<◌, ◌≡◌, List, [], ◌∷◌, length, map, None, Some}
use Rattle.rv_meaning.specs.Machine.{memory_size}
use Rattle.pli_language.specs.declared.condition.Condition.TheVariants as C
use Rattle.pli_typing.specs.TypedTree as Y
use Rattle.pli_meaning.specs.declared.outcome.End.TheVariants as E
use Rattle.pli_meaning.specs.Executing.{meaning, run}
use Rattle.pli_meaning.specs.StorageState.{first_state}
use Rattle.pli_serving.specs.Templates.{template_of}
use Rattle.pli_coding.specs.Assembly.{Code, Mark, ProcedureEntry, size_of}
use Rattle.pli_coding.specs.Entries.{variables_code}
use Rattle.pli_coding.specs.Environments.{Environment}
use Rattle.pli_coding.specs.Images.{code_of, environment_of, linked_code, raise_code}
use Rattle.pli_coding.specs.Linking.{links_of}
use Rattle.pli_coding.specs.Procedures.{procedure_environment}
use Rattle.pli_coding.specs.SignatureTable.{table_of}
use Rattle.pli_coding.specs.Statements.{block_held, block_words}
use Rattle.storage_relation.specs.Versions.{no_constants}
use Rattle.activation_relation.specs.Layers.{services_of}
use Rattle.run_steps.specs.Reach.{Comes}
use Rattle.program_runs.specs.Procedures.{Procedure, procedure_code}
use Rattle.program_runs.specs.Rows.{row_head}
use Rattle.program_runs.specs.Starts.{Image, first_family, image_parts, start_of, start_point, never_in}
use Rattle.program_runs.specs.Variables.{Declared}
use Rattle.expression_runs.specs.Variables.{Spot}
use Rattle.area_runs.specs.Allocations.{allocation}
use Rattle.area_runs.specs.Based.{based_declared, pointer_declared, through}
use Rattle.area_runs.specs.BasedAssignments.{assignment}
use Rattle.area_runs.specs.Rows.{area_declared, area_made, area_spot, based_spot, locate_label, locate_sum}
use Rattle.area_runs.specs.Rows.{pointer_made, pointer_spot}
use Rattle.area_assignments.specs.Copying.{copying}
use Rattle.area_assignments.specs.Emptying.{emptying}

-- ---- the program: DECLARE A AREA(64), P POINTER, N FIXED BINARY(31) BASED, B AREA(64); ALLOCATE N SET(P) IN(A);
-- P->N = 7; B = A; L: P->N = P->N + P->N; A = EMPTY(); GOTO L;

abbrev pub other_spot : Spot
other_spot = record { block = 0; level = 0; index = 3 }

abbrev pub clear_allocation : Y.Stmt
clear_allocation = allocation based_spot pointer_spot area_spot 3

abbrev pub clear_first : Y.Stmt
clear_first = assignment pointer_spot based_spot (Y.NumberConstant 7) 4

abbrev pub clear_copy : Y.Stmt
clear_copy = copying other_spot area_spot 5

abbrev pub clear_again : Y.Stmt
clear_again = assignment pointer_spot based_spot locate_sum 6

abbrev pub clear_empty : Y.Stmt
clear_empty = emptying area_spot 7

abbrev pub clear_back : Y.Stmt
clear_back = Y.Goto 0 locate_label 8

abbrev pub clear_end : Y.Stmts
clear_end = Y.StmtThen [] clear_back (Y.EndOfList [])

abbrev pub clear_then : Y.Stmts
clear_then = Y.StmtThen [] clear_empty clear_end

abbrev pub clear_last : Y.Stmts
clear_last = Y.StmtThen (locate_label ∷ []) clear_again clear_then

abbrev pub clear_copied : Y.Stmts
clear_copied = Y.StmtThen [] clear_copy clear_last

abbrev pub clear_rest : Y.Stmts
clear_rest = Y.StmtThen [] clear_first clear_copied

abbrev pub clear_body : Y.Stmts
clear_body = Y.StmtThen [] clear_allocation clear_rest

abbrev pub clear_program : Y.Program
clear_program =
    record {
      variables = (area_declared ∷ pointer_declared ∷ based_declared ∷ area_declared ∷ []) ∷ [];
      procedures =
          record { block = Y.BlockOf (row_head 0 0 1) clear_body; parameters = []; result = None } ∷ [];
    }

-- ---- its variables: the second area stands behind the pointer

abbrev pub other_made : Declared
other_made = record { index = 3; declared = area_declared; number = 0; place = 272 }

-- ---- its image

abbrev pub clear_environment : Environment
clear_environment = procedure_environment (row_head 0 0 1) (environment_of image_parts clear_program)

abbrev pub clear_main : Procedure
clear_main =
    record {
      head = row_head 0 0 1;
      body = clear_body;
      words = block_words clear_environment 0 clear_body;
      saved = block_held clear_environment 0 clear_body;
      variables = variables_code clear_environment 1;
    }

abbrev pub clear_code : Code
clear_code = code_of image_parts clear_program

abbrev pub clear_coded : Code
clear_coded = Mark (ProcedureEntry 0) ∷ procedure_code clear_environment clear_main

abbrev pub clear_entry : ℕ
clear_entry = size_of (start_of 0) + size_of raise_code

abbrev pub clear_image : (input : List ℕ) → (acts : ℕ) → Image
clear_image input acts =
    record {
      code = linked_code clear_code;
      links = links_of clear_code;
      units = [];
      signatures = map template_of (table_of clear_program);
      constants = no_constants;
      fills = [];
      input = input;
      acts = acts;
      serials = 3;
    }

pub record ClearRan : Type 0 where
  -- whatever memory, input and number of acts that are allowed, the run does what the program does
  pub runs :
      (input first : List ℕ) (acts : ℕ) → acts + 1 < 2 ^ 64 → length first ≡ memory_size →
      Comes (linked_code clear_code) 0 (first_family first (services_of (start_point (clear_image input acts))))
      (services_of (start_point (clear_image input acts))) (never_in (clear_image input acts))
      (run clear_program (suc acts) acts (first_state input))
  -- that ends in the second turn, since the area was emptied
  pub ends :
      (input : List ℕ) →
      meaning clear_program input 10
      ≡ Some (record { acts = 10; output = []; raised = (C.Error, 101) ∷ []; end = E.Error 101 6 })
