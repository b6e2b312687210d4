-- A worked row: a main procedure that allocates a CONTROLLED number twice, and frees it once more often.
use Rattle.std.specs.Prelude.{ℕ, zero, suc, ◌+◌, ◌^◌, ◌<◌, ◌≡◌, List, [], ◌∷◌, length, map, None, Option, Some}
use Rattle.rv_meaning.specs.Machine.{memory_size}
use Rattle.pli_typing.specs.TypedTree as Y
use Rattle.pli_meaning.specs.declared.outcome.End.TheVariants as E
use Rattle.pli_meaning.specs.Executing.{meaning, run}
use Rattle.pli_meaning.specs.StorageState.{first_state}
use Rattle.pli_serving.specs.Templates.{template_of}
use Rattle.pli_coding.specs.Assembly.{Code, Mark, ProcedureEntry, size_of}
use Rattle.pli_coding.specs.Entries.{variables_code}
use Rattle.pli_coding.specs.Environments.{Environment}
use Rattle.pli_coding.specs.Images.{code_of, environment_of, linked_code, raise_code}
use Rattle.pli_coding.specs.Linking.{links_of}
use Rattle.pli_coding.specs.Procedures.{procedure_environment}
use Rattle.pli_coding.specs.SignatureTable.{table_of}
use Rattle.pli_coding.specs.Statements.{block_held, block_words}
use Rattle.storage_relation.specs.Controlled.{Variable}
use Rattle.storage_relation.specs.Versions.{no_constants}
use Rattle.activation_relation.specs.Layers.{services_of}
use Rattle.run_steps.specs.Reach.{Comes}
use Rattle.program_runs.specs.Procedures.{Procedure, procedure_code}
use Rattle.program_runs.specs.Rows.{row_head}
use Rattle.program_runs.specs.Starts.{Image, first_family, image_parts, start_of, start_point, never_in}
use Rattle.expression_runs.specs.Variables.{Spot}
use Rattle.controlled_runs.specs.Allocations.{allocation, controlled_declared}
use Rattle.controlled_runs.specs.Freeing.{freeing}
use Rattle.controlled_runs.specs.Lists.{listed}

-- ---- the program: DECLARE C FIXED BINARY(31) CONTROLLED; ALLOCATE C; ALLOCATE C; FREE C; FREE C; FREE C;

abbrev pub stack_spot : Spot
stack_spot = record { block = 0; level = 0; index = 0 }

-- the only one, whose number is 0
abbrev pub stack_listed : ℕ → Option Variable
stack_listed zero = Some (listed stack_spot)
stack_listed (suc number) = None

abbrev pub stack_last : Y.Stmts
stack_last = Y.StmtThen [] (freeing stack_spot 7) (Y.EndOfList [])

abbrev pub stack_fourth : Y.Stmts
stack_fourth = Y.StmtThen [] (freeing stack_spot 6) stack_last

abbrev pub stack_third : Y.Stmts
stack_third = Y.StmtThen [] (freeing stack_spot 5) stack_fourth

abbrev pub stack_second : Y.Stmts
stack_second = Y.StmtThen [] (allocation stack_spot 4) stack_third

abbrev pub stack_body : Y.Stmts
stack_body = Y.StmtThen [] (allocation stack_spot 3) stack_second

abbrev pub stack_program : Y.Program
stack_program =
    record {
      variables = (controlled_declared ∷ []) ∷ [];
      procedures =
          record { block = Y.BlockOf (row_head 0 0 1) stack_body; parameters = []; result = None } ∷ [];
    }

-- ---- its image

abbrev pub stack_environment : Environment
stack_environment = procedure_environment (row_head 0 0 1) (environment_of image_parts stack_program)

abbrev pub stack_main : Procedure
stack_main =
    record {
      head = row_head 0 0 1;
      body = stack_body;
      words = block_words stack_environment 0 stack_body;
      saved = block_held stack_environment 0 stack_body;
      variables = variables_code stack_environment 1;
    }

abbrev pub stack_code : Code
stack_code = code_of image_parts stack_program

abbrev pub stack_coded : Code
stack_coded = Mark (ProcedureEntry 0) ∷ procedure_code stack_environment stack_main

abbrev pub stack_entry : ℕ
stack_entry = size_of (start_of 0) + size_of raise_code

abbrev pub stack_image : (input : List ℕ) → (acts : ℕ) → Image
stack_image input acts =
    record {
      code = linked_code stack_code;
      links = links_of stack_code;
      units = [];
      signatures = map template_of (table_of stack_program);
      constants = no_constants;
      fills = [];
      input = input;
      acts = acts;
      serials = 1;
    }

pub record StackRan : Type 0 where
  -- whatever memory, input and number of acts that are allowed, the run does what the program does
  pub runs :
      (input first : List ℕ) (acts : ℕ) → acts + 1 < 2 ^ 64 → length first ≡ memory_size →
      Comes (linked_code stack_code) 0 (first_family first (services_of (start_point (stack_image input acts))))
      (services_of (start_point (stack_image input acts))) (never_in (stack_image input acts))
      (run stack_program (suc acts) acts (first_state input))
  -- that ends, with nothing raised
  pub ends :
      (input : List ℕ) →
      meaning stack_program input 7 ≡ Some (record { acts = 7; output = []; raised = []; end = E.Finished })
