-- A worked row: a main procedure that calls another in a loop, which has an array of as many elements as a variable
-- says, and doubles that.
use Rattle.std.specs.Prelude.{ℕ, suc, pos, ◌+◌, ◌-◌, ◌*◌, ◌^◌, ◌<◌, ◌≡◌, List, [], ◌∷◌, length, map, None, Option, Some}
use Rattle.std.specs.Prelude.{slice_index}
use Rattle.rv_meaning.specs.Machine.{memory_size}
use Rattle.rv_meaning.specs.Memory.{bytes_of_words}
use Rattle.pli_typing.specs.TypedTree as Y
use Rattle.pli_meaning.specs.declared.outcome.End.TheVariants as E
use Rattle.pli_meaning.specs.declared.outcome.Limit.TheVariants as L
use Rattle.pli_meaning.specs.Control.{Label}
use Rattle.pli_meaning.specs.Executing.{meaning, run}
use Rattle.pli_meaning.specs.StorageState.{first_state}
use Rattle.pli_serving.specs.Templates.{template_of}
use Rattle.pli_coding.specs.Assembly.{Code, DataPlace, Mark, ProcedureEntry, size_of}
use Rattle.pli_coding.specs.Entries.{variables_code}
use Rattle.pli_coding.specs.Environments.{Environment}
use Rattle.pli_coding.specs.Images.{code_of, environment_of, linked_code, raise_code}
use Rattle.pli_coding.specs.Linking.{links_of, place_of}
use Rattle.pli_coding.specs.Procedures.{procedure_environment}
use Rattle.pli_coding.specs.SignatureTable.{table_of}
use Rattle.pli_coding.specs.Statements.{block_held, block_words}
use Rattle.pli_coding.specs.StaticForms.{bounds_datum}
use Rattle.storage_relation.specs.Fills.{Fills}
use Rattle.storage_relation.specs.Stored.{AreTold}
use Rattle.activation_relation.specs.Layers.{services_of}
use Rattle.run_steps.specs.Reach.{Comes}
use Rattle.program_runs.specs.Procedures.{Procedure, procedure_code}
use Rattle.program_runs.specs.Rows.{row_head}
use Rattle.program_runs.specs.Starts.{Image, first_family, image_parts, start_of, start_point, never_in}
use Rattle.expression_runs.specs.Assignments.{assignment}
use Rattle.expression_runs.specs.Variables.{Spot, number_declared, whole}
use Rattle.extent_runs.specs.Arrays.{array_of, array_template, only_place}
use Rattle.extent_runs.specs.Extents.{Extent, bounds_of}
use Rattle.extent_runs.specs.Lists.{list_words}

-- ---- the program: DECLARE X FIXED BINARY(31); P: PROCEDURE; DECLARE A(X) FIXED BINARY(31); X = X + X; END P;
-- X = 100000; L: CALL P; GOTO L;

abbrev pub grow_spot : Spot
grow_spot = record { block = 0; level = 0; index = 0 }

abbrev pub grow_value : Y.Number
grow_value = Y.NumberIn (whole grow_spot)

abbrev pub grow_extent : Extent
grow_extent = record { value = grow_value; lower = pos 1; need = 0 }

abbrev pub array_base : Y.DeclaredVariable
array_base =
    record {
      class = Y.AutomaticClass;
      members = record { depth = 0; dimensions = 1 } ∷ [];
      leaves = [];
      refer = None;
      evaluations = [];
    }

abbrev pub grow_declared : Y.DeclaredVariable
grow_declared = array_of array_base 31 grow_extent

abbrev pub grow_label : Label
grow_label = 76 ∷ []

abbrev pub grow_first : Y.Stmt
grow_first = assignment grow_spot (Y.NumberConstant 100000) 4

abbrev pub grow_call : Y.Stmt
grow_call = Y.CallProcedure (Y.Calling 1 0 Y.NoArgument) 5

abbrev pub grow_back : Y.Stmt
grow_back = Y.Goto 0 grow_label 6

abbrev pub grow_end : Y.Stmts
grow_end = Y.StmtThen [] grow_back (Y.EndOfList [])

abbrev pub grow_rest : Y.Stmts
grow_rest = Y.StmtThen (grow_label ∷ []) grow_call grow_end

abbrev pub grow_body : Y.Stmts
grow_body = Y.StmtThen [] grow_first grow_rest

abbrev pub grow_twice : Y.Number
grow_twice = Y.Calculated Y.Sum grow_value grow_value

abbrev pub inner_first : Y.Stmt
inner_first = assignment grow_spot grow_twice 3

abbrev pub inner_body : Y.Stmts
inner_body = Y.StmtThen [] inner_first (Y.EndOfList [])

abbrev pub grow_procedure : Y.Procedure
grow_procedure = record { block = Y.BlockOf (row_head 1 1 2) inner_body; parameters = []; result = None }

abbrev pub grow_program : Y.Program
grow_program =
    record {
      variables = (number_declared [] ∷ []) ∷ (grow_declared ∷ []) ∷ [];
      procedures =
          record { block = Y.BlockOf (row_head 0 0 1) grow_body; parameters = []; result = None }
          ∷ grow_procedure ∷ [];
    }

-- ---- its image

abbrev pub grow_environment : Environment
grow_environment = procedure_environment (row_head 0 0 1) (environment_of image_parts grow_program)

abbrev pub inner_environment : Environment
inner_environment = procedure_environment (row_head 1 1 2) (environment_of image_parts grow_program)

abbrev pub grow_main : Procedure
grow_main =
    record {
      head = row_head 0 0 1;
      body = grow_body;
      words = block_words grow_environment 0 grow_body;
      saved = block_held grow_environment 0 grow_body;
      variables = variables_code grow_environment 1;
    }

abbrev pub grow_inner : Procedure
grow_inner =
    record {
      head = row_head 1 1 2;
      body = inner_body;
      words = block_words inner_environment 1 inner_body;
      saved = block_held inner_environment 1 inner_body;
      variables = variables_code inner_environment 2;
    }

abbrev pub grow_code : Code
grow_code = code_of image_parts grow_program

abbrev pub main_coded : Code
main_coded = Mark (ProcedureEntry 0) ∷ procedure_code grow_environment grow_main

abbrev pub inner_coded : Code
inner_coded = Mark (ProcedureEntry 1) ∷ procedure_code inner_environment grow_inner

abbrev pub grow_entry : ℕ
grow_entry = size_of (start_of 0) + size_of raise_code

abbrev pub inner_entry : ℕ
inner_entry = grow_entry + size_of main_coded

-- where the list of the extent's only place stands in static data, and its bytes
abbrev pub grow_at : ℕ
grow_at = place_of (links_of grow_code) (DataPlace (bounds_datum (bounds_of grow_extent) grow_declared.leaves))

abbrev pub grow_list : List ℕ
grow_list = bytes_of_words (list_words only_place)

abbrev pub IsListTold : (constants : ℕ → Option ℕ) → Type 0
IsListTold constants =
    (n : ℕ) → n < length grow_list → constants (grow_at + n) ≡ Some (slice_index grow_list n)

-- a run fills in arrays from 1 up to any number
abbrev pub grow_fills : List Fills
grow_fills = record { most = 2 ^ 31 - 1; template = λ n. array_template 31 (pos 1) (pos (suc n)) } ∷ []

abbrev pub grow_image : (constants : ℕ → Option ℕ) → (input : List ℕ) → (acts : ℕ) → Image
grow_image constants input acts =
    record {
      code = linked_code grow_code;
      links = links_of grow_code;
      units = [];
      signatures = map template_of (table_of grow_program);
      constants = constants;
      fills = grow_fills;
      input = input;
      acts = acts;
      serials = 1;
    }

pub record GrowRan : Type 0 where
  -- whatever memory, input and number of acts that are allowed, the run does what the program does, if memory has the
  -- list, and what else is told of static data
  pub runs :
      (constants : ℕ → Option ℕ) (input first : List ℕ) (acts : ℕ) → acts + 1 < 2 ^ 64 →
      length first ≡ memory_size → IsListTold constants →
      AreTold constants (4 * length (linked_code grow_code)) image_parts.stack_start first →
      Comes (linked_code grow_code) 0
      (first_family first (services_of (start_point (grow_image constants input acts))))
      (services_of (start_point (grow_image constants input acts))) (never_in (grow_image constants input acts))
      (run grow_program (suc acts) acts (first_state input))
  -- that ends in the third call, since 400,000 elements pass the limit on what is AUTOMATIC
  pub ends :
      (input : List ℕ) →
      meaning grow_program input 15
      ≡ Some (record { acts = 15; output = []; raised = []; end = E.Limit L.Automatic })
