-- A worked row: a procedure is called that has an array of as many elements as a sum says, in which FIXEDOVERFLOW is
-- raised while the main procedure has a unit for it, which returns into the extent.
use Rattle.std.specs.Prelude.{ℕ, suc, pos, ◌+◌, ◌*◌, ◌^◌, ◌<◌, ◌≡◌, List, [], ◌∷◌, length, map, None, Option, Some}
use Rattle.std.specs.Prelude.{slice_index}
use Rattle.rv_meaning.specs.Machine.{memory_size}
use Rattle.pli_language.specs.declared.condition.Condition.TheVariants as C
use Rattle.pli_typing.specs.TypedTree as Y
use Rattle.pli_meaning.specs.declared.outcome.End.TheVariants as E
use Rattle.pli_meaning.specs.Executing.{meaning, run}
use Rattle.pli_meaning.specs.StorageState.{first_state}
use Rattle.pli_serving.specs.Templates.{template_of}
use Rattle.pli_coding.specs.Allocating.{act_code}
use Rattle.pli_coding.specs.Assembly.{Code, DataPlace, Mark, ProcedureEntry, size_of}
use Rattle.pli_coding.specs.Entries.{variables_code}
use Rattle.pli_coding.specs.Environments.{Environment, none_taken}
use Rattle.pli_coding.specs.Images.{code_of, environment_of, linked_code, raise_code}
use Rattle.pli_coding.specs.Linking.{links_of, place_of}
use Rattle.pli_coding.specs.Procedures.{procedure_environment}
use Rattle.pli_coding.specs.SignatureTable.{table_of}
use Rattle.pli_coding.specs.Statements.{block_held, block_words, stmt_code}
use Rattle.pli_coding.specs.StaticForms.{bounds_datum}
use Rattle.storage_relation.specs.Stored.{AreTold}
use Rattle.activation_relation.specs.Chains.{UnitPlaces}
use Rattle.activation_relation.specs.Layers.{services_of}
use Rattle.run_steps.specs.Reach.{Comes}
use Rattle.program_runs.specs.Procedures.{Procedure, begin_of, procedure_code}
use Rattle.program_runs.specs.Rows.{row_head}
use Rattle.program_runs.specs.Starts.{Image, first_family, image_parts, start_of, start_point, never_in}
use Rattle.expression_runs.specs.Assignments.{assignment}
use Rattle.expression_runs.specs.Variables.{Spot, number_declared, whole}
use Rattle.unit_runs.specs.Establishing.{OnUnit, on_of, unit_index, unit_of}
use Rattle.extent_runs.specs.Arrays.{array_of}
use Rattle.extent_runs.specs.Extents.{Extent, bounds_of}
use Rattle.extent_rows.specs.GrowRows.{array_base, grow_fills, grow_list}

-- ---- the program: DECLARE X FIXED BINARY(31); P: PROCEDURE; DECLARE A(X + X + X) FIXED BINARY(31); X = 7; END P;
-- X = 2147483647; ON FIXEDOVERFLOW BEGIN; X = 5; END; CALL P;

abbrev pub bend_spot : Spot
bend_spot = record { block = 0; level = 0; index = 0 }

abbrev pub bend_value : Y.Number
bend_value = Y.NumberIn (whole bend_spot)

abbrev pub bend_twice : Y.Number
bend_twice = Y.Calculated Y.Sum bend_value bend_value

abbrev pub bend_sum : Y.Number
bend_sum = Y.Calculated Y.Sum bend_twice bend_value

abbrev pub bend_extent : Extent
bend_extent = record { value = bend_sum; lower = pos 1; need = 1 }

abbrev pub bend_declared : Y.DeclaredVariable
bend_declared = array_of array_base 31 bend_extent

abbrev pub bend_first : Y.Stmt
bend_first = assignment bend_spot (Y.NumberConstant 2147483647) 4

abbrev pub bend_five : Y.Stmt
bend_five = assignment bend_spot (Y.NumberConstant 5) 6

abbrev pub bend_unit : OnUnit
bend_unit =
    record {
      condition = C.FixedOverflow;
      head = record { kind = Y.UnitBlock; number = 2; level = 1; line = 5 };
      body = Y.StmtThen [] bend_five (Y.EndOfList []);
      line = 5;
    }

abbrev pub bend_call : Y.Stmt
bend_call = Y.CallProcedure (Y.Calling 1 0 Y.NoArgument) 7

abbrev pub bend_end : Y.Stmts
bend_end = Y.StmtThen [] bend_call (Y.EndOfList [])

abbrev pub bend_rest : Y.Stmts
bend_rest = Y.StmtThen [] (on_of bend_unit) bend_end

abbrev pub bend_body : Y.Stmts
bend_body = Y.StmtThen [] bend_first bend_rest

abbrev pub inner_first : Y.Stmt
inner_first = assignment bend_spot (Y.NumberConstant 7) 3

abbrev pub inner_body : Y.Stmts
inner_body = Y.StmtThen [] inner_first (Y.EndOfList [])

abbrev pub bend_procedure : Y.Procedure
bend_procedure = record { block = Y.BlockOf (row_head 1 1 2) inner_body; parameters = []; result = None }

abbrev pub bend_program : Y.Program
bend_program =
    record {
      variables = (number_declared [] ∷ []) ∷ (bend_declared ∷ []) ∷ [] ∷ [];
      procedures =
          record { block = Y.BlockOf (row_head 0 0 1) bend_body; parameters = []; result = None }
          ∷ bend_procedure ∷ [];
    }

-- ---- its image

abbrev pub bend_environment : Environment
bend_environment = procedure_environment (row_head 0 0 1) (environment_of image_parts bend_program)

abbrev pub inner_environment : Environment
inner_environment = procedure_environment (row_head 1 1 2) (environment_of image_parts bend_program)

abbrev pub bend_main : Procedure
bend_main =
    record {
      head = row_head 0 0 1;
      body = bend_body;
      words = block_words bend_environment 0 bend_body;
      saved = block_held bend_environment 0 bend_body;
      variables = variables_code bend_environment 1;
    }

abbrev pub bend_inner : Procedure
bend_inner =
    record {
      head = row_head 1 1 2;
      body = inner_body;
      words = block_words inner_environment 1 inner_body;
      saved = block_held inner_environment 1 inner_body;
      variables = variables_code inner_environment 2;
    }

abbrev pub bend_code : Code
bend_code = code_of image_parts bend_program

abbrev pub main_coded : Code
main_coded = Mark (ProcedureEntry 0) ∷ procedure_code bend_environment bend_main

abbrev pub inner_coded : Code
inner_coded = Mark (ProcedureEntry 1) ∷ procedure_code inner_environment bend_inner

abbrev pub bend_entry : ℕ
bend_entry = size_of (start_of 0) + size_of raise_code

abbrev pub inner_entry : ℕ
inner_entry = bend_entry + size_of main_coded

-- the indices of the first statement and of the ON
abbrev pub bend_start : ℕ
bend_start = bend_entry + size_of (begin_of bend_main) + size_of bend_main.variables + size_of (act_code 1)

abbrev pub bend_on : ℕ
bend_on = bend_start + size_of (stmt_code bend_environment none_taken bend_first)

-- where the code of its unit stands
abbrev pub bend_units : UnitPlaces
bend_units = record { unit = unit_of bend_unit; at = 4 * unit_index bend_unit bend_on } ∷ []

-- where the list of the extent's only place stands in static data
abbrev pub bend_at : ℕ
bend_at = place_of (links_of bend_code) (DataPlace (bounds_datum (bounds_of bend_extent) bend_declared.leaves))

abbrev pub IsListTold : (constants : ℕ → Option ℕ) → Type 0
IsListTold constants =
    (n : ℕ) → n < length grow_list → constants (bend_at + n) ≡ Some (slice_index grow_list n)

abbrev pub bend_image : (constants : ℕ → Option ℕ) → (input : List ℕ) → (acts : ℕ) → Image
bend_image constants input acts =
    record {
      code = linked_code bend_code;
      links = links_of bend_code;
      units = bend_units;
      signatures = map template_of (table_of bend_program);
      constants = constants;
      fills = grow_fills;
      input = input;
      acts = acts;
      serials = 1;
    }

pub record BendRan : Type 0 where
  -- whatever memory, input and number of acts that are allowed, the run does what the program does, if memory has the
  -- list, and what else is told of static data
  pub runs :
      (constants : ℕ → Option ℕ) (input first : List ℕ) (acts : ℕ) → acts + 1 < 2 ^ 64 →
      length first ≡ memory_size → IsListTold constants →
      AreTold constants (4 * length (linked_code bend_code)) image_parts.stack_start first →
      Comes (linked_code bend_code) 0
      (first_family first (services_of (start_point (bend_image constants input acts))))
      (services_of (start_point (bend_image constants input acts))) (never_in (bend_image constants input acts))
      (run bend_program (suc acts) acts (first_state input))
  -- that ends with one condition raised: the bound is 3, of what the first sum left and the 5 that the unit assigned
  pub ends :
      (input : List ℕ) →
      meaning bend_program input 11
      ≡ Some (record { acts = 11; output = []; raised = (C.FixedOverflow, 20) ∷ []; end = E.Finished })
