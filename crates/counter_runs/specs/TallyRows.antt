-- A worked row: a main procedure whose DO counts in an element of an array, by a subscript that a function returns, in
-- which FIXEDOVERFLOW is raised while the main procedure has a unit for it.
use Rattle.std.specs.Prelude.{ℕ, suc, pos, ◌+◌, ◌*◌, ◌^◌, ◌<◌, ◌≡◌, List, [], ◌∷◌, length, map, None, Some}
use Rattle.rv_meaning.specs.Machine.{memory_size}
use Rattle.pli_language.specs.declared.condition.Condition.TheVariants as C
use Rattle.pli_typing.specs.Signatures.{Bounds}
use Rattle.pli_typing.specs.TypedTree as Y
use Rattle.pli_meaning.specs.declared.outcome.End.TheVariants as E
use Rattle.pli_meaning.specs.Executing.{meaning, run}
use Rattle.pli_meaning.specs.StorageState.{first_state}
use Rattle.pli_serving.specs.Templates.{template_of}
use Rattle.pli_coding.specs.Allocating.{act_code}
use Rattle.pli_coding.specs.Assembly.{Code, Mark, ProcedureEntry, size_of}
use Rattle.pli_coding.specs.Entries.{variables_code}
use Rattle.pli_coding.specs.Environments.{Environment, none_taken}
use Rattle.pli_coding.specs.Images.{code_of, environment_of, linked_code, raise_code}
use Rattle.pli_coding.specs.Linking.{links_of}
use Rattle.pli_coding.specs.Procedures.{procedure_environment}
use Rattle.pli_coding.specs.SignatureTable.{table_of}
use Rattle.pli_coding.specs.Statements.{block_held, block_words, stmt_code}
use Rattle.storage_relation.specs.Versions.{no_constants}
use Rattle.activation_relation.specs.Chains.{UnitPlaces}
use Rattle.activation_relation.specs.Layers.{services_of}
use Rattle.run_steps.specs.Reach.{Comes}
use Rattle.program_runs.specs.Procedures.{Procedure, begin_of, procedure_code}
use Rattle.program_runs.specs.Rows.{row_head}
use Rattle.program_runs.specs.Starts.{Image, first_family, image_parts, start_of, start_point, never_in}
use Rattle.program_runs.specs.Variables.{Declared}
use Rattle.expression_runs.specs.Assignments.{assignment}
use Rattle.expression_runs.specs.Variables.{Spot, number_declared, whole}
use Rattle.function_runs.specs.Functions.{function_code}
use Rattle.function_runs.specs.Returns.{return_of}
use Rattle.element_runs.specs.Arrays.{array_declared, element}
use Rattle.unit_runs.specs.Establishing.{OnUnit, on_of, unit_index, unit_of}
use Rattle.counter_runs.specs.Counts.{Counting, count_of}

-- ---- the program

-- DECLARE A(3) FIXED BINARY(31), X FIXED BINARY(31); F: PROCEDURE RETURNS(FIXED BINARY(31)); RETURN (X + X + 3); END F;
-- X = 2147483647; ON FIXEDOVERFLOW BEGIN; X = 0; END; DO A(F()) = 1 TO 3; X = X + X; END;

abbrev pub tally_bounds : Bounds
tally_bounds = record { lower = pos 1; upper = pos 3 }

abbrev pub tally_array : Spot
tally_array = record { block = 0; level = 0; index = 0 }

abbrev pub tally_spot : Spot
tally_spot = record { block = 0; level = 0; index = 1 }

abbrev pub tally_value : Y.Number
tally_value = Y.NumberIn (whole tally_spot)

abbrev pub tally_twice : Y.Number
tally_twice = Y.Calculated Y.Sum tally_value tally_value

abbrev pub tally_more : Y.Number
tally_more = Y.Calculated Y.Sum tally_twice (Y.NumberConstant 3)

abbrev pub told_by_function : Y.Number
told_by_function = Y.NumberFrom (Y.Calling 1 0 Y.NoArgument)

abbrev pub tally_first : Y.Stmt
tally_first = assignment tally_spot (Y.NumberConstant 2147483647) 4

abbrev pub tally_zero : Y.Stmt
tally_zero = assignment tally_spot (Y.NumberConstant 0) 6

abbrev pub tally_unit : OnUnit
tally_unit =
    record {
      condition = C.FixedOverflow;
      head = record { kind = Y.UnitBlock; number = 2; level = 1; line = 5 };
      body = Y.StmtThen [] tally_zero (Y.EndOfList []);
      line = 5;
    }

abbrev pub tally_double : Y.Stmt
tally_double = assignment tally_spot tally_twice 8

abbrev pub tally_turn : Y.Stmts
tally_turn = Y.StmtThen [] tally_double (Y.EndOfList [])

abbrev pub tallying : Counting
tallying =
    record {
      counter = element tally_array told_by_function;
      precision = 31;
      start = Y.NumberConstant 1;
      limit = Y.NumberConstant 3;
      step = Y.NumberConstant 1;
      by = pos 1;
      condition = None;
      body = tally_turn;
      line = 7;
    }

abbrev pub tally_loop : Y.Stmt
tally_loop = count_of tallying

abbrev pub tally_end : Y.Stmts
tally_end = Y.StmtThen [] tally_loop (Y.EndOfList [])

abbrev pub tally_rest : Y.Stmts
tally_rest = Y.StmtThen [] (on_of tally_unit) tally_end

abbrev pub tally_body : Y.Stmts
tally_body = Y.StmtThen [] tally_first tally_rest

abbrev pub tally_return : Y.Stmt
tally_return = return_of tally_more 3

abbrev pub inner_body : Y.Stmts
inner_body = Y.StmtThen [] tally_return (Y.EndOfList [])

abbrev pub inner_procedure : Y.Procedure
inner_procedure =
    record { block = Y.BlockOf (row_head 1 1 2) inner_body; parameters = []; result = Some (Y.FixedLeaf 31) }

abbrev pub tally_program : Y.Program
tally_program =
    record {
      variables = (array_declared tally_bounds [] ∷ number_declared [] ∷ []) ∷ [] ∷ [];
      procedures =
          record { block = Y.BlockOf (row_head 0 0 1) tally_body; parameters = []; result = None }
          ∷ inner_procedure ∷ [];
    }

-- ---- its variables: both names stand behind the fixed part of the frame

abbrev pub array_made : Declared
array_made = record { index = 0; declared = array_declared tally_bounds []; number = 0; place = 144 }

abbrev pub number_made : Declared
number_made = record { index = 1; declared = number_declared []; number = 1; place = 176 }

-- ---- its image

abbrev pub tally_environment : Environment
tally_environment = procedure_environment (row_head 0 0 1) (environment_of image_parts tally_program)

abbrev pub inner_environment : Environment
inner_environment = procedure_environment (row_head 1 1 2) (environment_of image_parts tally_program)

abbrev pub tally_main : Procedure
tally_main =
    record {
      head = row_head 0 0 1;
      body = tally_body;
      words = block_words tally_environment 0 tally_body;
      saved = block_held tally_environment 0 tally_body;
      variables = variables_code tally_environment 1;
    }

abbrev pub tally_inner : Procedure
tally_inner =
    record {
      head = row_head 1 1 2;
      body = inner_body;
      words = block_words inner_environment 1 inner_body;
      saved = block_held inner_environment 1 inner_body;
      variables = [];
    }

abbrev pub tally_code : Code
tally_code = code_of image_parts tally_program

abbrev pub main_coded : Code
main_coded = Mark (ProcedureEntry 0) ∷ procedure_code tally_environment tally_main

abbrev pub inner_coded : Code
inner_coded = Mark (ProcedureEntry 1) ∷ function_code inner_environment tally_inner

abbrev pub tally_entry : ℕ
tally_entry = size_of (start_of 0) + size_of raise_code

abbrev pub inner_entry : ℕ
inner_entry = tally_entry + size_of main_coded

-- the indices of the first statement and of the ON
abbrev pub tally_start : ℕ
tally_start = tally_entry + size_of (begin_of tally_main) + size_of tally_main.variables + size_of (act_code 1)

abbrev pub tally_on : ℕ
tally_on = tally_start + size_of (stmt_code tally_environment none_taken tally_first)

-- where the code of its unit stands
abbrev pub tally_units : UnitPlaces
tally_units = record { unit = unit_of tally_unit; at = 4 * unit_index tally_unit tally_on } ∷ []

abbrev pub tally_image : (input : List ℕ) → (acts : ℕ) → Image
tally_image input acts =
    record {
      code = linked_code tally_code;
      links = links_of tally_code;
      units = tally_units;
      signatures = map template_of (table_of tally_program);
      constants = no_constants;
      fills = [];
      input = input;
      acts = acts;
      serials = 2;
    }

pub record TallyRan : Type 0 where
  -- whatever memory, input and number of acts that are allowed, the run does what the program does
  pub runs :
      (input first : List ℕ) (acts : ℕ) → acts + 1 < 2 ^ 64 → length first ≡ memory_size →
      Comes (linked_code tally_code) 0 (first_family first (services_of (start_point (tally_image input acts))))
      (services_of (start_point (tally_image input acts))) (never_in (tally_image input acts))
      (run tally_program (suc acts) acts (first_state input))
  -- that ends with one condition raised, in the function that tells where the variable starts: then the unit's 0 makes
  -- it the third element, which goes from 0 to 4
  pub ends :
      (input : List ℕ) →
      meaning tally_program input 45
      ≡ Some (record { acts = 45; output = []; raised = (C.FixedOverflow, 20) ∷ []; end = E.Finished })
