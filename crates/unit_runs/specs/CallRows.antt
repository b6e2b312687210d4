-- A worked row: a main procedure with a unit for FIXEDOVERFLOW, which a procedure raises that it calls.
use Rattle.std.specs.Prelude.{ℕ, suc, ◌+◌, ◌*◌, ◌^◌, ◌<◌, ◌≡◌, List, [], ◌∷◌, length, map, None, Some}
use Rattle.rv_meaning.specs.Machine.{memory_size}
use Rattle.pli_language.specs.declared.condition.Condition.TheVariants as C
use Rattle.pli_typing.specs.TypedTree as Y
use Rattle.pli_meaning.specs.declared.outcome.End.TheVariants as E
use Rattle.pli_meaning.specs.Executing.{meaning, run}
use Rattle.pli_meaning.specs.StorageState.{first_state}
use Rattle.pli_serving.specs.Templates.{template_of}
use Rattle.pli_coding.specs.Allocating.{act_code}
use Rattle.pli_coding.specs.Assembly.{Code, Mark, ProcedureEntry, size_of}
use Rattle.pli_coding.specs.Entries.{variables_code}
use Rattle.pli_coding.specs.Environments.{Environment, none_taken}
use Rattle.pli_coding.specs.Images.{code_of, environment_of, linked_code, raise_code}
use Rattle.pli_coding.specs.Linking.{links_of}
use Rattle.pli_coding.specs.Procedures.{procedure_environment}
use Rattle.pli_coding.specs.SignatureTable.{table_of}
use Rattle.pli_coding.specs.Statements.{block_held, block_words, stmt_code}
use Rattle.storage_relation.specs.Versions.{no_constants}
use Rattle.activation_relation.specs.Chains.{UnitPlaces}
use Rattle.activation_relation.specs.Layers.{services_of}
use Rattle.run_steps.specs.Reach.{Comes}
use Rattle.program_runs.specs.Procedures.{Procedure, begin_of, procedure_code}
use Rattle.program_runs.specs.Rows.{row_head}
use Rattle.program_runs.specs.Starts.{Image, first_family, image_parts, start_of, start_point, never_in}
use Rattle.expression_runs.specs.Assignments.{assignment}
use Rattle.expression_runs.specs.Variables.{Spot, number_declared, whole}
use Rattle.unit_runs.specs.Establishing.{OnUnit, on_of, unit_index, unit_of}

-- ---- the program: DECLARE X FIXED BINARY(31); P: PROCEDURE; X = X + X - X; END P; X = 2147483647; ON FIXEDOVERFLOW
-- BEGIN; X = 1; END; CALL P;

abbrev pub lend_spot : Spot
lend_spot = record { block = 0; level = 0; index = 0 }

abbrev pub lend_twice : Y.Number
lend_twice = Y.Calculated Y.Sum (Y.NumberIn (whole lend_spot)) (Y.NumberIn (whole lend_spot))

abbrev pub lend_less : Y.Number
lend_less = Y.Calculated Y.Difference lend_twice (Y.NumberIn (whole lend_spot))

abbrev pub inner_stmt : Y.Stmt
inner_stmt = assignment lend_spot lend_less 3

abbrev pub inner_body : Y.Stmts
inner_body = Y.StmtThen [] inner_stmt (Y.EndOfList [])

abbrev pub lend_first : Y.Stmt
lend_first = assignment lend_spot (Y.NumberConstant 2147483647) 4

abbrev pub lend_one : Y.Stmt
lend_one = assignment lend_spot (Y.NumberConstant 1) 6

abbrev pub lend_unit : OnUnit
lend_unit =
    record {
      condition = C.FixedOverflow;
      head = record { kind = Y.UnitBlock; number = 2; level = 1; line = 5 };
      body = Y.StmtThen [] lend_one (Y.EndOfList []);
      line = 5;
    }

abbrev pub lend_call : Y.Stmt
lend_call = Y.CallProcedure (Y.Calling 1 0 Y.NoArgument) 7

abbrev pub lend_end : Y.Stmts
lend_end = Y.StmtThen [] lend_call (Y.EndOfList [])

abbrev pub lend_rest : Y.Stmts
lend_rest = Y.StmtThen [] (on_of lend_unit) lend_end

abbrev pub lend_body : Y.Stmts
lend_body = Y.StmtThen [] lend_first lend_rest

abbrev pub lend_procedure : Y.Procedure
lend_procedure = record { block = Y.BlockOf (row_head 1 1 2) inner_body; parameters = []; result = None }

abbrev pub lend_program : Y.Program
lend_program =
    record {
      variables = (number_declared [] ∷ []) ∷ [];
      procedures =
          record { block = Y.BlockOf (row_head 0 0 1) lend_body; parameters = []; result = None }
          ∷ lend_procedure ∷ [];
    }

-- ---- its image

abbrev pub lend_environment : Environment
lend_environment = procedure_environment (row_head 0 0 1) (environment_of image_parts lend_program)

abbrev pub lend_main : Procedure
lend_main =
    record {
      head = row_head 0 0 1;
      body = lend_body;
      words = block_words lend_environment 0 lend_body;
      saved = block_held lend_environment 0 lend_body;
      variables = variables_code lend_environment 1;
    }

abbrev pub inner_environment : Environment
inner_environment = procedure_environment (row_head 1 1 2) (environment_of image_parts lend_program)

abbrev pub lend_inner : Procedure
lend_inner =
    record {
      head = row_head 1 1 2;
      body = inner_body;
      words = block_words inner_environment 1 inner_body;
      saved = block_held inner_environment 1 inner_body;
      variables = [];
    }

abbrev pub lend_code : Code
lend_code = code_of image_parts lend_program

abbrev pub main_coded : Code
main_coded = Mark (ProcedureEntry 0) ∷ procedure_code lend_environment lend_main

abbrev pub inner_coded : Code
inner_coded = Mark (ProcedureEntry 1) ∷ procedure_code inner_environment lend_inner

abbrev pub lend_entry : ℕ
lend_entry = size_of (start_of 0) + size_of raise_code

abbrev pub inner_entry : ℕ
inner_entry = lend_entry + size_of main_coded

-- the indices of the first statement and of the ON
abbrev pub lend_start : ℕ
lend_start = lend_entry + size_of (begin_of lend_main) + size_of lend_main.variables + size_of (act_code 1)

abbrev pub lend_on : ℕ
lend_on = lend_start + size_of (stmt_code lend_environment none_taken lend_first)

-- where the code of its unit stands
abbrev pub lend_units : UnitPlaces
lend_units = record { unit = unit_of lend_unit; at = 4 * unit_index lend_unit lend_on } ∷ []

abbrev pub lend_image : (input : List ℕ) → (acts : ℕ) → Image
lend_image input acts =
    record {
      code = linked_code lend_code;
      links = links_of lend_code;
      units = lend_units;
      signatures = map template_of (table_of lend_program);
      constants = no_constants;
      fills = [];
      input = input;
      acts = acts;
      serials = 1;
    }

pub record LendRan : Type 0 where
  -- whatever memory, input and number of acts that are allowed, the run does what the program does
  pub runs :
      (input first : List ℕ) (acts : ℕ) → acts + 1 < 2 ^ 64 → length first ≡ memory_size →
      Comes (linked_code lend_code) 0 (first_family first (services_of (start_point (lend_image input acts))))
      (services_of (start_point (lend_image input acts))) (never_in (lend_image input acts))
      (run lend_program (suc acts) acts (first_state input))
  -- that ends with one condition raised: what the procedure subtracts is the 1 that the unit of its caller assigned
  pub ends :
      (input : List ℕ) →
      meaning lend_program input 10
      ≡ Some (record { acts = 10; output = []; raised = (C.FixedOverflow, 20) ∷ []; end = E.Finished })
