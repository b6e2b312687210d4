-- A worked row: a main procedure with a unit for FIXEDOVERFLOW, which assigns its variable and returns into the
-- expression that raised it.
use Rattle.std.specs.Prelude.{ℕ, suc, ◌+◌, ◌*◌, ◌^◌, ◌<◌, ◌≡◌, List, [], ◌∷◌, length, map, None, Some}
use Rattle.rv_meaning.specs.Machine.{memory_size}
use Rattle.pli_language.specs.declared.condition.Condition.TheVariants as C
use Rattle.pli_typing.specs.TypedTree as Y
use Rattle.pli_meaning.specs.declared.outcome.End.TheVariants as E
use Rattle.pli_meaning.specs.Executing.{meaning, run}
use Rattle.pli_meaning.specs.StorageState.{first_state}
use Rattle.pli_serving.specs.Templates.{template_of}
use Rattle.pli_coding.specs.Allocating.{act_code}
use Rattle.pli_coding.specs.Assembly.{Code, Mark, ProcedureEntry, size_of}
use Rattle.pli_coding.specs.Entries.{variables_code}
use Rattle.pli_coding.specs.Environments.{Environment, none_taken}
use Rattle.pli_coding.specs.Images.{code_of, environment_of, linked_code, raise_code}
use Rattle.pli_coding.specs.Linking.{links_of}
use Rattle.pli_coding.specs.Procedures.{procedure_environment}
use Rattle.pli_coding.specs.SignatureTable.{table_of}
use Rattle.pli_coding.specs.Statements.{block_held, block_words, stmt_code}
use Rattle.storage_relation.specs.Versions.{no_constants}
use Rattle.activation_relation.specs.Chains.{UnitPlaces}
use Rattle.activation_relation.specs.Layers.{services_of}
use Rattle.run_steps.specs.Reach.{Comes}
use Rattle.program_runs.specs.Procedures.{Procedure, begin_of, procedure_code}
use Rattle.program_runs.specs.Rows.{row_head}
use Rattle.program_runs.specs.Starts.{Image, first_family, image_parts, start_of, start_point, never_in}
use Rattle.expression_runs.specs.Assignments.{assignment}
use Rattle.expression_runs.specs.Variables.{Spot, number_declared, whole}
use Rattle.unit_runs.specs.Establishing.{OnUnit, on_of, unit_index, unit_of}

-- ---- the program: DECLARE X FIXED BINARY(31); X = 2147483647; ON FIXEDOVERFLOW BEGIN; X = 1; END; X = X + X - X;

abbrev pub mend_spot : Spot
mend_spot = record { block = 0; level = 0; index = 0 }

abbrev pub mend_first : Y.Stmt
mend_first = assignment mend_spot (Y.NumberConstant 2147483647) 3

abbrev pub unit_head : (line : ℕ) → Y.BlockHead
unit_head line = record { kind = Y.UnitBlock; number = 1; level = 1; line = line }

abbrev pub mend_one : Y.Stmt
mend_one = assignment mend_spot (Y.NumberConstant 1) 5

abbrev pub mend_unit : OnUnit
mend_unit =
    record {
      condition = C.FixedOverflow;
      head = unit_head 4;
      body = Y.StmtThen [] mend_one (Y.EndOfList []);
      line = 4;
    }

abbrev pub mend_twice : Y.Number
mend_twice = Y.Calculated Y.Sum (Y.NumberIn (whole mend_spot)) (Y.NumberIn (whole mend_spot))

abbrev pub mend_less : Y.Number
mend_less = Y.Calculated Y.Difference mend_twice (Y.NumberIn (whole mend_spot))

abbrev pub mend_again : Y.Stmt
mend_again = assignment mend_spot mend_less 6

abbrev pub mend_end : Y.Stmts
mend_end = Y.StmtThen [] mend_again (Y.EndOfList [])

abbrev pub mend_rest : Y.Stmts
mend_rest = Y.StmtThen [] (on_of mend_unit) mend_end

abbrev pub mend_body : Y.Stmts
mend_body = Y.StmtThen [] mend_first mend_rest

abbrev pub mend_program : Y.Program
mend_program =
    record {
      variables = (number_declared [] ∷ []) ∷ [];
      procedures = record { block = Y.BlockOf (row_head 0 0 1) mend_body; parameters = []; result = None } ∷ [];
    }

-- ---- its image

abbrev pub mend_environment : Environment
mend_environment = procedure_environment (row_head 0 0 1) (environment_of image_parts mend_program)

abbrev pub mend_main : Procedure
mend_main =
    record {
      head = row_head 0 0 1;
      body = mend_body;
      words = block_words mend_environment 0 mend_body;
      saved = block_held mend_environment 0 mend_body;
      variables = variables_code mend_environment 1;
    }

abbrev pub mend_code : Code
mend_code = code_of image_parts mend_program

abbrev pub mend_coded : Code
mend_coded = Mark (ProcedureEntry 0) ∷ procedure_code mend_environment mend_main

abbrev pub mend_entry : ℕ
mend_entry = size_of (start_of 0) + size_of raise_code

-- the indices of the first statement and of the ON
abbrev pub mend_start : ℕ
mend_start = mend_entry + size_of (begin_of mend_main) + size_of mend_main.variables + size_of (act_code 1)

abbrev pub mend_on : ℕ
mend_on = mend_start + size_of (stmt_code mend_environment none_taken mend_first)

-- where the code of its unit stands
abbrev pub mend_units : UnitPlaces
mend_units = record { unit = unit_of mend_unit; at = 4 * unit_index mend_unit mend_on } ∷ []

abbrev pub mend_image : (input : List ℕ) → (acts : ℕ) → Image
mend_image input acts =
    record {
      code = linked_code mend_code;
      links = links_of mend_code;
      units = mend_units;
      signatures = map template_of (table_of mend_program);
      constants = no_constants;
      fills = [];
      input = input;
      acts = acts;
      serials = 1;
    }

pub record MendRan : Type 0 where
  -- whatever memory, input and number of acts that are allowed, the run does what the program does
  pub runs :
      (input first : List ℕ) (acts : ℕ) → acts + 1 < 2 ^ 64 → length first ≡ memory_size →
      Comes (linked_code mend_code) 0 (first_family first (services_of (start_point (mend_image input acts))))
      (services_of (start_point (mend_image input acts))) (never_in (mend_image input acts))
      (run mend_program (suc acts) acts (first_state input))
  -- that ends with one condition raised: what is subtracted is the 1 that the unit assigned
  pub ends :
      (input : List ℕ) →
      meaning mend_program input 8
      ≡ Some (record { acts = 8; output = []; raised = (C.FixedOverflow, 20) ∷ []; end = E.Finished })
