-- A worked row: a main procedure with a unit for FIXEDOVERFLOW, which assigns its variable and returns into the
-- expression that raised it, in which the text of the variable waits.
use Rattle.std.specs.Prelude.{ℕ, suc, ◌+◌, ◌*◌, ◌^◌, ◌<◌, ◌≡◌, List, [], ◌∷◌, length, map, None, Some}
use Rattle.rv_meaning.specs.Machine.{memory_size}
use Rattle.pli_language.specs.declared.condition.Condition.TheVariants as C
use Rattle.pli_typing.specs.TypedTree as Y
use Rattle.pli_meaning.specs.declared.outcome.End.TheVariants as E
use Rattle.pli_meaning.specs.Executing.{meaning, run}
use Rattle.pli_meaning.specs.StorageState.{first_state}
use Rattle.pli_serving.specs.Templates.{template_of}
use Rattle.pli_coding.specs.Allocating.{act_code}
use Rattle.pli_coding.specs.Assembly.{Code, Mark, ProcedureEntry, size_of}
use Rattle.pli_coding.specs.Entries.{variables_code}
use Rattle.pli_coding.specs.Environments.{Environment, none_taken}
use Rattle.pli_coding.specs.Images.{code_of, environment_of, linked_code, raise_code}
use Rattle.pli_coding.specs.Linking.{links_of}
use Rattle.pli_coding.specs.Procedures.{procedure_environment}
use Rattle.pli_coding.specs.SignatureTable.{table_of}
use Rattle.pli_coding.specs.Statements.{block_held, block_words, stmt_code}
use Rattle.storage_relation.specs.Versions.{no_constants}
use Rattle.activation_relation.specs.Chains.{UnitPlaces}
use Rattle.activation_relation.specs.Layers.{services_of}
use Rattle.run_steps.specs.Reach.{Comes}
use Rattle.program_runs.specs.Procedures.{Procedure, begin_of, procedure_code}
use Rattle.program_runs.specs.Rows.{row_head}
use Rattle.program_runs.specs.Starts.{Image, first_family, image_parts, start_of, start_point, never_in}
use Rattle.expression_runs.specs.Assignments.{assignment}
use Rattle.expression_runs.specs.Variables.{Spot, number_declared, whole}
use Rattle.unit_runs.specs.Establishing.{OnUnit, on_of, unit_index, unit_of}
use Rattle.unit_runs.specs.Rows.{unit_head}

-- ---- the program: DECLARE X FIXED BINARY(31); X = 2147483647; ON FIXEDOVERFLOW BEGIN; X = 1; END;
-- X = LENGTH(X || (X + X));

abbrev pub rise_spot : Spot
rise_spot = record { block = 0; level = 0; index = 0 }

abbrev pub rise_first : Y.Stmt
rise_first = assignment rise_spot (Y.NumberConstant 2147483647) 3

abbrev pub rise_one : Y.Stmt
rise_one = assignment rise_spot (Y.NumberConstant 1) 5

abbrev pub rise_unit : OnUnit
rise_unit =
    record {
      condition = C.FixedOverflow;
      head = unit_head 4;
      body = Y.StmtThen [] rise_one (Y.EndOfList []);
      line = 4;
    }

abbrev pub rise_twice : Y.Number
rise_twice = Y.Calculated Y.Sum (Y.NumberIn (whole rise_spot)) (Y.NumberIn (whole rise_spot))

abbrev pub rise_text : Y.Text
rise_text = Y.Joined (Y.TextOfNumber 31 (Y.NumberIn (whole rise_spot))) (Y.TextOfNumber 31 rise_twice)

abbrev pub rise_again : Y.Stmt
rise_again = assignment rise_spot (Y.LengthOf rise_text) 6

abbrev pub rise_end : Y.Stmts
rise_end = Y.StmtThen [] rise_again (Y.EndOfList [])

abbrev pub rise_rest : Y.Stmts
rise_rest = Y.StmtThen [] (on_of rise_unit) rise_end

abbrev pub rise_body : Y.Stmts
rise_body = Y.StmtThen [] rise_first rise_rest

abbrev pub rise_program : Y.Program
rise_program =
    record {
      variables = (number_declared [] ∷ []) ∷ [];
      procedures = record { block = Y.BlockOf (row_head 0 0 1) rise_body; parameters = []; result = None } ∷ [];
    }

-- ---- its image

abbrev pub rise_environment : Environment
rise_environment = procedure_environment (row_head 0 0 1) (environment_of image_parts rise_program)

abbrev pub rise_main : Procedure
rise_main =
    record {
      head = row_head 0 0 1;
      body = rise_body;
      words = block_words rise_environment 0 rise_body;
      saved = block_held rise_environment 0 rise_body;
      variables = variables_code rise_environment 1;
    }

abbrev pub rise_code : Code
rise_code = code_of image_parts rise_program

abbrev pub rise_coded : Code
rise_coded = Mark (ProcedureEntry 0) ∷ procedure_code rise_environment rise_main

abbrev pub rise_entry : ℕ
rise_entry = size_of (start_of 0) + size_of raise_code

-- the indices of the first statement and of the ON
abbrev pub rise_start : ℕ
rise_start = rise_entry + size_of (begin_of rise_main) + size_of rise_main.variables + size_of (act_code 1)

abbrev pub rise_on : ℕ
rise_on = rise_start + size_of (stmt_code rise_environment none_taken rise_first)

-- where the code of its unit stands
abbrev pub rise_units : UnitPlaces
rise_units = record { unit = unit_of rise_unit; at = 4 * unit_index rise_unit rise_on } ∷ []

abbrev pub rise_image : (input : List ℕ) → (acts : ℕ) → Image
rise_image input acts =
    record {
      code = linked_code rise_code;
      links = links_of rise_code;
      units = rise_units;
      signatures = map template_of (table_of rise_program);
      constants = no_constants;
      fills = [];
      input = input;
      acts = acts;
      serials = 1;
    }

pub record RiseRan : Type 0 where
  -- whatever memory, input and number of acts that are allowed, the run does what the program does
  pub runs :
      (input first : List ℕ) (acts : ℕ) → acts + 1 < 2 ^ 64 → length first ≡ memory_size →
      Comes (linked_code rise_code) 0 (first_family first (services_of (start_point (rise_image input acts))))
      (services_of (start_point (rise_image input acts))) (never_in (rise_image input acts))
      (run rise_program (suc acts) acts (first_state input))
  -- that ends with one condition raised
  pub ends :
      (input : List ℕ) →
      meaning rise_program input 8
      ≡ Some (record { acts = 8; output = []; raised = (C.FixedOverflow, 20) ∷ []; end = E.Finished })
