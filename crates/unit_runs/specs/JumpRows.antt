-- A worked row: a main procedure with a unit for FIXEDOVERFLOW, which jumps out of the expression that raised it.
use Rattle.std.specs.Prelude.{ℕ, suc, ◌+◌, ◌*◌, ◌^◌, ◌<◌, ◌≡◌, List, [], ◌∷◌, length, map, None, Some}
use Rattle.rv_meaning.specs.Machine.{memory_size}
use Rattle.pli_language.specs.declared.condition.Condition.TheVariants as C
use Rattle.pli_typing.specs.TypedTree as Y
use Rattle.pli_meaning.specs.declared.outcome.End.TheVariants as E
use Rattle.pli_meaning.specs.Control.{Label}
use Rattle.pli_meaning.specs.Executing.{meaning, run}
use Rattle.pli_meaning.specs.StorageState.{first_state}
use Rattle.pli_serving.specs.Templates.{template_of}
use Rattle.pli_coding.specs.Allocating.{act_code}
use Rattle.pli_coding.specs.Assembly.{Code, Mark, ProcedureEntry, size_of}
use Rattle.pli_coding.specs.Entries.{variables_code}
use Rattle.pli_coding.specs.Environments.{Environment, none_taken}
use Rattle.pli_coding.specs.Images.{code_of, environment_of, linked_code, raise_code}
use Rattle.pli_coding.specs.Linking.{links_of}
use Rattle.pli_coding.specs.Procedures.{procedure_environment}
use Rattle.pli_coding.specs.SignatureTable.{table_of}
use Rattle.pli_coding.specs.Statements.{block_held, block_words, stmt_code}
use Rattle.storage_relation.specs.Versions.{no_constants}
use Rattle.activation_relation.specs.Chains.{UnitPlaces}
use Rattle.activation_relation.specs.Layers.{services_of}
use Rattle.run_steps.specs.Reach.{Comes}
use Rattle.program_runs.specs.Procedures.{Procedure, begin_of, procedure_code}
use Rattle.program_runs.specs.Rows.{row_head}
use Rattle.program_runs.specs.Starts.{Image, first_family, image_parts, start_of, start_point, never_in}
use Rattle.expression_runs.specs.Assignments.{assignment}
use Rattle.expression_runs.specs.Variables.{Spot, number_declared, whole}
use Rattle.unit_runs.specs.Establishing.{OnUnit, on_of, unit_index, unit_of}
use Rattle.unit_runs.specs.Rows.{unit_head}

-- ---- the program: DECLARE X FIXED BINARY(31); X = 2147483647; ON FIXEDOVERFLOW BEGIN; GOTO L; END; X = X + X; STOP;
-- L: ;

abbrev pub skip_spot : Spot
skip_spot = record { block = 0; level = 0; index = 0 }

abbrev pub skip_label : Label
skip_label = 76 ∷ []

abbrev pub skip_first : Y.Stmt
skip_first = assignment skip_spot (Y.NumberConstant 2147483647) 3

abbrev pub skip_jump : Y.Stmt
skip_jump = Y.Goto 0 skip_label 5

abbrev pub skip_unit : OnUnit
skip_unit =
    record {
      condition = C.FixedOverflow;
      head = unit_head 4;
      body = Y.StmtThen [] skip_jump (Y.EndOfList []);
      line = 4;
    }

abbrev pub skip_twice : Y.Number
skip_twice = Y.Calculated Y.Sum (Y.NumberIn (whole skip_spot)) (Y.NumberIn (whole skip_spot))

abbrev pub skip_again : Y.Stmt
skip_again = assignment skip_spot skip_twice 6

abbrev pub skip_last : Y.Stmts
skip_last = Y.StmtThen (skip_label ∷ []) (Y.Null 8) (Y.EndOfList [])

abbrev pub skip_stop : Y.Stmts
skip_stop = Y.StmtThen [] (Y.Stop 7) skip_last

abbrev pub skip_end : Y.Stmts
skip_end = Y.StmtThen [] skip_again skip_stop

abbrev pub skip_rest : Y.Stmts
skip_rest = Y.StmtThen [] (on_of skip_unit) skip_end

abbrev pub skip_body : Y.Stmts
skip_body = Y.StmtThen [] skip_first skip_rest

abbrev pub skip_program : Y.Program
skip_program =
    record {
      variables = (number_declared [] ∷ []) ∷ [];
      procedures = record { block = Y.BlockOf (row_head 0 0 1) skip_body; parameters = []; result = None } ∷ [];
    }

-- ---- its image

abbrev pub skip_environment : Environment
skip_environment = procedure_environment (row_head 0 0 1) (environment_of image_parts skip_program)

abbrev pub skip_main : Procedure
skip_main =
    record {
      head = row_head 0 0 1;
      body = skip_body;
      words = block_words skip_environment 0 skip_body;
      saved = block_held skip_environment 0 skip_body;
      variables = variables_code skip_environment 1;
    }

abbrev pub skip_code : Code
skip_code = code_of image_parts skip_program

abbrev pub skip_coded : Code
skip_coded = Mark (ProcedureEntry 0) ∷ procedure_code skip_environment skip_main

abbrev pub skip_entry : ℕ
skip_entry = size_of (start_of 0) + size_of raise_code

-- the indices of the first statement and of the ON
abbrev pub skip_start : ℕ
skip_start = skip_entry + size_of (begin_of skip_main) + size_of skip_main.variables + size_of (act_code 1)

abbrev pub skip_on : ℕ
skip_on = skip_start + size_of (stmt_code skip_environment none_taken skip_first)

-- where the code of its unit stands
abbrev pub skip_units : UnitPlaces
skip_units = record { unit = unit_of skip_unit; at = 4 * unit_index skip_unit skip_on } ∷ []

abbrev pub skip_image : (input : List ℕ) → (acts : ℕ) → Image
skip_image input acts =
    record {
      code = linked_code skip_code;
      links = links_of skip_code;
      units = skip_units;
      signatures = map template_of (table_of skip_program);
      constants = no_constants;
      fills = [];
      input = input;
      acts = acts;
      serials = 1;
    }

pub record SkipRan : Type 0 where
  -- whatever memory, input and number of acts that are allowed, the run does what the program does
  pub runs :
      (input first : List ℕ) (acts : ℕ) → acts + 1 < 2 ^ 64 → length first ≡ memory_size →
      Comes (linked_code skip_code) 0 (first_family first (services_of (start_point (skip_image input acts))))
      (services_of (start_point (skip_image input acts))) (never_in (skip_image input acts))
      (run skip_program (suc acts) acts (first_state input))
  -- that doesn't stop where its STOP stands
  pub ends :
      (input : List ℕ) →
      meaning skip_program input 9
      ≡ Some (record { acts = 9; output = []; raised = (C.FixedOverflow, 20) ∷ []; end = E.Finished })
