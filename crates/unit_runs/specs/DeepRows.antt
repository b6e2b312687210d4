-- A worked row: a main procedure with a unit that has ON itself, and raises the condition in the unit's own expression.
use Rattle.std.specs.Prelude.{ℕ, suc, ◌+◌, ◌*◌, ◌^◌, ◌<◌, ◌≡◌, List, [], ◌∷◌, length, map, None, Some}
use Rattle.rv_meaning.specs.Machine.{memory_size}
use Rattle.pli_language.specs.declared.condition.Condition.TheVariants as C
use Rattle.pli_typing.specs.TypedTree as Y
use Rattle.pli_meaning.specs.declared.outcome.End.TheVariants as E
use Rattle.pli_meaning.specs.Executing.{entered, meaning, run}
use Rattle.pli_meaning.specs.StorageState.{first_state}
use Rattle.pli_serving.specs.Templates.{template_of}
use Rattle.pli_coding.specs.Allocating.{act_code}
use Rattle.pli_coding.specs.Assembly.{Code, Mark, ProcedureEntry, size_of}
use Rattle.pli_coding.specs.Entries.{variables_code}
use Rattle.pli_coding.specs.Environments.{Environment, none_taken}
use Rattle.pli_coding.specs.Images.{code_of, environment_of, linked_code, raise_code}
use Rattle.pli_coding.specs.Linking.{links_of}
use Rattle.pli_coding.specs.Procedures.{procedure_environment}
use Rattle.pli_coding.specs.SignatureTable.{table_of}
use Rattle.pli_coding.specs.Statements.{block_held, block_words, stmt_code, unit_environment, unit_held}
use Rattle.pli_coding.specs.Statements.{unit_variables, unit_words}
use Rattle.storage_relation.specs.Versions.{no_constants}
use Rattle.activation_relation.specs.Chains.{UnitPlaces}
use Rattle.activation_relation.specs.Layers.{services_of}
use Rattle.run_steps.specs.Reach.{Comes}
use Rattle.program_runs.specs.Procedures.{Procedure, begin_of, procedure_code}
use Rattle.program_runs.specs.Rows.{row_head}
use Rattle.program_runs.specs.Starts.{Image, first_family, image_parts, start_of, start_point, never_in}
use Rattle.expression_runs.specs.Assignments.{assignment}
use Rattle.expression_runs.specs.Variables.{Spot, number_declared, whole}
use Rattle.unit_runs.specs.Establishing.{OnUnit, on_of, unit_index, unit_of}
use Rattle.unit_runs.specs.Raised.{Standing, list_index}

-- ---- the program: DECLARE X FIXED BINARY(31); X = 2147483647; ON FIXEDOVERFLOW BEGIN; ON FIXEDOVERFLOW BEGIN; X = 1;
-- END; X = X + X - X; END; X = X + X - X;

abbrev pub deep_spot : Spot
deep_spot = record { block = 0; level = 0; index = 0 }

abbrev pub deep_first : Y.Stmt
deep_first = assignment deep_spot (Y.NumberConstant 2147483647) 3

abbrev pub deep_twice : Y.Number
deep_twice = Y.Calculated Y.Sum (Y.NumberIn (whole deep_spot)) (Y.NumberIn (whole deep_spot))

abbrev pub deep_less : Y.Number
deep_less = Y.Calculated Y.Difference deep_twice (Y.NumberIn (whole deep_spot))

abbrev pub unit_head : (number line : ℕ) → Y.BlockHead
unit_head number line = record { kind = Y.UnitBlock; number = number; level = number; line = line }

abbrev pub deep_one : Y.Stmt
deep_one = assignment deep_spot (Y.NumberConstant 1) 6

-- the unit of the unit
abbrev pub deep_under : OnUnit
deep_under =
    record {
      condition = C.FixedOverflow;
      head = unit_head 2 5;
      body = Y.StmtThen [] deep_one (Y.EndOfList []);
      line = 5;
    }

abbrev pub deep_stmt : Y.Stmt
deep_stmt = assignment deep_spot deep_less 7

abbrev pub under_end : Y.Stmts
under_end = Y.StmtThen [] deep_stmt (Y.EndOfList [])

abbrev pub deep_unit : OnUnit
deep_unit =
    record {
      condition = C.FixedOverflow;
      head = unit_head 1 4;
      body = Y.StmtThen [] (on_of deep_under) under_end;
      line = 4;
    }

abbrev pub deep_again : Y.Stmt
deep_again = assignment deep_spot deep_less 8

abbrev pub deep_end : Y.Stmts
deep_end = Y.StmtThen [] deep_again (Y.EndOfList [])

abbrev pub deep_rest : Y.Stmts
deep_rest = Y.StmtThen [] (on_of deep_unit) deep_end

abbrev pub deep_body : Y.Stmts
deep_body = Y.StmtThen [] deep_first deep_rest

abbrev pub deep_program : Y.Program
deep_program =
    record {
      variables = (number_declared [] ∷ []) ∷ [];
      procedures = record { block = Y.BlockOf (row_head 0 0 1) deep_body; parameters = []; result = None } ∷ [];
    }

-- ---- its image

abbrev pub deep_environment : Environment
deep_environment = procedure_environment (row_head 0 0 1) (environment_of image_parts deep_program)

abbrev pub deep_main : Procedure
deep_main =
    record {
      head = row_head 0 0 1;
      body = deep_body;
      words = block_words deep_environment 0 deep_body;
      saved = block_held deep_environment 0 deep_body;
      variables = variables_code deep_environment 1;
    }

abbrev pub deep_code : Code
deep_code = code_of image_parts deep_program

abbrev pub deep_coded : Code
deep_coded = Mark (ProcedureEntry 0) ∷ procedure_code deep_environment deep_main

abbrev pub deep_entry : ℕ
deep_entry = size_of (start_of 0) + size_of raise_code

-- the indices of the first statement and of the ON
abbrev pub deep_start : ℕ
deep_start = deep_entry + size_of (begin_of deep_main) + size_of deep_main.variables + size_of (act_code 1)

abbrev pub deep_on : ℕ
deep_on = deep_start + size_of (stmt_code deep_environment none_taken deep_first)

-- its unit, in as many blocks more as may be entered
abbrev pub deep_standing : (more : ℕ) → Standing
deep_standing more =
    record {
      unit = deep_unit;
      words = unit_words deep_environment deep_unit.head Y.UnitBlock deep_unit.body;
      saved = unit_held deep_environment deep_unit.head Y.UnitBlock deep_unit.body;
      variables = unit_variables (unit_environment deep_unit.head deep_environment) deep_unit.head Y.UnitBlock;
      entry = unit_index deep_unit deep_on;
      environment = unit_environment deep_unit.head deep_environment;
      around = record { program = deep_program; enter = entered deep_program more; turns = suc more; line = 0 };
      made = λ q. q;
    }

-- the index of the ON in it
abbrev pub under_on : ℕ
under_on = list_index (deep_standing 0)

-- where the code of the units stands
abbrev pub deep_units : UnitPlaces
deep_units =
    record { unit = unit_of deep_unit; at = 4 * unit_index deep_unit deep_on }
    ∷ record { unit = unit_of deep_under; at = 4 * unit_index deep_under under_on } ∷ []

abbrev pub deep_image : (input : List ℕ) → (acts : ℕ) → Image
deep_image input acts =
    record {
      code = linked_code deep_code;
      links = links_of deep_code;
      units = deep_units;
      signatures = map template_of (table_of deep_program);
      constants = no_constants;
      fills = [];
      input = input;
      acts = acts;
      serials = 1;
    }

pub record DeepRan : Type 0 where
  -- whatever memory, input and number of acts that are allowed, the run does what the program does
  pub runs :
      (input first : List ℕ) (acts : ℕ) → acts + 1 < 2 ^ 64 → length first ≡ memory_size →
      Comes (linked_code deep_code) 0 (first_family first (services_of (start_point (deep_image input acts))))
      (services_of (start_point (deep_image input acts))) (never_in (deep_image input acts))
      (run deep_program (suc acts) acts (first_state input))
  -- that ends with two raised: the unit subtracts the 1 that its own unit assigned
  pub ends :
      (input : List ℕ) →
      meaning deep_program input 12
      ≡ Some (record {
        acts = 12;
        output = [];
        raised = (C.FixedOverflow, 20) ∷ (C.FixedOverflow, 20) ∷ [];
        end = E.Finished;
      })
