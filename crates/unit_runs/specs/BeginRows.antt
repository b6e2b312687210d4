-- A worked row: a main procedure with a begin block that has ON: its unit is gone behind it.
use Rattle.std.specs.Prelude.{ℕ, suc, ◌+◌, ◌*◌, ◌^◌, ◌<◌, ◌≡◌, List, [], ◌∷◌, ◌++◌, length, map, None, Some}
use Rattle.rv_meaning.specs.Machine.{memory_size}
use Rattle.pli_language.specs.declared.condition.Condition.TheVariants as C
use Rattle.pli_typing.specs.TypedTree as Y
use Rattle.pli_meaning.specs.declared.outcome.End.TheVariants as E
use Rattle.pli_meaning.specs.Executing.{entered, meaning, run}
use Rattle.pli_meaning.specs.StorageState.{first_state}
use Rattle.pli_serving.specs.Templates.{template_of}
use Rattle.pli_coding.specs.Allocating.{act_code}
use Rattle.pli_coding.specs.Assembly.{Code, Mark, ProcedureEntry, size_of}
use Rattle.pli_coding.specs.Entries.{entered_without_texts, frame_begun, variables_code}
use Rattle.pli_coding.specs.Environments.{Environment, none_taken}
use Rattle.pli_coding.specs.Images.{code_of, environment_of, linked_code, raise_code}
use Rattle.pli_coding.specs.Instructions.{move}
use Rattle.pli_coding.specs.Linking.{links_of}
use Rattle.pli_coding.specs.Procedures.{procedure_environment}
use Rattle.pli_coding.specs.Registers.{a0, frame_register}
use Rattle.pli_coding.specs.SignatureTable.{table_of}
use Rattle.pli_coding.specs.Statements.{block_held, block_words, stmt_code}
use Rattle.storage_relation.specs.Versions.{no_constants}
use Rattle.activation_relation.specs.Chains.{UnitPlaces}
use Rattle.activation_relation.specs.Layers.{services_of}
use Rattle.run_steps.specs.Reach.{Comes}
use Rattle.program_runs.specs.Procedures.{Procedure, begin_of, procedure_code}
use Rattle.program_runs.specs.Rows.{row_head}
use Rattle.program_runs.specs.Starts.{Image, first_family, image_parts, start_of, start_point, never_in}
use Rattle.expression_runs.specs.Assignments.{assignment}
use Rattle.expression_runs.specs.Variables.{Spot, number_declared, whole}
use Rattle.begin_runs.specs.BeginBlocks.{Inner}
use Rattle.unit_runs.specs.Establishing.{OnUnit, on_of, unit_index, unit_of}

-- ---- the program: DECLARE X FIXED BINARY(31); X = 2147483647; BEGIN; ON FIXEDOVERFLOW BEGIN; X = 1; END;
-- X = X + X - X; END; X = 2147483647; X = X + X;

abbrev pub host_spot : Spot
host_spot = record { block = 0; level = 0; index = 0 }

abbrev pub host_twice : Y.Number
host_twice = Y.Calculated Y.Sum (Y.NumberIn (whole host_spot)) (Y.NumberIn (whole host_spot))

abbrev pub host_less : Y.Number
host_less = Y.Calculated Y.Difference host_twice (Y.NumberIn (whole host_spot))

abbrev pub set_stmt : (line : ℕ) → Y.Stmt
set_stmt line = assignment host_spot (Y.NumberConstant 2147483647) line

abbrev pub host_one : Y.Stmt
host_one = assignment host_spot (Y.NumberConstant 1) 6

abbrev pub host_unit : OnUnit
host_unit =
    record {
      condition = C.FixedOverflow;
      head = record { kind = Y.UnitBlock; number = 2; level = 2; line = 5 };
      body = Y.StmtThen [] host_one (Y.EndOfList []);
      line = 5;
    }

abbrev pub inside_stmt : Y.Stmt
inside_stmt = assignment host_spot host_less 7

abbrev pub inside_end : Y.Stmts
inside_end = Y.StmtThen [] inside_stmt (Y.EndOfList [])

abbrev pub inside_body : Y.Stmts
inside_body = Y.StmtThen [] (on_of host_unit) inside_end

abbrev pub inside_head : Y.BlockHead
inside_head = record { kind = Y.BeginBlock; number = 1; level = 1; line = 4 }

abbrev pub host_begin : Y.Stmt
host_begin = Y.Begin (Y.BlockOf inside_head inside_body)

abbrev pub host_last : Y.Stmt
host_last = assignment host_spot host_twice 9

abbrev pub host_final : Y.Stmts
host_final = Y.StmtThen [] host_last (Y.EndOfList [])

abbrev pub host_end : Y.Stmts
host_end = Y.StmtThen [] (set_stmt 8) host_final

abbrev pub host_rest : Y.Stmts
host_rest = Y.StmtThen [] host_begin host_end

abbrev pub host_body : Y.Stmts
host_body = Y.StmtThen [] (set_stmt 3) host_rest

abbrev pub host_program : Y.Program
host_program =
    record {
      variables = (number_declared [] ∷ []) ∷ [];
      procedures = record { block = Y.BlockOf (row_head 0 0 1) host_body; parameters = []; result = None } ∷ [];
    }

-- ---- its image

abbrev pub host_environment : Environment
host_environment = procedure_environment (row_head 0 0 1) (environment_of image_parts host_program)

abbrev pub host_main : Procedure
host_main =
    record {
      head = row_head 0 0 1;
      body = host_body;
      words = block_words host_environment 0 host_body;
      saved = block_held host_environment 0 host_body;
      variables = variables_code host_environment 1;
    }

-- the begin block, in as many blocks more as may be entered
abbrev pub host_inner : (more : ℕ) → Inner
host_inner more =
    record {
      head = inside_head;
      body = inside_body;
      words = block_words host_environment 1 inside_body;
      variables = [];
      around = record { program = host_program; enter = entered host_program more; turns = suc more; line = 0 };
      made = λ q. q;
    }

abbrev pub host_code : Code
host_code = code_of image_parts host_program

abbrev pub host_coded : Code
host_coded = Mark (ProcedureEntry 0) ∷ procedure_code host_environment host_main

abbrev pub host_entry : ℕ
host_entry = size_of (start_of 0) + size_of raise_code

-- the indices of the first statement, of the begin block and of its list, which begins with ON
abbrev pub host_start : ℕ
host_start = host_entry + size_of (begin_of host_main) + size_of host_main.variables + size_of (act_code 1)

abbrev pub begin_index : ℕ
begin_index = host_start + size_of (stmt_code host_environment none_taken (set_stmt 3))

abbrev pub inside_begun : Code
inside_begun =
    move a0 frame_register
    ∷ (frame_begun (block_words host_environment 1 inside_body) 1 0 None ++ entered_without_texts 1 4)

abbrev pub inside_start : ℕ
inside_start = begin_index + size_of (act_code 4) + size_of inside_begun

-- where the code of its unit stands
abbrev pub host_units : UnitPlaces
host_units = record { unit = unit_of host_unit; at = 4 * unit_index host_unit inside_start } ∷ []

abbrev pub host_image : (input : List ℕ) → (acts : ℕ) → Image
host_image input acts =
    record {
      code = linked_code host_code;
      links = links_of host_code;
      units = host_units;
      signatures = map template_of (table_of host_program);
      constants = no_constants;
      fills = [];
      input = input;
      acts = acts;
      serials = 1;
    }

pub record HostRan : Type 0 where
  -- whatever memory, input and number of acts that are allowed, the run does what the program does
  pub runs :
      (input first : List ℕ) (acts : ℕ) → acts + 1 < 2 ^ 64 → length first ≡ memory_size →
      Comes (linked_code host_code) 0 (first_family first (services_of (start_point (host_image input acts))))
      (services_of (start_point (host_image input acts))) (never_in (host_image input acts))
      (run host_program (suc acts) acts (first_state input))
  -- that raises twice: once inside the begin block, where the unit runs, and once behind it, where none is in force
  pub ends :
      (input : List ℕ) →
      meaning host_program input 13
      ≡ Some (record {
        acts = 13;
        output = [];
        raised = (C.FixedOverflow, 20) ∷ (C.FixedOverflow, 20) ∷ (C.Error, 20) ∷ [];
        end = E.Error 20 9;
      })
