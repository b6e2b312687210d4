-- A worked row: a main procedure with two begin blocks, of which one assigns its variable and the other jumps back out.
use Rattle.std.specs.Prelude.{ℕ, suc, ◌+◌, ◌^◌, ◌<◌, ◌≡◌, List, [], ◌∷◌, length, map, None, Some}
use Rattle.rv_meaning.specs.Machine.{memory_size}
use Rattle.pli_language.specs.declared.condition.Condition.TheVariants as C
use Rattle.pli_typing.specs.TypedTree as Y
use Rattle.pli_meaning.specs.declared.outcome.End.TheVariants as E
use Rattle.pli_meaning.specs.Control.{Label}
use Rattle.pli_meaning.specs.Executing.{entered, meaning, run}
use Rattle.pli_meaning.specs.StorageState.{first_state}
use Rattle.pli_serving.specs.Templates.{template_of}
use Rattle.pli_coding.specs.Assembly.{Code, Mark, ProcedureEntry, size_of}
use Rattle.pli_coding.specs.Entries.{variables_code}
use Rattle.pli_coding.specs.Environments.{Environment}
use Rattle.pli_coding.specs.Images.{code_of, environment_of, linked_code, raise_code}
use Rattle.pli_coding.specs.Linking.{links_of}
use Rattle.pli_coding.specs.Procedures.{procedure_environment}
use Rattle.pli_coding.specs.SignatureTable.{table_of}
use Rattle.pli_coding.specs.Statements.{block_held, block_words}
use Rattle.storage_relation.specs.Versions.{no_constants}
use Rattle.activation_relation.specs.Layers.{services_of}
use Rattle.run_steps.specs.Reach.{Comes}
use Rattle.program_runs.specs.Procedures.{Procedure, procedure_code}
use Rattle.program_runs.specs.Rows.{row_head}
use Rattle.program_runs.specs.Starts.{Image, first_family, image_parts, start_of, start_point, never_in}
use Rattle.expression_runs.specs.Assignments.{assignment}
use Rattle.expression_runs.specs.Variables.{Spot, number_declared, whole}
use Rattle.begin_runs.specs.BeginBlocks.{Inner}

-- ---- the program: DECLARE X FIXED BINARY(31); X = 536870912; L: BEGIN; X = X + X; END; BEGIN; GOTO L; END;

abbrev pub nest_spot : Spot
nest_spot = record { block = 0; level = 0; index = 0 }

abbrev pub nest_label : Label
nest_label = 76 ∷ []

abbrev pub nest_first : Y.Stmt
nest_first = assignment nest_spot (Y.NumberConstant 536870912) 3

abbrev pub nest_twice : Y.Number
nest_twice = Y.Calculated Y.Sum (Y.NumberIn (whole nest_spot)) (Y.NumberIn (whole nest_spot))

abbrev pub begin_head : (number line : ℕ) → Y.BlockHead
begin_head number line = record { kind = Y.BeginBlock; number = number; level = 1; line = line }

abbrev pub add_stmt : Y.Stmt
add_stmt = assignment nest_spot nest_twice 5

abbrev pub add_body : Y.Stmts
add_body = Y.StmtThen [] add_stmt (Y.EndOfList [])

abbrev pub back_stmt : Y.Stmt
back_stmt = Y.Goto 0 nest_label 7

abbrev pub back_body : Y.Stmts
back_body = Y.StmtThen [] back_stmt (Y.EndOfList [])

abbrev pub nest_add : Y.Stmt
nest_add = Y.Begin (Y.BlockOf (begin_head 1 4) add_body)

abbrev pub nest_back : Y.Stmt
nest_back = Y.Begin (Y.BlockOf (begin_head 2 6) back_body)

abbrev pub nest_end : Y.Stmts
nest_end = Y.StmtThen [] nest_back (Y.EndOfList [])

abbrev pub nest_rest : Y.Stmts
nest_rest = Y.StmtThen (nest_label ∷ []) nest_add nest_end

abbrev pub nest_body : Y.Stmts
nest_body = Y.StmtThen [] nest_first nest_rest

abbrev pub nest_program : Y.Program
nest_program =
    record {
      variables = (number_declared [] ∷ []) ∷ [];
      procedures = record { block = Y.BlockOf (row_head 0 0 1) nest_body; parameters = []; result = None } ∷ [];
    }

-- ---- its image

abbrev pub nest_environment : Environment
nest_environment = procedure_environment (row_head 0 0 1) (environment_of image_parts nest_program)

abbrev pub nest_main : Procedure
nest_main =
    record {
      head = row_head 0 0 1;
      body = nest_body;
      words = block_words nest_environment 0 nest_body;
      saved = block_held nest_environment 0 nest_body;
      variables = variables_code nest_environment 1;
    }

-- the begin blocks, in as many blocks more as may be entered
abbrev pub nest_inner : Y.BlockHead → Y.Stmts → (more : ℕ) → Inner
nest_inner head body more =
    record {
      head = head;
      body = body;
      words = block_words nest_environment head.number body;
      variables = [];
      around = record { program = nest_program; enter = entered nest_program more; turns = suc more; line = 0 };
      made = λ q. q;
    }

abbrev pub nest_code : Code
nest_code = code_of image_parts nest_program

abbrev pub nest_coded : Code
nest_coded = Mark (ProcedureEntry 0) ∷ procedure_code nest_environment nest_main

abbrev pub nest_entry : ℕ
nest_entry = size_of (start_of 0) + size_of raise_code

abbrev pub nest_image : (input : List ℕ) → (acts : ℕ) → Image
nest_image input acts =
    record {
      code = linked_code nest_code;
      links = links_of nest_code;
      units = [];
      signatures = map template_of (table_of nest_program);
      constants = no_constants;
      fills = [];
      input = input;
      acts = acts;
      serials = 1;
    }

pub record NestRan : Type 0 where
  -- whatever memory, input and number of acts that are allowed, the run does what the program does
  pub runs :
      (input first : List ℕ) (acts : ℕ) → acts + 1 < 2 ^ 64 → length first ≡ memory_size →
      Comes (linked_code nest_code) 0 (first_family first (services_of (start_point (nest_image input acts))))
      (services_of (start_point (nest_image input acts))) (never_in (nest_image input acts))
      (run nest_program (suc acts) acts (first_state input))
  -- that ends in the first begin block, which is entered again, since 2 ^ 31 has more than 31 bits
  pub ends :
      (input : List ℕ) →
      meaning nest_program input 11
      ≡ Some (record {
        acts = 11;
        output = [];
        raised = (C.FixedOverflow, 20) ∷ (C.Error, 20) ∷ [];
        end = E.Error 20 5;
      })
