-- A worked row: a main procedure with ON in a loop; its unit, a single statement, jumps out of it.
use Rattle.std.specs.Prelude.{ℕ, suc, ◌+◌, ◌*◌, ◌^◌, ◌<◌, ◌≡◌, List, [], ◌∷◌, length, map, None, Some}
use Rattle.rv_meaning.specs.Machine.{memory_size}
use Rattle.pli_language.specs.declared.condition.Condition.TheVariants as C
use Rattle.pli_typing.specs.TypedTree as Y
use Rattle.pli_meaning.specs.declared.outcome.End.TheVariants as E
use Rattle.pli_meaning.specs.Control.{Label}
use Rattle.pli_meaning.specs.Executing.{meaning, run}
use Rattle.pli_meaning.specs.StorageState.{first_state}
use Rattle.pli_serving.specs.Templates.{template_of}
use Rattle.pli_coding.specs.Allocating.{act_code}
use Rattle.pli_coding.specs.Assembly.{Code, Mark, ProcedureEntry, size_of}
use Rattle.pli_coding.specs.Entries.{variables_code}
use Rattle.pli_coding.specs.Environments.{Environment, none_taken}
use Rattle.pli_coding.specs.Images.{code_of, environment_of, linked_code, raise_code}
use Rattle.pli_coding.specs.Linking.{links_of}
use Rattle.pli_coding.specs.Procedures.{procedure_environment}
use Rattle.pli_coding.specs.SignatureTable.{table_of}
use Rattle.pli_coding.specs.Statements.{block_held, block_words, stmt_code}
use Rattle.storage_relation.specs.Versions.{no_constants}
use Rattle.activation_relation.specs.Chains.{UnitPlaces}
use Rattle.activation_relation.specs.Layers.{services_of}
use Rattle.run_steps.specs.Reach.{Comes}
use Rattle.program_runs.specs.Procedures.{Procedure, begin_of, procedure_code}
use Rattle.program_runs.specs.Rows.{row_head}
use Rattle.program_runs.specs.Starts.{Image, first_family, image_parts, start_of, start_point, never_in}
use Rattle.expression_runs.specs.Assignments.{assignment}
use Rattle.expression_runs.specs.Variables.{Spot, number_declared, whole}
use Rattle.unit_runs.specs.Establishing.{OnUnit, on_of, unit_index, unit_of}

-- ---- the program: DECLARE X FIXED BINARY(31); X = 536870912; L: ON FIXEDOVERFLOW GOTO M; X = X + X; GOTO L; M: ;

abbrev pub loop_spot : Spot
loop_spot = record { block = 0; level = 0; index = 0 }

abbrev pub loop_label : Label
loop_label = 76 ∷ []

abbrev pub out_label : Label
out_label = 77 ∷ []

abbrev pub loop_first : Y.Stmt
loop_first = assignment loop_spot (Y.NumberConstant 536870912) 3

abbrev pub loop_jump : Y.Stmt
loop_jump = Y.Goto 0 out_label 4

abbrev pub loop_unit : OnUnit
loop_unit =
    record {
      condition = C.FixedOverflow;
      head = record { kind = Y.SimpleUnit; number = 1; level = 1; line = 4 };
      body = Y.StmtThen [] loop_jump (Y.EndOfList []);
      line = 4;
    }

abbrev pub loop_twice : Y.Number
loop_twice = Y.Calculated Y.Sum (Y.NumberIn (whole loop_spot)) (Y.NumberIn (whole loop_spot))

abbrev pub loop_again : Y.Stmt
loop_again = assignment loop_spot loop_twice 5

abbrev pub loop_back : Y.Stmt
loop_back = Y.Goto 0 loop_label 6

abbrev pub loop_last : Y.Stmts
loop_last = Y.StmtThen (out_label ∷ []) (Y.Null 7) (Y.EndOfList [])

abbrev pub loop_turn : Y.Stmts
loop_turn = Y.StmtThen [] loop_back loop_last

abbrev pub loop_end : Y.Stmts
loop_end = Y.StmtThen [] loop_again loop_turn

abbrev pub loop_rest : Y.Stmts
loop_rest = Y.StmtThen (loop_label ∷ []) (on_of loop_unit) loop_end

abbrev pub loop_body : Y.Stmts
loop_body = Y.StmtThen [] loop_first loop_rest

abbrev pub loop_program : Y.Program
loop_program =
    record {
      variables = (number_declared [] ∷ []) ∷ [];
      procedures = record { block = Y.BlockOf (row_head 0 0 1) loop_body; parameters = []; result = None } ∷ [];
    }

-- ---- its image

abbrev pub loop_environment : Environment
loop_environment = procedure_environment (row_head 0 0 1) (environment_of image_parts loop_program)

abbrev pub loop_main : Procedure
loop_main =
    record {
      head = row_head 0 0 1;
      body = loop_body;
      words = block_words loop_environment 0 loop_body;
      saved = block_held loop_environment 0 loop_body;
      variables = variables_code loop_environment 1;
    }

abbrev pub loop_code : Code
loop_code = code_of image_parts loop_program

abbrev pub loop_coded : Code
loop_coded = Mark (ProcedureEntry 0) ∷ procedure_code loop_environment loop_main

abbrev pub loop_entry : ℕ
loop_entry = size_of (start_of 0) + size_of raise_code

-- the indices of the first statement and of the ON
abbrev pub loop_start : ℕ
loop_start = loop_entry + size_of (begin_of loop_main) + size_of loop_main.variables + size_of (act_code 1)

abbrev pub loop_on : ℕ
loop_on = loop_start + size_of (stmt_code loop_environment none_taken loop_first)

-- where the code of its unit stands
abbrev pub loop_units : UnitPlaces
loop_units = record { unit = unit_of loop_unit; at = 4 * unit_index loop_unit loop_on } ∷ []

abbrev pub loop_image : (input : List ℕ) → (acts : ℕ) → Image
loop_image input acts =
    record {
      code = linked_code loop_code;
      links = links_of loop_code;
      units = loop_units;
      signatures = map template_of (table_of loop_program);
      constants = no_constants;
      fills = [];
      input = input;
      acts = acts;
      serials = 1;
    }

pub record LoopRan : Type 0 where
  -- whatever memory, input and number of acts that are allowed, the run does what the program does
  pub runs :
      (input first : List ℕ) (acts : ℕ) → acts + 1 < 2 ^ 64 → length first ≡ memory_size →
      Comes (linked_code loop_code) 0 (first_family first (services_of (start_point (loop_image input acts))))
      (services_of (start_point (loop_image input acts))) (never_in (loop_image input acts))
      (run loop_program (suc acts) acts (first_state input))
  -- that leaves the loop in its second turn, by the unit that the second ON has established in place of the first
  pub ends :
      (input : List ℕ) →
      meaning loop_program input 12
      ≡ Some (record { acts = 12; output = []; raised = (C.FixedOverflow, 20) ∷ []; end = E.Finished })
