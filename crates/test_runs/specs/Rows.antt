-- A worked row: a main procedure that doubles a FIXED BINARY(31) variable in DO WHILE, by one of two
-- statements of IF, and then once more, so that it overflows.
use Rattle.std.specs.Prelude.{ℕ, suc, ◌+◌, ◌^◌, ◌<◌, ◌≡◌, List, [], ◌∷◌, length, map, None, Some}
use Rattle.rv_meaning.specs.Machine.{memory_size}
use Rattle.pli_language.specs.declared.condition.Condition.TheVariants as C
use Rattle.pli_typing.specs.TypedTree as Y
use Rattle.pli_meaning.specs.declared.outcome.End.TheVariants as E
use Rattle.pli_meaning.specs.Executing.{meaning, run}
use Rattle.pli_meaning.specs.StorageState.{first_state}
use Rattle.pli_serving.specs.Templates.{template_of}
use Rattle.pli_coding.specs.Assembly.{Code, Mark, ProcedureEntry, size_of}
use Rattle.pli_coding.specs.Entries.{variables_code}
use Rattle.pli_coding.specs.Environments.{Environment}
use Rattle.pli_coding.specs.Images.{code_of, environment_of, linked_code, raise_code}
use Rattle.pli_coding.specs.Linking.{links_of}
use Rattle.pli_coding.specs.Procedures.{procedure_environment}
use Rattle.pli_coding.specs.SignatureTable.{table_of}
use Rattle.pli_coding.specs.Statements.{block_held, block_words}
use Rattle.storage_relation.specs.Versions.{no_constants}
use Rattle.activation_relation.specs.Layers.{services_of}
use Rattle.run_steps.specs.Reach.{Comes}
use Rattle.program_runs.specs.Procedures.{Procedure, procedure_code}
use Rattle.program_runs.specs.Rows.{row_head}
use Rattle.program_runs.specs.Starts.{Image, first_family, image_parts, start_of, start_point, never_in}
use Rattle.expression_runs.specs.Assignments.{assignment}
use Rattle.expression_runs.specs.Variables.{Spot, number_declared, whole}

-- ---- the program

-- DECLARE X FIXED BINARY(31); X = 100000000;
-- DO WHILE (X < 1000000000); IF X < 300000000 THEN X = X + X; ELSE DO; X = X + X; END; END; X = X + X;

abbrev pub turn_spot : Spot
turn_spot = record { block = 0; level = 0; index = 0 }

abbrev pub turn_value : Y.Number
turn_value = Y.NumberIn (whole turn_spot)

abbrev pub turn_sum : Y.Number
turn_sum = Y.Calculated Y.Sum turn_value turn_value

abbrev pub below : ℕ → Y.Bit
below n = Y.NumbersCompared Y.IsLess turn_value (Y.NumberConstant n)

abbrev pub turn_first : Y.Stmt
turn_first = assignment turn_spot (Y.NumberConstant 100000000) 3

abbrev pub turn_unit : Y.Stmt
turn_unit = assignment turn_spot turn_sum 5

abbrev pub turn_group : Y.Stmts
turn_group = Y.StmtThen [] (assignment turn_spot turn_sum 7) (Y.EndOfList [])

abbrev pub turn_other : Y.Stmt
turn_other = Y.Do turn_group 6

abbrev pub turn_choice : Y.Stmt
turn_choice = Y.IfElse (below 300000000) turn_unit turn_other 5

abbrev pub turn_turns : Y.Stmts
turn_turns = Y.StmtThen [] turn_choice (Y.EndOfList [])

abbrev pub turn_loop : Y.Stmt
turn_loop = Y.DoWhile (below 1000000000) turn_turns 4

abbrev pub turn_last : Y.Stmt
turn_last = assignment turn_spot turn_sum 8

abbrev pub turn_end : Y.Stmts
turn_end = Y.StmtThen [] turn_last (Y.EndOfList [])

abbrev pub turn_rest : Y.Stmts
turn_rest = Y.StmtThen [] turn_loop turn_end

abbrev pub turn_body : Y.Stmts
turn_body = Y.StmtThen [] turn_first turn_rest

abbrev pub turn_program : Y.Program
turn_program =
    record {
      variables = (number_declared [] ∷ []) ∷ [];
      procedures =
          record { block = Y.BlockOf (row_head 0 0 1) turn_body; parameters = []; result = None } ∷ [];
    }

-- ---- its image

abbrev pub turn_environment : Environment
turn_environment = procedure_environment (row_head 0 0 1) (environment_of image_parts turn_program)

abbrev pub turn_main : Procedure
turn_main =
    record {
      head = row_head 0 0 1;
      body = turn_body;
      words = block_words turn_environment 0 turn_body;
      saved = block_held turn_environment 0 turn_body;
      variables = variables_code turn_environment 1;
    }

abbrev pub turn_code : Code
turn_code = code_of image_parts turn_program

abbrev pub turn_coded : Code
turn_coded = Mark (ProcedureEntry 0) ∷ procedure_code turn_environment turn_main

abbrev pub turn_entry : ℕ
turn_entry = size_of (start_of 0) + size_of raise_code

abbrev pub turn_image : (input : List ℕ) → (acts : ℕ) → Image
turn_image input acts =
    record {
      code = linked_code turn_code;
      links = links_of turn_code;
      units = [];
      signatures = map template_of (table_of turn_program);
      constants = no_constants;
      fills = [];
      input = input;
      acts = acts;
      serials = 1;
    }

pub record TurnRan : Type 0 where
  -- whatever memory, input and number of acts that are allowed, the run does what the program does
  pub runs :
      (input first : List ℕ) (acts : ℕ) → acts + 1 < 2 ^ 64 → length first ≡ memory_size →
      Comes (linked_code turn_code) 0 (first_family first (services_of (start_point (turn_image input acts))))
      (services_of (start_point (turn_image input acts))) (never_in (turn_image input acts))
      (run turn_program (suc acts) acts (first_state input))
  -- that ends behind the fourth turn
  pub ends :
      (input : List ℕ) →
      meaning turn_program input 22
      ≡ Some (record {
        acts = 22;
        output = [];
        raised = (C.FixedOverflow, 20) ∷ (C.Error, 20) ∷ [];
        end = E.Error 20 8;
      })
