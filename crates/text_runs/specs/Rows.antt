-- A worked row: a main procedure that joins a number to what a function returns, which doubles it, until it overflows
-- in the function. The text of the number waits while the function runs.
use Rattle.std.specs.Prelude.{ℕ, suc, ◌+◌, ◌^◌, ◌<◌, ◌≡◌, List, [], ◌∷◌, length, map, None, Some}
use Rattle.rv_meaning.specs.Machine.{memory_size}
use Rattle.pli_language.specs.declared.condition.Condition.TheVariants as C
use Rattle.pli_typing.specs.TypedTree as Y
use Rattle.pli_meaning.specs.declared.outcome.End.TheVariants as E
use Rattle.pli_meaning.specs.Control.{Label}
use Rattle.pli_meaning.specs.Executing.{meaning, run}
use Rattle.pli_meaning.specs.StorageState.{first_state}
use Rattle.pli_serving.specs.Templates.{template_of}
use Rattle.pli_coding.specs.Assembly.{Code, Mark, ProcedureEntry, size_of}
use Rattle.pli_coding.specs.Entries.{variables_code}
use Rattle.pli_coding.specs.Environments.{Environment}
use Rattle.pli_coding.specs.Images.{code_of, environment_of, linked_code, raise_code}
use Rattle.pli_coding.specs.Linking.{links_of}
use Rattle.pli_coding.specs.Procedures.{procedure_environment}
use Rattle.pli_coding.specs.SignatureTable.{table_of}
use Rattle.pli_coding.specs.Statements.{block_held, block_words}
use Rattle.storage_relation.specs.Versions.{no_constants}
use Rattle.activation_relation.specs.Layers.{services_of}
use Rattle.run_steps.specs.Reach.{Comes}
use Rattle.program_runs.specs.Procedures.{Procedure, procedure_code}
use Rattle.program_runs.specs.Rows.{row_head}
use Rattle.program_runs.specs.Starts.{Image, first_family, image_parts, start_of, start_point, never_in}
use Rattle.expression_runs.specs.Assignments.{assignment}
use Rattle.expression_runs.specs.Variables.{Spot, number_declared, whole}
use Rattle.function_runs.specs.Functions.{function_code}
use Rattle.function_runs.specs.Returns.{return_of}

-- ---- the program: DECLARE X FIXED BINARY(31); F: PROCEDURE RETURNS(FIXED BINARY(31)); X = X + X; RETURN (X); END F;
-- X = 536870912; L: X = LENGTH(X || F()) + X; GOTO L;

abbrev pub wait_spot : Spot
wait_spot = record { block = 0; level = 0; index = 0 }

abbrev pub wait_label : Label
wait_label = 76 ∷ []

abbrev pub wait_number : Y.Number
wait_number = Y.NumberIn (whole wait_spot)

abbrev pub wait_twice : Y.Number
wait_twice = Y.Calculated Y.Sum wait_number wait_number

abbrev pub inner_first : Y.Stmt
inner_first = assignment wait_spot wait_twice 3

abbrev pub inner_last : Y.Stmt
inner_last = return_of wait_number 4

abbrev pub inner_rest : Y.Stmts
inner_rest = Y.StmtThen [] inner_last (Y.EndOfList [])

abbrev pub inner_body : Y.Stmts
inner_body = Y.StmtThen [] inner_first inner_rest

abbrev pub wait_first : Y.Stmt
wait_first = assignment wait_spot (Y.NumberConstant 536870912) 5

abbrev pub wait_called : Y.Number
wait_called = Y.NumberFrom (Y.Calling 1 0 Y.NoArgument)

abbrev pub wait_text : Y.Text
wait_text = Y.Joined (Y.TextOfNumber 31 wait_number) (Y.TextOfNumber 31 wait_called)

abbrev pub wait_added : Y.Number
wait_added = Y.Calculated Y.Sum (Y.LengthOf wait_text) wait_number

abbrev pub wait_again : Y.Stmt
wait_again = assignment wait_spot wait_added 6

abbrev pub wait_back : Y.Stmt
wait_back = Y.Goto 0 wait_label 7

abbrev pub wait_end : Y.Stmts
wait_end = Y.StmtThen [] wait_back (Y.EndOfList [])

abbrev pub wait_rest : Y.Stmts
wait_rest = Y.StmtThen (wait_label ∷ []) wait_again wait_end

abbrev pub wait_body : Y.Stmts
wait_body = Y.StmtThen [] wait_first wait_rest

abbrev pub wait_function : Y.Procedure
wait_function =
    record { block = Y.BlockOf (row_head 1 1 2) inner_body; parameters = []; result = Some (Y.FixedLeaf 31) }

abbrev pub wait_program : Y.Program
wait_program =
    record {
      variables = (number_declared [] ∷ []) ∷ [] ∷ [];
      procedures =
          record { block = Y.BlockOf (row_head 0 0 1) wait_body; parameters = []; result = None }
          ∷ wait_function ∷ [];
    }

-- ---- its image

abbrev pub wait_environment : Environment
wait_environment = procedure_environment (row_head 0 0 1) (environment_of image_parts wait_program)

abbrev pub inner_environment : Environment
inner_environment = procedure_environment (row_head 1 1 2) (environment_of image_parts wait_program)

abbrev pub wait_main : Procedure
wait_main =
    record {
      head = row_head 0 0 1;
      body = wait_body;
      words = block_words wait_environment 0 wait_body;
      saved = block_held wait_environment 0 wait_body;
      variables = variables_code wait_environment 1;
    }

abbrev pub wait_inner : Procedure
wait_inner =
    record {
      head = row_head 1 1 2;
      body = inner_body;
      words = block_words inner_environment 1 inner_body;
      saved = block_held inner_environment 1 inner_body;
      variables = [];
    }

abbrev pub wait_code : Code
wait_code = code_of image_parts wait_program

abbrev pub main_coded : Code
main_coded = Mark (ProcedureEntry 0) ∷ procedure_code wait_environment wait_main

abbrev pub inner_coded : Code
inner_coded = Mark (ProcedureEntry 1) ∷ function_code inner_environment wait_inner

abbrev pub wait_entry : ℕ
wait_entry = size_of (start_of 0) + size_of raise_code

abbrev pub inner_entry : ℕ
inner_entry = wait_entry + size_of main_coded

abbrev pub wait_image : (input : List ℕ) → (acts : ℕ) → Image
wait_image input acts =
    record {
      code = linked_code wait_code;
      links = links_of wait_code;
      units = [];
      signatures = map template_of (table_of wait_program);
      constants = no_constants;
      fills = [];
      input = input;
      acts = acts;
      serials = 1;
    }

pub record WaitRan : Type 0 where
  -- whatever memory, input and number of acts that are allowed, the run does what the program does
  pub runs :
      (input first : List ℕ) (acts : ℕ) → acts + 1 < 2 ^ 64 → length first ≡ memory_size →
      Comes (linked_code wait_code) 0 (first_family first (services_of (start_point (wait_image input acts))))
      (services_of (start_point (wait_image input acts))) (never_in (wait_image input acts))
      (run wait_program (suc acts) acts (first_state input))
  -- that ends in the second call, since 2 ^ 31 has more than 31 bits
  pub ends :
      (input : List ℕ) →
      meaning wait_program input 13
      ≡ Some (record {
        acts = 13;
        output = [];
        raised = (C.FixedOverflow, 20) ∷ (C.Error, 20) ∷ [];
        end = E.Error 20 3;
      })
