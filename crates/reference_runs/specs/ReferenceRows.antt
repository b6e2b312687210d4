-- A worked row: a main procedure that calls another in a loop and passes its variable, which that doubles.
use Rattle.std.specs.Prelude.{ℕ, suc, ◌+◌, ◌^◌, ◌<◌, ◌≡◌, List, [], ◌∷◌, length, map, None, Some}
use Rattle.rv_meaning.specs.Machine.{memory_size}
use Rattle.pli_language.specs.declared.condition.Condition.TheVariants as C
use Rattle.pli_typing.specs.TypedTree as Y
use Rattle.pli_meaning.specs.declared.outcome.End.TheVariants as E
use Rattle.pli_meaning.specs.Control.{Label}
use Rattle.pli_meaning.specs.Executing.{meaning, run}
use Rattle.pli_meaning.specs.StorageState.{first_state}
use Rattle.pli_serving.specs.Templates.{template_of}
use Rattle.pli_coding.specs.Assembly.{Code, Mark, ProcedureEntry, size_of}
use Rattle.pli_coding.specs.Entries.{variables_code}
use Rattle.pli_coding.specs.Environments.{Environment}
use Rattle.pli_coding.specs.Images.{code_of, environment_of, linked_code, raise_code}
use Rattle.pli_coding.specs.Linking.{links_of}
use Rattle.pli_coding.specs.Procedures.{procedure_environment}
use Rattle.pli_coding.specs.SignatureTable.{table_of}
use Rattle.pli_coding.specs.Statements.{block_held, block_words}
use Rattle.storage_relation.specs.Versions.{no_constants}
use Rattle.activation_relation.specs.Layers.{services_of}
use Rattle.run_steps.specs.Reach.{Comes}
use Rattle.program_runs.specs.Procedures.{Procedure, procedure_code}
use Rattle.program_runs.specs.Rows.{row_head}
use Rattle.program_runs.specs.Starts.{Image, first_family, image_parts, start_of, start_point, never_in}
use Rattle.expression_runs.specs.Assignments.{assignment}
use Rattle.expression_runs.specs.Variables.{Spot, number_declared, whole}
use Rattle.argument_runs.specs.Parameters.{parameter, parameter_declared}
use Rattle.reference_runs.specs.ParameterAssignments as N
use Rattle.reference_runs.specs.Receivers.{receiving_code}

-- ---- the program: DECLARE X FIXED BINARY(31); P: PROCEDURE (N); DECLARE N FIXED BINARY(31); N = N + N; END P;
-- X = 536870912; L: CALL P(X); GOTO L;

abbrev pub outer_spot : Spot
outer_spot = record { block = 0; level = 0; index = 0 }

abbrev pub passed_spot : Spot
passed_spot = record { block = 1; level = 1; index = 0 }

abbrev pub passed_label : Label
passed_label = 76 ∷ []

abbrev pub passed_first : Y.Stmt
passed_first = assignment outer_spot (Y.NumberConstant 536870912) 5

abbrev pub passed_call : Y.Stmt
passed_call =
    Y.CallProcedure (Y.Calling 1 0 (Y.ArgumentThen (Y.ByReference (whole outer_spot)) Y.NoArgument)) 6

abbrev pub passed_back : Y.Stmt
passed_back = Y.Goto 0 passed_label 7

abbrev pub passed_end : Y.Stmts
passed_end = Y.StmtThen [] passed_back (Y.EndOfList [])

abbrev pub passed_rest : Y.Stmts
passed_rest = Y.StmtThen (passed_label ∷ []) passed_call passed_end

abbrev pub passed_body : Y.Stmts
passed_body = Y.StmtThen [] passed_first passed_rest

abbrev pub twice : Y.Number
twice = Y.Calculated Y.Sum (Y.NumberIn (parameter passed_spot)) (Y.NumberIn (parameter passed_spot))

abbrev pub inner_only : Y.Stmt
inner_only = N.assignment passed_spot twice 4

abbrev pub inner_body : Y.Stmts
inner_body = Y.StmtThen [] inner_only (Y.EndOfList [])

abbrev pub passed_procedure : Y.Procedure
passed_procedure = record { block = Y.BlockOf (row_head 1 1 2) inner_body; parameters = 0 ∷ []; result = None }

abbrev pub passed_program : Y.Program
passed_program =
    record {
      variables = (number_declared [] ∷ []) ∷ (parameter_declared ∷ []) ∷ [];
      procedures =
          record { block = Y.BlockOf (row_head 0 0 1) passed_body; parameters = []; result = None }
          ∷ passed_procedure ∷ [];
    }

-- ---- its image

abbrev pub passed_environment : Environment
passed_environment = procedure_environment (row_head 0 0 1) (environment_of image_parts passed_program)

abbrev pub inner_environment : Environment
inner_environment = procedure_environment (row_head 1 1 2) (environment_of image_parts passed_program)

abbrev pub passed_main : Procedure
passed_main =
    record {
      head = row_head 0 0 1;
      body = passed_body;
      words = block_words passed_environment 0 passed_body;
      saved = block_held passed_environment 0 passed_body;
      variables = variables_code passed_environment 1;
    }

abbrev pub passed_inner : Procedure
passed_inner =
    record {
      head = row_head 1 1 2;
      body = inner_body;
      words = block_words inner_environment 1 inner_body;
      saved = block_held inner_environment 1 inner_body;
      variables = [];
    }

abbrev pub passed_code : Code
passed_code = code_of image_parts passed_program

abbrev pub main_coded : Code
main_coded = Mark (ProcedureEntry 0) ∷ procedure_code passed_environment passed_main

abbrev pub inner_coded : Code
inner_coded = Mark (ProcedureEntry 1) ∷ receiving_code inner_environment passed_inner

abbrev pub passed_entry : ℕ
passed_entry = size_of (start_of 0) + size_of raise_code

abbrev pub inner_entry : ℕ
inner_entry = passed_entry + size_of main_coded

abbrev pub passed_image : (input : List ℕ) → (acts : ℕ) → Image
passed_image input acts =
    record {
      code = linked_code passed_code;
      links = links_of passed_code;
      units = [];
      signatures = map template_of (table_of passed_program);
      constants = no_constants;
      fills = [];
      input = input;
      acts = acts;
      serials = 1;
    }

pub record ReferenceRan : Type 0 where
  -- whatever memory, input and number of acts that are allowed, the run does what the program does
  pub runs :
      (input first : List ℕ) (acts : ℕ) → acts + 1 < 2 ^ 64 → length first ≡ memory_size →
      Comes (linked_code passed_code) 0 (first_family first (services_of (start_point (passed_image input acts))))
      (services_of (start_point (passed_image input acts))) (never_in (passed_image input acts))
      (run passed_program (suc acts) acts (first_state input))
  -- that ends in the second call, since 2 ^ 31 has more than 31 bits
  pub ends :
      (input : List ℕ) →
      meaning passed_program input 12
      ≡ Some (record {
        acts = 12;
        output = [];
        raised = (C.FixedOverflow, 20) ∷ (C.Error, 20) ∷ [];
        end = E.Error 20 4;
      })
