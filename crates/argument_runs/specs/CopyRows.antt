-- A worked row: a main procedure that calls another in a loop, with an argument that is copied.
use Rattle.std.specs.Prelude.{ℕ, suc, ◌+◌, ◌^◌, ◌<◌, ◌≡◌, List, [], ◌∷◌, length, map, None, Some}
use Rattle.rv_meaning.specs.Machine.{memory_size}
use Rattle.pli_language.specs.declared.condition.Condition.TheVariants as C
use Rattle.pli_typing.specs.TypedTree as Y
use Rattle.pli_meaning.specs.declared.outcome.End.TheVariants as E
use Rattle.pli_meaning.specs.Control.{Label}
use Rattle.pli_meaning.specs.Executing.{meaning, run}
use Rattle.pli_meaning.specs.StorageState.{first_state}
use Rattle.pli_serving.specs.Templates.{template_of}
use Rattle.pli_coding.specs.Assembly.{Code, Mark, ProcedureEntry, size_of}
use Rattle.pli_coding.specs.Entries.{variables_code}
use Rattle.pli_coding.specs.Environments.{Environment}
use Rattle.pli_coding.specs.Images.{code_of, environment_of, linked_code, raise_code}
use Rattle.pli_coding.specs.Linking.{links_of}
use Rattle.pli_coding.specs.Procedures.{procedure_environment}
use Rattle.pli_coding.specs.SignatureTable.{table_of}
use Rattle.pli_coding.specs.Statements.{block_held, block_words}
use Rattle.storage_relation.specs.Versions.{no_constants}
use Rattle.activation_relation.specs.Layers.{services_of}
use Rattle.run_steps.specs.Reach.{Comes}
use Rattle.program_runs.specs.Procedures.{Procedure, procedure_code}
use Rattle.program_runs.specs.Rows.{row_head}
use Rattle.program_runs.specs.Starts.{Image, first_family, image_parts, start_of, start_point, never_in}
use Rattle.expression_runs.specs.Assignments.{assignment}
use Rattle.expression_runs.specs.Variables.{Spot, number_declared, whole}
use Rattle.argument_runs.specs.CopyCalls.{copying_code}
use Rattle.argument_runs.specs.Parameters.{parameter, parameter_declared}

-- ---- the program: DECLARE X FIXED BINARY(31); P: PROCEDURE (N); DECLARE N FIXED BINARY(31); X = N + N; END P;
-- X = 536870911; L: CALL P(X + 1); GOTO L;

abbrev pub outer_spot : Spot
outer_spot = record { block = 0; level = 0; index = 0 }

abbrev pub given_spot : Spot
given_spot = record { block = 1; level = 1; index = 0 }

abbrev pub given_label : Label
given_label = 76 ∷ []

abbrev pub given_first : Y.Stmt
given_first = assignment outer_spot (Y.NumberConstant 536870911) 5

abbrev pub one_more : Y.Number
one_more = Y.Calculated Y.Sum (Y.NumberIn (whole outer_spot)) (Y.NumberConstant 1)

abbrev pub given_call : Y.Stmt
given_call =
    Y.CallProcedure
    (Y.Calling 1 0 (Y.ArgumentThen (Y.ByCopy (Y.FixedLeaf 31) (Y.StoredNumber 31 one_more)) Y.NoArgument)) 6

abbrev pub given_back : Y.Stmt
given_back = Y.Goto 0 given_label 7

abbrev pub given_end : Y.Stmts
given_end = Y.StmtThen [] given_back (Y.EndOfList [])

abbrev pub given_rest : Y.Stmts
given_rest = Y.StmtThen (given_label ∷ []) given_call given_end

abbrev pub given_body : Y.Stmts
given_body = Y.StmtThen [] given_first given_rest

abbrev pub twice : Y.Number
twice = Y.Calculated Y.Sum (Y.NumberIn (parameter given_spot)) (Y.NumberIn (parameter given_spot))

abbrev pub inner_only : Y.Stmt
inner_only = assignment outer_spot twice 4

abbrev pub inner_body : Y.Stmts
inner_body = Y.StmtThen [] inner_only (Y.EndOfList [])

abbrev pub given_procedure : Y.Procedure
given_procedure = record { block = Y.BlockOf (row_head 1 1 2) inner_body; parameters = 0 ∷ []; result = None }

abbrev pub given_program : Y.Program
given_program =
    record {
      variables = (number_declared [] ∷ []) ∷ (parameter_declared ∷ []) ∷ [];
      procedures =
          record { block = Y.BlockOf (row_head 0 0 1) given_body; parameters = []; result = None }
          ∷ given_procedure ∷ [];
    }

-- ---- its image

abbrev pub given_environment : Environment
given_environment = procedure_environment (row_head 0 0 1) (environment_of image_parts given_program)

abbrev pub inner_environment : Environment
inner_environment = procedure_environment (row_head 1 1 2) (environment_of image_parts given_program)

abbrev pub given_main : Procedure
given_main =
    record {
      head = row_head 0 0 1;
      body = given_body;
      words = block_words given_environment 0 given_body;
      saved = block_held given_environment 0 given_body;
      variables = variables_code given_environment 1;
    }

abbrev pub given_inner : Procedure
given_inner =
    record {
      head = row_head 1 1 2;
      body = inner_body;
      words = block_words inner_environment 1 inner_body;
      saved = block_held inner_environment 1 inner_body;
      variables = [];
    }

abbrev pub given_code : Code
given_code = code_of image_parts given_program

abbrev pub main_coded : Code
main_coded = Mark (ProcedureEntry 0) ∷ procedure_code given_environment given_main

abbrev pub inner_coded : Code
inner_coded = Mark (ProcedureEntry 1) ∷ copying_code inner_environment given_inner

abbrev pub given_entry : ℕ
given_entry = size_of (start_of 0) + size_of raise_code

abbrev pub inner_entry : ℕ
inner_entry = given_entry + size_of main_coded

abbrev pub given_image : (input : List ℕ) → (acts : ℕ) → Image
given_image input acts =
    record {
      code = linked_code given_code;
      links = links_of given_code;
      units = [];
      signatures = map template_of (table_of given_program);
      constants = no_constants;
      fills = [];
      input = input;
      acts = acts;
      serials = 1;
    }

pub record CopyRan : Type 0 where
  -- whatever memory, input and number of acts that are allowed, the run does what the program does
  pub runs :
      (input first : List ℕ) (acts : ℕ) → acts + 1 < 2 ^ 64 → length first ≡ memory_size →
      Comes (linked_code given_code) 0 (first_family first (services_of (start_point (given_image input acts))))
      (services_of (start_point (given_image input acts))) (never_in (given_image input acts))
      (run given_program (suc acts) acts (first_state input))
  -- that ends in the second call, since 2 ^ 31 has more than 31 bits
  pub ends :
      (input : List ℕ) →
      meaning given_program input 12
      ≡ Some (record {
        acts = 12;
        output = [];
        raised = (C.FixedOverflow, 20) ∷ (C.Error, 20) ∷ [];
        end = E.Error 20 4;
      })
