-- A worked row: a main procedure that adds what a function returns to a FIXED BINARY(31) variable, until it overflows.
use Rattle.std.specs.Prelude.{ℕ, suc, ◌+◌, ◌^◌, ◌<◌, ◌≡◌, List, [], ◌∷◌, length, map, None, Some}
use Rattle.rv_meaning.specs.Machine.{memory_size}
use Rattle.pli_language.specs.declared.condition.Condition.TheVariants as C
use Rattle.pli_typing.specs.TypedTree as Y
use Rattle.pli_meaning.specs.declared.outcome.End.TheVariants as E
use Rattle.pli_meaning.specs.Executing.{meaning, run}
use Rattle.pli_meaning.specs.StorageState.{first_state}
use Rattle.pli_serving.specs.Templates.{template_of}
use Rattle.pli_coding.specs.Assembly.{Code, Mark, ProcedureEntry, size_of}
use Rattle.pli_coding.specs.Entries.{variables_code}
use Rattle.pli_coding.specs.Environments.{Environment}
use Rattle.pli_coding.specs.Images.{code_of, environment_of, linked_code, raise_code}
use Rattle.pli_coding.specs.Linking.{links_of}
use Rattle.pli_coding.specs.Procedures.{procedure_environment}
use Rattle.pli_coding.specs.SignatureTable.{table_of}
use Rattle.pli_coding.specs.Statements.{block_held, block_words}
use Rattle.storage_relation.specs.Versions.{no_constants}
use Rattle.activation_relation.specs.Layers.{services_of}
use Rattle.run_steps.specs.Reach.{Comes}
use Rattle.program_runs.specs.Procedures.{Procedure, block_of, procedure_code}
use Rattle.program_runs.specs.Rows.{row_head}
use Rattle.program_runs.specs.Starts.{Image, first_family, image_parts, start_of, start_point, never_in}
use Rattle.expression_runs.specs.Assignments.{assignment}
use Rattle.expression_runs.specs.Variables.{Spot, number_declared, whole}
use Rattle.function_runs.specs.Functions.{function_code}
use Rattle.function_runs.specs.Returns.{return_of}

-- ---- the program: DECLARE X FIXED BINARY(31); F: PROCEDURE RETURNS(FIXED BINARY(31)); RETURN (X + X); END F;
-- X = 715827883; X = X + F();

abbrev pub fetch_spot : Spot
fetch_spot = record { block = 0; level = 0; index = 0 }

abbrev pub fetch_first : Y.Stmt
fetch_first = assignment fetch_spot (Y.NumberConstant 715827883) 5

abbrev pub fetched : Y.Number
fetched = Y.NumberFrom (Y.Calling 1 0 Y.NoArgument)

abbrev pub fetch_added : Y.Number
fetch_added = Y.Calculated Y.Sum (Y.NumberIn (whole fetch_spot)) fetched

abbrev pub fetch_again : Y.Stmt
fetch_again = assignment fetch_spot fetch_added 6

abbrev pub fetch_rest : Y.Stmts
fetch_rest = Y.StmtThen [] fetch_again (Y.EndOfList [])

abbrev pub fetch_body : Y.Stmts
fetch_body = Y.StmtThen [] fetch_first fetch_rest

abbrev pub fetch_twice : Y.Number
fetch_twice = Y.Calculated Y.Sum (Y.NumberIn (whole fetch_spot)) (Y.NumberIn (whole fetch_spot))

abbrev pub fetch_return : Y.Stmt
fetch_return = return_of fetch_twice 3

abbrev pub inner_body : Y.Stmts
inner_body = Y.StmtThen [] fetch_return (Y.EndOfList [])

abbrev pub inner_procedure : Y.Procedure
inner_procedure =
    record { block = Y.BlockOf (row_head 1 1 2) inner_body; parameters = []; result = Some (Y.FixedLeaf 31) }

abbrev pub fetch_program : Y.Program
fetch_program =
    record {
      variables = (number_declared [] ∷ []) ∷ [] ∷ [];
      procedures =
          record { block = Y.BlockOf (row_head 0 0 1) fetch_body; parameters = []; result = None }
          ∷ inner_procedure ∷ [];
    }

-- ---- its image

abbrev pub fetch_environment : Environment
fetch_environment = procedure_environment (row_head 0 0 1) (environment_of image_parts fetch_program)

abbrev pub inner_environment : Environment
inner_environment = procedure_environment (row_head 1 1 2) (environment_of image_parts fetch_program)

abbrev pub fetch_main : Procedure
fetch_main =
    record {
      head = row_head 0 0 1;
      body = fetch_body;
      words = block_words fetch_environment 0 fetch_body;
      saved = block_held fetch_environment 0 fetch_body;
      variables = variables_code fetch_environment 1;
    }

abbrev pub fetch_inner : Procedure
fetch_inner =
    record {
      head = row_head 1 1 2;
      body = inner_body;
      words = block_words inner_environment 1 inner_body;
      saved = block_held inner_environment 1 inner_body;
      variables = [];
    }

abbrev pub fetch_code : Code
fetch_code = code_of image_parts fetch_program

abbrev pub main_coded : Code
main_coded = Mark (ProcedureEntry 0) ∷ procedure_code fetch_environment fetch_main

abbrev pub inner_coded : Code
inner_coded = Mark (ProcedureEntry 1) ∷ function_code inner_environment fetch_inner

abbrev pub fetch_entry : ℕ
fetch_entry = size_of (start_of 0) + size_of raise_code

abbrev pub inner_entry : ℕ
inner_entry = fetch_entry + size_of main_coded

abbrev pub fetch_image : (input : List ℕ) → (acts : ℕ) → Image
fetch_image input acts =
    record {
      code = linked_code fetch_code;
      links = links_of fetch_code;
      units = [];
      signatures = map template_of (table_of fetch_program);
      constants = no_constants;
      fills = [];
      input = input;
      acts = acts;
      serials = 1;
    }

pub record FetchRan : Type 0 where
  -- whatever memory, input and number of acts that are allowed, the run does what the program does
  pub runs :
      (input first : List ℕ) (acts : ℕ) → acts + 1 < 2 ^ 64 → length first ≡ memory_size →
      Comes (linked_code fetch_code) 0 (first_family first (services_of (start_point (fetch_image input acts))))
      (services_of (start_point (fetch_image input acts))) (never_in (fetch_image input acts))
      (run fetch_program (suc acts) acts (first_state input))
  -- that ends in the second assignment, since 2147483649 has more than 31 bits
  pub ends :
      (input : List ℕ) →
      meaning fetch_program input 8
      ≡ Some (record {
        acts = 8;
        output = [];
        raised = (C.FixedOverflow, 20) ∷ (C.Error, 20) ∷ [];
        end = E.Error 20 6;
      })
