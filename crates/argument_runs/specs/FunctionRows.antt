-- A worked row: a main procedure that adds what a function returns of its variable, which goes to it as a copy.
use Rattle.std.specs.Prelude.{ℕ, suc, ◌+◌, ◌^◌, ◌<◌, ◌≡◌, List, [], ◌∷◌, length, map, None, Some}
use Rattle.rv_meaning.specs.Machine.{memory_size}
use Rattle.pli_language.specs.declared.condition.Condition.TheVariants as C
use Rattle.pli_typing.specs.TypedTree as Y
use Rattle.pli_meaning.specs.declared.outcome.End.TheVariants as E
use Rattle.pli_meaning.specs.Control.{Label}
use Rattle.pli_meaning.specs.Executing.{meaning, run}
use Rattle.pli_meaning.specs.StorageState.{first_state}
use Rattle.pli_serving.specs.Templates.{template_of}
use Rattle.pli_coding.specs.Assembly.{Code, Mark, ProcedureEntry, size_of}
use Rattle.pli_coding.specs.Entries.{variables_code}
use Rattle.pli_coding.specs.Environments.{Environment}
use Rattle.pli_coding.specs.Images.{code_of, environment_of, linked_code, raise_code}
use Rattle.pli_coding.specs.Linking.{links_of}
use Rattle.pli_coding.specs.Procedures.{procedure_environment}
use Rattle.pli_coding.specs.SignatureTable.{table_of}
use Rattle.pli_coding.specs.Statements.{block_held, block_words}
use Rattle.storage_relation.specs.Versions.{no_constants}
use Rattle.activation_relation.specs.Layers.{services_of}
use Rattle.run_steps.specs.Reach.{Comes}
use Rattle.program_runs.specs.Procedures.{Procedure, procedure_code}
use Rattle.program_runs.specs.Rows.{row_head}
use Rattle.program_runs.specs.Starts.{Image, first_family, image_parts, start_of, start_point, never_in}
use Rattle.expression_runs.specs.Assignments.{assignment}
use Rattle.expression_runs.specs.Variables.{Spot, number_declared, whole}
use Rattle.function_runs.specs.Returns.{return_of}
use Rattle.argument_runs.specs.CopyFunctions.{function_copying}
use Rattle.argument_runs.specs.Parameters.{parameter, parameter_declared}

-- ---- the program: DECLARE X FIXED BINARY(31); F: PROCEDURE (N) RETURNS(FIXED BINARY(31));
-- DECLARE N FIXED BINARY(31); RETURN (N + N); END F; X = 357913941; L: X = X + F(X + 1); GOTO L;

abbrev pub outer_spot : Spot
outer_spot = record { block = 0; level = 0; index = 0 }

abbrev pub given_spot : Spot
given_spot = record { block = 1; level = 1; index = 0 }

abbrev pub applied_label : Label
applied_label = 76 ∷ []

abbrev pub applied_first : Y.Stmt
applied_first = assignment outer_spot (Y.NumberConstant 357913941) 5

abbrev pub one_more : Y.Number
one_more = Y.Calculated Y.Sum (Y.NumberIn (whole outer_spot)) (Y.NumberConstant 1)

abbrev pub applied : Y.Number
applied =
    Y.NumberFrom
    (Y.Calling 1 0 (Y.ArgumentThen (Y.ByCopy (Y.FixedLeaf 31) (Y.StoredNumber 31 one_more)) Y.NoArgument))

abbrev pub added : Y.Number
added = Y.Calculated Y.Sum (Y.NumberIn (whole outer_spot)) applied

abbrev pub applied_again : Y.Stmt
applied_again = assignment outer_spot added 6

abbrev pub applied_back : Y.Stmt
applied_back = Y.Goto 0 applied_label 7

abbrev pub applied_end : Y.Stmts
applied_end = Y.StmtThen [] applied_back (Y.EndOfList [])

abbrev pub applied_rest : Y.Stmts
applied_rest = Y.StmtThen (applied_label ∷ []) applied_again applied_end

abbrev pub applied_body : Y.Stmts
applied_body = Y.StmtThen [] applied_first applied_rest

abbrev pub twice : Y.Number
twice = Y.Calculated Y.Sum (Y.NumberIn (parameter given_spot)) (Y.NumberIn (parameter given_spot))

abbrev pub inner_return : Y.Stmt
inner_return = return_of twice 3

abbrev pub inner_body : Y.Stmts
inner_body = Y.StmtThen [] inner_return (Y.EndOfList [])

abbrev pub applied_procedure : Y.Procedure
applied_procedure =
    record {
      block = Y.BlockOf (row_head 1 1 2) inner_body;
      parameters = 0 ∷ [];
      result = Some (Y.FixedLeaf 31);
    }

abbrev pub applied_program : Y.Program
applied_program =
    record {
      variables = (number_declared [] ∷ []) ∷ (parameter_declared ∷ []) ∷ [];
      procedures =
          record { block = Y.BlockOf (row_head 0 0 1) applied_body; parameters = []; result = None }
          ∷ applied_procedure ∷ [];
    }

-- ---- its image

abbrev pub applied_environment : Environment
applied_environment = procedure_environment (row_head 0 0 1) (environment_of image_parts applied_program)

abbrev pub inner_environment : Environment
inner_environment = procedure_environment (row_head 1 1 2) (environment_of image_parts applied_program)

abbrev pub applied_main : Procedure
applied_main =
    record {
      head = row_head 0 0 1;
      body = applied_body;
      words = block_words applied_environment 0 applied_body;
      saved = block_held applied_environment 0 applied_body;
      variables = variables_code applied_environment 1;
    }

abbrev pub applied_inner : Procedure
applied_inner =
    record {
      head = row_head 1 1 2;
      body = inner_body;
      words = block_words inner_environment 1 inner_body;
      saved = block_held inner_environment 1 inner_body;
      variables = [];
    }

abbrev pub applied_code : Code
applied_code = code_of image_parts applied_program

abbrev pub main_coded : Code
main_coded = Mark (ProcedureEntry 0) ∷ procedure_code applied_environment applied_main

abbrev pub inner_coded : Code
inner_coded = Mark (ProcedureEntry 1) ∷ function_copying inner_environment applied_inner

abbrev pub applied_entry : ℕ
applied_entry = size_of (start_of 0) + size_of raise_code

abbrev pub inner_entry : ℕ
inner_entry = applied_entry + size_of main_coded

abbrev pub applied_image : (input : List ℕ) → (acts : ℕ) → Image
applied_image input acts =
    record {
      code = linked_code applied_code;
      links = links_of applied_code;
      units = [];
      signatures = map template_of (table_of applied_program);
      constants = no_constants;
      fills = [];
      input = input;
      acts = acts;
      serials = 1;
    }

pub record FunctionRan : Type 0 where
  -- whatever memory, input and number of acts that are allowed, the run does what the program does
  pub runs :
      (input first : List ℕ) (acts : ℕ) → acts + 1 < 2 ^ 64 → length first ≡ memory_size →
      Comes (linked_code applied_code) 0 (first_family first (services_of (start_point (applied_image input acts))))
      (services_of (start_point (applied_image input acts))) (never_in (applied_image input acts))
      (run applied_program (suc acts) acts (first_state input))
  -- that ends in the second call, since 2147483652 has more than 31 bits
  pub ends :
      (input : List ℕ) →
      meaning applied_program input 12
      ≡ Some (record {
        acts = 12;
        output = [];
        raised = (C.FixedOverflow, 20) ∷ (C.Error, 20) ∷ [];
        end = E.Error 20 3;
      })
