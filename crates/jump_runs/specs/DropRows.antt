-- A worked row: a main procedure in whose expression a text waits below the call of a function, which jumps out of it
-- to a label and so drops the text.
use Rattle.std.specs.Prelude.{ℕ, suc, ◌+◌, ◌^◌, ◌<◌, ◌≡◌, List, [], ◌∷◌, length, map, None, Some}
use Rattle.rv_meaning.specs.Machine.{memory_size}
use Rattle.pli_language.specs.declared.condition.Condition.TheVariants as C
use Rattle.pli_typing.specs.TypedTree as Y
use Rattle.pli_meaning.specs.declared.outcome.End.TheVariants as E
use Rattle.pli_meaning.specs.Control.{Label}
use Rattle.pli_meaning.specs.Executing.{meaning, run}
use Rattle.pli_meaning.specs.StorageState.{first_state}
use Rattle.pli_serving.specs.Templates.{template_of}
use Rattle.pli_coding.specs.Assembly.{Code, Mark, ProcedureEntry, size_of}
use Rattle.pli_coding.specs.Entries.{variables_code}
use Rattle.pli_coding.specs.Environments.{Environment}
use Rattle.pli_coding.specs.Images.{code_of, environment_of, linked_code, raise_code}
use Rattle.pli_coding.specs.Linking.{links_of}
use Rattle.pli_coding.specs.Procedures.{procedure_environment}
use Rattle.pli_coding.specs.SignatureTable.{table_of}
use Rattle.pli_coding.specs.Statements.{block_held, block_words}
use Rattle.storage_relation.specs.Versions.{no_constants}
use Rattle.activation_relation.specs.Layers.{services_of}
use Rattle.run_steps.specs.Reach.{Comes}
use Rattle.program_runs.specs.Procedures.{Procedure, procedure_code}
use Rattle.program_runs.specs.Rows.{row_head}
use Rattle.program_runs.specs.Starts.{Image, first_family, image_parts, start_of, start_point, never_in}
use Rattle.expression_runs.specs.Assignments.{assignment}
use Rattle.expression_runs.specs.Variables.{Spot, number_declared, whole}
use Rattle.function_runs.specs.Functions.{function_code}

-- ---- the program: DECLARE X FIXED BINARY(31); F: PROCEDURE RETURNS(FIXED BINARY(31)); X = X + X; GOTO L; END F;
-- X = 536870912; L: X = LENGTH(X || F());

abbrev pub drop_spot : Spot
drop_spot = record { block = 0; level = 0; index = 0 }

abbrev pub drop_label : Label
drop_label = 76 ∷ []

abbrev pub drop_twice : Y.Number
drop_twice = Y.Calculated Y.Sum (Y.NumberIn (whole drop_spot)) (Y.NumberIn (whole drop_spot))

abbrev pub inner_first : Y.Stmt
inner_first = assignment drop_spot drop_twice 3

abbrev pub inner_last : Y.Stmt
inner_last = Y.Goto 0 drop_label 4

abbrev pub inner_rest : Y.Stmts
inner_rest = Y.StmtThen [] inner_last (Y.EndOfList [])

abbrev pub inner_body : Y.Stmts
inner_body = Y.StmtThen [] inner_first inner_rest

abbrev pub drop_first : Y.Stmt
drop_first = assignment drop_spot (Y.NumberConstant 536870912) 5

abbrev pub drop_called : Y.Number
drop_called = Y.NumberFrom (Y.Calling 1 0 Y.NoArgument)

abbrev pub drop_text : Y.Text
drop_text = Y.Joined (Y.TextOfNumber 31 (Y.NumberIn (whole drop_spot))) (Y.TextOfNumber 31 drop_called)

abbrev pub drop_again : Y.Stmt
drop_again = assignment drop_spot (Y.LengthOf drop_text) 6

abbrev pub drop_rest : Y.Stmts
drop_rest = Y.StmtThen (drop_label ∷ []) drop_again (Y.EndOfList [])

abbrev pub drop_body : Y.Stmts
drop_body = Y.StmtThen [] drop_first drop_rest

abbrev pub drop_function : Y.Procedure
drop_function =
    record { block = Y.BlockOf (row_head 1 1 2) inner_body; parameters = []; result = Some (Y.FixedLeaf 31) }

abbrev pub drop_program : Y.Program
drop_program =
    record {
      variables = (number_declared [] ∷ []) ∷ [];
      procedures =
          record { block = Y.BlockOf (row_head 0 0 1) drop_body; parameters = []; result = None }
          ∷ drop_function ∷ [];
    }

-- ---- its image

abbrev pub drop_environment : Environment
drop_environment = procedure_environment (row_head 0 0 1) (environment_of image_parts drop_program)

abbrev pub inner_environment : Environment
inner_environment = procedure_environment (row_head 1 1 2) (environment_of image_parts drop_program)

abbrev pub drop_main : Procedure
drop_main =
    record {
      head = row_head 0 0 1;
      body = drop_body;
      words = block_words drop_environment 0 drop_body;
      saved = block_held drop_environment 0 drop_body;
      variables = variables_code drop_environment 1;
    }

abbrev pub drop_inner : Procedure
drop_inner =
    record {
      head = row_head 1 1 2;
      body = inner_body;
      words = block_words inner_environment 1 inner_body;
      saved = block_held inner_environment 1 inner_body;
      variables = [];
    }

abbrev pub drop_code : Code
drop_code = code_of image_parts drop_program

abbrev pub main_coded : Code
main_coded = Mark (ProcedureEntry 0) ∷ procedure_code drop_environment drop_main

abbrev pub inner_coded : Code
inner_coded = Mark (ProcedureEntry 1) ∷ function_code inner_environment drop_inner

abbrev pub drop_entry : ℕ
drop_entry = size_of (start_of 0) + size_of raise_code

abbrev pub inner_entry : ℕ
inner_entry = drop_entry + size_of main_coded

abbrev pub drop_image : (input : List ℕ) → (acts : ℕ) → Image
drop_image input acts =
    record {
      code = linked_code drop_code;
      links = links_of drop_code;
      units = [];
      signatures = map template_of (table_of drop_program);
      constants = no_constants;
      fills = [];
      input = input;
      acts = acts;
      serials = 1;
    }

pub record DropRan : Type 0 where
  -- whatever memory, input and number of acts that are allowed, the run does what the program does
  pub runs :
      (input first : List ℕ) (acts : ℕ) → acts + 1 < 2 ^ 64 → length first ≡ memory_size →
      Comes (linked_code drop_code) 0 (first_family first (services_of (start_point (drop_image input acts))))
      (services_of (start_point (drop_image input acts))) (never_in (drop_image input acts))
      (run drop_program (suc acts) acts (first_state input))
  -- that ends in the second call, to whose statement the first one jumped, since 2 ^ 31 has more than 31 bits
  pub ends :
      (input : List ℕ) →
      meaning drop_program input 12
      ≡ Some (record {
        acts = 12;
        output = [];
        raised = (C.FixedOverflow, 20) ∷ (C.Error, 20) ∷ [];
        end = E.Error 20 3;
      })
