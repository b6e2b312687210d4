-- A worked row: a main procedure with an expression that calls a function, which jumps out of it to a label.
use Rattle.std.specs.Prelude.{ℕ, suc, ◌+◌, ◌^◌, ◌<◌, ◌≡◌, List, [], ◌∷◌, length, map, None, Some}
use Rattle.rv_meaning.specs.Machine.{memory_size}
use Rattle.pli_language.specs.declared.condition.Condition.TheVariants as C
use Rattle.pli_typing.specs.TypedTree as Y
use Rattle.pli_meaning.specs.declared.outcome.End.TheVariants as E
use Rattle.pli_meaning.specs.Control.{Label}
use Rattle.pli_meaning.specs.Executing.{meaning, run}
use Rattle.pli_meaning.specs.StorageState.{first_state}
use Rattle.pli_serving.specs.Templates.{template_of}
use Rattle.pli_coding.specs.Assembly.{Code, Mark, ProcedureEntry, size_of}
use Rattle.pli_coding.specs.Entries.{variables_code}
use Rattle.pli_coding.specs.Environments.{Environment}
use Rattle.pli_coding.specs.Images.{code_of, environment_of, linked_code, raise_code}
use Rattle.pli_coding.specs.Linking.{links_of}
use Rattle.pli_coding.specs.Procedures.{procedure_environment}
use Rattle.pli_coding.specs.SignatureTable.{table_of}
use Rattle.pli_coding.specs.Statements.{block_held, block_words}
use Rattle.storage_relation.specs.Versions.{no_constants}
use Rattle.activation_relation.specs.Layers.{services_of}
use Rattle.run_steps.specs.Reach.{Comes}
use Rattle.program_runs.specs.Procedures.{Procedure, procedure_code}
use Rattle.program_runs.specs.Rows.{row_head}
use Rattle.program_runs.specs.Starts.{Image, first_family, image_parts, start_of, start_point, never_in}
use Rattle.expression_runs.specs.Assignments.{assignment}
use Rattle.expression_runs.specs.Variables.{Spot, number_declared, whole}
use Rattle.function_runs.specs.Functions.{function_code}

-- ---- the program: DECLARE X FIXED BINARY(31); F: PROCEDURE RETURNS(FIXED BINARY(31)); X = X + X; GOTO L; END F;
-- X = 536870912; L: X = X + F();

abbrev pub shed_spot : Spot
shed_spot = record { block = 0; level = 0; index = 0 }

abbrev pub shed_label : Label
shed_label = 76 ∷ []

abbrev pub shed_twice : Y.Number
shed_twice = Y.Calculated Y.Sum (Y.NumberIn (whole shed_spot)) (Y.NumberIn (whole shed_spot))

abbrev pub inner_first : Y.Stmt
inner_first = assignment shed_spot shed_twice 3

abbrev pub inner_last : Y.Stmt
inner_last = Y.Goto 0 shed_label 4

abbrev pub inner_rest : Y.Stmts
inner_rest = Y.StmtThen [] inner_last (Y.EndOfList [])

abbrev pub inner_body : Y.Stmts
inner_body = Y.StmtThen [] inner_first inner_rest

abbrev pub shed_first : Y.Stmt
shed_first = assignment shed_spot (Y.NumberConstant 536870912) 5

abbrev pub shed_called : Y.Number
shed_called = Y.NumberFrom (Y.Calling 1 0 Y.NoArgument)

abbrev pub shed_added : Y.Number
shed_added = Y.Calculated Y.Sum (Y.NumberIn (whole shed_spot)) shed_called

abbrev pub shed_again : Y.Stmt
shed_again = assignment shed_spot shed_added 6

abbrev pub shed_rest : Y.Stmts
shed_rest = Y.StmtThen (shed_label ∷ []) shed_again (Y.EndOfList [])

abbrev pub shed_body : Y.Stmts
shed_body = Y.StmtThen [] shed_first shed_rest

abbrev pub shed_function : Y.Procedure
shed_function =
    record { block = Y.BlockOf (row_head 1 1 2) inner_body; parameters = []; result = Some (Y.FixedLeaf 31) }

abbrev pub shed_program : Y.Program
shed_program =
    record {
      variables = (number_declared [] ∷ []) ∷ [];
      procedures =
          record { block = Y.BlockOf (row_head 0 0 1) shed_body; parameters = []; result = None }
          ∷ shed_function ∷ [];
    }

-- ---- its image

abbrev pub shed_environment : Environment
shed_environment = procedure_environment (row_head 0 0 1) (environment_of image_parts shed_program)

abbrev pub inner_environment : Environment
inner_environment = procedure_environment (row_head 1 1 2) (environment_of image_parts shed_program)

abbrev pub shed_main : Procedure
shed_main =
    record {
      head = row_head 0 0 1;
      body = shed_body;
      words = block_words shed_environment 0 shed_body;
      saved = block_held shed_environment 0 shed_body;
      variables = variables_code shed_environment 1;
    }

abbrev pub shed_inner : Procedure
shed_inner =
    record {
      head = row_head 1 1 2;
      body = inner_body;
      words = block_words inner_environment 1 inner_body;
      saved = block_held inner_environment 1 inner_body;
      variables = [];
    }

abbrev pub shed_code : Code
shed_code = code_of image_parts shed_program

abbrev pub main_coded : Code
main_coded = Mark (ProcedureEntry 0) ∷ procedure_code shed_environment shed_main

abbrev pub inner_coded : Code
inner_coded = Mark (ProcedureEntry 1) ∷ function_code inner_environment shed_inner

abbrev pub shed_entry : ℕ
shed_entry = size_of (start_of 0) + size_of raise_code

abbrev pub inner_entry : ℕ
inner_entry = shed_entry + size_of main_coded

abbrev pub shed_image : (input : List ℕ) → (acts : ℕ) → Image
shed_image input acts =
    record {
      code = linked_code shed_code;
      links = links_of shed_code;
      units = [];
      signatures = map template_of (table_of shed_program);
      constants = no_constants;
      fills = [];
      input = input;
      acts = acts;
      serials = 1;
    }

pub record ShedRan : Type 0 where
  -- whatever memory, input and number of acts that are allowed, the run does what the program does
  pub runs :
      (input first : List ℕ) (acts : ℕ) → acts + 1 < 2 ^ 64 → length first ≡ memory_size →
      Comes (linked_code shed_code) 0 (first_family first (services_of (start_point (shed_image input acts))))
      (services_of (start_point (shed_image input acts))) (never_in (shed_image input acts))
      (run shed_program (suc acts) acts (first_state input))
  -- that ends in the second call, to whose statement the first one jumped, since 2 ^ 31 has more than 31 bits
  pub ends :
      (input : List ℕ) →
      meaning shed_program input 12
      ≡ Some (record {
        acts = 12;
        output = [];
        raised = (C.FixedOverflow, 20) ∷ (C.Error, 20) ∷ [];
        end = E.Error 20 3;
      })
