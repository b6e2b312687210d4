-- A worked row: a main procedure that calls another, which jumps back to a label of the main one.
use Rattle.std.specs.Prelude.{ℕ, suc, ◌+◌, ◌^◌, ◌<◌, ◌≡◌, List, [], ◌∷◌, length, map, None, Some}
use Rattle.rv_meaning.specs.Machine.{memory_size}
use Rattle.pli_language.specs.declared.condition.Condition.TheVariants as C
use Rattle.pli_typing.specs.TypedTree as Y
use Rattle.pli_meaning.specs.declared.outcome.End.TheVariants as E
use Rattle.pli_meaning.specs.Control.{Label}
use Rattle.pli_meaning.specs.Executing.{meaning, run}
use Rattle.pli_meaning.specs.StorageState.{first_state}
use Rattle.pli_serving.specs.Templates.{template_of}
use Rattle.pli_coding.specs.Assembly.{Code, Mark, ProcedureEntry, size_of}
use Rattle.pli_coding.specs.Entries.{variables_code}
use Rattle.pli_coding.specs.Environments.{Environment}
use Rattle.pli_coding.specs.Images.{code_of, environment_of, linked_code, raise_code}
use Rattle.pli_coding.specs.Linking.{links_of}
use Rattle.pli_coding.specs.Procedures.{procedure_environment}
use Rattle.pli_coding.specs.SignatureTable.{table_of}
use Rattle.pli_coding.specs.Statements.{block_held, block_words}
use Rattle.storage_relation.specs.Versions.{no_constants}
use Rattle.activation_relation.specs.Layers.{services_of}
use Rattle.run_steps.specs.Reach.{Comes}
use Rattle.program_runs.specs.Procedures.{Procedure, procedure_code}
use Rattle.program_runs.specs.Rows.{row_head}
use Rattle.program_runs.specs.Starts.{Image, first_family, image_parts, start_of, start_point, never_in}
use Rattle.expression_runs.specs.Assignments.{assignment}
use Rattle.expression_runs.specs.Variables.{Spot, number_declared, whole}

-- ---- the program: DECLARE X FIXED BINARY(31); P: PROCEDURE; X = X + X; GOTO L; END P; X = 536870912; L: CALL P;

abbrev pub bolt_spot : Spot
bolt_spot = record { block = 0; level = 0; index = 0 }

abbrev pub bolt_label : Label
bolt_label = 76 ∷ []

abbrev pub bolt_twice : Y.Number
bolt_twice = Y.Calculated Y.Sum (Y.NumberIn (whole bolt_spot)) (Y.NumberIn (whole bolt_spot))

abbrev pub inner_first : Y.Stmt
inner_first = assignment bolt_spot bolt_twice 3

abbrev pub inner_last : Y.Stmt
inner_last = Y.Goto 0 bolt_label 4

abbrev pub inner_rest : Y.Stmts
inner_rest = Y.StmtThen [] inner_last (Y.EndOfList [])

abbrev pub inner_body : Y.Stmts
inner_body = Y.StmtThen [] inner_first inner_rest

abbrev pub bolt_first : Y.Stmt
bolt_first = assignment bolt_spot (Y.NumberConstant 536870912) 5

abbrev pub bolt_call : Y.Stmt
bolt_call = Y.CallProcedure (Y.Calling 1 0 Y.NoArgument) 6

abbrev pub bolt_rest : Y.Stmts
bolt_rest = Y.StmtThen (bolt_label ∷ []) bolt_call (Y.EndOfList [])

abbrev pub bolt_body : Y.Stmts
bolt_body = Y.StmtThen [] bolt_first bolt_rest

abbrev pub bolt_procedure : Y.Procedure
bolt_procedure = record { block = Y.BlockOf (row_head 1 1 2) inner_body; parameters = []; result = None }

abbrev pub bolt_program : Y.Program
bolt_program =
    record {
      variables = (number_declared [] ∷ []) ∷ [];
      procedures =
          record { block = Y.BlockOf (row_head 0 0 1) bolt_body; parameters = []; result = None }
          ∷ bolt_procedure ∷ [];
    }

-- ---- its image

abbrev pub bolt_environment : Environment
bolt_environment = procedure_environment (row_head 0 0 1) (environment_of image_parts bolt_program)

abbrev pub inner_environment : Environment
inner_environment = procedure_environment (row_head 1 1 2) (environment_of image_parts bolt_program)

abbrev pub bolt_main : Procedure
bolt_main =
    record {
      head = row_head 0 0 1;
      body = bolt_body;
      words = block_words bolt_environment 0 bolt_body;
      saved = block_held bolt_environment 0 bolt_body;
      variables = variables_code bolt_environment 1;
    }

abbrev pub bolt_inner : Procedure
bolt_inner =
    record {
      head = row_head 1 1 2;
      body = inner_body;
      words = block_words inner_environment 1 inner_body;
      saved = block_held inner_environment 1 inner_body;
      variables = [];
    }

abbrev pub bolt_code : Code
bolt_code = code_of image_parts bolt_program

abbrev pub main_coded : Code
main_coded = Mark (ProcedureEntry 0) ∷ procedure_code bolt_environment bolt_main

abbrev pub inner_coded : Code
inner_coded = Mark (ProcedureEntry 1) ∷ procedure_code inner_environment bolt_inner

abbrev pub bolt_entry : ℕ
bolt_entry = size_of (start_of 0) + size_of raise_code

abbrev pub inner_entry : ℕ
inner_entry = bolt_entry + size_of main_coded

abbrev pub bolt_image : (input : List ℕ) → (acts : ℕ) → Image
bolt_image input acts =
    record {
      code = linked_code bolt_code;
      links = links_of bolt_code;
      units = [];
      signatures = map template_of (table_of bolt_program);
      constants = no_constants;
      fills = [];
      input = input;
      acts = acts;
      serials = 1;
    }

pub record BoltRan : Type 0 where
  -- whatever memory, input and number of acts that are allowed, the run does what the program does
  pub runs :
      (input first : List ℕ) (acts : ℕ) → acts + 1 < 2 ^ 64 → length first ≡ memory_size →
      Comes (linked_code bolt_code) 0 (first_family first (services_of (start_point (bolt_image input acts))))
      (services_of (start_point (bolt_image input acts))) (never_in (bolt_image input acts))
      (run bolt_program (suc acts) acts (first_state input))
  -- that ends in the second call, to which the first one jumped, since 2 ^ 31 has more than 31 bits
  pub ends :
      (input : List ℕ) →
      meaning bolt_program input 12
      ≡ Some (record {
        acts = 12;
        output = [];
        raised = (C.FixedOverflow, 20) ∷ (C.Error, 20) ∷ [];
        end = E.Error 20 3;
      })
