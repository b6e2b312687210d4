-- A worked row: a main procedure that calls another in a loop, which has a variable of its own.
use Rattle.std.specs.Prelude.{ℕ, suc, ◌+◌, ◌^◌, ◌<◌, ◌≡◌, List, [], ◌∷◌, length, map, None, Some}
use Rattle.rv_meaning.specs.Machine.{memory_size}
use Rattle.pli_language.specs.declared.condition.Condition.TheVariants as C
use Rattle.pli_typing.specs.TypedTree as Y
use Rattle.pli_meaning.specs.declared.outcome.End.TheVariants as E
use Rattle.pli_meaning.specs.Control.{Label}
use Rattle.pli_meaning.specs.Executing.{meaning, run}
use Rattle.pli_meaning.specs.StorageState.{first_state}
use Rattle.pli_serving.specs.Templates.{template_of}
use Rattle.pli_coding.specs.Assembly.{Code, Mark, ProcedureEntry, size_of}
use Rattle.pli_coding.specs.Entries.{variables_code}
use Rattle.pli_coding.specs.Environments.{Environment}
use Rattle.pli_coding.specs.Images.{code_of, environment_of, linked_code, raise_code}
use Rattle.pli_coding.specs.Linking.{links_of}
use Rattle.pli_coding.specs.Procedures.{procedure_environment}
use Rattle.pli_coding.specs.SignatureTable.{table_of}
use Rattle.pli_coding.specs.Statements.{block_held, block_words}
use Rattle.storage_relation.specs.Versions.{no_constants}
use Rattle.activation_relation.specs.Layers.{services_of}
use Rattle.run_steps.specs.Reach.{Comes}
use Rattle.program_runs.specs.Procedures.{Procedure, procedure_code}
use Rattle.program_runs.specs.Rows.{row_head}
use Rattle.program_runs.specs.Starts.{Image, first_family, image_parts, start_of, start_point, never_in}
use Rattle.program_runs.specs.Variables.{Declared}
use Rattle.expression_runs.specs.Assignments.{assignment}
use Rattle.expression_runs.specs.Variables.{Spot, number_declared, whole}

-- ---- the program: DECLARE X FIXED BINARY(31); P: PROCEDURE; DECLARE Y FIXED BINARY(31); Y = X + X; X = Y; END P;
-- X = 536870912; L: CALL P; GOTO L;

abbrev pub outer_spot : Spot
outer_spot = record { block = 0; level = 0; index = 0 }

abbrev pub local_spot : Spot
local_spot = record { block = 1; level = 1; index = 0 }

abbrev pub local_label : Label
local_label = 76 ∷ []

abbrev pub local_first : Y.Stmt
local_first = assignment outer_spot (Y.NumberConstant 536870912) 6

abbrev pub local_call : Y.Stmt
local_call = Y.CallProcedure (Y.Calling 1 0 Y.NoArgument) 7

abbrev pub local_back : Y.Stmt
local_back = Y.Goto 0 local_label 8

abbrev pub local_end : Y.Stmts
local_end = Y.StmtThen [] local_back (Y.EndOfList [])

abbrev pub local_rest : Y.Stmts
local_rest = Y.StmtThen (local_label ∷ []) local_call local_end

abbrev pub local_body : Y.Stmts
local_body = Y.StmtThen [] local_first local_rest

abbrev pub twice : Y.Number
twice = Y.Calculated Y.Sum (Y.NumberIn (whole outer_spot)) (Y.NumberIn (whole outer_spot))

abbrev pub inner_first : Y.Stmt
inner_first = assignment local_spot twice 4

abbrev pub inner_last : Y.Stmt
inner_last = assignment outer_spot (Y.NumberIn (whole local_spot)) 5

abbrev pub inner_rest : Y.Stmts
inner_rest = Y.StmtThen [] inner_last (Y.EndOfList [])

abbrev pub inner_body : Y.Stmts
inner_body = Y.StmtThen [] inner_first inner_rest

abbrev pub local_procedure : Y.Procedure
local_procedure = record { block = Y.BlockOf (row_head 1 1 2) inner_body; parameters = []; result = None }

abbrev pub local_program : Y.Program
local_program =
    record {
      variables = (number_declared [] ∷ []) ∷ (number_declared [] ∷ []) ∷ [];
      procedures =
          record { block = Y.BlockOf (row_head 0 0 1) local_body; parameters = []; result = None }
          ∷ local_procedure ∷ [];
    }

-- ---- its image

abbrev pub local_environment : Environment
local_environment = procedure_environment (row_head 0 0 1) (environment_of image_parts local_program)

abbrev pub inner_environment : Environment
inner_environment = procedure_environment (row_head 1 1 2) (environment_of image_parts local_program)

abbrev pub local_main : Procedure
local_main =
    record {
      head = row_head 0 0 1;
      body = local_body;
      words = block_words local_environment 0 local_body;
      saved = block_held local_environment 0 local_body;
      variables = variables_code local_environment 1;
    }

abbrev pub local_inner : Procedure
local_inner =
    record {
      head = row_head 1 1 2;
      body = inner_body;
      words = block_words inner_environment 1 inner_body;
      saved = block_held inner_environment 1 inner_body;
      variables = variables_code inner_environment 2;
    }

-- the name of the inner variable stands behind the fixed part of its frame, which has one level more
abbrev pub local_declared : Declared
local_declared = record { index = 0; declared = number_declared []; number = 0; place = 160 }

abbrev pub local_code : Code
local_code = code_of image_parts local_program

abbrev pub main_coded : Code
main_coded = Mark (ProcedureEntry 0) ∷ procedure_code local_environment local_main

abbrev pub inner_coded : Code
inner_coded = Mark (ProcedureEntry 1) ∷ procedure_code inner_environment local_inner

abbrev pub local_entry : ℕ
local_entry = size_of (start_of 0) + size_of raise_code

abbrev pub inner_entry : ℕ
inner_entry = local_entry + size_of main_coded

abbrev pub local_image : (input : List ℕ) → (acts : ℕ) → Image
local_image input acts =
    record {
      code = linked_code local_code;
      links = links_of local_code;
      units = [];
      signatures = map template_of (table_of local_program);
      constants = no_constants;
      fills = [];
      input = input;
      acts = acts;
      serials = 1;
    }

pub record LocalRan : Type 0 where
  -- whatever memory, input and number of acts that are allowed, the run does what the program does
  pub runs :
      (input first : List ℕ) (acts : ℕ) → acts + 1 < 2 ^ 64 → length first ≡ memory_size →
      Comes (linked_code local_code) 0 (first_family first (services_of (start_point (local_image input acts))))
      (services_of (start_point (local_image input acts))) (never_in (local_image input acts))
      (run local_program (suc acts) acts (first_state input))
  -- that ends in the second call, since 2 ^ 31 has more than 31 bits
  pub ends :
      (input : List ℕ) →
      meaning local_program input 13
      ≡ Some (record {
        acts = 13;
        output = [];
        raised = (C.FixedOverflow, 20) ∷ (C.Error, 20) ∷ [];
        end = E.Error 20 4;
      })
