-- A worked row: a main procedure with an expression that calls a function, whose unit jumps out of both.
use Rattle.std.specs.Prelude.{ℕ, suc, ◌+◌, ◌*◌, ◌^◌, ◌<◌, ◌≡◌, List, [], ◌∷◌, length, map, None, Some}
use Rattle.rv_meaning.specs.Machine.{memory_size}
use Rattle.pli_language.specs.declared.condition.Condition.TheVariants as C
use Rattle.pli_typing.specs.TypedTree as Y
use Rattle.pli_meaning.specs.declared.outcome.End.TheVariants as E
use Rattle.pli_meaning.specs.Control.{Label}
use Rattle.pli_meaning.specs.Executing.{meaning, run}
use Rattle.pli_meaning.specs.StorageState.{first_state}
use Rattle.pli_serving.specs.Templates.{template_of}
use Rattle.pli_coding.specs.Allocating.{act_code}
use Rattle.pli_coding.specs.Assembly.{Code, Mark, ProcedureEntry, size_of}
use Rattle.pli_coding.specs.Entries.{variables_code}
use Rattle.pli_coding.specs.Environments.{Environment}
use Rattle.pli_coding.specs.Images.{code_of, environment_of, linked_code, raise_code}
use Rattle.pli_coding.specs.Linking.{links_of}
use Rattle.pli_coding.specs.Procedures.{procedure_environment}
use Rattle.pli_coding.specs.SignatureTable.{table_of}
use Rattle.pli_coding.specs.Statements.{block_held, block_words}
use Rattle.storage_relation.specs.Versions.{no_constants}
use Rattle.activation_relation.specs.Chains.{UnitPlaces}
use Rattle.activation_relation.specs.Layers.{services_of}
use Rattle.run_steps.specs.Reach.{Comes}
use Rattle.program_runs.specs.Procedures.{Procedure, begin_of, procedure_code}
use Rattle.program_runs.specs.Rows.{row_head}
use Rattle.program_runs.specs.Starts.{Image, first_family, image_parts, start_of, start_point, never_in}
use Rattle.expression_runs.specs.Assignments.{assignment}
use Rattle.expression_runs.specs.Variables.{Spot, number_declared, whole}
use Rattle.function_runs.specs.Functions.{function_code}
use Rattle.function_runs.specs.Returns.{return_of}
use Rattle.unit_runs.specs.Establishing.{OnUnit, on_of, unit_index, unit_of}

-- ---- the program: DECLARE X FIXED BINARY(31); F: PROCEDURE RETURNS(FIXED BINARY(31)); ON FIXEDOVERFLOW GOTO L;
-- RETURN (X + X); END F; X = 2147483647; X = X + F(); STOP; L: ;

abbrev pub flee_spot : Spot
flee_spot = record { block = 0; level = 0; index = 0 }

abbrev pub flee_label : Label
flee_label = 76 ∷ []

abbrev pub flee_twice : Y.Number
flee_twice = Y.Calculated Y.Sum (Y.NumberIn (whole flee_spot)) (Y.NumberIn (whole flee_spot))

abbrev pub flee_jump : Y.Stmt
flee_jump = Y.Goto 0 flee_label 3

abbrev pub flee_unit : OnUnit
flee_unit =
    record {
      condition = C.FixedOverflow;
      head = record { kind = Y.SimpleUnit; number = 2; level = 2; line = 3 };
      body = Y.StmtThen [] flee_jump (Y.EndOfList []);
      line = 3;
    }

abbrev pub flee_return : Y.Stmt
flee_return = return_of flee_twice 4

abbrev pub inner_rest : Y.Stmts
inner_rest = Y.StmtThen [] flee_return (Y.EndOfList [])

abbrev pub inner_body : Y.Stmts
inner_body = Y.StmtThen [] (on_of flee_unit) inner_rest

abbrev pub flee_first : Y.Stmt
flee_first = assignment flee_spot (Y.NumberConstant 2147483647) 5

abbrev pub flee_called : Y.Number
flee_called = Y.NumberFrom (Y.Calling 1 0 Y.NoArgument)

abbrev pub flee_added : Y.Number
flee_added = Y.Calculated Y.Sum (Y.NumberIn (whole flee_spot)) flee_called

abbrev pub flee_again : Y.Stmt
flee_again = assignment flee_spot flee_added 6

abbrev pub flee_last : Y.Stmts
flee_last = Y.StmtThen (flee_label ∷ []) (Y.Null 8) (Y.EndOfList [])

abbrev pub flee_stop : Y.Stmts
flee_stop = Y.StmtThen [] (Y.Stop 7) flee_last

abbrev pub flee_rest : Y.Stmts
flee_rest = Y.StmtThen [] flee_again flee_stop

abbrev pub flee_body : Y.Stmts
flee_body = Y.StmtThen [] flee_first flee_rest

abbrev pub flee_function : Y.Procedure
flee_function =
    record { block = Y.BlockOf (row_head 1 1 2) inner_body; parameters = []; result = Some (Y.FixedLeaf 31) }

abbrev pub flee_program : Y.Program
flee_program =
    record {
      variables = (number_declared [] ∷ []) ∷ [];
      procedures =
          record { block = Y.BlockOf (row_head 0 0 1) flee_body; parameters = []; result = None }
          ∷ flee_function ∷ [];
    }

-- ---- its image

abbrev pub flee_environment : Environment
flee_environment = procedure_environment (row_head 0 0 1) (environment_of image_parts flee_program)

abbrev pub inner_environment : Environment
inner_environment = procedure_environment (row_head 1 1 2) (environment_of image_parts flee_program)

abbrev pub flee_main : Procedure
flee_main =
    record {
      head = row_head 0 0 1;
      body = flee_body;
      words = block_words flee_environment 0 flee_body;
      saved = block_held flee_environment 0 flee_body;
      variables = variables_code flee_environment 1;
    }

abbrev pub flee_inner : Procedure
flee_inner =
    record {
      head = row_head 1 1 2;
      body = inner_body;
      words = block_words inner_environment 1 inner_body;
      saved = block_held inner_environment 1 inner_body;
      variables = [];
    }

abbrev pub flee_code : Code
flee_code = code_of image_parts flee_program

abbrev pub main_coded : Code
main_coded = Mark (ProcedureEntry 0) ∷ procedure_code flee_environment flee_main

abbrev pub inner_coded : Code
inner_coded = Mark (ProcedureEntry 1) ∷ function_code inner_environment flee_inner

abbrev pub flee_entry : ℕ
flee_entry = size_of (start_of 0) + size_of raise_code

abbrev pub inner_entry : ℕ
inner_entry = flee_entry + size_of main_coded

-- the index of the ON, and where the code of its unit stands
abbrev pub flee_on : ℕ
flee_on = inner_entry + size_of (begin_of flee_inner) + 0 + size_of (act_code 2)

abbrev pub flee_units : UnitPlaces
flee_units = record { unit = unit_of flee_unit; at = 4 * unit_index flee_unit flee_on } ∷ []

abbrev pub flee_image : (input : List ℕ) → (acts : ℕ) → Image
flee_image input acts =
    record {
      code = linked_code flee_code;
      links = links_of flee_code;
      units = flee_units;
      signatures = map template_of (table_of flee_program);
      constants = no_constants;
      fills = [];
      input = input;
      acts = acts;
      serials = 1;
    }

pub record FleeRan : Type 0 where
  -- whatever memory, input and number of acts that are allowed, the run does what the program does
  pub runs :
      (input first : List ℕ) (acts : ℕ) → acts + 1 < 2 ^ 64 → length first ≡ memory_size →
      Comes (linked_code flee_code) 0 (first_family first (services_of (start_point (flee_image input acts))))
      (services_of (start_point (flee_image input acts))) (never_in (flee_image input acts))
      (run flee_program (suc acts) acts (first_state input))
  -- that ends behind the label, and not where its STOP stands
  pub ends :
      (input : List ℕ) →
      meaning flee_program input 11
      ≡ Some (record { acts = 11; output = []; raised = (C.FixedOverflow, 20) ∷ []; end = E.Finished })
