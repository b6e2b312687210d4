-- A worked row: a main procedure that calls another in a loop and passes its variable and a copy of its value, which
-- that adds.
use Rattle.std.specs.Prelude.{ℕ, suc, ◌+◌, ◌^◌, ◌<◌, ◌≡◌, List, [], ◌∷◌, ◌++◌, length, map, None, Some}
use Rattle.rv_meaning.specs.Machine.{memory_size}
use Rattle.pli_language.specs.declared.condition.Condition.TheVariants as C
use Rattle.pli_typing.specs.TypedTree as Y
use Rattle.pli_meaning.specs.declared.outcome.End.TheVariants as E
use Rattle.pli_meaning.specs.Control.{Label}
use Rattle.pli_meaning.specs.Executing.{meaning, run}
use Rattle.pli_meaning.specs.Raising.{Around}
use Rattle.pli_meaning.specs.StorageState.{first_state}
use Rattle.pli_serving.specs.Templates.{template_of}
use Rattle.pli_coding.specs.Assembly.{Code, Mark, ProcedureEntry, size_of}
use Rattle.pli_coding.specs.Allocating.{act_code}
use Rattle.pli_coding.specs.Entries.{arguments_copied, block_entered, frame_begun, list_kept, variables_code}
use Rattle.pli_coding.specs.Environments.{Environment, none_taken}
use Rattle.pli_coding.specs.Images.{code_of, environment_of, linked_code, raise_code}
use Rattle.pli_coding.specs.Instructions.{move}
use Rattle.pli_coding.specs.Linking.{links_of}
use Rattle.pli_coding.specs.Procedures.{procedure_environment}
use Rattle.pli_coding.specs.SignatureTable.{table_of}
use Rattle.pli_coding.specs.Registers.{a1, a2, a3, u5}
use Rattle.pli_coding.specs.Statements.{block_held, block_words, stmts_code}
use Rattle.storage_relation.specs.Versions.{no_constants}
use Rattle.activation_relation.specs.Layers.{services_of}
use Rattle.run_steps.specs.Reach.{Comes}
use Rattle.program_runs.specs.Procedures.{Calling, Procedure, procedure_code}
use Rattle.program_runs.specs.Rows.{row_head}
use Rattle.program_runs.specs.Starts.{Image, first_family, image_parts, start_of, start_point, never_in}
use Rattle.expression_runs.specs.Assignments.{assignment}
use Rattle.expression_runs.specs.Variables.{Spot, number_declared, variable_of, whole}
use Rattle.argument_runs.specs.Parameters.{parameter, parameter_declared}
use Rattle.reference_runs.specs.ParameterAssignments as N
use Rattle.given_calls.specs.Given.{procedure_tail}
use Rattle.list_calls.specs.Arguments.{ByName, ByValue, Way, arguments_of}
use Rattle.list_calls.specs.Lists.{Parameter}
use Rattle.list_calls.specs.Taking.{Taking}

-- ---- the program: DECLARE X FIXED BINARY(31); P: PROCEDURE (N, M); DECLARE (N, M) FIXED BINARY(31); N = N + M; END P;
-- X = 536870912; L: CALL P(X, X + 0); GOTO L;

abbrev pub outer_spot : Spot
outer_spot = record { block = 0; level = 0; index = 0 }

abbrev pub first_spot : Spot
first_spot = record { block = 1; level = 1; index = 0 }

abbrev pub second_spot : Spot
second_spot = record { block = 1; level = 1; index = 1 }

abbrev pub given_label : Label
given_label = 76 ∷ []

abbrev pub given_first : Y.Stmt
given_first = assignment outer_spot (Y.NumberConstant 536870912) 5

abbrev pub outer_value : Y.Number
outer_value = Y.NumberIn (whole outer_spot)

abbrev pub second_value : Y.Number
second_value = Y.Calculated Y.Sum outer_value (Y.NumberConstant 0)

-- what is passed: the one variable, by the first signature of the table, and a copy
abbrev pub given_ways : List Way
given_ways = ByName (variable_of outer_spot) 1 0 ∷ ByValue second_value ∷ []

abbrev pub given_call : Y.Stmt
given_call = Y.CallProcedure (Y.Calling 1 0 (arguments_of given_ways)) 6

abbrev pub given_back : Y.Stmt
given_back = Y.Goto 0 given_label 7

abbrev pub given_end : Y.Stmts
given_end = Y.StmtThen [] given_back (Y.EndOfList [])

abbrev pub given_rest : Y.Stmts
given_rest = Y.StmtThen (given_label ∷ []) given_call given_end

abbrev pub given_body : Y.Stmts
given_body = Y.StmtThen [] given_first given_rest

abbrev pub together : Y.Number
together = Y.Calculated Y.Sum (Y.NumberIn (parameter first_spot)) (Y.NumberIn (parameter second_spot))

abbrev pub inner_only : Y.Stmt
inner_only = N.assignment first_spot together 4

abbrev pub inner_body : Y.Stmts
inner_body = Y.StmtThen [] inner_only (Y.EndOfList [])

abbrev pub given_procedure : Y.Procedure
given_procedure = record { block = Y.BlockOf (row_head 1 1 2) inner_body; parameters = 0 ∷ 1 ∷ []; result = None }

abbrev pub given_program : Y.Program
given_program =
    record {
      variables = (number_declared [] ∷ []) ∷ (parameter_declared ∷ parameter_declared ∷ []) ∷ [];
      procedures =
          record { block = Y.BlockOf (row_head 0 0 1) given_body; parameters = []; result = None }
          ∷ given_procedure ∷ [];
    }

-- ---- its image

abbrev pub given_environment : Environment
given_environment = procedure_environment (row_head 0 0 1) (environment_of image_parts given_program)

abbrev pub inner_environment : Environment
inner_environment = procedure_environment (row_head 1 1 2) (environment_of image_parts given_program)

abbrev pub given_main : Procedure
given_main =
    record {
      head = row_head 0 0 1;
      body = given_body;
      words = block_words given_environment 0 given_body;
      saved = block_held given_environment 0 given_body;
      variables = variables_code given_environment 1;
    }

abbrev pub given_inner : Procedure
given_inner =
    record {
      head = row_head 1 1 2;
      body = inner_body;
      words = block_words inner_environment 1 inner_body;
      saved = block_held inner_environment 1 inner_body;
      variables = [];
    }

-- its beginning, which keeps the list
abbrev pub listing_code : Code
listing_code =
    frame_begun given_inner.words 1 2 (Some given_inner.saved)
    ++ (move u5 a1 ∷ (list_kept 1 (0 ∷ 1 ∷ []) ++ (move a3 a2 ∷ block_entered 0 2)))

abbrev pub given_code : Code
given_code = code_of image_parts given_program

abbrev pub main_coded : Code
main_coded = Mark (ProcedureEntry 0) ∷ procedure_code given_environment given_main

abbrev pub given_parameters : List Parameter
given_parameters =
    record { index = 0; declared = parameter_declared; number = 0 }
    ∷ record { index = 1; declared = parameter_declared; number = 0 } ∷ []

abbrev pub given_taking : Calling → Around → Taking
given_taking calling around =
    record {
      procedure = given_inner;
      calling = calling;
      environment = inner_environment;
      around = around;
      parameters = given_parameters;
    }

abbrev pub inner_code : Code
inner_code =
    listing_code
    ++ (arguments_copied inner_environment (0 ∷ 1 ∷ [])
    ++ (act_code 2 ++ (stmts_code inner_environment none_taken inner_body ++ procedure_tail given_inner)))

abbrev pub inner_coded : Code
inner_coded = Mark (ProcedureEntry 1) ∷ inner_code

abbrev pub given_entry : ℕ
given_entry = size_of (start_of 0) + size_of raise_code

abbrev pub inner_entry : ℕ
inner_entry = given_entry + size_of main_coded

abbrev pub given_image : (input : List ℕ) → (acts : ℕ) → Image
given_image input acts =
    record {
      code = linked_code given_code;
      links = links_of given_code;
      units = [];
      signatures = map template_of (table_of given_program);
      constants = no_constants;
      fills = [];
      input = input;
      acts = acts;
      serials = 1;
    }

pub record ListRan : Type 0 where
  -- whatever memory, input and number of acts that are allowed, the run does what the program does
  pub runs :
      (input first : List ℕ) (acts : ℕ) → acts + 1 < 2 ^ 64 → length first ≡ memory_size →
      Comes (linked_code given_code) 0 (first_family first (services_of (start_point (given_image input acts))))
      (services_of (start_point (given_image input acts))) (never_in (given_image input acts))
      (run given_program (suc acts) acts (first_state input))
  -- that ends in the second call, since 2 ^ 31 has more than 31 bits
  pub ends :
      (input : List ℕ) →
      meaning given_program input 12
      ≡ Some (record {
        acts = 12;
        output = [];
        raised = (C.FixedOverflow, 20) ∷ (C.Error, 20) ∷ [];
        end = E.Error 20 4;
      })
