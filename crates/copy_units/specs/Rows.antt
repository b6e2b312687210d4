-- A worked row: a main procedure that calls a function with a parameter and with a unit that does nothing.
use Rattle.std.specs.Prelude.{ℕ, suc, ◌+◌, ◌*◌, ◌^◌, ◌<◌, ◌≡◌, List, [], ◌∷◌, length, map, None, Some}
use Rattle.rv_meaning.specs.Machine.{memory_size}
use Rattle.pli_language.specs.declared.condition.Condition.TheVariants as C
use Rattle.pli_typing.specs.TypedTree as Y
use Rattle.pli_meaning.specs.declared.outcome.End.TheVariants as E
use Rattle.pli_meaning.specs.Executing.{meaning, run}
use Rattle.pli_meaning.specs.StorageState.{first_state}
use Rattle.pli_serving.specs.Templates.{template_of}
use Rattle.pli_coding.specs.Allocating.{act_code}
use Rattle.pli_coding.specs.Assembly.{Code, Mark, ProcedureEntry, size_of}
use Rattle.pli_coding.specs.Entries.{arguments_copied, variables_code}
use Rattle.pli_coding.specs.Environments.{Environment}
use Rattle.pli_coding.specs.Images.{code_of, environment_of, linked_code, raise_code}
use Rattle.pli_coding.specs.Linking.{links_of}
use Rattle.pli_coding.specs.Procedures.{procedure_environment}
use Rattle.pli_coding.specs.SignatureTable.{table_of}
use Rattle.pli_coding.specs.Statements.{block_held, block_words}
use Rattle.storage_relation.specs.Versions.{no_constants}
use Rattle.activation_relation.specs.Chains.{UnitPlaces}
use Rattle.activation_relation.specs.Layers.{services_of}
use Rattle.run_steps.specs.Reach.{Comes}
use Rattle.program_runs.specs.Procedures.{Procedure, procedure_code}
use Rattle.program_runs.specs.Rows.{row_head}
use Rattle.program_runs.specs.Starts.{Image, first_family, image_parts, start_of, start_point, never_in}
use Rattle.expression_runs.specs.Assignments.{assignment}
use Rattle.expression_runs.specs.Variables.{Spot, number_declared, whole}
use Rattle.function_runs.specs.Returns.{return_of}
use Rattle.unit_runs.specs.Establishing.{OnUnit, on_of, unit_index, unit_of}
use Rattle.argument_runs.specs.CopyCalls.{listing_of}
use Rattle.argument_runs.specs.CopyFunctions.{function_copying}
use Rattle.argument_runs.specs.Parameters.{parameter, parameter_declared}

-- ---- the program: DECLARE X FIXED BINARY(31); F: PROCEDURE (N) RETURNS(FIXED BINARY(31));
-- DECLARE N FIXED BINARY(31); ON FIXEDOVERFLOW ; RETURN (N + N); END F; X = 2147483647; X = F(X);

abbrev pub outer_spot : Spot
outer_spot = record { block = 0; level = 0; index = 0 }

abbrev pub given_spot : Spot
given_spot = record { block = 1; level = 1; index = 0 }

abbrev pub mute_first : Y.Stmt
mute_first = assignment outer_spot (Y.NumberConstant 2147483647) 5

abbrev pub mute_given : Y.Number
mute_given = Y.NumberIn (whole outer_spot)

abbrev pub mute_called : Y.Number
mute_called =
    Y.NumberFrom
    (Y.Calling 1 0 (Y.ArgumentThen (Y.ByCopy (Y.FixedLeaf 31) (Y.StoredNumber 31 mute_given)) Y.NoArgument))

abbrev pub mute_again : Y.Stmt
mute_again = assignment outer_spot mute_called 6

abbrev pub mute_rest : Y.Stmts
mute_rest = Y.StmtThen [] mute_again (Y.EndOfList [])

abbrev pub mute_body : Y.Stmts
mute_body = Y.StmtThen [] mute_first mute_rest

abbrev pub mute_unit : OnUnit
mute_unit =
    record {
      condition = C.FixedOverflow;
      head = record { kind = Y.SimpleUnit; number = 2; level = 2; line = 3 };
      body = Y.StmtThen [] (Y.Null 3) (Y.EndOfList []);
      line = 3;
    }

abbrev pub twice : Y.Number
twice = Y.Calculated Y.Sum (Y.NumberIn (parameter given_spot)) (Y.NumberIn (parameter given_spot))

abbrev pub inner_return : Y.Stmt
inner_return = return_of twice 4

abbrev pub inner_rest : Y.Stmts
inner_rest = Y.StmtThen [] inner_return (Y.EndOfList [])

abbrev pub inner_body : Y.Stmts
inner_body = Y.StmtThen [] (on_of mute_unit) inner_rest

abbrev pub mute_function : Y.Procedure
mute_function =
    record {
      block = Y.BlockOf (row_head 1 1 2) inner_body;
      parameters = 0 ∷ [];
      result = Some (Y.FixedLeaf 31);
    }

abbrev pub mute_program : Y.Program
mute_program =
    record {
      variables = (number_declared [] ∷ []) ∷ (parameter_declared ∷ []) ∷ [];
      procedures =
          record { block = Y.BlockOf (row_head 0 0 1) mute_body; parameters = []; result = None }
          ∷ mute_function ∷ [];
    }

-- ---- its image

abbrev pub mute_environment : Environment
mute_environment = procedure_environment (row_head 0 0 1) (environment_of image_parts mute_program)

abbrev pub inner_environment : Environment
inner_environment = procedure_environment (row_head 1 1 2) (environment_of image_parts mute_program)

abbrev pub mute_main : Procedure
mute_main =
    record {
      head = row_head 0 0 1;
      body = mute_body;
      words = block_words mute_environment 0 mute_body;
      saved = block_held mute_environment 0 mute_body;
      variables = variables_code mute_environment 1;
    }

abbrev pub mute_inner : Procedure
mute_inner =
    record {
      head = row_head 1 1 2;
      body = inner_body;
      words = block_words inner_environment 1 inner_body;
      saved = block_held inner_environment 1 inner_body;
      variables = [];
    }

abbrev pub mute_code : Code
mute_code = code_of image_parts mute_program

abbrev pub main_coded : Code
main_coded = Mark (ProcedureEntry 0) ∷ procedure_code mute_environment mute_main

abbrev pub inner_coded : Code
inner_coded = Mark (ProcedureEntry 1) ∷ function_copying inner_environment mute_inner

abbrev pub mute_entry : ℕ
mute_entry = size_of (start_of 0) + size_of raise_code

abbrev pub inner_entry : ℕ
inner_entry = mute_entry + size_of main_coded

-- the index of the ON, and where the code of its unit stands
abbrev pub mute_on : ℕ
mute_on =
    inner_entry + size_of (listing_of mute_inner) + size_of (arguments_copied inner_environment (0 ∷ []))
    + size_of (act_code 2)

abbrev pub mute_units : UnitPlaces
mute_units = record { unit = unit_of mute_unit; at = 4 * unit_index mute_unit mute_on } ∷ []

abbrev pub mute_image : (input : List ℕ) → (acts : ℕ) → Image
mute_image input acts =
    record {
      code = linked_code mute_code;
      links = links_of mute_code;
      units = mute_units;
      signatures = map template_of (table_of mute_program);
      constants = no_constants;
      fills = [];
      input = input;
      acts = acts;
      serials = 1;
    }

pub record MuteRan : Type 0 where
  -- whatever memory, input and number of acts that are allowed, the run does what the program does
  pub runs :
      (input first : List ℕ) (acts : ℕ) → acts + 1 < 2 ^ 64 → length first ≡ memory_size →
      Comes (linked_code mute_code) 0 (first_family first (services_of (start_point (mute_image input acts))))
      (services_of (start_point (mute_image input acts))) (never_in (mute_image input acts))
      (run mute_program (suc acts) acts (first_state input))
  -- that ends with one condition raised: the function returns what is left of the sum
  pub ends :
      (input : List ℕ) →
      meaning mute_program input 10
      ≡ Some (record { acts = 10; output = []; raised = (C.FixedOverflow, 20) ∷ []; end = E.Finished })
