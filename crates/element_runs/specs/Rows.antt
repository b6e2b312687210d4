-- A worked row: a main procedure that doubles an element of an array, whose subscript a function returns, until it
-- overflows.
use Rattle.std.specs.Prelude.{ℕ, suc, pos, ◌+◌, ◌^◌, ◌<◌, ◌≡◌, List, [], ◌∷◌, length, map, None, Some}
use Rattle.rv_meaning.specs.Machine.{memory_size}
use Rattle.pli_language.specs.declared.condition.Condition.TheVariants as C
use Rattle.pli_typing.specs.Signatures.{Bounds}
use Rattle.pli_typing.specs.TypedTree as Y
use Rattle.pli_meaning.specs.declared.outcome.End.TheVariants as E
use Rattle.pli_meaning.specs.Control.{Label}
use Rattle.pli_meaning.specs.Executing.{meaning, run}
use Rattle.pli_meaning.specs.StorageState.{first_state}
use Rattle.pli_serving.specs.Templates.{template_of}
use Rattle.pli_coding.specs.Assembly.{Code, Mark, ProcedureEntry, size_of}
use Rattle.pli_coding.specs.Entries.{variables_code}
use Rattle.pli_coding.specs.Environments.{Environment}
use Rattle.pli_coding.specs.Images.{code_of, environment_of, linked_code, raise_code}
use Rattle.pli_coding.specs.Linking.{links_of}
use Rattle.pli_coding.specs.Procedures.{procedure_environment}
use Rattle.pli_coding.specs.SignatureTable.{table_of}
use Rattle.pli_coding.specs.Statements.{block_held, block_words}
use Rattle.storage_relation.specs.Versions.{no_constants}
use Rattle.activation_relation.specs.Layers.{services_of}
use Rattle.run_steps.specs.Reach.{Comes}
use Rattle.program_runs.specs.Procedures.{Procedure, procedure_code}
use Rattle.program_runs.specs.Rows.{row_head}
use Rattle.program_runs.specs.Starts.{Image, first_family, image_parts, start_of, start_point, never_in}
use Rattle.program_runs.specs.Variables.{Declared}
use Rattle.expression_runs.specs.Assignments.{assignment}
use Rattle.expression_runs.specs.Variables.{Spot, number_declared, whole}
use Rattle.function_runs.specs.Functions.{function_code}
use Rattle.function_runs.specs.Returns.{return_of}
use Rattle.element_runs.specs.Arrays.{array_declared, element}
use Rattle.element_runs.specs.Laws.{element_assigned}

-- ---- the program: DECLARE A(3) FIXED BINARY(31), X FIXED BINARY(31); F: PROCEDURE RETURNS(FIXED BINARY(31));
-- RETURN (A(1)); END F; X = 2; A(1) = X; A(X) = 536870912; L: A(F()) = A(F()) + A(X); GOTO L;

abbrev pub pick_bounds : Bounds
pick_bounds = record { lower = pos 1; upper = pos 3 }

abbrev pub pick_array : Spot
pick_array = record { block = 0; level = 0; index = 0 }

abbrev pub pick_spot : Spot
pick_spot = record { block = 0; level = 0; index = 1 }

abbrev pub pick_label : Label
pick_label = 76 ∷ []

abbrev pub picked : Y.Number
picked = Y.NumberFrom (Y.Calling 1 0 Y.NoArgument)

abbrev pub pick_first : Y.Stmt
pick_first = assignment pick_spot (Y.NumberConstant 2) 5

abbrev pub pick_variable : Y.Number
pick_variable = Y.NumberIn (whole pick_spot)

abbrev pub pick_given : Y.Stmt
pick_given = element_assigned pick_array (Y.NumberConstant 1) pick_variable 6

abbrev pub pick_begun : Y.Stmt
pick_begun = element_assigned pick_array pick_variable (Y.NumberConstant 536870912) 7

abbrev pub pick_sum : Y.Number
pick_sum =
    Y.Calculated Y.Sum (Y.NumberIn (element pick_array picked)) (Y.NumberIn (element pick_array pick_variable))

abbrev pub pick_again : Y.Stmt
pick_again = element_assigned pick_array picked pick_sum 8

abbrev pub pick_back : Y.Stmt
pick_back = Y.Goto 0 pick_label 9

abbrev pub pick_end : Y.Stmts
pick_end = Y.StmtThen [] pick_back (Y.EndOfList [])

abbrev pub pick_last : Y.Stmts
pick_last = Y.StmtThen (pick_label ∷ []) pick_again pick_end

abbrev pub pick_next : Y.Stmts
pick_next = Y.StmtThen [] pick_begun pick_last

abbrev pub pick_rest : Y.Stmts
pick_rest = Y.StmtThen [] pick_given pick_next

abbrev pub pick_body : Y.Stmts
pick_body = Y.StmtThen [] pick_first pick_rest

abbrev pub pick_return : Y.Stmt
pick_return = return_of (Y.NumberIn (element pick_array (Y.NumberConstant 1))) 3

abbrev pub inner_body : Y.Stmts
inner_body = Y.StmtThen [] pick_return (Y.EndOfList [])

abbrev pub inner_procedure : Y.Procedure
inner_procedure =
    record { block = Y.BlockOf (row_head 1 1 2) inner_body; parameters = []; result = Some (Y.FixedLeaf 31) }

abbrev pub pick_program : Y.Program
pick_program =
    record {
      variables = (array_declared pick_bounds [] ∷ number_declared [] ∷ []) ∷ [] ∷ [];
      procedures =
          record { block = Y.BlockOf (row_head 0 0 1) pick_body; parameters = []; result = None }
          ∷ inner_procedure ∷ [];
    }

-- ---- its variables: both names stand behind the fixed part of the frame

abbrev pub array_made : Declared
array_made = record { index = 0; declared = array_declared pick_bounds []; number = 0; place = 144 }

abbrev pub number_made : Declared
number_made = record { index = 1; declared = number_declared []; number = 1; place = 176 }

-- ---- its image

abbrev pub pick_environment : Environment
pick_environment = procedure_environment (row_head 0 0 1) (environment_of image_parts pick_program)

abbrev pub inner_environment : Environment
inner_environment = procedure_environment (row_head 1 1 2) (environment_of image_parts pick_program)

abbrev pub pick_main : Procedure
pick_main =
    record {
      head = row_head 0 0 1;
      body = pick_body;
      words = block_words pick_environment 0 pick_body;
      saved = block_held pick_environment 0 pick_body;
      variables = variables_code pick_environment 1;
    }

abbrev pub pick_inner : Procedure
pick_inner =
    record {
      head = row_head 1 1 2;
      body = inner_body;
      words = block_words inner_environment 1 inner_body;
      saved = block_held inner_environment 1 inner_body;
      variables = [];
    }

abbrev pub pick_code : Code
pick_code = code_of image_parts pick_program

abbrev pub main_coded : Code
main_coded = Mark (ProcedureEntry 0) ∷ procedure_code pick_environment pick_main

abbrev pub inner_coded : Code
inner_coded = Mark (ProcedureEntry 1) ∷ function_code inner_environment pick_inner

abbrev pub pick_entry : ℕ
pick_entry = size_of (start_of 0) + size_of raise_code

abbrev pub inner_entry : ℕ
inner_entry = pick_entry + size_of main_coded

abbrev pub pick_image : (input : List ℕ) → (acts : ℕ) → Image
pick_image input acts =
    record {
      code = linked_code pick_code;
      links = links_of pick_code;
      units = [];
      signatures = map template_of (table_of pick_program);
      constants = no_constants;
      fills = [];
      input = input;
      acts = acts;
      serials = 2;
    }

pub record PickRan : Type 0 where
  -- whatever memory, input and number of acts that are allowed, the run does what the program does
  pub runs :
      (input first : List ℕ) (acts : ℕ) → acts + 1 < 2 ^ 64 → length first ≡ memory_size →
      Comes (linked_code pick_code) 0 (first_family first (services_of (start_point (pick_image input acts))))
      (services_of (start_point (pick_image input acts))) (never_in (pick_image input acts))
      (run pick_program (suc acts) acts (first_state input))
  -- that ends in the second turn, since 2 ^ 31 has more than 31 bits
  pub ends :
      (input : List ℕ) →
      meaning pick_program input 16
      ≡ Some (record {
        acts = 16;
        output = [];
        raised = (C.FixedOverflow, 20) ∷ (C.Error, 20) ∷ [];
        end = E.Error 20 8;
      })
