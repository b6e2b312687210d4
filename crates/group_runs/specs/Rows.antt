-- A worked row: a main procedure that doubles a FIXED BINARY(31) variable in a group, out of which it jumps back, until
-- it overflows.
use Rattle.std.specs.Prelude.{ℕ, suc, ◌+◌, ◌^◌, ◌<◌, ◌≡◌, List, [], ◌∷◌, length, map, None, Some}
use Rattle.rv_meaning.specs.Machine.{memory_size}
use Rattle.pli_language.specs.declared.condition.Condition.TheVariants as C
use Rattle.pli_typing.specs.TypedTree as Y
use Rattle.pli_meaning.specs.declared.outcome.End.TheVariants as E
use Rattle.pli_meaning.specs.Control.{Label}
use Rattle.pli_meaning.specs.Executing.{meaning, run}
use Rattle.pli_meaning.specs.StorageState.{first_state}
use Rattle.pli_serving.specs.Templates.{template_of}
use Rattle.pli_coding.specs.Assembly.{Code, Mark, ProcedureEntry, size_of}
use Rattle.pli_coding.specs.Entries.{variables_code}
use Rattle.pli_coding.specs.Environments.{Environment}
use Rattle.pli_coding.specs.Images.{code_of, environment_of, linked_code, raise_code}
use Rattle.pli_coding.specs.Linking.{links_of}
use Rattle.pli_coding.specs.Procedures.{procedure_environment}
use Rattle.pli_coding.specs.SignatureTable.{table_of}
use Rattle.pli_coding.specs.Statements.{block_held, block_words}
use Rattle.storage_relation.specs.Versions.{no_constants}
use Rattle.activation_relation.specs.Layers.{services_of}
use Rattle.run_steps.specs.Reach.{Comes}
use Rattle.program_runs.specs.Procedures.{Procedure, procedure_code}
use Rattle.program_runs.specs.Rows.{row_head}
use Rattle.program_runs.specs.Starts.{Image, first_family, image_parts, start_of, start_point, never_in}
use Rattle.expression_runs.specs.Assignments.{assignment}
use Rattle.expression_runs.specs.Variables.{Spot, number_declared, whole}

-- ---- the program: DECLARE X FIXED BINARY(31); X = 536870912; L: DO; X = X + X; GOTO L; END;

abbrev pub group_spot : Spot
group_spot = record { block = 0; level = 0; index = 0 }

abbrev pub group_label : Label
group_label = 76 ∷ []

abbrev pub group_first : Y.Stmt
group_first = assignment group_spot (Y.NumberConstant 536870912) 3

abbrev pub group_sum : Y.Number
group_sum = Y.Calculated Y.Sum (Y.NumberIn (whole group_spot)) (Y.NumberIn (whole group_spot))

abbrev pub group_again : Y.Stmt
group_again = assignment group_spot group_sum 5

abbrev pub group_back : Y.Stmt
group_back = Y.Goto 0 group_label 6

abbrev pub group_end : Y.Stmts
group_end = Y.StmtThen [] group_back (Y.EndOfList [])

abbrev pub group_inside : Y.Stmts
group_inside = Y.StmtThen [] group_again group_end

abbrev pub group_done : Y.Stmt
group_done = Y.Do group_inside 4

abbrev pub group_rest : Y.Stmts
group_rest = Y.StmtThen (group_label ∷ []) group_done (Y.EndOfList [])

abbrev pub group_body : Y.Stmts
group_body = Y.StmtThen [] group_first group_rest

abbrev pub group_program : Y.Program
group_program =
    record {
      variables = (number_declared [] ∷ []) ∷ [];
      procedures =
          record { block = Y.BlockOf (row_head 0 0 1) group_body; parameters = []; result = None } ∷ [];
    }

-- ---- its image

abbrev pub group_environment : Environment
group_environment = procedure_environment (row_head 0 0 1) (environment_of image_parts group_program)

abbrev pub group_main : Procedure
group_main =
    record {
      head = row_head 0 0 1;
      body = group_body;
      words = block_words group_environment 0 group_body;
      saved = block_held group_environment 0 group_body;
      variables = variables_code group_environment 1;
    }

abbrev pub group_code : Code
group_code = code_of image_parts group_program

abbrev pub group_coded : Code
group_coded = Mark (ProcedureEntry 0) ∷ procedure_code group_environment group_main

abbrev pub group_entry : ℕ
group_entry = size_of (start_of 0) + size_of raise_code

abbrev pub group_image : (input : List ℕ) → (acts : ℕ) → Image
group_image input acts =
    record {
      code = linked_code group_code;
      links = links_of group_code;
      units = [];
      signatures = map template_of (table_of group_program);
      constants = no_constants;
      fills = [];
      input = input;
      acts = acts;
      serials = 1;
    }

pub record GroupRan : Type 0 where
  -- whatever memory, input and number of acts that are allowed, the run does what the program does
  pub runs :
      (input first : List ℕ) (acts : ℕ) → acts + 1 < 2 ^ 64 → length first ≡ memory_size →
      Comes (linked_code group_code) 0 (first_family first (services_of (start_point (group_image input acts))))
      (services_of (start_point (group_image input acts))) (never_in (group_image input acts))
      (run group_program (suc acts) acts (first_state input))
  -- that ends in the second turn, since 2 ^ 31 has more than 31 bits
  pub ends :
      (input : List ℕ) →
      meaning group_program input 10
      ≡ Some (record {
        acts = 10;
        output = [];
        raised = (C.FixedOverflow, 20) ∷ (C.Error, 20) ∷ [];
        end = E.Error 20 5;
      })
