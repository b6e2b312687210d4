-- A worked row: a main procedure that doubles a FIXED BINARY(31) variable in a loop by GOTO, until it overflows.
use Rattle.std.specs.Prelude.{ℕ, suc, ◌+◌, ◌^◌, ◌<◌, ◌≡◌, List, [], ◌∷◌, length, map, None, Some}
use Rattle.rv_meaning.specs.Machine.{memory_size}
use Rattle.pli_language.specs.declared.condition.Condition.TheVariants as C
use Rattle.pli_typing.specs.TypedTree as Y
use Rattle.pli_meaning.specs.declared.outcome.End.TheVariants as E
use Rattle.pli_meaning.specs.Control.{Label}
use Rattle.pli_meaning.specs.Executing.{meaning, run}
use Rattle.pli_meaning.specs.StorageState.{first_state}
use Rattle.pli_serving.specs.Templates.{template_of}
use Rattle.pli_coding.specs.Assembly.{Code, Mark, ProcedureEntry, size_of}
use Rattle.pli_coding.specs.Entries.{variables_code}
use Rattle.pli_coding.specs.Environments.{Environment}
use Rattle.pli_coding.specs.Images.{code_of, environment_of, linked_code, raise_code}
use Rattle.pli_coding.specs.Linking.{links_of}
use Rattle.pli_coding.specs.Procedures.{procedure_environment}
use Rattle.pli_coding.specs.SignatureTable.{table_of}
use Rattle.pli_coding.specs.Statements.{block_held, block_words}
use Rattle.storage_relation.specs.Versions.{no_constants}
use Rattle.activation_relation.specs.Layers.{services_of}
use Rattle.run_steps.specs.Reach.{Comes}
use Rattle.program_runs.specs.Procedures.{Procedure, procedure_code}
use Rattle.program_runs.specs.Rows.{row_head}
use Rattle.program_runs.specs.Starts.{Image, first_family, image_parts, start_of, start_point, never_in}
use Rattle.expression_runs.specs.Assignments.{assignment}
use Rattle.expression_runs.specs.Variables.{Spot, number_declared, whole}

-- ---- the program: DECLARE X FIXED BINARY(31); X = 536870912; L: X = X + X; GOTO L;

abbrev pub double_spot : Spot
double_spot = record { block = 0; level = 0; index = 0 }

abbrev pub double_label : Label
double_label = 76 ∷ []

abbrev pub double_first : Y.Stmt
double_first = assignment double_spot (Y.NumberConstant 536870912) 3

abbrev pub doubled : Y.Number
doubled = Y.Calculated Y.Sum (Y.NumberIn (whole double_spot)) (Y.NumberIn (whole double_spot))

abbrev pub double_again : Y.Stmt
double_again = assignment double_spot doubled 4

abbrev pub double_back : Y.Stmt
double_back = Y.Goto 0 double_label 5

abbrev pub double_end : Y.Stmts
double_end = Y.StmtThen [] double_back (Y.EndOfList [])

abbrev pub double_rest : Y.Stmts
double_rest = Y.StmtThen (double_label ∷ []) double_again double_end

abbrev pub double_body : Y.Stmts
double_body = Y.StmtThen [] double_first double_rest

abbrev pub double_program : Y.Program
double_program =
    record {
      variables = (number_declared [] ∷ []) ∷ [];
      procedures =
          record { block = Y.BlockOf (row_head 0 0 1) double_body; parameters = []; result = None } ∷ [];
    }

-- ---- its image

abbrev pub double_environment : Environment
double_environment = procedure_environment (row_head 0 0 1) (environment_of image_parts double_program)

abbrev pub double_main : Procedure
double_main =
    record {
      head = row_head 0 0 1;
      body = double_body;
      words = block_words double_environment 0 double_body;
      saved = block_held double_environment 0 double_body;
      variables = variables_code double_environment 1;
    }

abbrev pub double_code : Code
double_code = code_of image_parts double_program

abbrev pub double_coded : Code
double_coded = Mark (ProcedureEntry 0) ∷ procedure_code double_environment double_main

abbrev pub double_entry : ℕ
double_entry = size_of (start_of 0) + size_of raise_code

abbrev pub double_image : (input : List ℕ) → (acts : ℕ) → Image
double_image input acts =
    record {
      code = linked_code double_code;
      links = links_of double_code;
      units = [];
      signatures = map template_of (table_of double_program);
      constants = no_constants;
      fills = [];
      input = input;
      acts = acts;
      serials = 1;
    }

pub record DoubleRan : Type 0 where
  -- whatever memory, input and number of acts that are allowed, the run does what the program does
  pub runs :
      (input first : List ℕ) (acts : ℕ) → acts + 1 < 2 ^ 64 → length first ≡ memory_size →
      Comes (linked_code double_code) 0 (first_family first (services_of (start_point (double_image input acts))))
      (services_of (start_point (double_image input acts))) (never_in (double_image input acts))
      (run double_program (suc acts) acts (first_state input))
  -- that ends in the second turn, since 2 ^ 31 has more than 31 bits
  pub ends :
      (input : List ℕ) →
      meaning double_program input 8
      ≡ Some (record {
        acts = 8;
        output = [];
        raised = (C.FixedOverflow, 20) ∷ (C.Error, 20) ∷ [];
        end = E.Error 20 4;
      })
