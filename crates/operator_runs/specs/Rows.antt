-- A worked row: a main procedure that squares a FIXED BINARY(31) variable in a loop by GOTO, until it overflows.
use Rattle.std.specs.Prelude.{ℕ, suc, ◌+◌, ◌^◌, ◌<◌, ◌≡◌, List, [], ◌∷◌, length, map, None, Some}
use Rattle.rv_meaning.specs.Machine.{memory_size}
use Rattle.pli_language.specs.declared.condition.Condition.TheVariants as C
use Rattle.pli_typing.specs.TypedTree as Y
use Rattle.pli_meaning.specs.declared.outcome.End.TheVariants as E
use Rattle.pli_meaning.specs.Control.{Label}
use Rattle.pli_meaning.specs.Executing.{meaning, run}
use Rattle.pli_meaning.specs.StorageState.{first_state}
use Rattle.pli_serving.specs.Templates.{template_of}
use Rattle.pli_coding.specs.Assembly.{Code, Mark, ProcedureEntry, size_of}
use Rattle.pli_coding.specs.Entries.{variables_code}
use Rattle.pli_coding.specs.Environments.{Environment}
use Rattle.pli_coding.specs.Images.{code_of, environment_of, linked_code, raise_code}
use Rattle.pli_coding.specs.Linking.{links_of}
use Rattle.pli_coding.specs.Procedures.{procedure_environment}
use Rattle.pli_coding.specs.SignatureTable.{table_of}
use Rattle.pli_coding.specs.Statements.{block_held, block_words}
use Rattle.storage_relation.specs.Versions.{no_constants}
use Rattle.activation_relation.specs.Layers.{services_of}
use Rattle.run_steps.specs.Reach.{Comes}
use Rattle.program_runs.specs.Procedures.{Procedure, procedure_code}
use Rattle.program_runs.specs.Rows.{row_head}
use Rattle.program_runs.specs.Starts.{Image, first_family, image_parts, start_of, start_point, never_in}
use Rattle.expression_runs.specs.Assignments.{assignment}
use Rattle.expression_runs.specs.Variables.{Spot, number_declared, whole}

-- ---- the program: DECLARE X FIXED BINARY(31); X = 46340; L: X = X * X; GOTO L;

abbrev pub square_spot : Spot
square_spot = record { block = 0; level = 0; index = 0 }

abbrev pub square_label : Label
square_label = 76 ∷ []

abbrev pub square_first : Y.Stmt
square_first = assignment square_spot (Y.NumberConstant 46340) 3

abbrev pub squared : Y.Number
squared = Y.Calculated Y.Product (Y.NumberIn (whole square_spot)) (Y.NumberIn (whole square_spot))

abbrev pub square_again : Y.Stmt
square_again = assignment square_spot squared 4

abbrev pub square_back : Y.Stmt
square_back = Y.Goto 0 square_label 5

abbrev pub square_end : Y.Stmts
square_end = Y.StmtThen [] square_back (Y.EndOfList [])

abbrev pub square_rest : Y.Stmts
square_rest = Y.StmtThen (square_label ∷ []) square_again square_end

abbrev pub square_body : Y.Stmts
square_body = Y.StmtThen [] square_first square_rest

abbrev pub square_program : Y.Program
square_program =
    record {
      variables = (number_declared [] ∷ []) ∷ [];
      procedures =
          record { block = Y.BlockOf (row_head 0 0 1) square_body; parameters = []; result = None } ∷ [];
    }

-- ---- its image

abbrev pub square_environment : Environment
square_environment = procedure_environment (row_head 0 0 1) (environment_of image_parts square_program)

abbrev pub square_main : Procedure
square_main =
    record {
      head = row_head 0 0 1;
      body = square_body;
      words = block_words square_environment 0 square_body;
      saved = block_held square_environment 0 square_body;
      variables = variables_code square_environment 1;
    }

abbrev pub square_code : Code
square_code = code_of image_parts square_program

abbrev pub square_coded : Code
square_coded = Mark (ProcedureEntry 0) ∷ procedure_code square_environment square_main

abbrev pub square_entry : ℕ
square_entry = size_of (start_of 0) + size_of raise_code

abbrev pub square_image : (input : List ℕ) → (acts : ℕ) → Image
square_image input acts =
    record {
      code = linked_code square_code;
      links = links_of square_code;
      units = [];
      signatures = map template_of (table_of square_program);
      constants = no_constants;
      fills = [];
      input = input;
      acts = acts;
      serials = 1;
    }

pub record SquareRan : Type 0 where
  -- whatever memory, input and number of acts that are allowed, the run does what the program does
  pub runs :
      (input first : List ℕ) (acts : ℕ) → acts + 1 < 2 ^ 64 → length first ≡ memory_size →
      Comes (linked_code square_code) 0 (first_family first (services_of (start_point (square_image input acts))))
      (services_of (start_point (square_image input acts))) (never_in (square_image input acts))
      (run square_program (suc acts) acts (first_state input))
  -- that ends in the second turn, since 46340 to the fourth has more than 31 bits
  pub ends :
      (input : List ℕ) →
      meaning square_program input 8
      ≡ Some (record {
        acts = 8;
        output = [];
        raised = (C.FixedOverflow, 20) ∷ (C.Error, 20) ∷ [];
        end = E.Error 20 4;
      })
