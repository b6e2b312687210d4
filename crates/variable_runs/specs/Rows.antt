-- A worked row: a main procedure with two FIXED BINARY(31) variables, which doubles one by way of the other until that
-- overflows.
use Rattle.std.specs.Prelude.{ℕ, suc, ◌+◌, ◌^◌, ◌<◌, ◌≡◌, List, [], ◌∷◌, length, map, None, Some}
use Rattle.rv_meaning.specs.Machine.{memory_size}
use Rattle.pli_language.specs.declared.condition.Condition.TheVariants as C
use Rattle.pli_typing.specs.TypedTree as Y
use Rattle.pli_meaning.specs.declared.outcome.End.TheVariants as E
use Rattle.pli_meaning.specs.Control.{Label}
use Rattle.pli_meaning.specs.Executing.{meaning, run}
use Rattle.pli_meaning.specs.StorageState.{first_state}
use Rattle.pli_serving.specs.Templates.{template_of}
use Rattle.pli_coding.specs.Assembly.{Code, Mark, ProcedureEntry, size_of}
use Rattle.pli_coding.specs.Entries.{variables_code}
use Rattle.pli_coding.specs.Environments.{Environment}
use Rattle.pli_coding.specs.Images.{code_of, environment_of, linked_code, raise_code}
use Rattle.pli_coding.specs.Linking.{links_of}
use Rattle.pli_coding.specs.Procedures.{procedure_environment}
use Rattle.pli_coding.specs.SignatureTable.{table_of}
use Rattle.pli_coding.specs.Statements.{block_held, block_words}
use Rattle.storage_relation.specs.Versions.{no_constants}
use Rattle.activation_relation.specs.Layers.{services_of}
use Rattle.run_steps.specs.Reach.{Comes}
use Rattle.program_runs.specs.Procedures.{Procedure, procedure_code}
use Rattle.program_runs.specs.Rows.{row_head}
use Rattle.program_runs.specs.Starts.{Image, first_family, image_parts, start_of, start_point, never_in}
use Rattle.program_runs.specs.Variables.{Declared}
use Rattle.expression_runs.specs.Assignments.{assignment}
use Rattle.expression_runs.specs.Variables.{Spot, number_declared, whole}

-- ---- the program: DECLARE (X, Y) FIXED BINARY(31); X = 536870912; L: Y = X + X; X = Y; GOTO L;

abbrev pub pair_spot : Spot
pair_spot = record { block = 0; level = 0; index = 0 }

abbrev pub other_spot : Spot
other_spot = record { block = 0; level = 0; index = 1 }

abbrev pub pair_label : Label
pair_label = 76 ∷ []

abbrev pub pair_first : Y.Stmt
pair_first = assignment pair_spot (Y.NumberConstant 536870912) 3

abbrev pub pair_sum : Y.Number
pair_sum = Y.Calculated Y.Sum (Y.NumberIn (whole pair_spot)) (Y.NumberIn (whole pair_spot))

abbrev pub pair_other : Y.Stmt
pair_other = assignment other_spot pair_sum 4

abbrev pub pair_again : Y.Stmt
pair_again = assignment pair_spot (Y.NumberIn (whole other_spot)) 5

abbrev pub pair_back : Y.Stmt
pair_back = Y.Goto 0 pair_label 6

abbrev pub pair_end : Y.Stmts
pair_end = Y.StmtThen [] pair_back (Y.EndOfList [])

abbrev pub pair_last : Y.Stmts
pair_last = Y.StmtThen [] pair_again pair_end

abbrev pub pair_rest : Y.Stmts
pair_rest = Y.StmtThen (pair_label ∷ []) pair_other pair_last

abbrev pub pair_body : Y.Stmts
pair_body = Y.StmtThen [] pair_first pair_rest

abbrev pub pair_program : Y.Program
pair_program =
    record {
      variables = (number_declared [] ∷ number_declared [] ∷ []) ∷ [];
      procedures =
          record { block = Y.BlockOf (row_head 0 0 1) pair_body; parameters = []; result = None } ∷ [];
    }

-- ---- its variables: both names stand behind the fixed part of the frame

abbrev pub pair_declared : Declared
pair_declared = record { index = 0; declared = number_declared []; number = 0; place = 144 }

abbrev pub other_declared : Declared
other_declared = record { index = 1; declared = number_declared []; number = 0; place = 176 }

-- ---- its image

abbrev pub pair_environment : Environment
pair_environment = procedure_environment (row_head 0 0 1) (environment_of image_parts pair_program)

abbrev pub pair_main : Procedure
pair_main =
    record {
      head = row_head 0 0 1;
      body = pair_body;
      words = block_words pair_environment 0 pair_body;
      saved = block_held pair_environment 0 pair_body;
      variables = variables_code pair_environment 1;
    }

abbrev pub pair_code : Code
pair_code = code_of image_parts pair_program

abbrev pub pair_coded : Code
pair_coded = Mark (ProcedureEntry 0) ∷ procedure_code pair_environment pair_main

abbrev pub pair_entry : ℕ
pair_entry = size_of (start_of 0) + size_of raise_code

abbrev pub pair_image : (input : List ℕ) → (acts : ℕ) → Image
pair_image input acts =
    record {
      code = linked_code pair_code;
      links = links_of pair_code;
      units = [];
      signatures = map template_of (table_of pair_program);
      constants = no_constants;
      fills = [];
      input = input;
      acts = acts;
      serials = 2;
    }

pub record PairRan : Type 0 where
  -- whatever memory, input and number of acts that are allowed, the run does what the program does
  pub runs :
      (input first : List ℕ) (acts : ℕ) → acts + 1 < 2 ^ 64 → length first ≡ memory_size →
      Comes (linked_code pair_code) 0 (first_family first (services_of (start_point (pair_image input acts))))
      (services_of (start_point (pair_image input acts))) (never_in (pair_image input acts))
      (run pair_program (suc acts) acts (first_state input))
  -- that ends in the second turn, since 2 ^ 31 has more than 31 bits
  pub ends :
      (input : List ℕ) →
      meaning pair_program input 9
      ≡ Some (record {
        acts = 9;
        output = [];
        raised = (C.FixedOverflow, 20) ∷ (C.Error, 20) ∷ [];
        end = E.Error 20 4;
      })
