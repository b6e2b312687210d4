-- A worked row: a main procedure that doubles a FIXED BINARY(31) variable in a DO that counts, until it overflows.
use Rattle.std.specs.Prelude.{ℕ, suc, ◌+◌, ◌^◌, ◌<◌, ◌≡◌, List, [], ◌∷◌, length, map, None, Some, pos}
use Rattle.rv_meaning.specs.Machine.{memory_size}
use Rattle.pli_language.specs.declared.condition.Condition.TheVariants as C
use Rattle.pli_typing.specs.TypedTree as Y
use Rattle.pli_meaning.specs.declared.outcome.End.TheVariants as E
use Rattle.pli_meaning.specs.Executing.{meaning, run}
use Rattle.pli_meaning.specs.StorageState.{first_state}
use Rattle.pli_serving.specs.Templates.{template_of}
use Rattle.pli_coding.specs.Assembly.{Code, Mark, ProcedureEntry, size_of}
use Rattle.pli_coding.specs.Entries.{variables_code}
use Rattle.pli_coding.specs.Environments.{Environment}
use Rattle.pli_coding.specs.Images.{code_of, environment_of, linked_code, raise_code}
use Rattle.pli_coding.specs.Linking.{links_of}
use Rattle.pli_coding.specs.Procedures.{procedure_environment}
use Rattle.pli_coding.specs.SignatureTable.{table_of}
use Rattle.pli_coding.specs.Statements.{block_held, block_words}
use Rattle.storage_relation.specs.Versions.{no_constants}
use Rattle.activation_relation.specs.Layers.{services_of}
use Rattle.run_steps.specs.Reach.{Comes}
use Rattle.program_runs.specs.Procedures.{Procedure, procedure_code}
use Rattle.program_runs.specs.Rows.{row_head}
use Rattle.program_runs.specs.Starts.{Image, first_family, image_parts, start_of, start_point, never_in}
use Rattle.program_runs.specs.Variables.{Declared}
use Rattle.expression_runs.specs.Assignments.{assignment}
use Rattle.expression_runs.specs.Variables.{Spot, number_declared, whole}
use Rattle.counter_runs.specs.Counts.{Counting, count_of}

-- ---- the program

-- DECLARE (X, I) FIXED BINARY(31); X = 268435456; DO I = 1 TO 3; X = X + X; END;

abbrev pub count_spot : Spot
count_spot = record { block = 0; level = 0; index = 0 }

abbrev pub counter_spot : Spot
counter_spot = record { block = 0; level = 0; index = 1 }

abbrev pub count_value : Y.Number
count_value = Y.NumberIn (whole count_spot)

abbrev pub count_sum : Y.Number
count_sum = Y.Calculated Y.Sum count_value count_value

abbrev pub count_first : Y.Stmt
count_first = assignment count_spot (Y.NumberConstant 268435456) 3

abbrev pub count_double : Y.Stmt
count_double = assignment count_spot count_sum 5

abbrev pub count_turn : Y.Stmts
count_turn = Y.StmtThen [] count_double (Y.EndOfList [])

abbrev pub counting : Counting
counting =
    record {
      counter = whole counter_spot;
      precision = 31;
      start = Y.NumberConstant 1;
      limit = Y.NumberConstant 3;
      step = Y.NumberConstant 1;
      by = pos 1;
      condition = None;
      body = count_turn;
      line = 4;
    }

abbrev pub count_loop : Y.Stmt
count_loop = count_of counting

abbrev pub count_rest : Y.Stmts
count_rest = Y.StmtThen [] count_loop (Y.EndOfList [])

abbrev pub count_body : Y.Stmts
count_body = Y.StmtThen [] count_first count_rest

abbrev pub count_program : Y.Program
count_program =
    record {
      variables = (number_declared [] ∷ number_declared [] ∷ []) ∷ [];
      procedures =
          record { block = Y.BlockOf (row_head 0 0 1) count_body; parameters = []; result = None } ∷ [];
    }

-- ---- its variables: both names stand behind the fixed part of the frame

abbrev pub count_declared : Declared
count_declared = record { index = 0; declared = number_declared []; number = 0; place = 144 }

abbrev pub counter_declared : Declared
counter_declared = record { index = 1; declared = number_declared []; number = 0; place = 176 }

-- ---- its image

abbrev pub count_environment : Environment
count_environment = procedure_environment (row_head 0 0 1) (environment_of image_parts count_program)

abbrev pub count_main : Procedure
count_main =
    record {
      head = row_head 0 0 1;
      body = count_body;
      words = block_words count_environment 0 count_body;
      saved = block_held count_environment 0 count_body;
      variables = variables_code count_environment 1;
    }

abbrev pub count_code : Code
count_code = code_of image_parts count_program

abbrev pub count_coded : Code
count_coded = Mark (ProcedureEntry 0) ∷ procedure_code count_environment count_main

abbrev pub count_entry : ℕ
count_entry = size_of (start_of 0) + size_of raise_code

abbrev pub count_image : (input : List ℕ) → (acts : ℕ) → Image
count_image input acts =
    record {
      code = linked_code count_code;
      links = links_of count_code;
      units = [];
      signatures = map template_of (table_of count_program);
      constants = no_constants;
      fills = [];
      input = input;
      acts = acts;
      serials = 2;
    }

pub record CountRan : Type 0 where
  -- whatever memory, input and number of acts that are allowed, the run does what the program does
  pub runs :
      (input first : List ℕ) (acts : ℕ) → acts + 1 < 2 ^ 64 → length first ≡ memory_size →
      Comes (linked_code count_code) 0 (first_family first (services_of (start_point (count_image input acts))))
      (services_of (start_point (count_image input acts))) (never_in (count_image input acts))
      (run count_program (suc acts) acts (first_state input))
  -- that ends in the third turn, since 2 ^ 31 has more than 31 bits
  pub ends :
      (input : List ℕ) →
      meaning count_program input 12
      ≡ Some (record {
        acts = 12;
        output = [];
        raised = (C.FixedOverflow, 20) ∷ (C.Error, 20) ∷ [];
        end = E.Error 20 5;
      })
