-- A worked row: a main procedure with a FIXED BINARY(15) variable, which grows until it needs another bit, and a BIT(1)
-- variable that tells whether it goes on.
use Rattle.std.specs.Prelude.{ℕ, suc, ◌+◌, ◌^◌, ◌<◌, ◌≡◌, List, [], ◌∷◌, length, map, None, Some}
use Rattle.rv_meaning.specs.Machine.{memory_size}
use Rattle.pli_language.specs.declared.condition.Condition.TheVariants as C
use Rattle.pli_typing.specs.TypedTree as Y
use Rattle.pli_meaning.specs.declared.outcome.End.TheVariants as E
use Rattle.pli_meaning.specs.Control.{Label}
use Rattle.pli_meaning.specs.Executing.{meaning, run}
use Rattle.pli_meaning.specs.StorageState.{first_state}
use Rattle.pli_serving.specs.Templates.{template_of}
use Rattle.pli_coding.specs.Assembly.{Code, Mark, ProcedureEntry, size_of}
use Rattle.pli_coding.specs.Entries.{variables_code}
use Rattle.pli_coding.specs.Environments.{Environment}
use Rattle.pli_coding.specs.Images.{code_of, environment_of, linked_code, raise_code}
use Rattle.pli_coding.specs.Linking.{links_of}
use Rattle.pli_coding.specs.Procedures.{procedure_environment}
use Rattle.pli_coding.specs.SignatureTable.{table_of}
use Rattle.pli_coding.specs.Statements.{block_held, block_words}
use Rattle.storage_relation.specs.Versions.{no_constants}
use Rattle.activation_relation.specs.Layers.{services_of}
use Rattle.run_steps.specs.Reach.{Comes}
use Rattle.program_runs.specs.Procedures.{Procedure, procedure_code}
use Rattle.program_runs.specs.Rows.{row_head}
use Rattle.program_runs.specs.Starts.{Image, first_family, image_parts, start_of, start_point, never_in}
use Rattle.program_runs.specs.Variables.{Declared}
use Rattle.expression_runs.specs.Variables.{Spot, whole}
use Rattle.scalar_runs.specs.Assignments.{bit_assignment, number_assignment}
use Rattle.scalar_runs.specs.Scalars.{scalar_declared}

-- ---- the program

-- DECLARE H FIXED BINARY(15), B BIT(1); H = 8192; L: B = H < 16384; H = H + H + B; IF B THEN GOTO L;

abbrev pub brim_spot : Spot
brim_spot = record { block = 0; level = 0; index = 0 }

abbrev pub goes_spot : Spot
goes_spot = record { block = 0; level = 0; index = 1 }

abbrev pub brim_label : Label
brim_label = 76 ∷ []

abbrev pub brim_value : Y.Number
brim_value = Y.NumberIn (whole brim_spot)

abbrev pub goes_value : Y.Bit
goes_value = Y.BitIn (whole goes_spot)

abbrev pub brim_below : Y.Bit
brim_below = Y.NumbersCompared Y.IsLess brim_value (Y.NumberConstant 16384)

abbrev pub brim_twice : Y.Number
brim_twice = Y.Calculated Y.Sum brim_value brim_value

abbrev pub brim_sum : Y.Number
brim_sum = Y.Calculated Y.Sum brim_twice (Y.NumberOfBit goes_value)

abbrev pub brim_first : Y.Stmt
brim_first = number_assignment brim_spot 15 (Y.NumberConstant 8192) 3

abbrev pub brim_test : Y.Stmt
brim_test = bit_assignment goes_spot brim_below 4

abbrev pub brim_again : Y.Stmt
brim_again = number_assignment brim_spot 15 brim_sum 5

abbrev pub brim_goto : Y.Stmt
brim_goto = Y.Goto 0 brim_label 6

abbrev pub brim_back : Y.Stmt
brim_back = Y.If goes_value brim_goto 6

abbrev pub brim_end : Y.Stmts
brim_end = Y.StmtThen [] brim_back (Y.EndOfList [])

abbrev pub brim_last : Y.Stmts
brim_last = Y.StmtThen [] brim_again brim_end

abbrev pub brim_rest : Y.Stmts
brim_rest = Y.StmtThen (brim_label ∷ []) brim_test brim_last

abbrev pub brim_body : Y.Stmts
brim_body = Y.StmtThen [] brim_first brim_rest

abbrev pub brim_program : Y.Program
brim_program =
    record {
      variables = (scalar_declared (Y.FixedLeaf 15) [] ∷ scalar_declared Y.BitLeaf [] ∷ []) ∷ [];
      procedures =
          record { block = Y.BlockOf (row_head 0 0 1) brim_body; parameters = []; result = None } ∷ [];
    }

-- ---- its variables: both names stand behind the fixed part of the frame

abbrev pub brim_declared : Declared
brim_declared = record { index = 0; declared = scalar_declared (Y.FixedLeaf 15) []; number = 0; place = 144 }

abbrev pub goes_declared : Declared
goes_declared = record { index = 1; declared = scalar_declared Y.BitLeaf []; number = 1; place = 176 }

-- ---- its image

abbrev pub brim_environment : Environment
brim_environment = procedure_environment (row_head 0 0 1) (environment_of image_parts brim_program)

abbrev pub brim_main : Procedure
brim_main =
    record {
      head = row_head 0 0 1;
      body = brim_body;
      words = block_words brim_environment 0 brim_body;
      saved = block_held brim_environment 0 brim_body;
      variables = variables_code brim_environment 1;
    }

abbrev pub brim_code : Code
brim_code = code_of image_parts brim_program

abbrev pub brim_coded : Code
brim_coded = Mark (ProcedureEntry 0) ∷ procedure_code brim_environment brim_main

abbrev pub brim_entry : ℕ
brim_entry = size_of (start_of 0) + size_of raise_code

abbrev pub brim_image : (input : List ℕ) → (acts : ℕ) → Image
brim_image input acts =
    record {
      code = linked_code brim_code;
      links = links_of brim_code;
      units = [];
      signatures = map template_of (table_of brim_program);
      constants = no_constants;
      fills = [];
      input = input;
      acts = acts;
      serials = 2;
    }

pub record BrimRan : Type 0 where
  -- whatever memory, input and number of acts that are allowed, the run does what the program does
  pub runs :
      (input first : List ℕ) (acts : ℕ) → acts + 1 < 2 ^ 64 → length first ≡ memory_size →
      Comes (linked_code brim_code) 0 (first_family first (services_of (start_point (brim_image input acts))))
      (services_of (start_point (brim_image input acts))) (never_in (brim_image input acts))
      (run brim_program (suc acts) acts (first_state input))
  -- that ends in the second turn, since 32770 has more than 15 bits
  pub ends :
      (input : List ℕ) →
      meaning brim_program input 11
      ≡ Some (record {
        acts = 11;
        output = [];
        raised = (C.FixedOverflow, 20) ∷ (C.Error, 20) ∷ [];
        end = E.Error 20 5;
      })
