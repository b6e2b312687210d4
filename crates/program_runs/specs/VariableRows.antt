-- A worked row: a main procedure with one variable, FIXED BINARY(31).
use Rattle.std.specs.Prelude.{ℕ, suc, ◌+◌, ◌^◌, ◌<◌, ◌≡◌, List, [], ◌∷◌, length, map, None}
use Rattle.rv_meaning.specs.Machine.{memory_size}
use Rattle.pli_typing.specs.TypedTree as Y
use Rattle.pli_meaning.specs.Executing.{run}
use Rattle.pli_meaning.specs.StorageState.{first_state}
use Rattle.pli_serving.specs.Templates.{template_of}
use Rattle.pli_coding.specs.Assembly.{Code, Mark, ProcedureEntry, size_of}
use Rattle.pli_coding.specs.Entries.{variables_code}
use Rattle.pli_coding.specs.Environments.{Environment}
use Rattle.pli_coding.specs.Images.{code_of, environment_of, linked_code, raise_code}
use Rattle.pli_coding.specs.Linking.{links_of}
use Rattle.pli_coding.specs.Procedures.{procedure_environment}
use Rattle.pli_coding.specs.SignatureTable.{table_of}
use Rattle.storage_relation.specs.Versions.{no_constants}
use Rattle.activation_relation.specs.Layers.{services_of}
use Rattle.run_steps.specs.Reach.{Comes}
use Rattle.program_runs.specs.Procedures.{Procedure, procedure_code}
use Rattle.program_runs.specs.Rows.{row_head}
use Rattle.program_runs.specs.Starts.{Image, image_parts, start_of, start_point, first_family, never_in}
use Rattle.program_runs.specs.Variables.{Declared}

-- ---- the program: DECLARE X FIXED BINARY(31); and a null statement

abbrev pub number_variable : Y.DeclaredVariable
number_variable =
    record {
      class = Y.AutomaticClass;
      members = record { depth = 0; dimensions = 0 } ∷ [];
      leaves = record { type = Y.FixedLeaf 31; bounds = []; initial = [] } ∷ [];
      refer = None;
      evaluations = [];
    }

abbrev pub number_body : Y.Stmts
number_body = Y.StmtThen [] (Y.Null 3) (Y.EndOfList [])

abbrev pub number_program : Y.Program
number_program =
    record {
      variables = (number_variable ∷ []) ∷ [];
      procedures =
          record { block = Y.BlockOf (row_head 0 0 1) number_body; parameters = []; result = None } ∷ [];
    }

abbrev pub number_environment : Environment
number_environment = procedure_environment (row_head 0 0 1) (environment_of image_parts number_program)

abbrev pub number_main : Procedure
number_main =
    record {
      head = row_head 0 0 1;
      body = number_body;
      words = 0;
      saved = 0;
      variables = variables_code number_environment 1;
    }

-- its name stands behind the fixed part of the frame
abbrev pub number_declared : Declared
number_declared = record { index = 0; declared = number_variable; number = 0; place = 144 }

-- ---- its image

abbrev pub number_code : Code
number_code = code_of image_parts number_program

abbrev pub number_coded : Code
number_coded = Mark (ProcedureEntry 0) ∷ procedure_code number_environment number_main

abbrev pub number_entry : ℕ
number_entry = size_of (start_of 0) + size_of raise_code

abbrev pub number_image : (input : List ℕ) → (acts : ℕ) → Image
number_image input acts =
    record {
      code = linked_code number_code;
      links = links_of number_code;
      units = [];
      signatures = map template_of (table_of number_program);
      constants = no_constants;
      fills = [];
      input = input;
      acts = acts;
      serials = 1;
    }

pub record NumberRan : Type 0 where
  -- whatever memory, input and number of acts that are allowed, the run does what the program does
  pub runs :
      (input first : List ℕ) (acts : ℕ) → acts + 1 < 2 ^ 64 → length first ≡ memory_size →
      Comes (linked_code number_code) 0 (first_family first (services_of (start_point (number_image input acts))))
      (services_of (start_point (number_image input acts))) (never_in (number_image input acts))
      (run number_program (suc acts) acts (first_state input))
