-- A worked row: a main procedure that ends two lines in each turn of a loop by GOTO, until its variable overflows.
use Rattle.std.specs.Prelude.{ℕ, suc, ◌+◌, ◌^◌, ◌<◌, ◌≡◌, List, [], ◌∷◌, length, map, None, Some}
use Rattle.rv_meaning.specs.Machine.{memory_size}
use Rattle.pli_language.specs.declared.condition.Condition.TheVariants as C
use Rattle.pli_typing.specs.TypedTree as Y
use Rattle.pli_meaning.specs.declared.outcome.End.TheVariants as E
use Rattle.pli_meaning.specs.Control.{Label}
use Rattle.pli_meaning.specs.Executing.{meaning, run}
use Rattle.pli_meaning.specs.StorageState.{first_state}
use Rattle.pli_serving.specs.Templates.{template_of}
use Rattle.pli_coding.specs.Assembly.{Code, Mark, ProcedureEntry, size_of}
use Rattle.pli_coding.specs.Entries.{variables_code}
use Rattle.pli_coding.specs.Environments.{Environment}
use Rattle.pli_coding.specs.Images.{code_of, environment_of, linked_code, raise_code}
use Rattle.pli_coding.specs.Linking.{links_of}
use Rattle.pli_coding.specs.Procedures.{procedure_environment}
use Rattle.pli_coding.specs.SignatureTable.{table_of}
use Rattle.pli_coding.specs.Statements.{block_held, block_words}
use Rattle.storage_relation.specs.Versions.{no_constants}
use Rattle.activation_relation.specs.Layers.{services_of}
use Rattle.run_steps.specs.Reach.{Comes}
use Rattle.program_runs.specs.Procedures.{Procedure, procedure_code}
use Rattle.program_runs.specs.Rows.{row_head}
use Rattle.program_runs.specs.Starts.{Image, first_family, image_parts, start_of, start_point, never_in}
use Rattle.expression_runs.specs.Assignments.{assignment}
use Rattle.expression_runs.specs.Variables.{Spot, number_declared, whole}
use Rattle.edit_runs.specs.Skips.{skipping}

-- ---- the program: DECLARE X FIXED BINARY(31); X = 536870912; L: PUT SKIP(2);
-- X = X + X; GOTO L;

abbrev pub ruled_spot : Spot
ruled_spot = record { block = 0; level = 0; index = 0 }

abbrev pub ruled_label : Label
ruled_label = 76 ∷ []

abbrev pub ruled_first : Y.Stmt
ruled_first = assignment ruled_spot (Y.NumberConstant 536870912) 3

abbrev pub ruled_twice : Y.Number
ruled_twice = Y.Calculated Y.Sum (Y.NumberIn (whole ruled_spot)) (Y.NumberIn (whole ruled_spot))

abbrev pub ruled_again : Y.Stmt
ruled_again = assignment ruled_spot ruled_twice 5

abbrev pub ruled_put : Y.Stmt
ruled_put = skipping 2 4

abbrev pub ruled_back : Y.Stmt
ruled_back = Y.Goto 0 ruled_label 6

abbrev pub ruled_end : Y.Stmts
ruled_end = Y.StmtThen [] ruled_back (Y.EndOfList [])

abbrev pub ruled_next : Y.Stmts
ruled_next = Y.StmtThen [] ruled_again ruled_end

abbrev pub ruled_rest : Y.Stmts
ruled_rest = Y.StmtThen (ruled_label ∷ []) ruled_put ruled_next

abbrev pub ruled_body : Y.Stmts
ruled_body = Y.StmtThen [] ruled_first ruled_rest

abbrev pub ruled_program : Y.Program
ruled_program =
    record {
      variables = (number_declared [] ∷ []) ∷ [];
      procedures =
          record { block = Y.BlockOf (row_head 0 0 1) ruled_body; parameters = []; result = None } ∷ [];
    }

-- ---- its image

abbrev pub ruled_environment : Environment
ruled_environment = procedure_environment (row_head 0 0 1) (environment_of image_parts ruled_program)

abbrev pub ruled_main : Procedure
ruled_main =
    record {
      head = row_head 0 0 1;
      body = ruled_body;
      words = block_words ruled_environment 0 ruled_body;
      saved = block_held ruled_environment 0 ruled_body;
      variables = variables_code ruled_environment 1;
    }

abbrev pub ruled_code : Code
ruled_code = code_of image_parts ruled_program

abbrev pub ruled_coded : Code
ruled_coded = Mark (ProcedureEntry 0) ∷ procedure_code ruled_environment ruled_main

abbrev pub ruled_entry : ℕ
ruled_entry = size_of (start_of 0) + size_of raise_code

abbrev pub ruled_image : (input : List ℕ) → (acts : ℕ) → Image
ruled_image input acts =
    record {
      code = linked_code ruled_code;
      links = links_of ruled_code;
      units = [];
      signatures = map template_of (table_of ruled_program);
      constants = no_constants;
      fills = [];
      input = input;
      acts = acts;
      serials = 1;
    }

pub record RuledRan : Type 0 where
  -- whatever memory, input and number of acts that are allowed, the run does what the program does
  pub runs :
      (input first : List ℕ) (acts : ℕ) → acts + 1 < 2 ^ 64 → length first ≡ memory_size →
      Comes (linked_code ruled_code) 0 (first_family first (services_of (start_point (ruled_image input acts))))
      (services_of (start_point (ruled_image input acts))) (never_in (ruled_image input acts))
      (run ruled_program (suc acts) acts (first_state input))
  -- each turn ends two lines; the second one overflows, since 2 ^ 31 has more than 31 bits
  pub ends :
      (input : List ℕ) →
      meaning ruled_program input 12
      ≡ Some (record {
        acts = 12;
        output = 10 ∷ 10 ∷ 10 ∷ 10 ∷ [];
        raised = (C.FixedOverflow, 20) ∷ (C.Error, 20) ∷ [];
        end = E.Error 20 5;
      })
