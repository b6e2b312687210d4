-- A worked row: a main procedure that calls a procedure inside it, with the image that pli_coding defines.
use Rattle.std.specs.Prelude.{ℕ, suc, ◌+◌, ◌^◌, ◌<◌, ◌≡◌, List, [], ◌∷◌, ◌++◌, length, None, Some}
use Rattle.rv_meaning.specs.Machine.{memory_size}
use Rattle.pli_typing.specs.TypedTree as Y
use Rattle.pli_meaning.specs.declared.outcome.End.TheVariants as E
use Rattle.pli_meaning.specs.Executing.{meaning, run}
use Rattle.pli_meaning.specs.StorageState.{first_state}
use Rattle.pli_coding.specs.Allocating.{act_code}
use Rattle.pli_coding.specs.Assembly.{Code, Mark, ProcedureEntry, size_of}
use Rattle.pli_coding.specs.Environments.{Environment, none_taken}
use Rattle.pli_coding.specs.Images.{code_of, environment_of, linked_code, raise_code}
use Rattle.pli_coding.specs.Linking.{links_of}
use Rattle.pli_coding.specs.Procedures.{procedure_environment}
use Rattle.pli_coding.specs.Statements.{stmts_code}
use Rattle.storage_relation.specs.Versions.{no_constants}
use Rattle.activation_relation.specs.Layers.{services_of}
use Rattle.run_steps.specs.Reach.{Comes}
use Rattle.program_runs.specs.Procedures.{Procedure, block_of, begin_of, procedure_code}
use Rattle.program_runs.specs.Programs.{Whole}
use Rattle.program_runs.specs.Starts.{Image, image_parts, start_of, start_point, first_family, never_in}

-- ---- the program: MAIN calls P and does nothing more; P does nothing, and returns

abbrev pub row_head : (number level line : ℕ) → Y.BlockHead
row_head number level line =
    record { kind = Y.ProcedureBlock; number = number; level = level; line = line }

abbrev pub row_call : Y.Stmt
row_call = Y.CallProcedure (Y.Calling 1 0 Y.NoArgument) 6

abbrev pub main_rest : Y.Stmts
main_rest = Y.StmtThen [] (Y.Null 7) (Y.EndOfList [])

abbrev pub row_main : Procedure
row_main =
    record { head = row_head 0 0 1; body = Y.StmtThen [] row_call main_rest; words = 0; saved = 0; variables = [] }

abbrev pub inner_rest : Y.Stmts
inner_rest = Y.StmtThen [] (Y.Return 4) (Y.EndOfList [])

abbrev pub row_inner : Procedure
row_inner =
    record { head = row_head 1 1 2; body = Y.StmtThen [] (Y.Null 3) inner_rest; words = 0; saved = 0; variables = [] }

abbrev pub row_procedure : Procedure → Y.Procedure
row_procedure x = record { block = block_of x; parameters = []; result = None }

abbrev pub row_program : Y.Program
row_program = record { variables = []; procedures = row_procedure row_main ∷ row_procedure row_inner ∷ [] }

-- ---- its code

abbrev pub row_code : Code
row_code = code_of image_parts row_program

abbrev pub row_environment : Procedure → Environment
row_environment x = procedure_environment x.head (environment_of image_parts row_program)

abbrev pub coded_of : Procedure → Code
coded_of x = Mark (ProcedureEntry x.head.number) ∷ procedure_code (row_environment x) x

-- where each procedure, its statements and its end stand
abbrev pub main_entry : ℕ
main_entry = size_of (start_of 0) + size_of raise_code

abbrev pub inner_entry : ℕ
inner_entry = main_entry + size_of (coded_of row_main)

abbrev pub row_body : (entry : ℕ) → Procedure → ℕ
row_body entry x = entry + size_of (begin_of x) + size_of x.variables + size_of (act_code x.head.line)

abbrev pub row_end : (entry : ℕ) → Procedure → ℕ
row_end entry x = row_body entry x + size_of (stmts_code (row_environment x) none_taken x.body)

-- ---- its image in a run

abbrev pub row_image : (input : List ℕ) → (acts : ℕ) → Image
row_image input acts =
    record {
      code = linked_code row_code;
      links = links_of row_code;
      units = [];
      signatures = [];
      constants = no_constants;
      fills = [];
      input = input;
      acts = acts;
      serials = 1;
    }

abbrev pub row_whole : (input : List ℕ) → (acts : ℕ) → Whole
row_whole input acts =
    record {
      image = row_image input acts;
      program = row_program;
      main = row_main;
      others = row_procedure row_inner ∷ [];
      environment = row_environment row_main;
      entry = main_entry;
      end = row_end main_entry row_main;
      made = λ q. q;
    }

pub record ProgramRan : Type 0 where
  -- whatever memory, input and number of acts that are allowed, the run does what the program does
  pub runs :
      (input first : List ℕ) (acts : ℕ) → acts + 1 < 2 ^ 64 → length first ≡ memory_size →
      Comes (linked_code row_code) 0 (first_family first (services_of (start_point (row_image input acts))))
      (services_of (start_point (row_image input acts))) (never_in (row_image input acts))
      (run row_program (suc acts) acts (first_state input))
  -- that is the code of both procedures behind the start and the raises
  pub code : row_code ≡ start_of 0 ++ (raise_code ++ (coded_of row_main ++ coded_of row_inner))
  -- it ends with its seventh act
  pub ends :
      (input : List ℕ) →
      meaning row_program input 7 ≡ Some (record { acts = 7; output = []; raised = []; end = E.Finished })
