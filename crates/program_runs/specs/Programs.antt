-- Whole programs: from the first instruction of their image to the end of their run.
use Rattle.std.specs.Prelude.{ℕ, suc, List, ◌≡◌, ◌∷◌, [], None}
use Rattle.pli_typing.specs.TypedTree as Y
use Rattle.pli_meaning.specs.Executing.{entered, run}
use Rattle.pli_meaning.specs.Making.{statics_from}
use Rattle.pli_meaning.specs.StorageState.{first_state}
use Rattle.pli_coding.specs.Environments.{Environment}
use Rattle.activation_relation.specs.Layers.{Point, services_of}
use Rattle.run_steps.specs.Reach.{Comes}
use Rattle.program_runs.specs.Calls.{AreMade, Callee, IsCallee, block_at, body_index, labels_of, left_over}
use Rattle.program_runs.specs.Procedures.{Procedure, HasRoom, block_of}
use Rattle.program_runs.specs.Starts.{Image, IsStart, surroundings_of, start_point, first_family, call_index, never_in}
use Rattle.program_runs.specs.Starts.{no_numbers}
use Rattle.program_runs.specs.Statements.{EachDoes, IsBegun}

-- a program and its image: the main procedure, whose code and end stand at indices, with the environment of its code
-- and what becomes of the point where its variables are made
pub record Whole : Type 0 where
  pub image : Image
  pub program : Y.Program
  pub main : Procedure
  pub others : List Y.Procedure
  pub environment : Environment
  pub entry : ℕ
  pub end : ℕ
  pub made : Point → Point

-- the main procedure as it is called by the start
abbrev pub main_of : Whole → Callee
main_of k =
    record {
      procedure = k.main;
      calling = record { parent = 0; call = call_index; entry = k.entry; end = k.end };
      environment = k.environment;
      around = record {
        program = k.program;
        enter = entered k.program k.image.acts;
        turns = suc k.image.acts;
        line = 0;
      };
      made = k.made;
    }

-- memory is anything at first; no variable is STATIC
pub record IsWhole (k : Whole) (first : List ℕ) : Type 0 where
  pub start : IsStart k.image k.main.head.number first
  pub callee : IsCallee (surroundings_of k.image) k.image.code (main_of k)
  pub made : AreMade (surroundings_of k.image) k.image.code (main_of k) (start_point k.image) no_numbers
  pub room : HasRoom (surroundings_of k.image) (start_point k.image) k.main (main_of k).calling
  pub level : k.main.head.level ≡ 0
  pub procedures :
      k.program.procedures ≡ record { block = block_of k.main; parameters = []; result = None } ∷ k.others
  pub statics : statics_from 0 k.program.variables (first_state k.image.input) ≡ first_state k.image.input

-- if each statement of the main procedure does what it means, the run comes to its end, or to the pause before an act
-- that isn't allowed any more, as the program does with as many acts
abbrev pub ProgramsRun : Type 0
ProgramsRun =
    (k : Whole) (first : List ℕ) → IsWhole k first →
    (IsBegun (block_at (surroundings_of k.image) k.image.code (main_of k) (start_point k.image) no_numbers) →
    EachDoes (block_at (surroundings_of k.image) k.image.code (main_of k) (start_point k.image) no_numbers)
    (labels_of (main_of k)) k.main.body (body_index (main_of k)) left_over) →
    Comes k.image.code 0 (first_family first (services_of (start_point k.image))) (services_of (start_point k.image))
    (never_in k.image) (run k.program (suc k.image.acts) k.image.acts (first_state k.image.input))
