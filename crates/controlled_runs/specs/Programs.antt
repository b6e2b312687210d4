-- Whole programs whose main procedure has statements that do what they mean where the lists stand.
use Rattle.std.specs.Prelude.{ℕ, suc, List, [], ◌≡◌, Option}
use Rattle.pli_meaning.specs.Executing.{labels_in, run}
use Rattle.pli_meaning.specs.StorageState.{first_state}
use Rattle.storage_relation.specs.Controlled.{Variable}
use Rattle.activation_relation.specs.Layers.{services_of}
use Rattle.run_steps.specs.Reach.{Comes}
use Rattle.program_runs.specs.Calls.{block_at, body_index, left_over}
use Rattle.program_runs.specs.Programs.{IsWhole, Whole, main_of}
use Rattle.program_runs.specs.Starts.{first_family, never_in, no_numbers, start_point, surroundings_of}
use Rattle.program_runs.specs.Statements.{Block, IsBegun}
use Rattle.controlled_runs.specs.Lists.{EachDoesListed, ListsStand}

abbrev pub main_block : Whole → Block
main_block k = block_at (surroundings_of k.image) k.image.code (main_of k) (start_point k.image) no_numbers

-- as `ProgramsRun`: without labels, and where the lists stand at the first statement
abbrev pub ListedProgramsRun : Type 0
ListedProgramsRun =
    (of : ℕ → Option Variable) (k : Whole) (first : List ℕ) → IsWhole k first → labels_in k.main.body ≡ [] →
    ListsStand of (main_block k).first →
    (IsBegun (main_block k) →
    EachDoesListed of (main_block k) [] k.main.body (body_index (main_of k)) left_over) →
    Comes k.image.code 0 (first_family first (services_of (start_point k.image))) (services_of (start_point k.image))
    (never_in k.image) (run k.program (suc k.image.acts) k.image.acts (first_state k.image.input))
