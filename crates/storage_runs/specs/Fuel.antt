-- Turns and levels are no part of what a program means: where more are allowed than acts, they are enough.
use Rattle.std.specs.Prelude.{◌≡◌, ℕ, suc, ◌≤◌, List}
use Rattle.pli_typing.specs.TypedTree as Y
use Rattle.pli_meaning.specs.StorageState.{first_state}
use Rattle.pli_meaning.specs.Executing.{run}

-- with any number of levels and turns above that of the acts allowed, a run comes to the same
abbrev pub FuelEnough : Type 0
FuelEnough = (program : Y.Program) (input : List ℕ) (k fuel : ℕ) → suc k ≤ fuel
    → run program fuel k (first_state input) ≡ run program (suc k) k (first_state input)
