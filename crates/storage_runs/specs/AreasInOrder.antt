-- Areas in every state of a run: their generations stand in the order of their offsets and apart, within the capacity.
use Rattle.std.specs.Prelude.{◌≡◌, ℕ, List, Some}
use Rattle.pli_typing.specs.TypedTree as Y
use Rattle.pli_meaning.specs.Contents.{IsOrdered}
use Rattle.pli_meaning.specs.StorageState.{State, AreaContents, area_at}
use Rattle.storage_runs.specs.Invariants.{state_after}

-- every area of the state, and the heap
abbrev pub AreasInOrder : State → Type 0
AreasInOrder s = (serial : ℕ) (a : AreaContents) → area_at s serial ≡ Some a → IsOrdered 0 a.capacity a.placed

abbrev pub AreasStayInOrder : Type 0
AreasStayInOrder = (program : Y.Program) (input : List ℕ) (k : ℕ) (s : State)
    → state_after program input k ≡ Some s → AreasInOrder s
