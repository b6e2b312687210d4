-- Serials in every state of a run: what lives has serials of its own, the newest first, none above those that were
-- given.
use Rattle.std.specs.Prelude.{◌≡◌, ℕ, ◌+◌, ◌<◌, List, [], ◌∷◌, Some, ⊤}
use Rattle.pli_typing.specs.TypedTree as Y
use Rattle.pli_meaning.specs.StorageState.{State, Living}
use Rattle.storage_runs.specs.Invariants.{state_after}

-- serials that fall from below a number, down to 1 at least
abbrev pub AreNumbered : (below : ℕ) → List Living → Type 0
AreNumbered below [] = ⊤
AreNumbered below (l ∷ ls) = (0 < l.serial) × (l.serial < below) × AreNumbered l.serial ls

abbrev pub HasSerialsOnce : State → Type 0
HasSerialsOnce s = AreNumbered (s.serials + 1) s.living

abbrev pub SerialsStayOnce : Type 0
SerialsStayOnce = (program : Y.Program) (input : List ℕ) (k : ℕ) (s : State)
    → state_after program input k ≡ Some s → HasSerialsOnce s
