-- Where a head may not stand.
use Rattle.std.proofs.Common.{◌≡◌, List, [], ◌∷◌, refl}
use Rattle.std.specs.Prelude.{if◌then◌else◌}
use Rattle.pli_language.specs.declared.expr.Place.{Place}
use Rattle.pli_language.specs.Tree.{Name}
use Rattle.pli_language.specs.Nesting as N
use Rattle.pli_language.specs.Nesting.{Frame, InList, ThenDue, ThenWhole, ElseDue, UnitDue}
use Rattle.pli_nest.specs.Steps.{first_place, takes_no_label}

pub misplaced_here : (f : Frame) (fs : List Frame) (labels : List Name) (at : Place) → N.misplaced (f ∷ fs) labels at ≡ (if takes_no_label f then first_place labels at else at)
misplaced_here (InList o own items pending) fs labels at = refl
misplaced_here (ThenWhole e u p) fs labels at = refl
misplaced_here (ThenDue e p) fs [] at = refl
misplaced_here (ThenDue e p) fs (l ∷ ls) at = refl
misplaced_here (ElseDue e u p) fs [] at = refl
misplaced_here (ElseDue e u p) fs (l ∷ ls) at = refl
misplaced_here (UnitDue c p) fs [] at = refl
misplaced_here (UnitDue c p) fs (l ∷ ls) at = refl

pub misplaced_none : (labels : List Name) (at : Place) → N.misplaced [] labels at ≡ at
misplaced_none labels at = refl
