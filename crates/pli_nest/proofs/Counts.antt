-- What is open, frame by frame.
use Rattle.std.proofs.Common.{◌≡◌, suc, List, ◌∷◌, Bool, Some, None, refl}
use Rattle.std.specs.Prelude.{if◌then◌else◌}
use Rattle.pli_language.specs.Nesting as N
use Rattle.pli_language.specs.Nesting.{Frame, InList, ThenDue, ThenWhole, ElseDue, UnitDue, OfProcedure, OfGroup, OfWhile, OfCount, OfBegin}
use Rattle.pli_nest.specs.Steps.{is_unit, is_block_list, labels_of, returning}

pub returns_here : (f : Frame) (fs : List Frame) (b : Bool) → returning f ≡ Some b → N.may_return (f ∷ fs) ≡ b
returns_here (UnitDue c p) fs b e = cc e
returns_here (InList (OfProcedure h) labels items pending) fs b e = cc e
returns_here (InList (OfGroup p) labels items pending) fs b e = absurd (cc e)
returns_here (InList (OfWhile c p) labels items pending) fs b e = absurd (cc e)
returns_here (InList (OfCount c p) labels items pending) fs b e = absurd (cc e)
returns_here (InList (OfBegin p) labels items pending) fs b e = absurd (cc e)
returns_here (ThenDue c p) fs b e = absurd (cc e)
returns_here (ThenWhole c u p) fs b e = absurd (cc e)
returns_here (ElseDue c u p) fs b e = absurd (cc e)

pub returns_around : (f : Frame) (fs : List Frame) → returning f ≡ None → N.may_return (f ∷ fs) ≡ N.may_return fs
returns_around (UnitDue c p) fs e = absurd (cc e)
returns_around (InList (OfProcedure h) labels items pending) fs e = absurd (cc e)
returns_around (InList (OfGroup p) labels items pending) fs e = refl
returns_around (InList (OfWhile c p) labels items pending) fs e = refl
returns_around (InList (OfCount c p) labels items pending) fs e = refl
returns_around (InList (OfBegin p) labels items pending) fs e = refl
returns_around (ThenDue c p) fs e = refl
returns_around (ThenWhole c u p) fs e = refl
returns_around (ElseDue c u p) fs e = refl

-- ---- counts

pub units_step : (f : Frame) (fs : List Frame) → N.units (f ∷ fs) ≡ (if is_unit f then suc (N.units fs) else N.units fs)
units_step (InList (OfProcedure h) labels items pending) fs = refl
units_step (InList (OfGroup p) labels items pending) fs = refl
units_step (InList (OfWhile c p) labels items pending) fs = refl
units_step (InList (OfCount c p) labels items pending) fs = refl
units_step (InList (OfBegin p) labels items pending) fs = refl
units_step (ThenDue c p) fs = refl
units_step (ThenWhole c u p) fs = refl
units_step (ElseDue c u p) fs = refl
units_step (UnitDue c p) fs = refl

pub blocks_step : (f : Frame) (fs : List Frame) → N.blocks (f ∷ fs) ≡ (if is_block_list f then suc (N.blocks fs) else N.blocks fs)
blocks_step (InList (OfProcedure h) labels items pending) fs = refl
blocks_step (InList (OfGroup p) labels items pending) fs = refl
blocks_step (InList (OfWhile c p) labels items pending) fs = refl
blocks_step (InList (OfCount c p) labels items pending) fs = refl
blocks_step (InList (OfBegin p) labels items pending) fs = refl
blocks_step (ThenDue c p) fs = refl
blocks_step (ThenWhole c u p) fs = refl
blocks_step (ElseDue c u p) fs = refl
blocks_step (UnitDue c p) fs = refl

pub labels_here : (f : Frame) (fs : List Frame) → N.labels_ended (f ∷ fs) ≡ labels_of f
labels_here (InList o labels items pending) fs = refl
labels_here (ThenDue c p) fs = refl
labels_here (ThenWhole c u p) fs = refl
labels_here (ElseDue c u p) fs = refl
labels_here (UnitDue c p) fs = refl
