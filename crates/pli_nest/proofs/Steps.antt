-- A whole statement, frame by frame.
use Rattle.std.proofs.Common.{◌≡◌, List, [], ◌∷◌, Bool, true, false, refl, ap}
use Rattle.pli_language.specs.Tree.{Stmt, If, IfElse, OnUnit}
use Rattle.pli_language.specs.Nesting.{Frame, InList, ThenDue, ThenWhole, ElseDue, UnitDue, completed, closed}
use Rattle.pli_nest.specs.Steps.{Stays, Ends, completing, finished}

pub finished_none : (m : Bool) (x : Stmt) → finished m x [] ≡ []
unfolding completed closed
finished_none true x = refl
finished_none false x = refl

pub finished_stays : (m : Bool) (x : Stmt) (f g : Frame) (fs : List Frame) → completing m x f ≡ Stays g → finished m x (f ∷ fs) ≡ g ∷ fs
unfolding completed closed
finished_stays true x (InList o labels items pending) g fs e = cc e
finished_stays true x (ThenDue c p) g fs e = cc e
finished_stays true x (ThenWhole c u p) g fs e = cc e
finished_stays true x (ElseDue c u p) g fs e = absurd (cc e)
finished_stays true x (UnitDue c p) g fs e = absurd (cc e)
finished_stays false x (InList o labels items pending) g fs e = cc e
finished_stays false x (ThenDue c p) g fs e = absurd (cc e)
finished_stays false x (ThenWhole c u p) g fs e = cc e
finished_stays false x (ElseDue c u p) g fs e = absurd (cc e)
finished_stays false x (UnitDue c p) g fs e = absurd (cc e)

pub finished_ends : (m : Bool) (x y : Stmt) (f : Frame) (fs : List Frame) → completing m x f ≡ Ends y → finished m x (f ∷ fs) ≡ finished m y fs
unfolding completed closed
finished_ends true x y (InList o labels items pending) fs e = absurd (cc e)
finished_ends true x y (ThenDue c p) fs e = absurd (cc e)
finished_ends true x y (ThenWhole c u p) fs e = absurd (cc e)
finished_ends true x y (ElseDue c u p) fs e = let same : IfElse c u x p ≡ y = cc e in ap (λ z. completed z fs) same
finished_ends true x y (UnitDue c p) fs e = let same : OnUnit c x p ≡ y = cc e in ap (λ z. completed z fs) same
finished_ends false x y (InList o labels items pending) fs e = absurd (cc e)
finished_ends false x y (ThenDue c p) fs e = let same : If c x p ≡ y = cc e in ap (λ z. closed z fs) same
finished_ends false x y (ThenWhole c u p) fs e = absurd (cc e)
finished_ends false x y (ElseDue c u p) fs e = let same : IfElse c u x p ≡ y = cc e in ap (λ z. closed z fs) same
finished_ends false x y (UnitDue c p) fs e = let same : OnUnit c x p ≡ y = cc e in ap (λ z. closed z fs) same
