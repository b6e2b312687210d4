-- What is open while a source is read makes trees of the right shape.
use Rattle.std.proofs.Common.{◌≡◌, Bool, true, false, List, [], ◌∷◌, ◌++◌, Option, Some, None, refl, if◌then◌else◌}
use Rattle.std.specs.Prelude.{⊤}
use Rattle.pli_language.specs.declared.expr.Place.{Place}
use Rattle.pli_language.specs.Heads.{Head, Simple}
use Rattle.pli_language.specs.Nesting.{Opener, OfBegin, Frame, InList, ThenDue, ThenWhole, ElseDue, UnitDue, Nest}
use Rattle.pli_language.specs.Nesting.{items_of_list, completed, closed, settled, is_on_unit, begun, opened, due}
use Rattle.pli_language.specs.Nesting.{whole, end_labels}
use Rattle.pli_language.specs.Tree as T
use Rattle.well_formed_trees.specs.Every.{Every}
use Rattle.well_formed_trees.specs.Written.{IsUnit, EndsLast, AllEndLast, AreProcedures}
use Rattle.well_formed_trees.proofs.Lists.{every_both}

-- ---- items

abbrev pub ItemFine : T.Item → Type 0
ItemFine (T.Statement labels s) = EndsLast s
ItemFine (T.Procedure head body) = AllEndLast body
ItemFine (T.Declare items place) = ⊤
ItemFine (T.EndLabels labels place) = ⊥

abbrev pub OuterFine : T.Item → Type 0
OuterFine (T.Procedure head body) = AllEndLast body
OuterFine _ = ⊥

end_last : (ls : List T.Name) (p : Place) → AllEndLast (items_of_list (end_labels ls p))
end_last [] p = tt
end_last (l ∷ ls) p = refl

pub list_last : (is : List T.Item) (ls : List T.Name) (p : Place) → Every ItemFine is
    → AllEndLast (items_of_list (is ++ end_labels ls p))
list_last [] ls p h = end_last ls p
list_last (T.Statement labels s ∷ is) ls p h = (h.0, list_last is ls p h.1)
list_last (T.Procedure head body ∷ is) ls p h = (h.0, list_last is ls p h.1)
list_last (T.Declare items place ∷ is) ls p h = list_last is ls p h.1
list_last (T.EndLabels labels place ∷ is) ls p h = absurd h.0

pub outer_procedures : (is : List T.Item) → Every OuterFine is → AreProcedures (items_of_list is)
outer_procedures [] h = tt
outer_procedures (T.Procedure head body ∷ is) h = outer_procedures is h.1
outer_procedures (_ ∷ is) h = absurd h.0

pub outer_last : (is : List T.Item) → Every OuterFine is → AllEndLast (items_of_list is)
outer_last [] h = tt
outer_last (T.Procedure head body ∷ is) h = (h.0, outer_last is h.1)
outer_last (_ ∷ is) h = absurd h.0

-- ---- frames

abbrev pub IsBegin : Opener → Type 0
IsBegin (OfBegin p) = ⊤
IsBegin _ = ⊥

abbrev pub IsBeginList : Frame → Type 0
IsBeginList (InList o labels items pending) = IsBegin o
IsBeginList _ = ⊥

-- on an on-unit that is due stands what has a property
abbrev pub OnUnits : List Frame → Type 0 → Type 0
OnUnits (UnitDue c p ∷ fs) P = P
OnUnits _ P = ⊤

abbrev pub FrameFine : Frame → Type 0
FrameFine (InList o labels items pending) = Every ItemFine items
FrameFine (ThenDue e p) = ⊤
FrameFine (ThenWhole e u p) = EndsLast u
FrameFine (ElseDue e u p) = EndsLast u
FrameFine (UnitDue c p) = ⊤

abbrev pub FramesFine : List Frame → Type 0
FramesFine [] = ⊤
FramesFine (f ∷ fs) = FrameFine f × (OnUnits fs (IsBeginList f) × FramesFine fs)

pub no_unit : (fs : List Frame) (P : Type 0) → OnUnits fs ⊥ → OnUnits fs P
no_unit [] P h = tt
no_unit (UnitDue c p ∷ fs) P h = absurd h
no_unit (InList o labels items pending ∷ fs) P h = tt
no_unit (ThenDue e p ∷ fs) P h = tt
no_unit (ThenWhole e u p ∷ fs) P h = tt
no_unit (ElseDue e u p ∷ fs) P h = tt

pub any_unit : (fs : List Frame) (P : Type 0) → P → OnUnits fs P
any_unit [] P h = tt
any_unit (UnitDue c p ∷ fs) P h = h
any_unit (InList o labels items pending ∷ fs) P h = tt
any_unit (ThenDue e p ∷ fs) P h = tt
any_unit (ThenWhole e u p ∷ fs) P h = tt
any_unit (ElseDue e u p ∷ fs) P h = tt

pub one_more : (is : List T.Item) (i : T.Item) → Every ItemFine is → ItemFine i → Every ItemFine (is ++ i ∷ [])
one_more is i h l = every_both ItemFine is (i ∷ []) h (l, tt)

pub completed_fine : (x : T.Stmt) (fs : List Frame) → EndsLast x → OnUnits fs (IsUnit x) → FramesFine fs
    → FramesFine (completed x fs)
unfolding completed
completed_fine x [] e u h = tt
completed_fine x (InList o labels items pending ∷ fs) e u h = (one_more items (T.Statement pending x) h.0 e, h.1)
completed_fine x (ThenDue c p ∷ fs) e u h = (e, h.1)
completed_fine x (ThenWhole c y p ∷ fs) e u h = h
completed_fine x (ElseDue c y p ∷ fs) e u h =
    completed_fine (T.IfElse c y x p) fs (h.0, e) (no_unit fs (IsUnit (T.IfElse c y x p)) h.1.0) h.1.1
completed_fine x (UnitDue c p ∷ fs) e u h =
    completed_fine (T.OnUnit c x p) fs (u, e) (no_unit fs (IsUnit (T.OnUnit c x p)) h.1.0) h.1.1

closed_fine : (x : T.Stmt) (fs : List Frame) → EndsLast x → OnUnits fs (IsUnit x) → FramesFine fs
    → FramesFine (closed x fs)
unfolding closed
closed_fine x [] e u h = tt
closed_fine x (InList o labels items pending ∷ fs) e u h = (one_more items (T.Statement pending x) h.0 e, h.1)
closed_fine x (ThenDue c p ∷ fs) e u h = closed_fine (T.If c x p) fs e (no_unit fs (IsUnit (T.If c x p)) h.1.0) h.1.1
closed_fine x (ThenWhole c y p ∷ fs) e u h = h
closed_fine x (ElseDue c y p ∷ fs) e u h =
    closed_fine (T.IfElse c y x p) fs (h.0, e) (no_unit fs (IsUnit (T.IfElse c y x p)) h.1.0) h.1.1
closed_fine x (UnitDue c p ∷ fs) e u h =
    closed_fine (T.OnUnit c x p) fs (u, e) (no_unit fs (IsUnit (T.OnUnit c x p)) h.1.0) h.1.1

pub settled_fine : (fs : List Frame) → FramesFine fs → FramesFine (settled fs)
settled_fine [] h = h
settled_fine (ThenWhole e u p ∷ fs) h = closed_fine (T.If e u p) fs h.0 (no_unit fs (IsUnit (T.If e u p)) h.1.0) h.1.1
settled_fine (InList o labels items pending ∷ fs) h = h
settled_fine (ThenDue e p ∷ fs) h = h
settled_fine (ElseDue e u p ∷ fs) h = h
settled_fine (UnitDue c p ∷ fs) h = h

-- ---- heads

abbrev pub HeadFine : Head → Type 0
HeadFine (Simple x) = IsUnit x × EndsLast x
HeadFine _ = ⊤

abbrev pub OptFine : {X : Type 0} → (X → Type 0) → Option X → Type 0
OptFine P None = ⊤
OptFine P (Some x) = P x

pub record NestFine (n : Nest) : Type 0 where
  pub outer : Every OuterFine n.outer
  pub frames : FramesFine n.frames

-- frames on which a head may be put
abbrev pub Ready : Type 0 → List Frame → Type 0
Ready P fs = FramesFine fs × OnUnits fs P

unit_begun : (P : Type 0) (b : Bool) (fs : List Frame) → (b ≡ true → P) → FramesFine fs → ((b ≡ true) → OnUnits fs P)
    → OptFine (Ready P) (if b then Some fs else None)
unit_begun P true fs p h u = (h, u refl)
unit_begun P false fs p h u = tt

pub begun_fine : (P : Type 0) (fs : List Frame) (names : List T.Name) (h : Head) → (is_on_unit h ≡ true → P)
    → FramesFine fs → OptFine (Ready P) (begun fs names h)
begun_fine P [] names h p f = tt
begun_fine P (InList o labels items pending ∷ fs) names h p f = (f, tt)
begun_fine P (ThenDue e q ∷ fs) [] h p f = (f, tt)
begun_fine P (ThenDue e q ∷ fs) (n ∷ ns) h p f = tt
begun_fine P (ThenWhole e u q ∷ fs) names h p f = tt
begun_fine P (ElseDue e u q ∷ fs) [] h p f = (f, tt)
begun_fine P (ElseDue e u q ∷ fs) (n ∷ ns) h p f = tt
begun_fine P (UnitDue c q ∷ fs) [] h p f = unit_begun P (is_on_unit h) (UnitDue c q ∷ fs) p f p
begun_fine P (UnitDue c q ∷ fs) (n ∷ ns) h p f = tt

pub whole_fine : (o : Option (List Frame)) (x : T.Stmt) → IsUnit x → EndsLast x → OptFine (Ready ⊤) o
    → OptFine FramesFine (whole o x)
whole_fine None x u e h = tt
whole_fine (Some fs) x u e h = completed_fine x fs e (any_unit fs (IsUnit x) u) h.0

pub due_fine : (o : Option (List Frame)) (f : Frame) → FrameFine f → OptFine (Ready ⊥) o → OptFine FramesFine (due o f)
due_fine None f e h = tt
due_fine (Some fs) f e h = (e, (no_unit fs (IsBeginList f) h.1, h.0))

pub opened_fine : (P : Type 0) (o : Option (List Frame)) (k : Opener) (labels : List T.Name) → (P → IsBegin k)
    → OptFine (Ready P) o → OptFine FramesFine (opened o k labels)
opened_fine P None k labels p h = tt
opened_fine P (Some fs) k labels p h = (tt, (made fs h.1, h.0)) where
  made : (fs : List Frame) → OnUnits fs P → OnUnits fs (IsBegin k)
  made [] u = tt
  made (UnitDue c q ∷ fs) u = p u
  made (InList o labels items pending ∷ fs) u = tt
  made (ThenDue e q ∷ fs) u = tt
  made (ThenWhole e y q ∷ fs) u = tt
  made (ElseDue e y q ∷ fs) u = tt
