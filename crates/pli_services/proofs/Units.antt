-- On-units of the newest block where there is none, and the answer of a raise by the unit that is in force.
use Rattle.std.proofs.Common.{◌≡◌, ℕ, List, [], ◌∷◌, length, refl, sym, ap, arith, Option, Some, None}
use Rattle.std.specs.Prelude.{option_map}
use Rattle.pli_language.specs.declared.condition.Condition.{Condition}
use Rattle.pli_meaning.specs.StorageState.{without_unit}
use Rattle.pli_conditions.specs.declared.units.Unit.{Unit as UnitHeld}
use Rattle.pli_conditions.specs.declared.units.Unit.TheVariants as U
use Rattle.pli_serving.specs.ServiceState.{Services, Activation, OnUnit, SystemUnit, CodeUnit}
use Rattle.pli_serving.specs.Answers.{Done}
use Rattle.pli_serving.specs.Finding.{Call}
use Rattle.pli_serving.specs.OnUnits.{established, reverted, raise_answered}
use Rattle.pli_activations.specs.Entered.{framed, framed_shown}

pub established_none : (k : Condition) (u : OnUnit) (as' : List Activation) → length as' ≡ 0 → established k u as' ≡ None
established_none k u [] e = refl
established_none k u (a ∷ as') e = absurd (omega (arith, e))

pub reverted_none : (k : Condition) (as' : List Activation) → length as' ≡ 0 → reverted k as' ≡ None
reverted_none k [] e = refl
reverted_none k (a ∷ as') e = absurd (omega (arith, e))

pub established_height : (k : Condition) (u : OnUnit) (as' bs : List Activation) → established k u as' ≡ Some bs → length bs ≡ length as'
established_height k u [] bs e = absurd (cc)
established_height k u (a ∷ as') bs e = let same : record a { units = (k, u) ∷ without_unit k a.units } ∷ as' ≡ bs = cc in sym (ap length same)

pub reverted_height : (k : Condition) (as' bs : List Activation) → reverted k as' ≡ Some bs → length bs ≡ length as'
reverted_height k [] bs e = absurd (cc)
reverted_height k (a ∷ as') bs e = let same : record a { units = without_unit k a.units } ∷ as' ≡ bs = cc in sym (ap length same)

frame_is : (f g : ℕ × OnUnit) → Some f ≡ Some g → f.0 ≡ g.0
frame_is f g e = let same : f ≡ g = cc in ap (λ (p : ℕ × OnUnit). p.0) same

unit_is : (f g : ℕ × OnUnit) → Some f ≡ Some g → f.1 ≡ g.1
unit_is f g e = let same : f ≡ g = cc in ap (λ (p : ℕ × OnUnit). p.1) same

-- no unit, or the system's action
pub raised_without : (c : Call) (v : Services) (code resume : ℕ) (found : Option (ℕ × UnitHeld)) (force : Option (Activation × OnUnit)) → option_map framed_shown found ≡ option_map framed force → ((frame at : ℕ) → found ≡ Some (frame, U.Code at) → ⊥) → raise_answered c v code resume force ≡ Done v c.memory 0 code
raised_without c v code resume found None e h = refl
raised_without c v code resume found (Some (a, SystemUnit)) e h = refl
raised_without c v code resume None (Some (a, CodeUnit at)) e h = cc
raised_without c v code resume (Some (frame, U.System)) (Some (a, CodeUnit at)) e h =
    let unit : SystemUnit ≡ CodeUnit at = unit_is (frame, SystemUnit) (a.frame, CodeUnit at) e in
    cc
raised_without c v code resume (Some (frame, U.Code there)) (Some (a, CodeUnit at)) e h = absurd (h frame there refl)

-- a unit's code, and the frame of its ON
pub raised_to : (c : Call) (v : Services) (code resume frame at : ℕ) (force : Option (Activation × OnUnit)) → option_map framed_shown (Some (frame, U.Code at)) ≡ option_map framed force → raise_answered c v code resume force ≡ Done (record v { waiting = Some (record { code = code; resume = resume; line = v.line }) }) c.memory at frame
raised_to c v code resume frame at None e = cc
raised_to c v code resume frame at (Some (a, SystemUnit)) e =
    let unit : CodeUnit at ≡ SystemUnit = unit_is (frame, CodeUnit at) (a.frame, SystemUnit) e in
    cc
raised_to c v code resume frame at (Some (a, CodeUnit there)) e =
    let unit : CodeUnit at ≡ CodeUnit there = unit_is (frame, CodeUnit at) (a.frame, CodeUnit there) e in
    let there_is : there ≡ at = cc in
    let frame_shown : a.frame ≡ frame = sym (frame_is (frame, CodeUnit at) (a.frame, CodeUnit there) e) in
    rw (there_is, frame_shown) refl
