-- Where an element of a generation stands, and what is answered of it.
use Rattle.std.proofs.Common.{◌≡◌, ℕ, ℤ, Bool, true, false, List, Option, Some, None, Result, Ok, Err, refl, sym, ap, ap₂, subst, ◌∙◌, arith}
use Rattle.std.proofs.lemmas.Bool.Decides.{nat_tests}
use Rattle.std.specs.Prelude.{◌+◌, ◌&&◌, ◌==◌, is_some, slice_get, unwrap_or, if◌then◌else◌}
use Rattle.pli_typing.specs.Signatures.{Bounds, Leaf, LeafKind, capped}
use Rattle.pli_meaning.specs.BasicValues.{Name}
use Rattle.pli_meaning.specs.Codes.{extent_code}
use Rattle.pli_meaning.specs.Contents.{Shape, element_place, is_within, leaves_with}
use Rattle.pli_meaning.specs.Evaluating.{leaf_at}
use Rattle.pli_meaning.specs.Streaming.{kind_holds}
use Rattle.pli_meaning.specs.Unreachable.{unreachable_leaf}
use Rattle.pli_serving.specs.Aggregates.{Aggregate, element_at}
use Rattle.pli_serving.specs.Answers.{Answer, Done}
use Rattle.pli_serving.specs.Arguments.{asked, own_signature, variable_asked}
use Rattle.pli_serving.specs.ElementService.{element_answered}
use Rattle.pli_serving.specs.Finding.{Call, Found, Finding, FoundAt, named}
use Rattle.pli_signatures.specs.Elements.{place_within}
use Rattle.pli_signatures.specs.View.{leaf_in_force}
use Rattle.pli_signatures.specs.Whole.{leaf_in}
use Rattle.pli_signatures.specs.declared.element.LeafInForce.{LeafInForce}
use Rattle.pli_serving.specs.Values.{leaf_place}
use Rattle.pli_aggregates.specs.Elements.{stands_in}
use Rattle.pli_elements.specs.Outcomes.{IsOutcome, IsStanding, IsWith, has_element}
use Rattle.pli_elements.specs.declared.standing.Outcome.{Outcome}

-- ---- a leaf that was placed

pub kind_fails : (b c : Bool) → b ≡ false → (b && c) ≡ false
kind_fails true c e = absurd (cc)
kind_fails false c e = refl

pub within_fails : (b c : Bool) → c ≡ false → (b && c) ≡ false
within_fails true c e = e
within_fails false c e = refl

pub both_hold : (b c : Bool) → b ≡ true → c ≡ true → (b && c) ≡ true
both_hold true c e f = f
both_hold false c e f = absurd (cc)

pub place_inside : (bs : List Bounds) (is : List ℤ) (p : ℕ) → Some p ≡ place_within bs is → is_within bs is ≡ true
place_inside bs is p e = go (is_within bs is) e
  where
    go : (b : Bool) → Some p ≡ (if b then Some (capped (element_place bs is)) else None) → b ≡ true
    go true h = refl
    go false h = absurd (cc)

pub place_is : (bs : List Bounds) (is : List ℤ) (p : ℕ) → Some p ≡ place_within bs is → p ≡ capped (element_place bs is)
place_is bs is p e = go (is_within bs is) e
  where
    go : (b : Bool) → Some p ≡ (if b then Some (capped (element_place bs is)) else None) → p ≡ capped (element_place bs is)
    go true h = cc
    go false h = absurd (cc)

pub place_outside : (bs : List Bounds) (is : List ℤ) → None ≡ place_within bs is → is_within bs is ≡ false
place_outside bs is e = go (is_within bs is) e
  where
    go : (b : Bool) → None ≡ (if b then Some (capped (element_place bs is)) else None) → b ≡ false
    go true h = absurd (cc)
    go false h = refl

pub leaf_known : (s : Shape) (z : ℤ) (leaf : ℕ) (shape : Option Shape) (l : LeafInForce) → shape ≡ Some s → Some (leaf_in_force l) ≡ leaf_in shape leaf z → leaf_at s z leaf ≡ leaf_in_force l
leaf_known s z leaf shape l e h =
    let there : Some (leaf_in_force l) ≡ leaf_in (Some s) leaf z = h ∙ ap (λ o. leaf_in o leaf z) e in
    ap (λ o. unwrap_or o unreachable_leaf) (sym there)

abbrev answered_if : Call → (x y : ℕ) → (memory : List ℕ) → Bool → Answer
answered_if c x y memory holds = if holds then Done c.services memory y 0 else Done c.services memory x extent_code

-- a leaf of a generation, as it was allocated from a base on, with the kind in force
pub record IsAllocated (a : Aggregate) (leaf : ℕ) (f : Found) (base : ℕ) (l : LeafInForce) (kind : LeafKind) : Type 0 where
  pub had : leaf_at a.shape f.extent leaf ≡ leaf_in_force l
  pub force : (leaf_at a.shape a.extent leaf).kind ≡ kind
  pub place : base ≡ f.at + leaf_place (leaves_with f.extent a.shape) leaf

answered : (c : Call) (x leaf base : ℕ) (a : Aggregate) (is : List ℤ) (f : Found) (l : LeafInForce) (kind : LeafKind) (memory : List ℕ) → IsAllocated a leaf f base l kind
    → element_answered c x a (leaf, is) memory (FoundAt f) ≡ answered_if c x (stands_in base (leaf_in_force l) is) memory (has_element l kind is)
answered c x leaf base a is f l kind memory h =
    ap₂ (λ (k : Leaf) (m : LeafKind). answered_if c x (element_at a.shape f (leaf, is)) memory (kind_holds k.kind m && is_within k.bounds is)) h.had h.force
    ∙ ap₂ (λ (k : Leaf) n. answered_if c x (stands_in n k is) memory (has_element l kind is)) h.had (sym h.place)

pub outcome_so : (c : Call) (x leaf base : ℕ) (a : Aggregate) (is : List ℤ) (f : Found) (l : LeafInForce) (kind : LeafKind) (address : Option ℕ) (o : Outcome) → IsAllocated a leaf f base l kind → IsStanding base l kind is (Ok address) → IsWith x address o
    → IsOutcome c x a leaf is (FoundAt f) (Ok o)
outcome_so c x leaf base a is f l kind None o h s w = λ memory.
    answered c x leaf base a is f l kind memory h
    ∙ ap (answered_if c x (stands_in base (leaf_in_force l) is) memory) s
    ∙ ap₂ (λ m n. Done c.services memory m n) (sym w.0) (sym w.1)
outcome_so c x leaf base a is f l kind (Some y) o h s w = λ memory.
    answered c x leaf base a is f l kind memory h
    ∙ ap (answered_if c x (stands_in base (leaf_in_force l) is) memory) s.0
    ∙ ap (λ n. Done c.services memory n 0) (sym s.1)
    ∙ ap₂ (λ m n. Done c.services memory m n) (sym w.0) (sym w.1)

-- ---- what a name names

pub asked_so : (c : Call) (n : Name) (signature : ℕ) (f : Finding) → (signature ≡ own_signature → ⊥) → asked c n signature ≡ Some f → named c n signature ≡ f
asked_so c n signature f other e = go (is_some (slice_get c.services.signatures signature)) (sym plain ∙ e)
  where
    plain : asked c n signature ≡ (if is_some (slice_get c.services.signatures signature) then Some (named c n signature) else None)
    plain =
        let no : (signature == own_signature) ≡ false = grind (arith, nat_tests, other) in
        ap (λ b. if b then variable_asked c n else (if is_some (slice_get c.services.signatures signature) then Some (named c n signature) else None)) no

    go : (b : Bool) → (if b then Some (named c n signature) else None) ≡ Some f → named c n signature ≡ f
    go true h = cc
    go false h = absurd (cc)
