-- Service 8, mode 1: an element by its number is where the storage machine has it, or lacks what that finds lacking.
use Rattle.std.proofs.Common.{◌≡◌, ℕ, ◌<◌, ℤ, List, length, Option, Some, None, Bool, true, false, refl, sym, ap, ◌∙◌}
use Rattle.std.proofs.Common.{subst, arith}
use Rattle.std.proofs.lemmas.Bool.{eqb-true}
use Rattle.std.specs.Prelude.{cond, ◌&&◌, slice_get}
use Rattle.pli_meaning.specs.BasicValues.{Name}
use Rattle.pli_meaning.specs.Codes.{no_generation_code, extent_code}
use Rattle.pli_meaning.specs.Contents.{Shape, Generation, same_shape, is_within, leaves_with}
use Rattle.pli_meaning.specs.Evaluating.{Designated, leaf_at}
use Rattle.pli_meaning.specs.StorageState as M
use Rattle.pli_meaning.specs.StreamOrder.{Element}
use Rattle.pli_meaning.specs.Streaming.{kind_holds, element_holds}
use Rattle.pli_types.specs.Templates.{Template}
use Rattle.pli_serving.specs.Aggregates.{Aggregate}
use Rattle.pli_serving.specs.Answers.{Answer, Done}
use Rattle.pli_serving.specs.ElementService.{item_shape_at, elements_by, element_answered, element_if, element_served}
use Rattle.pli_serving.specs.ElementService.{no_element}
use Rattle.pli_serving.specs.Finding as F
use Rattle.pli_serving.specs.Outcomes.{or_bad, bad_unless, then_found, answering}
use Rattle.pli_serving.specs.Templates.{shape_at}
use Rattle.pli_serving.specs.Values.{element_address}
use Rattle.storage_relation.proofs.Elements.{second_true}
use Rattle.storage_relation.proofs.Finding.{named_found, named_unfound}
use Rattle.storage_relation.proofs.Kept.{as_many_leaves}
use Rattle.storage_relation.proofs.Turning.{some_same}
use Rattle.storage_relation.specs.Numbered.{IsMeant, element_of, IsListed, described, Numbered, IsNumbered}
use Rattle.storage_relation.specs.Served.{AreDistinct, Now, call, Holds, place_now}
use Rattle.storage_relation.specs.Standing.{IsElement}

-- ---- a shape by its number

pub shape_is :
    (t : List Template) (i j : ℕ) (a b : Shape) → AreDistinct t → shape_at t i ≡ Some a → shape_at t j ≡ Some b →
    same_shape a b ≡ true → a ≡ b
shape_is t i j a b distinct e f same =
    let number : i ≡ j = eqb-true i j (sym (distinct i j a b e f) ∙ same) in
    some_same (sym e ∙ ap (shape_at t) number ∙ f)

-- what lives with a shape has just that shape, where both are by number
pub named_same : (s : M.State) (n : Name) (shape : Shape) (g : Generation) → M.named s n shape ≡ Some g →
    same_shape g.shape shape ≡ true
named_same s n shape g e = by (M.generation_at s n) e
  where
    by : (o : Option Generation) → M.if_same_shape shape o ≡ Some g → same_shape g.shape shape ≡ true
    by None e = absurd (cc e)
    by (Some x) e = test (same_shape x.shape shape) refl e
      where
        test : (q : Bool) → same_shape x.shape shape ≡ q → cond q (Some x) None ≡ Some g → same_shape g.shape shape
            ≡ true
        test true q e = let f : x ≡ g = cc e in subst (λ (y : Generation). same_shape y.shape shape ≡ true) f q
        test false q e = absurd (cc e)

-- 101 where the generation doesn't live
pub element_none :
    (w : Now) → Holds w → (x : ℕ) (a : Aggregate) (d : Designated) (e : Element) (memory : List ℕ) → IsMeant w a d →
    M.named w.state d.name d.generation.shape ≡ None →
    element_answered (call w) x a e memory (F.named (call w) a.name a.signature)
    ≡ Done (call w).services memory x no_generation_code
element_none w h x a d e memory is none =
    let here : M.named w.state a.name a.shape ≡ None =
    ap (λ n. M.named w.state n a.shape) (sym is.name_same) ∙ ap (M.named w.state d.name) (sym is.shape_same) ∙ none
    in
    ap (element_answered (call w) x a e memory)
    (named_unfound w.keeper h.keeps w.layout w.places w.state w.services w.memory a.name a.signature a.shape h.heap
    h.lives h.stored
    h.distinct is.number here)

pub element_some :
    (w : Now) → Holds w → (x : ℕ) (a : Aggregate) (d : Designated) (e : Element) (memory : List ℕ) (g : Generation) →
    IsMeant w a d →
    M.named w.state d.name d.generation.shape ≡ Some g →
    element_answered (call w) x a e memory (F.named (call w) a.name a.signature) ≡ element_of w x d e memory g
element_some w h x a d e memory g is some =
    let here : M.named w.state a.name a.shape ≡ Some g =
    ap (λ n. M.named w.state n a.shape) (sym is.name_same) ∙ ap (M.named w.state d.name) (sym is.shape_same) ∙ some
    in
    let r = named_found w.keeper h.keeps w.layout w.places w.state w.services w.memory a.name a.signature a.shape g
    h.heap h.lives h.stored
    h.distinct is.number here
    in
    let f = r.0.found in
    let same : g.shape ≡ a.shape =
    shape_is w.places.signatures f.signature a.signature g.shape a.shape h.distinct r.0.shape is.number
    (named_same w.state a.name a.shape g here)
    in
    let place : f.at ≡ place_now w d.name = r.0.at ∙ ap (place_now w) (sym is.name_same) in
    ap (element_answered (call w) x a e memory) r.1
    ∙ ap (λ s. answer (holds a.shape f.extent s a.extent) a.shape f.extent f.at) (sym is.shape_same)
    ∙ ap (λ z. answer (holds a.shape f.extent d.generation.shape z) a.shape f.extent f.at) (sym is.extent_same)
    ∙ ap (λ z. answer (holds a.shape z d.generation.shape d.extent) a.shape z f.at) r.0.extent
    ∙ ap (λ s. answer (holds s g.extent d.generation.shape d.extent) s g.extent f.at) (sym same)
    ∙ ap (answer (holds g.shape g.extent d.generation.shape d.extent) g.shape g.extent) place
  where
    holds : Shape → ℤ → Shape → ℤ → Bool
    holds s z t u =
        kind_holds (leaf_at s z e.0).kind (leaf_at t u e.0).kind && is_within (leaf_at s z e.0).bounds e.1

    answer : Bool → Shape → ℤ → ℕ → Answer
    answer q s z at =
        cond q
        (Done (call w).services memory (element_address (leaves_with z s) e.0 (leaf_at s z e.0) e.1 at) 0)
        (Done (call w).services memory x extent_code)

-- where the test holds, the element is one of the generation
pub element_is :
    (g : Generation) (d : Designated) (e : Element) → e.0 < length g.shape.signature.leaves → element_holds g d e
    ≡ true → IsElement g e.0 e.1
element_is g d e there holds =
    let many = as_many_leaves g.shape g.extent in (
      omega (arith, many, there),
      second_true (kind_holds (leaf_at g.shape g.extent e.0).kind (leaf_at d.generation.shape d.extent e.0).kind)
          (is_within (leaf_at g.shape g.extent e.0).bounds e.1) holds,
    )

-- no element has so great a number
pub element_past :
    (w : Now) (x shape number buffer : ℕ) (a : Aggregate) (elements : List Element) → IsListed w x shape a elements →
    slice_get elements number ≡ None → element_served (call w) x shape number buffer ≡ answering (call w) no_element 0
element_past w x shape number buffer a elements is none =
    ap (λ o. or_bad o (λ a. or_bad (then_found (item_shape_at (call w) shape) (elements_by (call w) a))
    (λ es. element_if (call w) x a buffer (slice_get es number)))) is.aggregate
    ∙ ap (λ o. or_bad o (λ es. element_if (call w) x a buffer (slice_get es number))) is.listed
    ∙ ap (element_if (call w) x a buffer) none

-- the element of a number: its kind in the buffer, and the meaning's answer
pub element_numbered :
    (w : Now) → Holds w → (x shape : ℕ) (q : Numbered) (a : Aggregate) (d : Designated) (e : Element) →
    IsNumbered w x shape q a e → IsMeant w a d →
    (element_served (call w) x shape q.number q.buffer
    ≡ element_answered (call w) x a e (described w a e q.buffer) (F.named (call w) a.name a.signature))
    × ((M.named w.state d.name d.generation.shape ≡ None →
    element_served (call w) x shape q.number q.buffer
    ≡ Done (call w).services (described w a e q.buffer) x no_generation_code)
    × ((g : Generation) → M.named w.state d.name d.generation.shape ≡ Some g →
    element_served (call w) x shape q.number q.buffer ≡ element_of w x d e (described w a e q.buffer) g))
element_numbered w h x shape q a d e is meant = (
  one,
  (
    λ none. one ∙ element_none w h x a d e (described w a e q.buffer) meant none,
    λ g lives. one ∙ element_some w h x a d e (described w a e q.buffer) g meant lives,
  ),
)
  where
    number : ℕ
    number = q.number

    buffer : ℕ
    buffer = q.buffer

    one :
        element_served (call w) x shape q.number q.buffer
        ≡ element_answered (call w) x a e (described w a e q.buffer) (F.named (call w) a.name a.signature)
    one =
        ap (λ o. or_bad o (λ a. or_bad (then_found (item_shape_at (call w) shape) (elements_by (call w) a))
        (λ es. element_if (call w) x a buffer (slice_get es number)))) is.listed.aggregate
        ∙ ap (λ o. or_bad o (λ es. element_if (call w) x a buffer (slice_get es number))) is.listed.listed
        ∙ ap (element_if (call w) x a buffer) is.some
        ∙ ap (λ q. bad_unless q (element_answered (call w) x a e (described w a e buffer)
        (F.named (call w) a.name a.signature))) is.there
