-- Services 14 and 15: pointers and offsets, and the extent that REFER tells, are the storage machine's.
use Rattle.std.proofs.Common.{◌≡◌, ℕ, ◌+◌, ◌<◌, Option, Some, None, Bool, true, false, refl, sym, ap, ◌∙◌, arith}
use Rattle.std.proofs.lemmas.Bool.Decides.{nat_tests}
use Rattle.std.specs.Prelude.{cond, ◌==◌}
use Rattle.pli_typing.specs.TypedTree as Y
use Rattle.pli_meaning.specs.BasicValues.{Name}
use Rattle.pli_meaning.specs.Contents as C
use Rattle.pli_meaning.specs.Contents.{Shape, Generation}
use Rattle.pli_meaning.specs.Evaluating.{pointer_into, offset_in_passed, extent_by, extent_in_force}
use Rattle.pli_meaning.specs.StorageState as M
use Rattle.pli_serving.specs.Answers.{Answer, Done, Bad}
use Rattle.pli_serving.specs.Arguments.{AreaArgument, area_if, name_in, where_found, shape_of_number}
use Rattle.pli_serving.specs.Bytes.{is_data, with_bytes, name_size, name_bytes, offset_word, offset_of, null_offset}
use Rattle.pli_serving.specs.Finding.{Found}
use Rattle.pli_serving.specs.Names.{offset_answered, locator_served, refer_answered, refer_served}
use Rattle.pli_serving.specs.Outcomes.{or_bad, bad_unless}
use Rattle.pli_serving.specs.Values as V
use Rattle.storage_relation.proofs.CallArguments.{area_of_argument, asked_named}
use Rattle.storage_relation.proofs.FoundValues.{found_extent}
use Rattle.storage_relation.specs.Served.{Now, call, Holds, FoundFor, NamesArea, IsNumberOf, whole_of, HasMember}
use Rattle.storage_relation.specs.Standing.{IsPlain}
use Rattle.storage_relation.specs.Telling.{IsOffset}

-- ---- 14: offsets

pub offset_back : (o : Option ℕ) → IsOffset o → offset_of (offset_word o) ≡ o
offset_back None h = refl
offset_back (Some o) h = by o h
  where
    by : (o : ℕ) → o < null_offset → cond (o == null_offset) None (Some o) ≡ Some o
    by o h = ap (λ q. cond q None (Some o)) (other o h)
      where
        other : (o : ℕ) → o < null_offset → (o == null_offset) ≡ false
        other o h = grind (arith, nat_tests)

-- a pointer from an offset: the name is the meaning's
pub pointer_answer :
    (w : Now) → Holds w → (area destination n : ℕ) (o : Option ℕ) → IsOffset o → NamesArea w area n →
    is_data w.layout destination name_size ≡ true →
    locator_served (call w) (offset_word o) area destination 0
    ≡ Done (call w).services (with_bytes (name_bytes (pointer_into n o)) destination w.memory) (offset_word o) area
pointer_answer w h area destination n o fits is there =
    let c = call w in
    let a = area_of_argument w h area n is in
    ap (λ r. or_bad r (λ (a : AreaArgument). bad_unless (is_data w.layout destination name_size)
    (done a.serial (offset_of (offset_word o))))) a.1
    ∙ ap (λ q. bad_unless q (done a.0.serial (offset_of (offset_word o)))) there
    ∙ ap (λ i. done i (offset_of (offset_word o))) a.2
    ∙ ap (done n) (offset_back o fits)
  where
    done : ℕ → Option ℕ → Answer
    done i p = Done (call w).services (with_bytes (name_bytes (pointer_into i p)) destination w.memory)
        (offset_word o) area

-- an offset from a pointer: the one of the meaning, or 110 where it has none
pub offset_answer :
    (w : Now) (name area destination : ℕ) (n : Name) (within : Option ℕ) → name_in (call w) name ≡ Some n →
    area_if (call w) area ≡ Some within →
    locator_served (call w) name area destination 1 ≡ offset_answered (call w) name (offset_in_passed within n)
offset_answer w name area destination n within e f =
    ap (λ r. or_bad r (λ n. or_bad (area_if (call w) area)
    (λ within. offset_answered (call w) name (offset_in_passed within n)))) e
    ∙ ap (λ r. or_bad r (λ within. offset_answered (call w) name (offset_in_passed within n))) f

pub extent_read :
    (w : Now) → Holds w → (n : Name) (g : Generation) (f : Found) (part : Y.Part) → M.generation_at w.state n ≡ Some g →
    IsPlain g × HasMember g → (i : FoundFor w n g) → i.found ≡ f →
    extent_in_force (V.generation_at g.shape f.extent f.at w.memory) part ≡ extent_in_force g part
extent_read w h n g f part e has i same = by g.shape.refer refl
  where
    at : f.at ≡ i.found.at
    at = ap (λ (x : Found). x.at) (sym same)

    extent : f.extent ≡ g.extent
    extent = ap (λ (x : Found). x.extent) (sym same) ∙ i.extent

    by :
        (r : Option ℕ) → g.shape.refer ≡ r →
        extent_in_force (V.generation_at g.shape f.extent f.at w.memory) part ≡ extent_in_force g part
    by None r =
        ap (extent_by (V.generation_at g.shape f.extent f.at w.memory) part) r
        ∙ ap Some extent
        ∙ sym (ap (extent_by g part) r)
    by (Some member) r =
        ap (λ z. extent_in_force (V.generation_at g.shape z f.at w.memory) part) extent
        ∙ found_extent w.keeper h.keeps w.places w.state w.memory (w.state.serials + 1) n g f.at member part h.stored
        h.lives.falling e has.0 (at ∙ i.at) r (has.1 member r)

lived : (o : Option Generation) (shape : Shape) (g : Generation) → M.if_same_shape shape o ≡ Some g → o ≡ Some g
lived None shape g e = absurd (cc e)
lived (Some x) shape g e = by (same x) e
  where
    same : Generation → Bool
    same x = C.same_shape x.shape shape

    by : (q : Bool) → cond q (Some x) None ≡ Some g → Some x ≡ Some g
    by true e = e
    by false e = absurd (cc e)

-- a generation that lives with this signature
pub named_lives : (s : M.State) (n : Name) (shape : Shape) (g : Generation) → M.named s n shape ≡ Some g →
    M.generation_at s n ≡ Some g
named_lives s n shape g e = lived (M.generation_at s n) shape g e

-- the answer is the extent in force, or 107
pub refer_answer :
    (w : Now) → Holds w → (name number buffer : ℕ) (n : Name) (g : Generation) → IsNumberOf w number g.shape →
    name_in (call w) name ≡ Some n → (M.named w.state n g.shape ≡ Some g) × IsPlain g × HasMember g →
    refer_served (call w) name number buffer
    ≡ refer_answered (call w) g.shape name buffer (extent_in_force g (whole_of g.shape))
refer_answer w h name number buffer n g is e has =
    let r = asked_named w h name number n g.shape g is e has.0 in
    let f = r.0.found in
    let alive = named_lives w.state n g.shape g has.0 in
    ap (λ o. where_found o Bad next) r.1
    ∙ ap (λ o. or_bad o (λ s. refer_answered (call w) s name buffer
    (extent_in_force (V.generation_at s f.extent f.at w.memory) (whole_of s)))) r.0.shape
    ∙ ap (refer_answered (call w) g.shape name buffer)
    (extent_read w h n g f (whole_of g.shape) alive (has.1, has.2) r.0 refl)
  where
    next : Found → Answer
    next f =
        or_bad (shape_of_number (call w) f.signature) (λ s.
        refer_answered (call w) s name buffer (extent_in_force (V.generation_at s f.extent f.at w.memory) (whole_of s)))
