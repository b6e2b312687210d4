-- What service 11 answers.
use Rattle.std.proofs.Common.{◌≡◌, ℕ, ◌+◌, List, length, Option, None, Some, Bool, true, false, sym}
use Rattle.std.proofs.Common.{ap, ◌∙◌, subst, arith}
use Rattle.std.specs.Prelude.{cond}
use Rattle.pli_meaning.specs.BasicValues.{BasedName, VariableName}
use Rattle.pli_meaning.specs.Codes.{not_in_area_code}
use Rattle.pli_meaning.specs.Contents.{Generation, Shape, same_shape, without_offset}
use Rattle.pli_meaning.specs.StorageState as M
use Rattle.pli_meaning.specs.StorageState.{AreaContents, area_at}
use Rattle.area_keeper.specs.KeptAreas.{with_part}
use Rattle.area_keeper.proofs.Agreement.{length_part}
use Rattle.pli_serving.specs.AreaServices as A
use Rattle.pli_serving.specs.Answers.{Done}
use Rattle.pli_serving.specs.Arguments.{area_if, asked, name_in, where_found}
use Rattle.pli_serving.specs.Finding as F
use Rattle.pli_serving.specs.Finding.{FoundAt}
use Rattle.pli_serving.specs.Outcomes.{or_bad}
use Rattle.storage_relation.specs.Changes.{area_then}
use Rattle.storage_relation.specs.Served.{Holds, IsNumberOf, Now, call}
use Rattle.storage_relation.specs.Standing.{AreaOf, AreaStands}
use Rattle.storage_relation.specs.Stored.{IsBeside, slice}
use Rattle.storage_relation.proofs.Answering.{number_same}
use Rattle.storage_relation.proofs.AreaLaws as L
use Rattle.storage_relation.proofs.CallArguments.{asked_is}
use Rattle.storage_relation.proofs.Calls.{area_holds}
use Rattle.storage_relation.proofs.Confined.{beside_written}
use Rattle.storage_relation.proofs.Finding.{area_served, named_found}
use Rattle.storage_relation.proofs.Named.{area_holder, based_in}
use Rattle.storage_relation.proofs.Storing.{freed, taken-some}

-- an area, or the heap, has one generation less
pub record Freed (w : Now) (name number n o : ℕ) : Type 0 where
  pub area : AreaContents
  pub was : area_at w.state n ≡ Some area
  pub memory : List ℕ
  pub holds : Holds (area_then n (without_offset o) memory w)
  pub beside : IsBeside (w.places.at n) (w.keeper.bytes_for area.capacity) w.memory memory
  pub answered : A.free_served (call w) name number 0 ≡ Done (call w).services memory name 0

one_list : (x y : List ℕ) → ◌≡◌ {A = Option (List ℕ)} (Some x) (Some y) → x ≡ y
one_list x y e = cc e

lives_by : (shape : Shape) (g : Generation) (o : Option Generation) → M.if_same_shape shape o ≡ Some g → o ≡ Some g
lives_by shape g None e = absurd (cc e)
lives_by shape g (Some h) e = by (same_shape h.shape shape) e
  where
    by : (q : Bool) → cond q (Some h) None ≡ Some g → Some h ≡ Some g
    by true e = e
    by false e = absurd (cc e)

pub freed_there :
    (w : Now) → Holds w → (name number n o : ℕ) (shape : Shape) (g : Generation) → IsNumberOf w number shape →
    name_in (call w) name ≡ Some (BasedName n o) → M.named w.state (BasedName n o) shape ≡ Some g →
    Freed w name number n o
freed_there w h name number n o shape g is named f =
    let c = call w in
    let ts = w.places.signatures in
    let r = named_found w.keeper h.keeps w.layout w.places w.state w.services w.memory (BasedName n o) number shape g
    h.heap h.lives h.stored h.distinct is.shape_same f in
    let found = r.0.found in
    let b = based_in (area_at w.state n) o g (lives_by shape g (M.generation_at w.state (BasedName n o)) f) in
    let a = b.0 in
    let bytes = slice w.keeper w.places n (AreaOf a) w.memory in
    let there = area_holder w.state n a b.1 in
    let x = freed w.keeper h.keeps w.places w.state w.memory n o a g h.stored there b.2 in
    let same = number_same ts found.signature x.0.signature g.shape h.distinct r.0.shape x.2 in
    let taken = taken-some w.keeper h.keeps w.places w.state w.memory n a o g bytes h.stored there b.2 in
    let stands = subst (AreaStands w.keeper ts a) taken (h.stored.stands n (AreaOf a) there) in
    let y = L.area_freed w.keeper ts h.keeps a bytes o g stands b.2 in
    let z = L.found w.keeper ts bytes stands.kept a.placed o g stands.are b.2 in
    let alike = number_same ts x.0.signature z.0.signature g.shape h.distinct x.2 z.3.shape in
    let one : y.0 ≡ x.1 = one_list y.0 x.1 (sym y.1 ∙ ap (λ s. w.keeper.freed o s bytes) (sym alike) ∙ x.3) in
    let inside = h.stored.inside n (AreaOf a) there in
    let long = length_part (w.places.at n) (w.keeper.bytes_for a.capacity) w.memory inside in
    let many = ap (λ (u : List ℕ). length u) (sym one) ∙ y.2 in
    let new = with_part x.1 (w.places.at n) w.memory in
    let zero' : w.places.at n + 0 ≡ w.places.at n = omega arith in
    let at : F.area_at c n ≡ Some (record { at = w.places.at n; bytes = bytes }) =
    area_served w.keeper w.layout w.places w.state w.services w.memory n a h.heap h.lives b.1
    ∙ ap (λ u. Some (record { at = w.places.at n; bytes = u })) taken in
    record {
      area = a;
      was = b.1;
      memory = new;
      holds = area_holds w h n (without_offset o) new x.4;
      beside = subst (λ i. IsBeside (w.places.at n) (w.keeper.bytes_for a.capacity) w.memory (with_part x.1 i w.memory))
          zero'
          (beside_written x.1 (w.places.at n) (w.keeper.bytes_for a.capacity) 0 w.memory (omega (arith, many, long))
          inside);
      answered =
          ap (λ u. or_bad u (λ n'. or_bad (area_if c 0) (λ within'. where_found (asked c n' number)
          (Done c.services w.memory name 101) (λ f'. A.name_freed c name n' f'.signature within')))) named
          ∙ ap (λ u. where_found u (Done c.services w.memory name 101)
          (λ f'. A.name_freed c name (BasedName n o) f'.signature None))
          (asked_is w (BasedName n o) number shape is ∙ ap Some r.1)
          ∙ ap (λ u. or_bad u (λ a'. A.without_kept c name o found.signature a')) at
          ∙ ap (λ u. or_bad (w.keeper.freed o u bytes) (λ bytes'. Done c.services
          (with_part bytes' (w.places.at n) w.memory) name 0)) same
          ∙ ap (λ u. or_bad u (λ bytes'. Done c.services (with_part bytes' (w.places.at n) w.memory) name 0)) x.3;
    }

-- a variable is freed by no FREE
pub variable_stays :
    (w : Now) → Holds w → (name number serial : ℕ) (shape : Shape) (g : Generation) → IsNumberOf w number shape →
    name_in (call w) name ≡ Some (VariableName serial) → M.named w.state (VariableName serial) shape ≡ Some g →
    A.free_served (call w) name number 0 ≡ Done (call w).services w.memory name not_in_area_code
variable_stays w h name number serial shape g is named f =
    let c = call w in
    let r = named_found w.keeper h.keeps w.layout w.places w.state w.services w.memory (VariableName serial) number
    shape g h.heap h.lives h.stored h.distinct is.shape_same f in
    ap (λ u. or_bad u (λ n'. or_bad (area_if c 0) (λ within'. where_found (asked c n' number)
    (Done c.services w.memory name 101) (λ f'. A.name_freed c name n' f'.signature within')))) named
    ∙ ap (λ u. where_found u (Done c.services w.memory name 101)
    (λ f'. A.name_freed c name (VariableName serial) f'.signature None))
    (asked_is w (VariableName serial) number shape is ∙ ap Some r.1)
