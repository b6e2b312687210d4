-- What service 17 answers where a generation is newest.
use Rattle.std.proofs.Common.{◌≡◌, ℕ, ◌+◌, List, [], ◌∷◌, length, Option, Some, Bool, true, refl, sym, ap, ◌∙◌, subst}
use Rattle.std.proofs.Common.{arith}
use Rattle.pli_meaning.specs.Contents.{Generation, without_offset}
use Rattle.pli_meaning.specs.StorageState.{AreaContents, heap_capacity, heap_serial, with_area}
use Rattle.area_keeper.specs.KeptAreas.{with_part}
use Rattle.area_keeper.proofs.Agreement.{length_part}
use Rattle.pli_serving.specs.Answers.{Answer, Done}
use Rattle.pli_serving.specs.ControlledServices as K
use Rattle.pli_serving.specs.Finding as F
use Rattle.pli_serving.specs.Outcomes.{bad_unless, or_bad}
use Rattle.pli_serving.specs.ServiceState.{Controlled}
use Rattle.storage_relation.specs.Changes.{area_then}
use Rattle.storage_relation.specs.Controlled.{IsLive, heap_of}
use Rattle.storage_relation.specs.Served.{Holds, Now, call}
use Rattle.storage_relation.specs.Standing.{AreaOf, AreaStands}
use Rattle.storage_relation.specs.Stored.{IsBeside, slice}
use Rattle.storage_relation.proofs.Answering.{number_same}
use Rattle.storage_relation.proofs.AreaLaws as L
use Rattle.storage_relation.proofs.Calls.{area_holds}
use Rattle.storage_relation.proofs.Confined.{beside_written}
use Rattle.storage_relation.proofs.Controlled.{heap_area, heap_bytes_are}
use Rattle.storage_relation.proofs.Storing.{freed, taken-some}

-- the heap has one generation less, and the variable's list
pub record Popped (w : Now) (number y : ℕ) (k : Controlled) (ks : List Controlled) : Type 0 where
  pub memory : List ℕ
  pub holds : Holds (area_then heap_serial (without_offset k.offset) memory w)
  pub beside : IsBeside (w.places.at heap_serial) (w.keeper.bytes_for heap_capacity) w.memory memory
  pub answered : K.pop_served (call w) number y ≡ Done (K.with_controlled number ks (call w).services) memory number y

one_list : (x y : List ℕ) → ◌≡◌ {A = Option (List ℕ)} (Some x) (Some y) → x ≡ y
one_list x y e = cc e

pub popped_there :
    (w : Now) → Holds w → (number y : ℕ) (k : Controlled) (ks : List Controlled) →
    w.services.controlled number ≡ k ∷ ks → IsLive w.places w.state k → K.is_controlled number ≡ true →
    Popped w number y k ks
popped_there w h number y k ks top live is =
    let ts = w.places.signatures in
    let a = heap_of w.state in
    let g = live.generation in
    let m = w.memory in
    let o = k.offset in
    let bytes = slice w.keeper w.places heap_serial (AreaOf a) m in
    let x = freed w.keeper h.keeps w.places w.state m heap_serial o a g h.stored refl live.placed in
    let number' = number_same ts k.signature x.0.signature g.shape h.distinct live.number x.2 in
    let taken = taken-some w.keeper h.keeps w.places w.state m heap_serial a o g bytes h.stored refl live.placed in
    let stands = subst (AreaStands w.keeper ts a) taken (h.stored.stands heap_serial (AreaOf a) refl) in
    let z = L.area_freed w.keeper ts h.keeps a bytes o g stands live.placed in
    let f = L.found w.keeper ts bytes stands.kept a.placed o g stands.are live.placed in
    let alike = number_same ts x.0.signature f.0.signature g.shape h.distinct x.2 f.3.shape in
    let one : z.0 ≡ x.1 = one_list z.0 x.1 (sym z.1 ∙ ap (λ s. w.keeper.freed o s bytes) (sym alike) ∙ x.3) in
    let inside = h.stored.inside heap_serial (AreaOf a) refl in
    let at = w.places.at heap_serial in
    let count = w.keeper.bytes_for heap_capacity in
    let long = length_part at count m inside in
    let many = ap (λ (u : List ℕ). length u) (sym one) ∙ z.2 in
    let new = with_part x.1 at m in
    let zero' : at + 0 ≡ at = omega arith in
    let heap : F.heap_bytes (call w) ≡ record { at = at; bytes = bytes } =
    heap_bytes_are w h ∙ ap (λ u. record { at = at; bytes = u }) taken
    in
    record {
      memory = new;
      holds = area_holds w h heap_serial (without_offset o) new x.4;
      beside = subst (λ i. IsBeside at count m (with_part x.1 i m)) zero'
          (beside_written x.1 at count 0 m (omega (arith, many, long)) inside);
      answered =
          ap (λ q. bad_unless q (K.popped (call w) number y (F.heap_bytes (call w)) (w.services.controlled number))) is
          ∙ ap (K.popped (call w) number y (F.heap_bytes (call w))) top
          ∙ ap (λ q. bad_unless q (next (F.heap_bytes (call w)) k.signature)) (heap_area w h)
          ∙ ap (λ b. next b k.signature) heap
          ∙ ap (λ i. next (record { at = at; bytes = bytes }) i) number'
          ∙ ap (λ u. or_bad u (λ bytes'. Done (K.with_controlled number ks (call w).services) (with_part bytes' at m)
          number y)) x.3;
    }
  where
    next : F.AreaBytes → (signature : ℕ) → Answer
    next b signature =
        or_bad (w.keeper.freed k.offset signature b.bytes) (λ bytes'.
        Done (K.with_controlled number ks (call w).services) (with_part bytes' b.at w.memory) number y)
