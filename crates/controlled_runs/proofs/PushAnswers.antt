-- What service 16 answers where the heap has a gap.
use Rattle.std.proofs.Common.{◌≡◌, ℕ, zero, suc, ◌+◌, ◌<◌, ◌≤◌, ◌^◌, List, [], length, Some, Bool, true, refl, sym, ap}
use Rattle.std.proofs.Common.{◌∙◌, subst, arith}
use Rattle.std.specs.Prelude.{ℤ, ◌&&◌}
use Rattle.pli_meaning.specs.Contents.{Generation, footprint_of, gap}
use Rattle.pli_meaning.specs.StorageState.{heap_capacity, heap_serial}
use Rattle.area_keeper.specs.KeptAreas.{with_part}
use Rattle.pli_serving.specs.Answers.{Answer, Done}
use Rattle.pli_serving.specs.Arguments.{is_area}
use Rattle.pli_serving.specs.AreaServices as A
use Rattle.pli_serving.specs.ControlledServices as K
use Rattle.pli_serving.specs.Finding as F
use Rattle.pli_serving.specs.Outcomes.{bad_unless, or_bad}
use Rattle.pli_serving.specs.ServiceState.{Services}
use Rattle.pli_serving.specs.Templates.{shape_at}
use Rattle.pli_serving.specs.Values.{generation_bytes}
use Rattle.storage_relation.specs.Changes.{allocated}
use Rattle.storage_relation.specs.Controlled.{Begins, heap_of}
use Rattle.storage_relation.specs.Served.{Holds, Now, area_bytes_of, call}
use Rattle.storage_relation.specs.Standing.{AreaOf, IsValued, leaf_in, size_of}
use Rattle.storage_relation.specs.Stored.{IsBeside, slice, taken_as}
use Rattle.storage_relation.specs.Telling.{IsOf}
use Rattle.storage_relation.proofs.AreaLaws.{area_placed}
use Rattle.storage_relation.proofs.Calls.{pushed_answered}
use Rattle.storage_relation.proofs.Confined.{beside_both, beside_written}
use Rattle.storage_relation.proofs.Controlled.{heap_area, heap_bytes_are}
use Rattle.storage_relation.proofs.Spelling.{reads_spelled, spelled_length}
use Rattle.controlled_runs.specs.Allocations.{controlled_shape}
use Rattle.controlled_runs.proofs.AllocationMeaning.{new_number}

-- ---- the generation

pub number_valued : IsValued new_number
number_valued leaf is less within = by_leaf leaf is less
  where
    by_leaf :
        (leaf : ℕ) (is : List ℤ) → leaf < 1 → IsOf (leaf_in new_number leaf).kind (new_number.values leaf is)
    by_leaf zero is less = (omega arith, refl)
    by_leaf (suc leaf) is less = absurd (omega (arith, less))

pub number_begins :
    (w : Now) (number signature : ℕ) → K.is_controlled number ≡ true → signature < 2 ^ 31 →
    shape_at w.places.signatures signature ≡ Some controlled_shape → Begins w number signature 0 new_number
number_begins w number signature is small shape =
    record {
      begun = ap (λ q. A.begun_of (call w) q 0 0) shape;
      is = is;
      small = omega (arith, small);
      fits = record { sfits = omega arith };
      shape_same = shape;
      values = (tt, tt);
      valued = number_valued;
      class = refl;
    }

-- ---- the heap has it

pub record Pushed (w : Now) (number signature o : ℕ) (g : Generation) : Type 0 where
  pub memory : List ℕ
  pub holds : Holds (allocated heap_serial o g memory w)
  pub beside : IsBeside (w.places.at heap_serial) (w.keeper.bytes_for heap_capacity) w.memory memory
  pub answered :
      K.push_served (call w) number signature 0
      ≡ Done (K.with_newest number (record { offset = o; signature = signature })
      (call (allocated heap_serial o g memory w)).services) memory number 0

memory_same :
    (v v' : Services) (m m' : List ℕ) (x y : ℕ) → Done v m x y ≡ Done v' m' x y → m ≡ m'
memory_same v v' m m' x y e = cc e

pub pushed_there :
    (w : Now) → Holds w → (number signature o : ℕ) (g : Generation) → Begins w number signature 0 g →
    gap heap_capacity (footprint_of g) w.state.heap ≡ Some o → Pushed w number signature o g
pushed_there w h number signature o g b free =
    let r = pushed_answered w h number signature 0 o g b free in
    let ts = w.places.signatures in
    let a = heap_of w.state in
    let m = w.memory in
    let at = w.places.at heap_serial in
    let count = w.keeper.bytes_for heap_capacity in
    let bytes = taken_as w.keeper w.places heap_serial (slice w.keeper w.places heap_serial (AreaOf a) m) in
    let stands = h.stored.stands heap_serial (AreaOf a) refl in
    let spelled = generation_bytes g in
    let size = spelled_length g b.values in
    let z = area_placed w.keeper ts h.keeps a bytes g signature o spelled stands free b.small b.fits b.shape_same size
    (reads_spelled g b.values b.valued) in
    let long = h.keeps.order.as_many bytes (record { capacity = heap_capacity; placed = stands.kept }) stands.stands in
    let head = z.0 in
    let as_many = z.2 in
    let room = z.3 in
    let new = with_part spelled (at + w.keeper.data_at o head) (with_part head at m) in
    let own =
    ap (λ u. or_bad u next) b.begun
    ∙ ap (λ q. bad_unless (q && is_area (call w) (K.heap_of (call w))) (answer (F.heap_bytes (call w)))) b.is
    ∙ ap (λ q. bad_unless q (answer (F.heap_bytes (call w)))) (heap_area w h)
    ∙ ap answer (heap_bytes_are w h)
    ∙ ap (λ u. K.push_answered (call w) number signature
    (A.with_data (call w) (area_bytes_of w.keeper w.places m heap_serial a) g u)) z.1
    in
    let same = memory_same _ _ new r.0 number 0 (sym own ∙ r.2) in
    let inside = h.stored.inside heap_serial (AreaOf a) refl in
    let zero' : at + 0 ≡ at = omega arith in
    let first = subst (λ i. IsBeside at count m (with_part head i m)) zero'
    (beside_written head at count 0 m (omega (arith, as_many, long)) inside) in
    let whole = first.as_many in
    let both = beside_both at count m (with_part head at m) new first
    (beside_written spelled at count (w.keeper.data_at o head) (with_part head at m)
    (omega (arith, room, long, size)) (omega (arith, whole, inside))) in
    record {
      memory = r.0;
      holds = r.1;
      beside = subst (IsBeside at count m) same both;
      answered = r.2;
    }
  where
    answer : F.AreaBytes → Answer
    answer a = K.push_answered (call w) number signature (A.placed_in (call w) a signature g)

    next : Generation → Answer
    next g' =
        bad_unless (K.is_controlled number && is_area (call w) (K.heap_of (call w)))
        (K.push_answered (call w) number signature (A.placed_in (call w) (F.heap_bytes (call w)) signature g'))
