-- Services 16 to 19: the generations of CONTROLLED variables are the storage machine's, newest first.
use Rattle.std.proofs.Common.{◌≡◌, ℕ, suc, List, [], ◌∷◌, length, Some, None, Bool, true, false, refl, sym, ap, ◌∙◌}
use Rattle.std.proofs.Common.{subst}
use Rattle.std.specs.Prelude.{◌&&◌, is_some}
use Rattle.pli_meaning.specs.BasicValues.{BasedName}
use Rattle.pli_meaning.specs.Codes.{heap_full_code}
use Rattle.pli_meaning.specs.Contents.{Generation, footprint_of, gap, without_offset, placed_at}
use Rattle.pli_meaning.specs.StorageState.{with_area, heap_serial, heap_capacity, newest_in, newest_placed}
use Rattle.area_keeper.specs.KeptAreas.{with_part}
use Rattle.pli_serving.specs.Answers.{Answer, Done}
use Rattle.pli_serving.specs.AreaServices as A
use Rattle.pli_serving.specs.Arguments.{is_area}
use Rattle.pli_serving.specs.Bytes.{is_data, name_size}
use Rattle.pli_serving.specs.ControlledServices as K
use Rattle.pli_serving.specs.Finding as F
use Rattle.pli_serving.specs.Outcomes.{or_bad, bad_unless}
use Rattle.pli_serving.specs.ServiceState.{Controlled}
use Rattle.storage_relation.proofs.Answering.{number_same}
use Rattle.storage_relation.proofs.Finding.{heap_served}
use Rattle.storage_relation.proofs.Making.{placed_served, first_served, full_served}
use Rattle.storage_relation.proofs.Storing.{taken-made, taken-some, freed}
use Rattle.storage_relation.specs.Controlled.{NoNewest, Newest, offsets_in, AllLive, Variable, offsets_at, ControlledAs}
use Rattle.storage_relation.specs.Controlled.{IsNewest, heap_of, Begins, placed_heap}
use Rattle.storage_relation.specs.Served.{area_bytes_of, Now, call, Holds}
use Rattle.storage_relation.specs.Standing.{heap_holder, AreaOf}
use Rattle.storage_relation.specs.Stored.{Places, slice, StoredAs, with_heap_made}

-- ---- 19: count

offsets_long : (ks : List Controlled) → length (offsets_in ks) ≡ length ks
offsets_long [] = refl
offsets_long (k ∷ ks) = ap (λ n. suc n) (offsets_long ks)

pub count_answer :
    (w : Now) (x : Variable) (number y : ℕ) → ControlledAs w x number → K.is_controlled number ≡ true →
    K.count_served (call w) number y ≡ Done (call w).services w.memory (length (offsets_at w.state x)) y
count_answer w x number y are e =
    ap (λ q. bad_unless q (Done (call w).services w.memory (length (w.services.controlled number)) y)) e
    ∙ ap (λ n. Done (call w).services w.memory n y)
    (sym (offsets_long (w.services.controlled number)) ∙ ap length are.offsets)

newest_by :
    (w : Now) (destination index : ℕ) (ks : List Controlled) → AllLive w.places w.state ks →
    IsNewest w destination ks (newest_in w.state.heap index (offsets_in ks))
newest_by w destination index [] live = NoNewest refl
newest_by w destination index (k ∷ ks) live =
    subst (λ o. IsNewest w destination (k ∷ ks) (newest_placed index k.offset o)) (sym live.0.placed)
    (Newest (record { variable = index; name = BasedName heap_serial k.offset; shape = live.0.generation.shape })
    k.signature live.0.number refl)

pub newest_answer :
    (w : Now) (x : Variable) (number destination : ℕ) → ControlledAs w x number → K.is_controlled number ≡ true →
    is_data w.layout destination name_size ≡ true →
    (K.newest_served (call w) number destination
    ≡ K.newest_answered (call w) destination (w.services.controlled number))
    × IsNewest w destination (w.services.controlled number) (newest_in w.state.heap x.index (offsets_at w.state x))
newest_answer w x number destination are e there = (
  ap (λ q. bad_unless (q && is_data w.layout destination name_size)
      (K.newest_answered (call w) destination (w.services.controlled number))) e
      ∙ ap (λ q. bad_unless q (K.newest_answered (call w) destination (w.services.controlled number))) there,
  subst (λ os. IsNewest w destination (w.services.controlled number) (newest_in w.state.heap x.index os)) are.offsets
      (newest_by w destination x.index (w.services.controlled number) are.live),
)

pub heap_area : (w : Now) → Holds w → is_area (call w) (K.heap_of (call w)) ≡ true
heap_area w h =
    let stands = h.stored.stands heap_serial (heap_holder w.state.heap) refl in
    ap (λ (a : F.AreaBytes). is_some (w.keeper.area_of a.bytes))
    (heap_served w.keeper w.layout w.places w.state w.services w.memory h.heap)
    ∙ ap is_some stands.stands

pub heap_bytes_are :
    (w : Now) → Holds w → F.heap_bytes (call w) ≡ area_bytes_of w.keeper w.places w.memory heap_serial (heap_of w.state)
heap_bytes_are w h = heap_served w.keeper w.layout w.places w.state w.services w.memory h.heap

push_step :
    (w : Now) → Holds w → (number signature initial : ℕ) (g : Generation) → Begins w number signature initial g →
    K.push_served (call w) number signature initial
    ≡ K.push_answered (call w) number signature
    (A.placed_in (call w) (area_bytes_of w.keeper w.places w.memory heap_serial (heap_of w.state)) signature g)
push_step w h number signature initial g b =
    ap (λ o. or_bad o next) b.begun
    ∙ ap (λ q. bad_unless (q && is_area (call w) (K.heap_of (call w))) (answer (F.heap_bytes (call w)))) b.is
    ∙ ap (λ q. bad_unless q (answer (F.heap_bytes (call w)))) (heap_area w h)
    ∙ ap answer (heap_bytes_are w h)
  where
    answer : F.AreaBytes → Answer
    answer a = K.push_answered (call w) number signature (A.placed_in (call w) a signature g)

    next : Generation → Answer
    next g =
        bad_unless (K.is_controlled number && is_area (call w) (K.heap_of (call w)))
        (K.push_answered (call w) number signature (A.placed_in (call w) (F.heap_bytes (call w)) signature g))

pub heap_made_same : (π : Places) → π.heap_made ≡ true → with_heap_made π ≡ π
heap_made_same π e = ap (λ q. record π { heap_made = q }) (sym e)

-- where the storage machine has a gap in the heap, the generation is placed there and is the variable's newest
pub push_answer :
    (w : Now) → Holds w → (number signature initial o : ℕ) (g : Generation) → Begins w number signature initial g →
    gap heap_capacity (footprint_of g) w.state.heap ≡ Some o →
    (new : List ℕ)
    × (K.push_served (call w) number signature initial
    ≡ Done (K.with_newest number (record { offset = o; signature = signature })
    (A.with_heap heap_serial (call w).services))
    new number 0)
    × StoredAs w.keeper (with_heap_made w.places) (placed_heap o g w.state) new
push_answer w h number signature initial o g b free = by w.places.heap_made refl
  where
    by :
        (q : Bool) → w.places.heap_made ≡ q →
        (new : List ℕ)
        × (K.push_served (call w) number signature initial
        ≡ Done (K.with_newest number (record { offset = o; signature = signature })
        (A.with_heap heap_serial (call w).services)) new number 0)
        × StoredAs w.keeper (with_heap_made w.places) (placed_heap o g w.state) new
    by true e =
        let r = placed_served w.keeper h.keeps w.layout w.places w.state w.services w.memory heap_serial o signature
        (heap_of w.state) g
        (λ bytes. taken-made w.keeper w.places heap_serial bytes e) h.stored refl free b.small b.fits b.shape_same
        b.values b.valued
        in (
          r.0,
          push_step w h number signature initial g b ∙ ap (K.push_answered (call w) number signature) r.1,
          subst (λ π. StoredAs w.keeper π (placed_heap o g w.state) r.0) (sym (heap_made_same w.places e)) r.2,
        )
    by false e =
        let r = first_served w.keeper h.keeps w.layout w.places w.state w.services w.memory o signature g e h.stored
        free b.small b.fits b.shape_same b.values b.valued in
        (r.0, push_step w h number signature initial g b ∙ ap (K.push_answered (call w) number signature) r.1, r.2)

-- else 104 or what a full heap has, and nothing changes
pub push_refused :
    (w : Now) → Holds w → (number signature initial : ℕ) (g : Generation) → Begins w number signature initial g →
    gap heap_capacity (footprint_of g) w.state.heap ≡ None →
    K.push_served (call w) number signature initial ≡ Done (call w).services w.memory number heap_full_code
push_refused w h number signature initial g b full =
    push_step w h number signature initial g b
    ∙ ap (K.push_answered (call w) number signature)
    (full_served w.keeper h.keeps w.layout w.places w.state w.services w.memory heap_serial signature
    (heap_of w.state) g h.stored refl full)

-- ---- 17: pop

-- with no generation nothing changes
pub pop_none :
    (w : Now) (x : Variable) (number y : ℕ) → ControlledAs w x number → K.is_controlled number ≡ true →
    offsets_at w.state x ≡ [] → K.pop_served (call w) number y ≡ Done (call w).services w.memory number y
pop_none w x number y are e none =
    ap (λ q. bad_unless q (K.popped (call w) number y (F.heap_bytes (call w)) (w.services.controlled number))) e
    ∙ by (w.services.controlled number) (are.offsets ∙ none)
  where
    by :
        (ks : List Controlled) → offsets_in ks ≡ [] →
        K.popped (call w) number y (F.heap_bytes (call w)) ks ≡ Done (call w).services w.memory number y
    by [] f = refl
    by (k ∷ ks) f = absurd (cc f)

-- the newest goes, and what is left is what the storage machine has left
pub pop_answer :
    (w : Now) → Holds w → (x : Variable) (number y o : ℕ) (os : List ℕ) → ControlledAs w x number →
    K.is_controlled number ≡ true →
    offsets_at w.state x ≡ o ∷ os →
    (new : List ℕ) × (k : Controlled) × (left : List Controlled) × (w.services.controlled number ≡ k ∷ left)
    × (k.offset ≡ o) × (offsets_in left ≡ os)
    × (K.pop_served (call w) number y ≡ Done (K.with_controlled number left (call w).services) new number y)
    × StoredAs w.keeper w.places (with_area heap_serial (without_offset o) w.state) new
pop_answer w h x number y o os are e some =
    let r = by (w.services.controlled number) refl are.live (are.offsets ∙ some) in (
      r.0,
      r.1,
      r.2,
      r.3,
      r.4,
      r.5,
      ap (λ q. bad_unless q (K.popped (call w) number y (F.heap_bytes (call w)) (w.services.controlled number))) e
          ∙ r.6,
      r.7,
    )
  where
    π : Places
    π = w.places

    by :
        (ks : List Controlled) → w.services.controlled number ≡ ks → AllLive π w.state ks → offsets_in ks ≡ o ∷ os →
        (new : List ℕ) × (k : Controlled) × (left : List Controlled) × (w.services.controlled number ≡ k ∷ left)
        × (k.offset ≡ o) × (offsets_in left ≡ os)
        × (K.popped (call w) number y (F.heap_bytes (call w)) ks
        ≡ Done (K.with_controlled number left (call w).services) new number y)
        × StoredAs w.keeper π (with_area heap_serial (without_offset o) w.state) new
    by [] same live f = absurd (cc f)
    by (k ∷ ks) same live f =
        let here : k.offset ≡ o = cc f in
        let more : offsets_in ks ≡ os = cc f in
        let a = heap_of w.state in
        let m = w.memory in
        let bytes = slice w.keeper π heap_serial (AreaOf a) m in
        let g = live.0.generation in
        let there : placed_at w.state.heap o
        ≡ Some g = subst (λ i. placed_at w.state.heap i ≡ Some g) here live.0.placed in
        let r = freed w.keeper h.keeps π w.state m heap_serial o a g h.stored refl there in
        let number' : k.signature ≡ r.0.signature = number_same π.signatures k.signature r.0.signature g.shape
        h.distinct live.0.number r.2 in
        let taken = taken-some w.keeper h.keeps π w.state m heap_serial a o g bytes h.stored refl there in
        let heap : F.heap_bytes (call w) ≡ record { at = π.at heap_serial; bytes = bytes } =
        heap_bytes_are w h ∙ ap (λ z. record { at = π.at heap_serial; bytes = z }) taken
        in
        let new = with_part r.1 (π.at heap_serial) m in (
          new,
          k,
          ks,
          same,
          here,
          more,
          ap (λ q. bad_unless q (next k ks (F.heap_bytes (call w)) k.offset k.signature)) (heap_area w h)
              ∙ ap (λ b. next k ks b k.offset k.signature) heap
              ∙ ap (λ i. next k ks (record { at = π.at heap_serial; bytes = bytes }) i k.signature) here
              ∙ ap (λ i. next k ks (record { at = π.at heap_serial; bytes = bytes }) o i) number'
              ∙ ap (λ z. or_bad z (λ bytes'. Done (K.with_controlled number ks (call w).services)
              (with_part bytes' (π.at heap_serial) m) number y)) r.3,
          r.4,
        )
      where
        next : Controlled → List Controlled → F.AreaBytes → (offset signature : ℕ) → Answer
        next k ks b offset signature =
            or_bad (w.keeper.freed offset signature b.bytes) (λ bytes'.
            Done (K.with_controlled number ks (call w).services) (with_part bytes' b.at w.memory) number y)
