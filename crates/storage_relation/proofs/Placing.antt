-- What comes and goes: the heap begins, a generation is placed, one more lives, some end; more signatures.
use Rattle.std.proofs.Common.{◌≡◌, ◌≢◌, ◌⊎◌, inl, inr, ℕ, ◌+◌, ◌-◌, ◌%◌, ◌^◌, ◌<◌, ◌≤◌, List, [], ◌∷◌, length, Option}
use Rattle.std.proofs.Common.{Some, None, Bool, true, false, refl, sym, ap, ◌∙◌, subst, arith}
use Rattle.std.proofs.lemmas.Bool.{cases_eq, cases_lt, eqb-true}
use Rattle.std.proofs.lemmas.List.{ext_get_or}
use Rattle.std.specs.Int.{w32}
use Rattle.std.specs.Prelude.{FitsSigned, cond, ◌==◌, slice_index}
use Rattle.pli_meaning.specs.Contents.{Generation, footprint_of, Placed, gap, with_placed}
use Rattle.pli_meaning.specs.StorageState.{State, Living, AreaContents, living_of, with_area, without_owner}
use Rattle.pli_meaning.specs.StorageState.{heap_serial, heap_capacity}
use Rattle.pli_types.specs.Templates.{Template}
use Rattle.area_keeper.proofs.Agreement.{length_part, length_with_part, byte_part, byte_below, byte_inside, byte_past}
use Rattle.area_keeper.specs.Keeper.{Kept, Keeper}
use Rattle.area_keeper.specs.KeeperLaws.{Keeps}
use Rattle.area_keeper.specs.KeptAreas.{part, with_part}
use Rattle.pli_serving.specs.Templates.{shape_at}
use Rattle.storage_relation.proofs.AreaLaws.{area_made, area_placed}
use Rattle.storage_relation.proofs.Holders.{eqb-refl, eqb-other}
use Rattle.storage_relation.proofs.Slices.{part_beside, part_around, part_written}
use Rattle.storage_relation.proofs.Storing.{taken-other, area_turned, heap_empty}
use Rattle.storage_relation.proofs.Turning.{some_same, told_written}
use Rattle.storage_relation.specs.Standing.{size_of, Reads, AreKept, AreaStands, Holder, heap_holder, holder_in}
use Rattle.storage_relation.specs.Standing.{holder_of, held, bytes_of, Stands, Alone, AreaOf}
use Rattle.storage_relation.specs.Stored.{Places, taken_as, Beside, slice, StoredAs, AreFalling, with_placed_in}
use Rattle.storage_relation.specs.Stored.{with_heap_made, with_place, with_living, Extends, with_signatures, IsClear}
use Rattle.storage_relation.specs.Stored.{IsUntold}

-- ---- two writes

-- a write in what was written
pub part_nested :
    (b new : List ℕ) (p d : ℕ) (m : List ℕ) → d + length b ≤ length new → p + length new ≤ length m →
    with_part b (p + d) (with_part new p m) ≡ with_part (with_part b d new) p m
part_nested b new p d m h i =
    ext_get_or 0 (with_part b (p + d) (with_part new p m)) (with_part (with_part b d new) p m)
    (omega (arith, first, second, third, inner)) (λ j less.
    by j (cases_lt j p) (cases_lt j (p + length new)))
  where
    inner : length (with_part b d new) ≡ length new
    inner = length_with_part b d new h

    second : length (with_part new p m) ≡ length m
    second = length_with_part new p m i

    first : length (with_part b (p + d) (with_part new p m)) ≡ length (with_part new p m)
    first = length_with_part b (p + d) (with_part new p m) (omega (arith, h, i, second))

    third : length (with_part (with_part b d new) p m) ≡ length m
    third = length_with_part (with_part b d new) p m (omega (arith, inner, i))

    within : part p (length new) (with_part b (p + d) (with_part new p m)) ≡ with_part b d new
    within =
        part_around p (length new) b d (with_part new p m) h (omega (arith, i, second))
        ∙ ap (with_part b d) (part_written new p m i)

    by :
        (j : ℕ) → (j < p) ⊎ (p ≤ j) → (j < p + length new) ⊎ (p + length new ≤ j) →
        slice_index (with_part b (p + d) (with_part new p m)) j ≡ slice_index (with_part (with_part b d new) p m) j
    by j (inl below) q =
        byte_below b (p + d) (with_part new p m) j (omega (arith, h, i, second)) (omega (arith, below))
        ∙ byte_below new p m j (omega (arith, i)) below
        ∙ sym (byte_below (with_part b d new) p m j (omega (arith, i)) below)
    by j (inr above) (inl under) =
        let e : j ≡ p + (j - p) = omega (arith, above) in
        ap (slice_index (with_part b (p + d) (with_part new p m))) e
        ∙ sym (byte_part p (length new) (with_part b (p + d) (with_part new p m)) (j - p) (omega (arith, above, under)))
        ∙ ap (λ l. slice_index l (j - p)) within
        ∙ sym (byte_inside (with_part b d new) p m (j - p) (omega (arith, i)) (omega (arith, above, under, inner)))
        ∙ ap (slice_index (with_part (with_part b d new) p m)) (sym e)
    by j (inr above) (inr past) =
        byte_past b (p + d) (with_part new p m) j (omega (arith, h, i, second)) (omega (arith, past, h))
        ∙ byte_past new p m j (omega (arith, i)) past
        ∙ sym (byte_past (with_part b d new) p m j (omega (arith, i)) (omega (arith, past, inner)))

-- a write over another, as long
pub part_over :
    (new old : List ℕ) (p : ℕ) (m : List ℕ) → length new ≡ length old → p + length new ≤ length m →
    with_part new p (with_part old p m) ≡ with_part new p m
part_over new old p m h i =
    let z : p + 0 ≡ p = omega arith in
    ap (λ q. with_part new q (with_part old p m)) (sym z)
    ∙ part_nested new old p 0 m (omega (arith, h)) (omega (arith, h, i))
    ∙ ap (λ l. with_part l p m) whole
  where
    whole : with_part new 0 old ≡ new
    whole =
        let l : length (with_part new 0 old) ≡ length old = length_with_part new 0 old (omega (arith, h)) in
        ext_get_or 0 (with_part new 0 old) new (omega (arith, l, h)) (λ j k.
        let z : 0 + j ≡ j = omega arith in
        ap (slice_index (with_part new 0 old)) (sym z) ∙ byte_inside new 0 old j (omega arith) (omega (arith, l, h, k)))

pub heap_begun :
    (k : Keeper) → Keeps k → (π : Places) (s : State) (m : List ℕ) → StoredAs k π s m → π.heap_made ≡ false →
    StoredAs k (with_heap_made π) s (with_part (k.made heap_capacity (part (π.at 0) (k.bytes_for heap_capacity) m))
    (π.at 0) m)
    × (length (k.made heap_capacity (part (π.at 0) (k.bytes_for heap_capacity) m)) ≡ k.bytes_for heap_capacity)
heap_begun k keeps π s m is unmade = (
  record {
    stands = λ j g e. by j g e (cases_eq j heap_serial);
    inside = λ j g e. let i = is.inside j g e in omega (arith, i, same_length);
    placed = is.placed;
    apart = is.apart;
    told = told_written π m (k.made heap_capacity (part (π.at 0) (k.bytes_for heap_capacity) m)) (π.at 0) is.told
        (omega (arith, long, own)) (subst (IsUntold π (π.at 0)) (sym long) (is.untold 0 (heap_holder s.heap) refl));
    untold = is.untold;
  },
  long,
)
  where
    old : List ℕ
    old = part (π.at 0) (k.bytes_for heap_capacity) m

    own : π.at 0 + k.bytes_for heap_capacity ≤ length m
    own = is.inside 0 (heap_holder s.heap) refl

    made :
        AreaStands k π.signatures (record { capacity = heap_capacity; placed = [] })
        (k.made heap_capacity (part (π.at 0) (k.bytes_for heap_capacity) m))
        × (length (k.made heap_capacity (part (π.at 0) (k.bytes_for heap_capacity) m))
        ≡ length (part (π.at 0) (k.bytes_for heap_capacity) m))
    made =
        area_made k π.signatures keeps heap_capacity (part (π.at 0) (k.bytes_for heap_capacity) m) (omega arith)
        (omega arith) (length_part (π.at 0) (k.bytes_for heap_capacity) m own)

    long : length (k.made heap_capacity (part (π.at 0) (k.bytes_for heap_capacity) m)) ≡ k.bytes_for heap_capacity
    long = made.1 ∙ length_part (π.at 0) (k.bytes_for heap_capacity) m own

    new : List ℕ
    new = with_part (k.made heap_capacity (part (π.at 0) (k.bytes_for heap_capacity) m)) (π.at 0) m

    same_length :
        length (with_part (k.made heap_capacity (part (π.at 0) (k.bytes_for heap_capacity) m)) (π.at 0) m) ≡ length m
    same_length =
        length_with_part (k.made heap_capacity (part (π.at 0) (k.bytes_for heap_capacity) m)) (π.at 0) m
        (omega (arith, long, own))

    by :
        (j : ℕ) (g : Holder) → held s j ≡ Some g → (j ≡ heap_serial) ⊎ (j ≢ heap_serial) →
        Stands k π.signatures g (taken_as k (with_heap_made π) j
        (slice k π j g (with_part (k.made heap_capacity (part (π.at 0) (k.bytes_for heap_capacity) m)) (π.at 0) m)))
    by j g e (inl heap) =
        let at : held s heap_serial ≡ Some g = subst (λ i. held s i ≡ Some g) heap e in
        let f : heap_holder s.heap ≡ g = cc at in
        let empty = heap_empty k keeps π s m is unmade in
        let bytes = k.made heap_capacity (part (π.at 0) (k.bytes_for heap_capacity) m) in
        let here : part (π.at 0) (k.bytes_for heap_capacity) (with_part bytes (π.at 0) m) ≡ bytes =
        ap (λ n. part (π.at 0) n (with_part bytes (π.at 0) m)) (sym long)
        ∙ part_written bytes (π.at 0) m (omega (arith, long, own))
        in
        let a : AreaStands k π.signatures (record { capacity = heap_capacity; placed = s.heap })
        (part (π.at 0) (k.bytes_for heap_capacity) (with_part bytes (π.at 0) m)) =
        subst (AreaStands k π.signatures (record { capacity = heap_capacity; placed = s.heap })) (sym here)
        (subst (λ ps. AreaStands k π.signatures (record { capacity = heap_capacity; placed = ps }) bytes)
        (sym empty) made.0)
        in
        subst (λ i. Stands k π.signatures g (taken_as k (with_heap_made π) i
        (slice k π i g (with_part bytes (π.at 0) m)))) (sym heap)
        (subst (λ y. Stands k π.signatures y (taken_as k (with_heap_made π) 0
        (slice k π 0 y (with_part bytes (π.at 0) m)))) f a)
    by j g e (inr other) =
        let bytes = k.made heap_capacity (part (π.at 0) (k.bytes_for heap_capacity) m) in
        let there = is.stands j g e in
        let stays : slice k π j g (with_part bytes (π.at 0) m) ≡ slice k π j g m =
        part_beside (π.at j) (bytes_of k g) bytes (π.at 0) m (omega (arith, long, own)) (is.inside j g e)
        (subst (λ n. Beside (π.at j) (bytes_of k g) (π.at 0) n) (sym long)
        (is.apart j 0 g (heap_holder s.heap) other e refl))
        in
        subst (Stands k π.signatures g) (taken-other k π j (slice k π j g m) other
        ∙ (sym stays ∙ sym (taken-other k (with_heap_made π) j (slice k π j g (with_part bytes (π.at 0) m)) other)))
        there

-- ---- a generation is placed

-- where an area's bytes are those in memory
pub placed :
    (k : Keeper) → Keeps k → (π : Places) (s : State) (m : List ℕ) (n o signature : ℕ) (a : AreaContents)
    (g : Generation) (spelled : List ℕ) →
    ((bytes : List ℕ) → taken_as k π n bytes ≡ bytes) → StoredAs k π s m → held s n ≡ Some (AreaOf a) →
    gap a.capacity (footprint_of g) a.placed ≡ Some o → signature < 2 ^ 32 → FitsSigned w32 g.extent →
    shape_at π.signatures signature ≡ Some g.shape → length spelled ≡ size_of g → Reads g spelled →
    (new : List ℕ) × (k.allocated (size_of g) signature g.extent (slice k π n (AreaOf a) m) ≡ Some (o, new))
    × (length new ≡ k.bytes_for a.capacity)
    × StoredAs k π (with_area n (with_placed (record { offset = o; generation = g })) s)
    (with_part spelled (π.at n + k.data_at o new) (with_part new (π.at n) m))
placed k keeps π s m n o signature a g spelled taken is e free small fits shape long reads =
    let bytes = slice k π n (AreaOf a) m in
    let area = subst (AreaStands k π.signatures a) (taken bytes) (is.stands n (AreaOf a) e) in
    let r = area_placed k π.signatures keeps a bytes g signature o spelled area free small fits shape long reads in
    let l = length_part (π.at n) (k.bytes_for a.capacity) m (is.inside n (AreaOf a) e) in
    let l2 = r.2 in
    let l3 = r.3 in
    let i = is.inside n (AreaOf a) e in
    let new = r.0 in
    let inner = length_with_part spelled (k.data_at o new) new (omega (arith, l2, l3, long)) in (
      new,
      r.1,
      l2 ∙ l,
      subst (StoredAs k π (with_area n (with_placed (record { offset = o; generation = g })) s))
          (sym (part_nested spelled new (π.at n) (k.data_at o new) m (omega (arith, l2, l3, long))
          (omega (arith, i, l2, l))))
          (area_turned k π s m (with_part spelled (k.data_at o new) new) n a
          (with_placed (record { offset = o; generation = g })) is e (inner ∙ l2 ∙ l)
          (subst (AreaStands k π.signatures (with_placed_in a
          (with_placed (record { offset = o; generation = g }) a.placed)))
          (sym (taken (with_part spelled (k.data_at o new) new))) r.4)),
    )

-- the first one in the heap
pub placed_first :
    (k : Keeper) → Keeps k → (π : Places) (s : State) (m : List ℕ) (o signature : ℕ) (g : Generation)
    (spelled : List ℕ) →
    StoredAs k π s m → π.heap_made ≡ false →
    gap heap_capacity (footprint_of g) s.heap ≡ Some o → signature < 2 ^ 32 → FitsSigned w32 g.extent →
    shape_at π.signatures signature ≡ Some g.shape → length spelled ≡ size_of g → Reads g spelled →
    (new : List ℕ) × (k.allocated (size_of g) signature g.extent
    (k.made heap_capacity (part (π.at 0) (k.bytes_for heap_capacity) m)) ≡ Some (o, new))
    × StoredAs k (with_heap_made π) (with_area 0 (with_placed (record { offset = o; generation = g })) s)
    (with_part spelled (π.at 0 + k.data_at o new) (with_part new (π.at 0) m))
placed_first k keeps π s m o signature g spelled is unmade free small fits shape long reads =
    let made = k.made heap_capacity (part (π.at 0) (k.bytes_for heap_capacity) m) in
    let begun = heap_begun k keeps π s m is unmade in
    let i = is.inside 0 (heap_holder s.heap) refl in
    let len = begun.1 in
    let r = placed k keeps (with_heap_made π) s (with_part made (π.at 0) m) 0 o signature
    (record { capacity = heap_capacity; placed = s.heap }) g spelled
    (λ bytes. refl) begun.0 refl free small fits shape long reads in
    let here : part (π.at 0) (k.bytes_for heap_capacity) (with_part made (π.at 0) m) ≡ made =
    ap (λ n. part (π.at 0) n (with_part made (π.at 0) m)) (sym len)
    ∙ part_written made (π.at 0) m (omega (arith, len, i))
    in
    let l = r.2 in (
      r.0,
      ap (k.allocated (size_of g) signature g.extent) (sym here) ∙ r.1,
      subst (λ m'. StoredAs k (with_heap_made π) (with_area 0 (with_placed (record { offset = o; generation = g })) s)
          (with_part spelled (π.at 0 + k.data_at o r.0) m'))
          (part_over r.0 made (π.at 0) m (l ∙ sym len) (omega (arith, l, i))) r.3,
    )

pub added :
    (k : Keeper) (π : Places) (s : State) (m : List ℕ) (l : Living) (at number : ℕ) → StoredAs k π s m →
    l.serial ≢ heap_serial →
    at + bytes_of k (holder_of l) ≤ length m → π.low ≤ at → at % 4 ≡ 0 →
    IsClear k π s at (bytes_of k (holder_of l)) →
    Stands k π.signatures (holder_of l) (part at (bytes_of k (holder_of l)) m) →
    StoredAs k (with_place l.serial at number π) (with_living l s) m
added k π s m l at number is some room above aligned beside stands =
    record {
      stands = λ j g e. stands_by j g e (cases_eq j l.serial);
      inside = λ j g e. inside_by j g e (cases_eq j l.serial);
      placed = λ j g e. placed_by j g e (cases_eq j l.serial);
      apart = λ i j f g ne e1 e2. apart_by i j f g ne e1 e2 (cases_eq i l.serial) (cases_eq j l.serial);
      told = is.told;
      untold = λ j g e. untold_by j g e (cases_eq j l.serial);
    }
  where
    π' : Places
    π' = with_place l.serial at number π

    s' : State
    s' = with_living l s

    place-same : (with_place l.serial at number π).at l.serial ≡ at
    place-same = ap (λ q. cond q at (π.at l.serial)) (eqb-refl l.serial)

    place-other : (j : ℕ) → j ≢ l.serial → (with_place l.serial at number π).at j ≡ π.at j
    place-other j ne = ap (λ q. cond q at (π.at j)) (eqb-other j l.serial ne)

    here : held (with_living l s) l.serial ≡ Some (holder_of l)
    here =
        ap (λ q. cond q (Some (heap_holder s.heap)) (holder_in (living_of (l ∷ s.living) l.serial)))
        (eqb-other l.serial heap_serial some)
        ∙ ap (λ q. holder_in (cond q (Some l) (living_of s.living l.serial))) (eqb-refl l.serial)

    there : (j : ℕ) → j ≢ l.serial → held (with_living l s) j ≡ held s j
    there j ne =
        ap (λ q. cond (j == heap_serial) (Some (heap_holder s.heap))
        (holder_in (cond q (Some l) (living_of s.living j)))) (eqb-other l.serial j (λ e. ne (sym e)))

    is_new : (j : ℕ) (g : Holder) → held (with_living l s) j ≡ Some g → j ≡ l.serial → holder_of l ≡ g
    is_new j g e same = some_same (sym here ∙ subst (λ i. held (with_living l s) i ≡ Some g) same e)

    stands_by :
        (j : ℕ) (g : Holder) → held (with_living l s) j ≡ Some g → (j ≡ l.serial) ⊎ (j ≢ l.serial) →
        Stands k π.signatures g (taken_as k (with_place l.serial at number π) j
        (slice k (with_place l.serial at number π) j g m))
    stands_by j g e (inl same) =
        let f = is_new j g e same in
        let p : (with_place l.serial at number π).at j ≡ at = ap (with_place l.serial at number π).at same
        ∙ place-same in
        let ne : j ≢ heap_serial = λ z. some (sym same ∙ z) in
        let own : part at (bytes_of k (holder_of l)) m ≡ slice k (with_place l.serial at number π) j g m =
        ap (λ a. part a (bytes_of k (holder_of l)) m) (sym p)
        ∙ ap (λ h. part ((with_place l.serial at number π).at j) (bytes_of k h) m) f
        in
        subst (Stands k π.signatures g) (own ∙ sym (taken-other k (with_place l.serial at number π) j
        (slice k (with_place l.serial at number π) j g m) ne))
        (subst (λ h. Stands k π.signatures h (part at (bytes_of k (holder_of l)) m)) f stands)
    stands_by j g e (inr other) =
        subst (λ a. Stands k π.signatures g (taken_as k π j (part a (bytes_of k g) m))) (sym (place-other j other))
        (is.stands j g (sym (there j other) ∙ e))

    inside_by :
        (j : ℕ) (g : Holder) → held (with_living l s) j ≡ Some g → (j ≡ l.serial) ⊎ (j ≢ l.serial) →
        (with_place l.serial at number π).at j + bytes_of k g ≤ length m
    inside_by j g e (inl same) =
        let f = is_new j g e same in
        let p : (with_place l.serial at number π).at j ≡ at = ap (with_place l.serial at number π).at same
        ∙ place-same in
        let q = ap (bytes_of k) f in
        omega (arith, p, q, room)
    inside_by j g e (inr other) =
        let p = place-other j other in
        let i = is.inside j g (sym (there j other) ∙ e) in
        omega (arith, p, i)

    placed_by :
        (j : ℕ) (g : Holder) → held (with_living l s) j ≡ Some g → (j ≡ l.serial) ⊎ (j ≢ l.serial) →
        (π.low ≤ (with_place l.serial at number π).at j) × ((with_place l.serial at number π).at j % 4 ≡ 0)
    placed_by j g e (inl same) =
        let p : (with_place l.serial at number π).at j ≡ at = ap (with_place l.serial at number π).at same
        ∙ place-same in
        subst (λ q. (π.low ≤ q) × (q % 4 ≡ 0)) (sym p) (above, aligned)
    placed_by j g e (inr other) =
        subst (λ q. (π.low ≤ q) × (q % 4 ≡ 0)) (sym (place-other j other)) (is.placed j g (sym (there j other) ∙ e))

    untold_by :
        (j : ℕ) (g : Holder) → held (with_living l s) j ≡ Some g → (j ≡ l.serial) ⊎ (j ≢ l.serial) →
        IsUntold π ((with_place l.serial at number π).at j) (bytes_of k g)
    untold_by j g e (inl same) =
        let p : (with_place l.serial at number π).at j ≡ at = ap (with_place l.serial at number π).at same
        ∙ place-same in
        subst (λ q. IsUntold π q (bytes_of k g)) (sym p)
        (subst (λ h. IsUntold π at (bytes_of k h)) (is_new j g e same) beside.1)
    untold_by j g e (inr other) =
        subst (λ q. IsUntold π q (bytes_of k g)) (sym (place-other j other)) (is.untold j g (sym (there j other) ∙ e))

    turned : (a b c d : ℕ) → Beside a b c d → Beside c d a b
    turned a b c d (inl h) = inr h
    turned a b c d (inr h) = inl h

    apart_by :
        (i j : ℕ) (f g : Holder) → i ≢ j → held (with_living l s) i ≡ Some f → held (with_living l s) j ≡ Some g →
        (i ≡ l.serial) ⊎ (i ≢ l.serial) → (j ≡ l.serial) ⊎ (j ≢ l.serial) →
        Beside ((with_place l.serial at number π).at i) (bytes_of k f) ((with_place l.serial at number π).at j)
        (bytes_of k g)
    apart_by i j f g ne e1 e2 (inl a) (inl b) = absurd (ne (a ∙ sym b))
    apart_by i j f g ne e1 e2 (inl a) (inr b) =
        let x = is_new i f e1 a in
        let p : (with_place l.serial at number π).at i ≡ at = ap (with_place l.serial at number π).at a ∙ place-same in
        subst (λ u. Beside u (bytes_of k f) ((with_place l.serial at number π).at j) (bytes_of k g)) (sym p)
        (subst (λ u. Beside at (bytes_of k f) u (bytes_of k g)) (sym (place-other j b))
        (subst (λ h. Beside at (bytes_of k h) (π.at j) (bytes_of k g)) x
        (turned (π.at j) (bytes_of k g) at (bytes_of k (holder_of l)) (beside.0 j g (sym (there j b) ∙ e2)))))
    apart_by i j f g ne e1 e2 (inr a) (inl b) =
        let x = is_new j g e2 b in
        let p : (with_place l.serial at number π).at j ≡ at = ap (with_place l.serial at number π).at b ∙ place-same in
        subst (λ u. Beside ((with_place l.serial at number π).at i) (bytes_of k f) u (bytes_of k g)) (sym p)
        (subst (λ u. Beside u (bytes_of k f) at (bytes_of k g)) (sym (place-other i a))
        (subst (λ h. Beside (π.at i) (bytes_of k f) at (bytes_of k h)) x
        (beside.0 i f (sym (there i a) ∙ e1))))
    apart_by i j f g ne e1 e2 (inr a) (inr b) =
        subst (λ u. Beside u (bytes_of k f) ((with_place l.serial at number π).at j) (bytes_of k g))
        (sym (place-other i a))
        (subst (λ u. Beside (π.at i) (bytes_of k f) u (bytes_of k g)) (sym (place-other j b))
        (is.apart i j f g ne (sym (there i a) ∙ e1) (sym (there j b) ∙ e2)))

-- ---- some end

pub fewer :
    (k : Keeper) (π : Places) (s s' : State) (m : List ℕ) → StoredAs k π s m →
    ((j : ℕ) (h : Holder) → held s' j ≡ Some h → held s j ≡ Some h) →
    StoredAs k π s' m
fewer k π s s' m is less =
    record {
      stands = λ j g e. is.stands j g (less j g e);
      inside = λ j g e. is.inside j g (less j g e);
      placed = λ j g e. is.placed j g (less j g e);
      apart = λ i j f g ne e1 e2. is.apart i j f g ne (less i f e1) (less j g e2);
      told = is.told;
      untold = λ j g e. is.untold j g (less j g e);
    }

pub none_above :
    (above : ℕ) (ls : List Living) (n : ℕ) (l : Living) → AreFalling above ls → living_of ls n ≡ Some l → n < above
none_above above [] n l a e = absurd (cc e)
none_above above (x ∷ ls) n l a e = by (x.serial == n) refl e (λ f. none_above x.serial ls n l a.2 f)
  where
    by :
        (q : Bool) → (x.serial == n) ≡ q → cond q (Some x) (living_of ls n) ≡ Some l →
        (living_of ls n ≡ Some l → n < x.serial) → n < above
    by true q e rest = let f = eqb-true x.serial n q in let g = a.0 in omega (arith, f, g)
    by false q e rest = let f = rest e in let g = a.0 in omega (arith, f, g)

falling_less : (a b : ℕ) (ls : List Living) → a ≤ b → AreFalling a ls → AreFalling b ls
falling_less a b [] h f = tt
falling_less a b (l ∷ ls) h f = (let g = f.0 in omega (arith, h, g), f.1, f.2)

pub falling_without :
    (above height : ℕ) (ls : List Living) → AreFalling above ls → AreFalling above (without_owner height ls)
falling_without above height [] f = tt
falling_without above height (l ∷ ls) f = by (l.owner == height) (falling_without l.serial height ls f.2)
  where
    by :
        (q : Bool) → AreFalling l.serial (without_owner height ls) →
        AreFalling above (cond q (without_owner height ls) (l ∷ without_owner height ls))
    by true rest = falling_less l.serial above (without_owner height ls) (let g = f.0 in omega (arith, g)) rest
    by false rest = (f.0, f.1, rest)

pub without_less :
    (above height : ℕ) (ls : List Living) (n : ℕ) (l : Living) → AreFalling above ls →
    living_of (without_owner height ls) n ≡ Some l → living_of ls n ≡ Some l
without_less above height [] n l f e = absurd (cc e)
without_less above height (x ∷ ls) n l f e =
    by (x.owner == height) (x.serial == n) refl e (λ g. without_less x.serial height ls n l f.2 g)
    (λ g. none_above x.serial (without_owner height ls) n l (falling_without x.serial height ls f.2) g)
  where
    by :
        (q r : Bool) → (x.serial == n) ≡ r → living_of (cond q (without_owner height ls) (x ∷ without_owner height ls))
        n ≡ Some l →
        (living_of (without_owner height ls) n ≡ Some l → living_of ls n ≡ Some l) →
        (living_of (without_owner height ls) n ≡ Some l → n < x.serial) → cond r (Some x) (living_of ls n) ≡ Some l
    by true true r e rest low = let f = eqb-true x.serial n r in let g = low e in absurd (omega (arith, f, g))
    by true false r e rest low = rest e
    by false true r e rest low = sym (ap (λ q. cond q (Some x) (living_of (without_owner height ls) n)) r) ∙ e
    by false false r e rest low = rest (sym (ap (λ q. cond q (Some x) (living_of (without_owner height ls) n)) r) ∙ e)

-- what is held after some ended was held before
pub held_before :
    (s : State) (above height : ℕ) → AreFalling above s.living → (j : ℕ) (h : Holder) →
    held (record s { living = without_owner height s.living }) j ≡ Some h → held s j ≡ Some h
held_before s above height falling j h e = by j h e (j == heap_serial)
  where
    by_living :
        (j : ℕ) (h : Holder) (o : Option Living) → living_of (without_owner height s.living) j ≡ o →
        holder_in o ≡ Some h → holder_in (living_of s.living j) ≡ Some h
    by_living j h None f e = absurd (cc e)
    by_living j h (Some l) f e = ap holder_in (without_less above height s.living j l falling f) ∙ e

    by :
        (j : ℕ) (h : Holder) → held (record s { living = without_owner height s.living }) j ≡ Some h → (q : Bool) →
        held s j ≡ Some h
    by j h e q = by_test (j == heap_serial) e
      where
        by_test :
            (q : Bool) → cond q (Some (heap_holder s.heap)) (holder_in (living_of (without_owner height s.living) j))
            ≡ Some h →
            cond q (Some (heap_holder s.heap)) (holder_in (living_of s.living j)) ≡ Some h
        by_test true e = e
        by_test false e = by_living j h (living_of (without_owner height s.living) j) refl e

pub ended :
    (k : Keeper) (π : Places) (s : State) (m : List ℕ) (above height : ℕ) → AreFalling above s.living →
    StoredAs k π s m →
    StoredAs k π (record s { living = without_owner height s.living }) m
ended k π s m above height falling is =
    fewer k π s (record s { living = without_owner height s.living }) m is (held_before s above height falling)

are_more :
    (k : Keeper) (old new : List Template) (bytes : List ℕ) (gs : List Kept) (ps : List Placed) → Extends old new →
    AreKept k old bytes gs ps → AreKept k new bytes gs ps
are_more k old new bytes [] [] x a = tt
are_more k old new bytes [] (p ∷ ps) x a = absurd a
are_more k old new bytes (g ∷ gs) [] x a = absurd a
are_more k old new bytes (g ∷ gs) (p ∷ ps) x a = (
  record {
    offset = a.0.offset;
    size = a.0.size;
    extent = a.0.extent;
    shape =
        x g.signature p.generation.shape a.0.shape;
    reads = a.0.reads;
  },
  are_more k old new bytes gs ps x a.1,
)

stands_more :
    (k : Keeper) (old new : List Template) (h : Holder) (bytes : List ℕ) → Extends old new → Stands k old h bytes →
    Stands k new h bytes
stands_more k old new (Alone g) bytes x is = is
stands_more k old new (AreaOf a) bytes x is =
    record { kept = is.kept; stands = is.stands; are = are_more k old new bytes is.kept a.placed x is.are }

pub more_signatures :
    (k : Keeper) (π : Places) (s : State) (m : List ℕ) (t : List Template) → Extends π.signatures t → StoredAs k π s m →
    StoredAs k (with_signatures t π) s m
more_signatures k π s m t x is =
    record {
      stands = λ j g e. stands_more k π.signatures t g (taken_as k π j (slice k π j g m)) x (is.stands j g e);
      inside = is.inside;
      placed = is.placed;
      apart = is.apart;
      told = is.told;
      untold = is.untold;
    }
