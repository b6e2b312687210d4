-- The laws by names: where a generation stands, what is read of it, and a write in it, wherever it lives.
use Rattle.std.proofs.Common.{◌≡◌, ◌≢◌, ◌⊎◌, inl, inr, ℕ, ◌+◌, ◌%◌, ◌<◌, ◌≤◌, List, [], ◌∷◌, length, Option, Some, None}
use Rattle.std.proofs.Common.{Bool, true, false, refl, sym, ap, ◌∙◌, subst, arith}
use Rattle.std.proofs.lemmas.Bool.{cases_eq, eqb-true}
use Rattle.std.specs.Prelude.{cond, ◌==◌}
use Rattle.pli_typing.specs.Signatures.{LeafKind, Fixed, Character, Varying, Bit, Pointer, Offset, Area, Leaf}
use Rattle.pli_meaning.specs.BasicValues.{Name, NullName, VariableName, BasedName}
use Rattle.pli_meaning.specs.Contents.{Generation, Placed, placed_at, changed_at}
use Rattle.pli_meaning.specs.StorageState.{State, Living, AreaContents, area_of_kind, area_of_leaves, area_in, area_at}
use Rattle.pli_meaning.specs.StorageState.{living_of, generation_of, generation_in, generation_at, with_generation}
use Rattle.pli_meaning.specs.StorageState.{with_area, heap_serial, heap_capacity}
use Rattle.area_keeper.proofs.Agreement.{length_part}
use Rattle.area_keeper.specs.Keeper.{Kept, Keeper}
use Rattle.area_keeper.specs.KeeperLaws.{Keeps, SamePlaces, Leaves}
use Rattle.area_keeper.specs.KeptAreas.{kept_at, without_kept, part, with_part}
use Rattle.storage_relation.proofs.AreaLaws.{found}
use Rattle.storage_relation.proofs.Holders.{eqb-other, area_held, others_held, with_alone, others_alone}
use Rattle.storage_relation.proofs.Slices.{part_of_part, part_beside, part_around}
use Rattle.storage_relation.proofs.Storing.{taken-other, taken-some, stored_alone, stored_placed}
use Rattle.storage_relation.specs.Standing.{size_of, Reads, AreaStands, holder_by, heap_holder, holder_in, held}
use Rattle.storage_relation.specs.Standing.{IsPlain, Alone, AreaOf}
use Rattle.storage_relation.specs.Stored.{Places, Beside, slice, StoredAs, place_held, place_of, AreFalling}

-- ---- who holds

pub area_holder : (s : State) (n : ℕ) (a : AreaContents) → area_at s n ≡ Some a → held s n ≡ Some (AreaOf a)
area_holder s n a e = by (n == heap_serial) e
  where
    by_living : (o : Option Living) → area_in o ≡ Some a → holder_in o ≡ Some (AreaOf a)
    by_living None e = absurd (cc e)
    by_living (Some l) e = ap (λ q. Some (holder_by l.generation q)) e

    by :
        (q : Bool) → cond q (Some (record { capacity = heap_capacity; placed = s.heap }))
        (area_in (living_of s.living n)) ≡ Some a →
        cond q (Some (heap_holder s.heap)) (holder_in (living_of s.living n)) ≡ Some (AreaOf a)
    by true e = let f : record { capacity = heap_capacity; placed = s.heap } ≡ a = cc e in ap (λ b. Some (AreaOf b)) f
    by false e = by_living (living_of s.living n) e

positive : (above : ℕ) (ls : List Living) (n : ℕ) (l : Living) → AreFalling above ls → living_of ls n ≡ Some l → 0 < n
positive above [] n l a e = absurd (cc e)
positive above (x ∷ ls) n l a e = by (x.serial == n) refl e (λ f. positive x.serial ls n l a.2 f)
  where
    by :
        (q : Bool) → (x.serial == n) ≡ q → cond q (Some x) (living_of ls n) ≡ Some l →
        (living_of ls n ≡ Some l → 0 < n) → 0 < n
    by true q e rest = let f = eqb-true x.serial n q in let g = a.1 in omega (arith, f, g)
    by false q e rest = rest e

kind_plain : (kind : LeafKind) (ps qs : List Placed) → area_of_kind kind ps ≡ None → area_of_kind kind qs ≡ None
kind_plain (Area n) ps qs e = absurd (cc e)
kind_plain (Fixed p) ps qs e = refl
kind_plain (Character p) ps qs e = refl
kind_plain (Varying p) ps qs e = refl
kind_plain Bit ps qs e = refl
kind_plain Pointer ps qs e = refl
kind_plain Offset ps qs e = refl

leaves_plain :
    (leaves : List Leaf) (ps qs : List Placed) → area_of_leaves leaves ps ≡ None → area_of_leaves leaves qs ≡ None
leaves_plain [] ps qs e = refl
leaves_plain (l ∷ []) ps qs e = kind_plain l.kind ps qs e
leaves_plain (l ∷ m ∷ ls) ps qs e = refl

pub alone_holder :
    (s : State) (above n : ℕ) (g : Generation) → AreFalling above s.living →
    generation_of (living_of s.living n) ≡ Some g → IsPlain g →
    held s n ≡ Some (Alone g)
alone_holder s above n g falling e plain = by (living_of s.living n) refl e
  where
    by : (o : Option Living) → living_of s.living n ≡ o → generation_of o ≡ Some g → held s n ≡ Some (Alone g)
    by None f e = absurd (cc e)
    by (Some l) f e =
        let some = positive above s.living n l falling f in
        let same : l.generation ≡ g = cc e in
        let none : area_of_leaves l.generation.shape.signature.leaves l.placed ≡ None =
        leaves_plain l.generation.shape.signature.leaves [] l.placed (subst IsPlain (sym same) plain)
        in
        ap (λ q. cond q (Some (heap_holder s.heap)) (holder_in (living_of s.living n)))
        (eqb-other n heap_serial (omega (arith, some)))
        ∙ ap holder_in f
        ∙ ap (λ q. Some (holder_by l.generation q)) none
        ∙ ap (λ x. Some (Alone x)) same

pub based_in :
    (o : Option AreaContents) (offset : ℕ) (g : Generation) → generation_in o offset ≡ Some g → (a : AreaContents)
    × (o ≡ Some a) × (placed_at a.placed offset ≡ Some g)
based_in None offset g e = absurd (cc e)
based_in (Some a) offset g e = (a, refl, e)

-- ---- in an area

-- where its data stands in the area's bytes
pub data_within :
    (k : Keeper) → Keeps k → (π : Places) (s : State) (m : List ℕ) (n o : ℕ) (a : AreaContents) (g : Generation) →
    StoredAs k π s m → held s n ≡ Some (AreaOf a) →
    placed_at a.placed o ≡ Some g →
    (k.data_at o (slice k π n (AreaOf a) m) + size_of g ≤ k.bytes_for a.capacity)
    × (k.data_at o (slice k π n (AreaOf a) m) % 4 ≡ 0)
    × Reads g (part (k.data_at o (slice k π n (AreaOf a) m)) (size_of g) (slice k π n (AreaOf a) m))
data_within k keeps π s m n o a g is e there =
    let bytes = slice k π n (AreaOf a) m in
    let area : AreaStands k π.signatures a bytes = subst (AreaStands k π.signatures a)
    (taken-some k keeps π s m n a o g bytes is e there) (is.stands n (AreaOf a) e) in
    let f = found k π.signatures bytes area.kept a.placed o g area.are there in
    let w = keeps.writing.within bytes (record { capacity = a.capacity; placed = area.kept }) o f.0 area.stands f.1 in
    let l = length_part (π.at n) (k.bytes_for a.capacity) m (is.inside n (AreaOf a) e) in
    let z = f.3.size in (
      omega (arith, w, l, z),
      keeps.writing.aligned bytes (record { capacity = a.capacity; placed = area.kept }) o f.0
          area.stands f.1,
      subst (λ i. Reads g (part (k.data_at i bytes) (size_of g) bytes)) f.2
          (subst (λ i. Reads g (part (k.data_at f.0.offset bytes) i bytes)) z f.3.reads),
    )

-- ---- by name

-- a generation that a name names stands at its place
pub record IsAt (k : Keeper) (π : Places) (s : State) (m : List ℕ) (n : Name) (g : Generation) : Type 0 where
  pub inside : place_of k π s m n + size_of g ≤ length m
  pub reads : Reads g (part (place_of k π s m n) (size_of g) m)

pub named_at :
    (k : Keeper) → Keeps k → (π : Places) (s : State) (m : List ℕ) (above : ℕ) (n : Name) (g : Generation) →
    StoredAs k π s m → AreFalling above s.living →
    generation_at s n ≡ Some g → IsPlain g → IsAt k π s m n g
named_at k keeps π s m above NullName g is falling e plain = absurd (cc e)
named_at k keeps π s m above (VariableName n) g is falling e plain =
    let h = alone_holder s above n g falling e plain in
    let ne : n ≢ heap_serial = λ z. let f : held s 0 ≡ Some (Alone g) = subst (λ i. held s i ≡ Some (Alone g)) z h in
    absurd (cc f) in
    record {
      inside = is.inside n (Alone g) h;
      reads = subst (Reads g) (taken-other k π n (slice k π n (Alone g) m) ne)
          (is.stands n (Alone g) h);
    }
named_at k keeps π s m above (BasedName n o) g is falling e plain =
    let b = based_in (area_at s n) o g e in
    let a = b.0 in
    let h = area_holder s n a b.1 in
    let d = data_within k keeps π s m n o a g is h b.2 in
    let i = is.inside n (AreaOf a) h in
    let d0 = d.0 in
    let own : place_of k π s m (BasedName n o) ≡ π.at n + k.data_at o (slice k π n (AreaOf a) m) =
    ap (place_held k π m n o) h in
    record {
      inside = omega (arith, own, i, d0);
      reads =
          subst (λ p. Reads g (part p (size_of g) m)) (sym own)
          (subst (Reads g) (part_of_part (k.data_at o (slice k π n (AreaOf a) m)) (size_of g) (π.at n)
          (k.bytes_for a.capacity) m d0) d.2);
    }

-- a write in a generation that a name names
pub stored :
    (k : Keeper) → Keeps k → (π : Places) (s : State) (m b : List ℕ) (above x : ℕ) (n : Name) (g : Generation)
    (change : Generation → Generation) →
    StoredAs k π s m → AreFalling above s.living → generation_at s n ≡ Some g → IsPlain g →
    ((y : Generation) → (change y).shape ≡ y.shape) → (change g).extent ≡ g.extent → x + length b ≤ size_of g →
    Reads (change g) (with_part b x (part (place_of k π s m n) (size_of g) m)) →
    StoredAs k π (with_generation n change s) (with_part b (place_of k π s m n + x) m)
stored k keeps π s m b above x NullName g change is falling e plain shape extent room reads = absurd (cc e)
stored k keeps π s m b above x (VariableName n) g change is falling e plain shape extent room reads =
    stored_alone k π s m b x n g change is (alone_holder s above n g falling e plain) shape extent room reads
stored k keeps π s m b above x (BasedName n o) g change is falling e plain shape extent room reads =
    let c = based_in (area_at s n) o g e in
    let a = c.0 in
    let h = area_holder s n a c.1 in
    let d = data_within k keeps π s m n o a g is h c.2 in
    let own : place_of k π s m (BasedName n o) ≡ π.at n + k.data_at o (slice k π n (AreaOf a) m) =
    ap (place_held k π m n o) h in
    let at : π.at n + (k.data_at o (slice k π n (AreaOf a) m) + x) ≡ place_of k π s m (BasedName n o) + x =
    omega (arith, own) in
    subst (λ p. StoredAs k π (with_generation (BasedName n o) change s) (with_part b p m)) at
    (stored_placed k keeps π s m b x n o a g change is h c.2 (shape g) extent room
    (subst (λ bytes. Reads (change g) (with_part b x bytes))
    (sym (part_of_part (k.data_at o (slice k π n (AreaOf a) m)) (size_of g) (π.at n) (k.bytes_for a.capacity) m d.0))
    (subst (λ p. Reads (change g) (with_part b x (part p (size_of g) m))) own reads)))

-- ---- addresses stay good

pub in_all :
    (k : Keeper) (old new : List ℕ) (gs : List Kept) (p : ℕ) (c : Kept) → SamePlaces k gs old new →
    kept_at gs p ≡ Some c → k.data_at c.offset new ≡ k.data_at c.offset old
in_all k old new [] p c s e = absurd (cc e)
in_all k old new (g ∷ gs) p c s e = by (g.offset == p) e (λ f. in_all k old new gs p c s.1 f)
  where
    by :
        (q : Bool) → cond q (Some g) (kept_at gs p) ≡ Some c →
        (kept_at gs p ≡ Some c → k.data_at c.offset new ≡ k.data_at c.offset old) →
        k.data_at c.offset new ≡ k.data_at c.offset old
    by true e rest = let f : g ≡ c = cc e in subst (λ (y : Kept). k.data_at y.offset new ≡ k.data_at y.offset old) f s.0
    by false e rest = rest e

pub place_in_list :
    (k : Keeper) (old new : List ℕ) (gs : List Kept) (o p : ℕ) (c : Kept) → SamePlaces k (without_kept o gs) old new →
    o ≢ p → kept_at gs p ≡ Some c → k.data_at c.offset new ≡ k.data_at c.offset old
place_in_list k old new [] o p c places ne e = absurd (cc e)
place_in_list k old new (g ∷ gs) o p c places ne e =
    by (g.offset == o) (g.offset == p) refl refl places e (λ s. place_in_list k old new gs o p c s ne)
  where
    same : g ≡ c → k.data_at g.offset new ≡ k.data_at g.offset old → k.data_at c.offset new ≡ k.data_at c.offset old
    same f e = subst (λ (y : Kept). k.data_at y.offset new ≡ k.data_at y.offset old) f e

    by :
        (q r : Bool) → (g.offset == o) ≡ q → (g.offset == p) ≡ r →
        SamePlaces k (cond q gs (g ∷ without_kept o gs)) old new → cond r (Some g) (kept_at gs p) ≡ Some c →
        (SamePlaces k (without_kept o gs) old new → kept_at gs p ≡ Some c →
        k.data_at c.offset new ≡ k.data_at c.offset old) →
        k.data_at c.offset new ≡ k.data_at c.offset old
    by true true q r s e rest = absurd (ne (sym (eqb-true g.offset o q) ∙ eqb-true g.offset p r))
    by true false q r s e rest = in_all k old new gs p c s e
    by false true q r s e rest = same (cc e) s.0
    by false false q r s e rest = rest s.1 e

area_places :
    (k : Keeper) → Keeps k → (π : Places) (a : AreaContents) (bytes b : List ℕ) (x o p : ℕ) (g h : Generation) →
    AreaStands k π.signatures a bytes →
    placed_at a.placed o ≡ Some g → placed_at a.placed p ≡ Some h → x + length b ≤ size_of g →
    k.data_at p (with_part b (k.data_at o bytes + x) bytes) ≡ k.data_at p bytes
area_places k keeps π a bytes b x o p g h is e f room = by (cases_eq o p)
  where
    w :
        (c : Kept) × (kept_at is.kept o ≡ Some c)
        × (Leaves k (without_kept o is.kept) a.capacity is.kept bytes (with_part b (k.data_at o bytes + x) bytes)
        × (k.data_at o (with_part b (k.data_at o bytes + x) bytes) ≡ k.data_at o bytes))
    w =
        let r = found k π.signatures bytes is.kept a.placed o g is.are e in
        let z = r.3.size in (
          r.0,
          r.1,
          keeps.writing.written bytes (record { capacity = a.capacity; placed = is.kept }) o r.0 b
              (k.data_at o bytes + x) is.stands r.1 (omega arith) (omega (arith, room, z)),
        )

    by : (o ≡ p) ⊎ (o ≢ p) → k.data_at p (with_part b (k.data_at o bytes + x) bytes) ≡ k.data_at p bytes
    by (inl same) = subst (λ q. k.data_at q (with_part b (k.data_at o bytes + x) bytes) ≡ k.data_at q bytes) same w.2.1
    by (inr other) =
        let r = found k π.signatures bytes is.kept a.placed p h is.are f in
        subst (λ q. k.data_at q (with_part b (k.data_at o bytes + x) bytes) ≡ k.data_at q bytes) r.2
        (place_in_list k bytes (with_part b (k.data_at o bytes + x) bytes) is.kept o p r.0 w.2.0.places_stay other r.1)

-- a write in one generation moves no other
pub places_stay :
    (k : Keeper) → Keeps k → (π : Places) (s : State) (m b : List ℕ) (above x : ℕ) (n p : Name) (g h : Generation)
    (change : Generation → Generation) →
    StoredAs k π s m → AreFalling above s.living → generation_at s n ≡ Some g → IsPlain g → generation_at s p ≡ Some h →
    x + length b ≤ size_of g →
    place_of k π (with_generation n change s) (with_part b (place_of k π s m n + x) m) p ≡ place_of k π s m p
places_stay k keeps π s m b above x n NullName g h change is falling e plain f room = refl
places_stay k keeps π s m b above x n (VariableName j) g h change is falling e plain f room = refl
places_stay k keeps π s m b above x NullName (BasedName j o) g h change is falling e plain f room = absurd (cc e)
places_stay k keeps π s m b above x (VariableName i) (BasedName j o) g h change is falling e plain f room =
    let c = based_in (area_at s j) o h f in
    let area = area_holder s j c.0 c.1 in
    let alone = alone_holder s above i g falling e plain in
    let ne : j ≢ i = λ z. let q : held s i ≡ Some (AreaOf c.0) = subst (λ u. held s u ≡ Some (AreaOf c.0)) z area in
    absurd (cc (sym alone ∙ q)) in
    let there : held (with_alone i change s) j ≡ Some (AreaOf c.0) = others_alone s i j change ne ∙ area in
    let own = is.inside i (Alone g) alone in
    let stays : slice k π j (AreaOf c.0) (with_part b (π.at i + x) m) ≡ slice k π j (AreaOf c.0) m =
    part_beside (π.at j) (k.bytes_for c.0.capacity) b (π.at i + x) m (omega (arith, own, room))
    (is.inside j (AreaOf c.0) area) (aside (k.bytes_for c.0.capacity)
    (is.apart j i (AreaOf c.0) (Alone g) ne area alone))
    in
    ap (place_held k π (with_part b (π.at i + x) m) j o) there
    ∙ ap (λ bytes. π.at j + k.data_at o bytes) stays
    ∙ sym (ap (place_held k π m j o) area)
  where
    aside :
        (w : ℕ) → Beside (π.at j) w (π.at i) (size_of g) → (π.at j + w ≤ π.at i + x) ⊎ (π.at i + x + length b ≤ π.at j)
    aside w (inl l) = inl (omega (arith, l))
    aside w (inr l) = inr (omega (arith, l, room))
places_stay k keeps π s m b above x (BasedName i p) (BasedName j o) g h change is falling e plain f room =
    by (cases_eq j i)
  where
    c : (a : AreaContents) × (area_at s j ≡ Some a) × (placed_at a.placed o ≡ Some h)
    c = based_in (area_at s j) o h f

    d : (a : AreaContents) × (area_at s i ≡ Some a) × (placed_at a.placed p ≡ Some g)
    d = based_in (area_at s i) p g e

    here : held s i ≡ Some (AreaOf d.0)
    here = area_holder s i d.0 d.1

    area : held s j ≡ Some (AreaOf c.0)
    area = area_holder s j c.0 c.1

    own : place_of k π s m (BasedName i p) + x ≡ π.at i + (k.data_at p (slice k π i (AreaOf d.0) m) + x)
    own = let q = ap (place_held k π m i p) here in omega (arith, q)

    inside : k.data_at p (slice k π i (AreaOf d.0) m) + size_of g ≤ k.bytes_for d.0.capacity
    inside = (data_within k keeps π s m i p d.0 g is here d.2).0

    whole : π.at i + k.bytes_for d.0.capacity ≤ length m
    whole = is.inside i (AreaOf d.0) here

    aside :
        (y z : ℕ) → y + length b ≤ z → (w : ℕ) → Beside (π.at j) w (π.at i) z → (π.at j + w ≤ π.at i + y)
        ⊎ (π.at i + y + length b ≤ π.at j)
    aside y z r w (inl l) = inl (omega (arith, l))
    aside y z r w (inr l) = inr (omega (arith, l, r))

    by :
        (j ≡ i) ⊎ (j ≢ i) →
        place_held k π (with_part b (place_of k π s m (BasedName i p) + x) m) j o
        (held (with_area i (changed_at p change) s) j) ≡ place_held k π m j o (held s j)
    by (inr ne) =
        let there : held (with_area i (changed_at p change) s) j ≡ Some (AreaOf c.0) =
        others_held s i j (changed_at p change) ne ∙ area in
        let y = k.data_at p (slice k π i (AreaOf d.0) m) + x in
        let fits : y + length b ≤ k.bytes_for d.0.capacity = let z = inside in omega (arith, z, room) in
        let stays : slice k π j (AreaOf c.0) (with_part b (π.at i + y) m) ≡ slice k π j (AreaOf c.0) m =
        part_beside (π.at j) (k.bytes_for c.0.capacity) b (π.at i + y) m (let z = whole in
        omega (arith, z, fits)) (is.inside j (AreaOf c.0) area)
        (aside y (k.bytes_for d.0.capacity) fits (k.bytes_for c.0.capacity)
        (is.apart j i (AreaOf c.0) (AreaOf d.0) ne area here))
        in
        ap (λ q. place_held k π (with_part b q m) j o (held (with_area i (changed_at p change) s) j)) own
        ∙ ap (place_held k π (with_part b (π.at i + y) m) j o) there
        ∙ ap (λ bytes. π.at j + k.data_at o bytes) stays
        ∙ sym (ap (place_held k π m j o) area)
    by (inl same) =
        let at_i : held s i ≡ Some (AreaOf c.0) = subst (λ u. held s u ≡ Some (AreaOf c.0)) same area in
        let one : d.0 ≡ c.0 = cc (sym here ∙ at_i) in
        let there : placed_at d.0.placed o ≡ Some h = subst (λ (z : AreaContents). placed_at z.placed o ≡ Some h)
        (sym one) c.2 in
        let bytes = slice k π i (AreaOf d.0) m in
        let y = k.data_at p bytes + x in
        let fits : y + length b ≤ k.bytes_for d.0.capacity = let z = inside in omega (arith, z, room) in
        let stands = subst (AreaStands k π.signatures d.0) (taken-some k keeps π s m i d.0 p g bytes is here d.2)
        (is.stands i (AreaOf d.0) here) in
        ap (λ q. place_held k π (with_part b q m) j o (held (with_area i (changed_at p change) s) j)) own
        ∙ ap (λ u. place_held k π (with_part b (π.at i + y) m) u o (held (with_area i (changed_at p change) s) u)) same
        ∙ ap (place_held k π (with_part b (π.at i + y) m) i o) (area_held s i (changed_at p change) d.0 here)
        ∙ ap (λ z. π.at i + k.data_at o z) (part_around (π.at i) (k.bytes_for d.0.capacity) b y m fits whole)
        ∙ ap (λ z. π.at i + z) (area_places k keeps π d.0 bytes b x p o g h stands d.2 there room)
        ∙ sym (ap (place_held k π m i o) here)
        ∙ ap (λ u. place_held k π m u o (held s u)) (sym same)
