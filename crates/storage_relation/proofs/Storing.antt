-- The laws of what is stored: a write in a generation by itself or in an area, areas changed as a whole, and the heap.
use Rattle.std.proofs.Common.{◌≡◌, ◌≢◌, ◌⊎◌, inl, inr, ℕ, ◌+◌, ◌≤◌, List, [], ◌∷◌, length, Some, Bool, true, false}
use Rattle.std.proofs.Common.{refl, sym, ap, ◌∙◌, subst, arith}
use Rattle.std.proofs.lemmas.Bool.{cases_eq}
use Rattle.std.proofs.lemmas.List.{ext_get_or}
use Rattle.std.specs.Prelude.{cond, ◌==◌, slice_index}
use Rattle.pli_meaning.specs.BasicValues.{VariableName, BasedName}
use Rattle.pli_meaning.specs.Contents.{Generation, Placed, without_offset, placed_at, changed_at, greatest_end}
use Rattle.pli_meaning.specs.StorageState.{State, AreaContents, with_generation, with_area, heap_serial, heap_capacity}
use Rattle.pli_types.specs.Templates.{Template}
use Rattle.area_keeper.proofs.Agreement.{length_part, length_with_part, byte_inside}
use Rattle.area_keeper.specs.Keeper.{Kept, KeptArea, Keeper}
use Rattle.area_keeper.specs.KeeperLaws.{Keeps}
use Rattle.area_keeper.specs.KeptAreas.{part, with_part}
use Rattle.pli_serving.specs.Templates.{shape_at}
use Rattle.storage_relation.proofs.AreaLaws.{found, area_emptied, area_stored, area_freed, area_copied}
use Rattle.storage_relation.proofs.Holders.{eqb-other, area_held, others_held, with_alone, alone_held, others_alone}
use Rattle.storage_relation.proofs.Turning.{Turns, some_same, stored_turned}
use Rattle.storage_relation.specs.Standing.{size_of, Reads, AreKept, AreaStands, heap_holder, held, Alone, AreaOf}
use Rattle.storage_relation.specs.Stored.{Places, made_if, taken_as, slice, StoredAs, with_placed_in}

-- ---- which bytes are taken

pub taken-other : (k : Keeper) (π : Places) (n : ℕ) (bytes : List ℕ) → n ≢ heap_serial → taken_as k π n bytes ≡ bytes
taken-other k π n bytes ne = ap (λ q. cond q (made_if k π.heap_made bytes) bytes) (eqb-other n heap_serial ne)

pub taken-made : (k : Keeper) (π : Places) (n : ℕ) (bytes : List ℕ) → π.heap_made ≡ true → taken_as k π n bytes ≡ bytes
taken-made k π n bytes made = by (n == heap_serial)
  where
    by : (q : Bool) → cond q (made_if k π.heap_made bytes) bytes ≡ bytes
    by true = ap (λ r. made_if k r bytes) made
    by false = refl

alone_other : (s : State) (n : ℕ) (g : Generation) → held s n ≡ Some (Alone g) → n ≢ heap_serial
alone_other s n g e f =
    let at : held s heap_serial ≡ Some (Alone g) = subst (λ i. held s i ≡ Some (Alone g)) f e in
    absurd (cc at)

-- ---- (1) a write in a generation that lives by itself

pub stored_alone :
    (k : Keeper) (π : Places) (s : State) (m b : List ℕ) (x n : ℕ) (g : Generation) (change : Generation → Generation) →
    StoredAs k π s m → held s n ≡ Some (Alone g) → ((y : Generation) → (change y).shape ≡ y.shape) →
    (change g).extent ≡ g.extent →
    x + length b ≤ size_of g → Reads (change g) (with_part b x (part (π.at n) (size_of g) m)) →
    StoredAs k π (with_generation (VariableName n) change s) (with_part b (π.at n + x) m)
stored_alone k π s m b x n g change is e shape extent room reads =
    stored_turned k π s (with_alone n change s) m b x n (Alone g) (Alone (change g)) is turns room
    (subst (Reads (change g)) (sym (taken-other k π n (with_part b x (slice k π n (Alone g) m)) (alone_other s n g e)))
    reads)
  where
    sizes : size_of (change g) ≡ size_of g
    sizes = let f = shape g in cc (f, extent)

    turns : Turns k s (with_alone n change s) n (Alone g) (Alone (change g))
    turns =
        record {
          was = e;
          is = alone_held s n change g shape e;
          others = λ j ne. others_alone s n j change ne;
          size =
              sizes;
        }

-- ---- areas

-- an area's bytes as a whole become others
pub area_turned :
    (k : Keeper) (π : Places) (s : State) (m new : List ℕ) (n : ℕ) (a : AreaContents) (change : List Placed →
    List Placed) →
    StoredAs k π s m → held s n ≡ Some (AreaOf a) → length new ≡ k.bytes_for a.capacity →
    AreaStands k π.signatures (with_placed_in a (change a.placed)) (taken_as k π n new) →
    StoredAs k π (with_area n change s) (with_part new (π.at n) m)
area_turned k π s m new n a change is e long stands =
    let zero' : π.at n + 0 ≡ π.at n = omega arith in
    subst (λ p. StoredAs k π (with_area n change s) (with_part new p m)) zero'
    (stored_turned k π s (with_area n change s) m new 0 n (AreaOf a) (AreaOf (with_placed_in a (change a.placed))) is
    (record { was = e; is = area_held s n change a e; others = λ j ne. others_held s n j change ne; size = refl })
    (omega (arith, long))
    (subst (λ bytes. AreaStands k π.signatures (with_placed_in a (change a.placed)) (taken_as k π n bytes))
    (sym whole) stands))
  where
    own : length (slice k π n (AreaOf a) m) ≡ k.bytes_for a.capacity
    own = length_part (π.at n) (k.bytes_for a.capacity) m (is.inside n (AreaOf a) e)

    whole : with_part new 0 (slice k π n (AreaOf a) m) ≡ new
    whole =
        let l : length (with_part new 0 (slice k π n (AreaOf a) m)) ≡ length (slice k π n (AreaOf a) m) =
        length_with_part new 0 (slice k π n (AreaOf a) m) (omega (arith, own, long))
        in
        ext_get_or 0 (with_part new 0 (slice k π n (AreaOf a) m)) new (omega (arith, l, own, long)) (λ j i.
        let z : 0 + j ≡ j = omega arith in
        ap (slice_index (with_part new 0 (slice k π n (AreaOf a) m))) (sym z)
        ∙ byte_inside new 0 (slice k π n (AreaOf a) m) j (omega arith) (omega (arith, l, own, long, i)))

-- an area in which something is placed has bytes of its own
kept_none :
    (k : Keeper) (t : List Template) (bytes : List ℕ) (a : AreaContents) (is : AreaStands k t a bytes) → is.kept ≡ [] →
    a.placed ≡ []
kept_none k t bytes a is e = by a.placed (subst (λ gs. AreKept k t bytes gs a.placed) e is.are)
  where
    by : (ps : List Placed) → AreKept k t bytes [] ps → ps ≡ []
    by [] h = refl
    by (p ∷ ps) h = absurd h

pub heap_empty :
    (k : Keeper) → Keeps k → (π : Places) (s : State) (m : List ℕ) → StoredAs k π s m → π.heap_made ≡ false →
    s.heap ≡ []
heap_empty k keeps π s m is unmade =
    kept_none k π.signatures (k.made heap_capacity bytes) area stands nothing
  where
    area : AreaContents
    area = record { capacity = heap_capacity; placed = s.heap }

    bytes : List ℕ
    bytes = part (π.at 0) (k.bytes_for heap_capacity) m

    stands :
        AreaStands k π.signatures (record { capacity = heap_capacity; placed = s.heap })
        (k.made heap_capacity (part (π.at 0) (k.bytes_for heap_capacity) m))
    stands =
        let here = is.stands 0 (heap_holder s.heap) refl in
        subst (λ q. AreaStands k π.signatures (record { capacity = heap_capacity; placed = s.heap })
        (made_if k q (part (π.at 0) (k.bytes_for heap_capacity) m))) unmade here

    nothing : stands.kept ≡ []
    nothing =
        let made = keeps.making.made heap_capacity (part (π.at 0) (k.bytes_for heap_capacity) m) (omega arith)
        (omega arith) (length_part (π.at 0) (k.bytes_for heap_capacity) m (is.inside 0 (heap_holder s.heap) refl)) in
        let f = sym made.stands ∙ stands.stands in
        let g : record { capacity = heap_capacity; placed = [] }
        ≡ record { capacity = heap_capacity; placed = stands.kept } = some_same f in
        sym (ap (λ (x : KeptArea). x.placed) g)

pub taken-some :
    (k : Keeper) → Keeps k → (π : Places) (s : State) (m : List ℕ) (n : ℕ) (a : AreaContents) (o : ℕ) (g : Generation)
    (bytes : List ℕ) → StoredAs k π s m →
    held s n ≡ Some (AreaOf a) → placed_at a.placed o ≡ Some g → taken_as k π n bytes ≡ bytes
taken-some k keeps π s m n a o g bytes is e there = by (cases_eq n heap_serial)
  where
    by_made : n ≡ heap_serial → (q : Bool) → π.heap_made ≡ q → taken_as k π n bytes ≡ bytes
    by_made heap true made = taken-made k π n bytes made
    by_made heap false made =
        let none = heap_empty k keeps π s m is made in
        let f : Some (heap_holder s.heap) ≡ Some (AreaOf a) = subst (λ i. held s i ≡ Some (AreaOf a)) heap e in
        let c : record { capacity = heap_capacity; placed = s.heap } ≡ a = cc f in
        let d : a.placed ≡ [] = ap (λ (x : AreaContents). x.placed) (sym c) ∙ none in
        absurd (cc (ap (λ ps. placed_at ps o) (sym d) ∙ there))

    by : (n ≡ heap_serial) ⊎ (n ≢ heap_serial) → taken_as k π n bytes ≡ bytes
    by (inl heap) = by_made heap π.heap_made refl
    by (inr other) = taken-other k π n bytes other

-- (1) a write in a generation in an area or in the heap
pub stored_placed :
    (k : Keeper) → Keeps k → (π : Places) (s : State) (m b : List ℕ) (x n o : ℕ) (a : AreaContents) (g : Generation)
    (change : Generation → Generation) →
    StoredAs k π s m → held s n ≡ Some (AreaOf a) → placed_at a.placed o ≡ Some g →
    (change g).shape ≡ g.shape → (change g).extent ≡ g.extent → x + length b ≤ size_of g →
    Reads (change g) (with_part b x (part (k.data_at o (slice k π n (AreaOf a) m)) (size_of g)
    (slice k π n (AreaOf a) m))) →
    StoredAs k π (with_generation (BasedName n o) change s)
    (with_part b (π.at n + (k.data_at o (slice k π n (AreaOf a) m) + x)) m)
stored_placed k keeps π s m b x n o a g change is e there shape extent room reads =
    stored_turned k π s (with_area n (changed_at o change) s) m b (k.data_at o bytes + x) n (AreaOf a)
    (AreaOf (with_placed_in a (changed_at o change a.placed))) is
    (record {
      was = e;
      is = area_held s n (changed_at o change) a e;
      others =
          λ j ne. others_held s n j (changed_at o change) ne;
      size = refl;
    })
    fits
    (subst (AreaStands k π.signatures (with_placed_in a (changed_at o change a.placed)))
    (sym (taken-some k keeps π s m n a o g (with_part b (k.data_at o bytes + x) bytes) is e there)) after.0)
  where
    bytes : List ℕ
    bytes = slice k π n (AreaOf a) m

    area : AreaStands k π.signatures a (slice k π n (AreaOf a) m)
    area =
        subst (AreaStands k π.signatures a) (taken-some k keeps π s m n a o g (slice k π n (AreaOf a) m) is e there)
        (is.stands n (AreaOf a) e)

    after :
        AreaStands k π.signatures (with_placed_in a (changed_at o change a.placed))
        (with_part b (k.data_at o (slice k π n (AreaOf a) m) + x) (slice k π n (AreaOf a) m))
        × (k.data_at o (with_part b (k.data_at o (slice k π n (AreaOf a) m) + x) (slice k π n (AreaOf a) m))
        ≡ k.data_at o (slice k π n (AreaOf a) m))
    after =
        area_stored k π.signatures keeps a (slice k π n (AreaOf a) m) o g change b x area there room shape extent reads

    fits : k.data_at o (slice k π n (AreaOf a) m) + x + length b ≤ k.bytes_for a.capacity
    fits =
        let f = found k π.signatures (slice k π n (AreaOf a) m) area.kept a.placed o g area.are there in
        let w = keeps.writing.within (slice k π n (AreaOf a) m)
        (record { capacity = a.capacity; placed = area.kept }) o f.0 area.stands f.1 in
        let l = length_part (π.at n) (k.bytes_for a.capacity) m (is.inside n (AreaOf a) e) in
        let z = f.3.size in
        omega (arith, w, l, z, room)

-- ---- (4) areas as a whole

-- EMPTY
pub emptied :
    (k : Keeper) → Keeps k → (π : Places) (s : State) (m : List ℕ) (n : ℕ) (a : AreaContents) → n ≢ heap_serial →
    StoredAs k π s m → held s n ≡ Some (AreaOf a) →
    StoredAs k π (with_area n (λ placed. []) s) (with_part (k.emptied (slice k π n (AreaOf a) m)) (π.at n) m)
emptied k keeps π s m n a ne is e =
    let bytes = slice k π n (AreaOf a) m in
    let area = subst (AreaStands k π.signatures a) (taken-other k π n bytes ne) (is.stands n (AreaOf a) e) in
    let r = area_emptied k π.signatures keeps a bytes area in
    let l = length_part (π.at n) (k.bytes_for a.capacity) m (is.inside n (AreaOf a) e) in
    area_turned k π s m (k.emptied bytes) n a (λ placed. []) is e (r.1 ∙ l)
    (subst (AreaStands k π.signatures (with_placed_in a [])) (sym (taken-other k π n (k.emptied bytes) ne)) r.0)

-- FREE, also in the heap
pub freed :
    (k : Keeper) → Keeps k → (π : Places) (s : State) (m : List ℕ) (n o : ℕ) (a : AreaContents) (g : Generation) →
    StoredAs k π s m → held s n ≡ Some (AreaOf a) →
    placed_at a.placed o ≡ Some g →
    (c : Kept) × (new : List ℕ) × (shape_at π.signatures c.signature ≡ Some g.shape)
    × (k.freed o c.signature (slice k π n (AreaOf a) m) ≡ Some new)
    × StoredAs k π (with_area n (without_offset o) s) (with_part new (π.at n) m)
freed k keeps π s m n o a g is e there =
    let bytes = slice k π n (AreaOf a) m in
    let area : AreaStands k π.signatures a (slice k π n (AreaOf a) m) =
    subst (AreaStands k π.signatures a) (taken-some k keeps π s m n a o g bytes is e there)
    (is.stands n (AreaOf a) e) in
    let f = found k π.signatures bytes area.kept a.placed o g area.are there in
    let r = area_freed k π.signatures keeps a bytes o g area there in
    let l = length_part (π.at n) (k.bytes_for a.capacity) m (is.inside n (AreaOf a) e) in (
      f.0,
      r.0,
      f.3.shape,
      r.1,
      area_turned k π s m r.0 n a (without_offset o) is e (r.2 ∙ l)
          (subst (AreaStands k π.signatures (with_placed_in a (without_offset o a.placed)))
          (sym (taken-some k keeps π s m n a o g r.0 is e there)) r.3),
    )

-- an area assigned to another
pub copied :
    (k : Keeper) → Keeps k → (π : Places) (s : State) (m : List ℕ) (from to : ℕ) (a c : AreaContents) →
    from ≢ heap_serial → to ≢ heap_serial →
    StoredAs k π s m → held s from ≡ Some (AreaOf a) → held s to ≡ Some (AreaOf c) →
    greatest_end a.placed ≤ c.capacity →
    (new : List ℕ) × (k.copied (slice k π from (AreaOf a) m) (slice k π to (AreaOf c) m) ≡ Some new)
    × StoredAs k π (with_area to (λ placed. a.placed) s) (with_part new (π.at to) m)
copied k keeps π s m from to a c ne1 ne2 is e1 e2 small =
    let source = slice k π from (AreaOf a) m in
    let target = slice k π to (AreaOf c) m in
    let x = subst (AreaStands k π.signatures a) (taken-other k π from source ne1) (is.stands from (AreaOf a) e1) in
    let y = subst (AreaStands k π.signatures c) (taken-other k π to target ne2) (is.stands to (AreaOf c) e2) in
    let r = area_copied k π.signatures keeps a c source target x y small in
    let l = length_part (π.at to) (k.bytes_for c.capacity) m (is.inside to (AreaOf c) e2) in (
      r.0,
      r.1,
      area_turned k π s m r.0 to c (λ placed. a.placed) is e2 (r.2 ∙ l)
          (subst (AreaStands k π.signatures (with_placed_in c a.placed)) (sym (taken-other k π to r.0 ne2)) r.3),
    )
