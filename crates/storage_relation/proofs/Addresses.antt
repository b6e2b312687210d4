-- Addresses stay: what a name names stands where it stood after ALLOCATE and after FREE, in areas and in the heap.
use Rattle.std.proofs.Common.{◌≡◌, ◌≢◌, ◌⊎◌, inl, inr, ℕ, ◌+◌, ◌≤◌, List, [], ◌∷◌, length, Some, false, refl, sym, ap}
use Rattle.std.proofs.Common.{◌∙◌, subst, arith}
use Rattle.std.proofs.lemmas.Bool.{cases_eq}
use Rattle.pli_meaning.specs.BasicValues.{Name, NullName, VariableName, BasedName}
use Rattle.pli_meaning.specs.Contents.{Generation, placed_at}
use Rattle.pli_meaning.specs.StorageState.{State, AreaContents, area_at, generation_at, with_area, heap_serial}
use Rattle.pli_meaning.specs.StorageState.{heap_capacity}
use Rattle.area_keeper.specs.Keeper.{Kept, KeptArea, Keeper}
use Rattle.area_keeper.specs.KeeperLaws.{Keeps, SamePlaces, Leaves}
use Rattle.area_keeper.specs.KeptAreas.{kept_as, kept_at, with_kept, without_kept, part, with_part}
use Rattle.storage_relation.proofs.AreaLaws.{alike, found, kept_placed}
use Rattle.storage_relation.proofs.Holders.{area_held, others_held}
use Rattle.storage_relation.proofs.Named.{area_holder, based_in, in_all, place_in_list}
use Rattle.storage_relation.proofs.Placing.{part_nested}
use Rattle.storage_relation.proofs.Slices.{part_beside, part_written}
use Rattle.storage_relation.proofs.Storing.{taken-some, heap_empty}
use Rattle.storage_relation.proofs.Turning.{some_same}
use Rattle.storage_relation.specs.Served.{Now, Holds, place_now}
use Rattle.storage_relation.specs.Standing.{size_of, AreaStands, held, AreaOf}
use Rattle.storage_relation.specs.Stored.{Places, Beside, slice, StoredAs, place_held, taken_as}
use Rattle.storage_relation.proofs.Turned.{bytes_now, Turn, place_then, StaysIn, Freeing, Placing}

pub place_turned :
    (w : Now) → Holds w → (n : ℕ) (t : Turn w n) (p : Name) (h : Generation) → generation_at w.state p ≡ Some h →
    StaysIn w n t p → place_then w n t p ≡ place_now w p
place_turned w holds n t NullName h e stays = refl
place_turned w holds n t (VariableName j) h e stays = refl
place_turned w holds n t (BasedName j o) h e stays = by (cases_eq j n)
  where
    k : Keeper
    k = w.keeper

    π : Places
    π = w.places

    m : List ℕ
    m = w.memory

    is : StoredAs w.keeper w.places w.state w.memory
    is = holds.stored

    c : (a : AreaContents) × (area_at w.state j ≡ Some a) × (placed_at a.placed o ≡ Some h)
    c = based_in (area_at w.state j) o h e

    here : held w.state j ≡ Some (AreaOf c.0)
    here = area_holder w.state j c.0 c.1

    own : held w.state n ≡ Some (AreaOf t.area)
    own = area_holder w.state n t.area t.was

    s' : State
    s' = with_area n t.change w.state

    m' : List ℕ
    m' = with_part t.bytes (w.places.at n) w.memory

    aside :
        (x : ℕ) → Beside (w.places.at j) x (w.places.at n) (w.keeper.bytes_for t.area.capacity) →
        (w.places.at j + x ≤ w.places.at n) ⊎ (w.places.at n + length t.bytes ≤ w.places.at j)
    aside x (inl l) = inl l
    aside x (inr r) = let long = t.long in inr (omega (arith, r, long))

    by : (j ≡ n) ⊎ (j ≢ n) → place_held w.keeper w.places m' j o (held s' j)
        ≡ place_held w.keeper w.places w.memory j o (held w.state j)
    by (inr ne) =
        let whole = is.inside n (AreaOf t.area) own in
        let long = t.long in
        let stay : slice k π j (AreaOf c.0) m' ≡ slice k π j (AreaOf c.0) m =
        part_beside (π.at j) (k.bytes_for c.0.capacity) t.bytes (π.at n) m (omega (arith, whole, long))
        (is.inside j (AreaOf c.0) here)
        (aside (k.bytes_for c.0.capacity) (is.apart j n (AreaOf c.0) (AreaOf t.area) ne here own))
        in
        ap (place_held k π m' j o) (others_held w.state n j t.change ne ∙ here)
        ∙ ap (λ b. π.at j + k.data_at o b) stay
        ∙ sym (ap (place_held k π m j o) here)
    by (inl same) =
        let at_n : held w.state n ≡ Some (AreaOf c.0) = subst (λ u. held w.state u ≡ Some (AreaOf c.0)) same here in
        let one : t.area ≡ c.0 = cc (sym own ∙ at_n) in
        let there : placed_at t.area.placed o
        ≡ Some h = subst (λ (z : AreaContents). placed_at z.placed o ≡ Some h) (sym one) c.2 in
        let whole = is.inside n (AreaOf t.area) own in
        let long = t.long in
        let read : part (π.at n) (k.bytes_for t.area.capacity) m' ≡ t.bytes =
        ap (λ x. part (π.at n) x m') (sym long) ∙ part_written t.bytes (π.at n) m (omega (arith, whole, long))
        in
        ap (λ u. place_held k π m' u o (held s' u)) same
        ∙ ap (place_held k π m' n o) (area_held w.state n t.change t.area own)
        ∙ ap (λ b. π.at n + k.data_at o b) read
        ∙ ap (λ x. π.at n + x) (stays o h (ap (λ u. BasedName u o) same) there)
        ∙ sym (ap (place_held k π m n o) own)
        ∙ ap (λ u. place_held k π m u o (held w.state u)) (sym same)

-- ---- FREE

pub area_stands :
    (w : Now) → Holds w → (n : ℕ) (a : AreaContents) (o : ℕ) (g : Generation) → area_at w.state n ≡ Some a →
    placed_at a.placed o ≡ Some g →
    AreaStands w.keeper w.places.signatures a (bytes_now w n a)
area_stands w holds n a o g e there =
    let own = area_holder w.state n a e in
    subst (AreaStands w.keeper w.places.signatures a)
    (taken-some w.keeper holds.keeps w.places w.state w.memory n a o g (bytes_now w n a) holds.stored own there)
    (holds.stored.stands n (AreaOf a) own)

freed_places :
    (w : Now) → Keeps w.keeper → (n : ℕ) (t : Turn w n) (x : Freeing w n t) →
    (is : AreaStands w.keeper w.places.signatures t.area (bytes_now w n t.area)) →
    SamePlaces w.keeper (without_kept x.offset is.kept) (bytes_now w n t.area) t.bytes
freed_places w keeps n t x is = by (cases_eq f.0.signature x.signature)
  where
    k : Keeper
    k = w.keeper

    a : AreaContents
    a = t.area

    bytes : List ℕ
    bytes = bytes_now w n t.area

    new : List ℕ
    new = t.bytes

    o : ℕ
    o = x.offset

    f : (c : Kept) × (kept_at is.kept x.offset ≡ Some c)
    f =
        let r = found w.keeper w.places.signatures bytes is.kept a.placed x.offset x.generation is.are x.there in
        (r.0, r.1)

    area : KeptArea
    area = record { capacity = a.capacity; placed = is.kept }

    by :
        (f.0.signature ≡ x.signature) ⊎ (f.0.signature ≢ x.signature) →
        SamePlaces w.keeper (without_kept x.offset is.kept) (bytes_now w n t.area) t.bytes
    by (inl same) =
        let r = keeps.freeing.freed o x.signature bytes area f.0 is.stands f.1 same in
        let one : r.0 ≡ new = some_same (sym r.1 ∙ x.freed_so) in
        subst (SamePlaces k (without_kept o is.kept) bytes) one r.2.places_stay
    by (inr other) =
        absurd (cc (sym (keeps.freeing.another o x.signature bytes area f.0 is.stands f.1 other) ∙ x.freed_so))

-- every name but the freed one
pub freed_stay :
    (w : Now) → Holds w → (n : ℕ) (t : Turn w n) (f : Freeing w n t) (p : Name) (h : Generation) →
    generation_at w.state p ≡ Some h → p ≢ BasedName n f.offset → place_then w n t p ≡ place_now w p
freed_stay w holds n t f p h lives other =
    let is = area_stands w holds n t.area f.offset f.generation t.was f.there in
    let bytes = bytes_now w n t.area in
    let places = freed_places w holds.keeps n t f is in
    place_turned w holds n t p h lives
    (λ q x same own.
    let r = found w.keeper w.places.signatures bytes is.kept t.area.placed q x is.are own in
    subst (λ i. w.keeper.data_at i t.bytes ≡ w.keeper.data_at i bytes) r.2
    (place_in_list w.keeper bytes t.bytes is.kept f.offset q r.0 places (λ z. other (same ∙ ap (BasedName n) (sym z)))
    r.1))

-- ---- ALLOCATE

same_places :
    (k : Keeper) (a b c : List ℕ) (gs : List Kept) → SamePlaces k gs a b → SamePlaces k gs b c → SamePlaces k gs a c
same_places k a b c [] f g = tt
same_places k a b c (x ∷ gs) f g = (g.0 ∙ f.0, same_places k a b c gs f.1 g.1)

allocated_places :
    (w : Now) → Keeps w.keeper → (n : ℕ) (t : Turn w n) (x : Placing w n t) →
    (is : AreaStands w.keeper w.places.signatures t.area (bytes_now w n t.area)) →
    SamePlaces w.keeper is.kept (bytes_now w n t.area) t.bytes
allocated_places w keeps m t x is =
    subst (SamePlaces w.keeper is.kept bytes) (sym x.written)
    (subst (λ y. SamePlaces w.keeper is.kept bytes (with_part spelled (w.keeper.data_at o y) y)) one
    (same_places w.keeper bytes p.0 (with_part spelled (w.keeper.data_at o p.0) p.0) is.kept p.2.places_stay
    (subst (λ gs. SamePlaces w.keeper gs p.0 (with_part spelled (w.keeper.data_at o p.0) p.0)) there.1
    written.places_stay)))
  where
    a : AreaContents
    a = t.area

    bytes : List ℕ
    bytes = bytes_now w m t.area

    spelled : List ℕ
    spelled = x.spelled

    o : ℕ
    o = x.offset

    g : Generation
    g = x.generation

    signature : ℕ
    signature = x.signature

    area : KeptArea
    area = record { capacity = a.capacity; placed = is.kept }

    n : Kept
    n = kept_as o (size_of g) signature g.extent

    p :
        (new : List ℕ) × (w.keeper.allocated (size_of g) signature g.extent bytes ≡ Some (o, new))
        × Leaves w.keeper is.kept a.capacity (with_kept n is.kept) bytes new
    p =
        keeps.allocating.placed (size_of g) signature g.extent bytes area a.placed o is.stands
        (alike w.keeper w.places.signatures bytes is.kept a.placed is.are) x.small x.fits x.free

    bigger : KeptArea
    bigger = record { capacity = a.capacity; placed = with_kept n is.kept }

    there : (kept_at (with_kept n is.kept) o ≡ Some n) × (without_kept o (with_kept n is.kept) ≡ is.kept)
    there = kept_placed 0 a.capacity n is.kept (keeps.order.ordered p.0 bigger p.2.becomes.stands)

    written : Leaves w.keeper (without_kept o (with_kept n is.kept)) a.capacity (with_kept n is.kept) p.0
        (with_part spelled (w.keeper.data_at o p.0) p.0)
    written =
        (keeps.writing.written p.0 bigger o n spelled (w.keeper.data_at o p.0) p.2.becomes.stands there.0
        (omega arith) (let l = x.length_same in omega (arith, l))).0

    one : p.0 ≡ x.headed
    one = second (some_same (sym p.1 ∙ x.allocated_so))
      where
        second : {x y : ℕ × List ℕ} → x ≡ y → x.1 ≡ y.1
        second h = ap (λ z. z.1) h

-- every name, in an area whose bytes are an area's
pub allocated_stay :
    (w : Now) → Holds w → (n : ℕ) (t : Turn w n) → Placing w n t →
    ((bytes : List ℕ) → taken_as w.keeper w.places n bytes ≡ bytes) → (p : Name) (h : Generation) →
    generation_at w.state p ≡ Some h → place_then w n t p ≡ place_now w p
allocated_stay w holds n t x taken p h lives =
    let bytes = bytes_now w n t.area in
    let own = area_holder w.state n t.area t.was in
    let area = subst (AreaStands w.keeper w.places.signatures t.area) (taken bytes)
    (holds.stored.stands n (AreaOf t.area) own) in
    let all = allocated_places w holds.keeps n t x area in
    place_turned w holds n t p h lives
    (λ q own same there.
    let r = found w.keeper w.places.signatures bytes area.kept t.area.placed q own area.are there in
    subst (λ i. w.keeper.data_at i t.bytes ≡ w.keeper.data_at i bytes) r.2
    (in_all w.keeper bytes t.bytes area.kept q r.0 all r.1))

-- the first one in the heap, in which nothing was placed before
pub first_stay :
    (w : Now) → Holds w → (t : Turn w heap_serial) → w.places.heap_made ≡ false → (p : Name) (h : Generation) →
    generation_at w.state p ≡ Some h → place_then w heap_serial t p ≡ place_now w p
first_stay w holds t unmade p h lives =
    place_turned w holds heap_serial t p h lives
    (λ q x same there.
    let none = heap_empty w.keeper holds.keeps w.places w.state w.memory holds.stored unmade in
    let f : record { capacity = heap_capacity; placed = w.state.heap } ≡ t.area = some_same t.was in
    let empty : t.area.placed ≡ [] = ap (λ (a : AreaContents). a.placed) (sym f) ∙ none in
    let nothing : placed_at [] q ≡ Some x = subst (λ ps. placed_at ps q ≡ Some x) empty there in
    absurd (cc nothing))

-- memory as ALLOCATE leaves it, with the data behind the header, is memory with the area's other bytes
pub memory_placed :
    (new spelled : List ℕ) (at d : ℕ) (m : List ℕ) → d + length spelled ≤ length new → at + length new ≤ length m →
    with_part spelled (at + d) (with_part new at m) ≡ with_part (with_part spelled d new) at m
memory_placed new spelled at d m h i = part_nested spelled new at d m h i
