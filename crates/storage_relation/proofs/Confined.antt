-- Memory that changes within one generation's data: elements stored and read, and lists of stores.
use Rattle.std.proofs.Common.{◌≡◌, ◌⊎◌, inl, inr, ℕ, ◌+◌, ◌-◌, ◌<◌, ◌≤◌, List, [], ◌∷◌, take, drop, length, Some, refl}
use Rattle.std.proofs.Common.{sym, ap, ◌∙◌, subst, arith}
use Rattle.std.proofs.lemmas.Bool.{cases_lt}
use Rattle.std.proofs.lemmas.List.{ext_get_or, take-take, take_all}
use Rattle.std.specs.Prelude.{ℤ, ◌==◌, ◌&&◌, slice_index, if◌then◌else◌}
use Rattle.pli_typing.specs.Signatures.{LeafKind, Fixed, Character, Varying, Bit, Pointer, Offset, Area}
use Rattle.pli_meaning.specs.BasicValues.{Name, BasicValue, BasicNumber, BasicText, BasicBit, BasicPointer, BasicOffset}
use Rattle.pli_meaning.specs.Contents.{Generation, kept, seen, same_subscripts}
use Rattle.pli_meaning.specs.Evaluating.{Designated, first_leaf}
use Rattle.pli_meaning.specs.Placing.{with_element}
use Rattle.pli_meaning.specs.StorageState.{State, generation_at, with_generation}
use Rattle.area_keeper.proofs.Agreement.{length_part, length_with_part, byte_part, byte_below, byte_inside, byte_past}
use Rattle.area_keeper.specs.Keeper.{Keeper}
use Rattle.area_keeper.specs.KeeperLaws.{Keeps}
use Rattle.area_keeper.specs.KeptAreas.{part, with_part}
use Rattle.pli_serving.specs.AggregateServices.{Store, stored_in}
use Rattle.pli_serving.specs.Aggregates.{PartFound, element_at}
use Rattle.pli_serving.specs.Stored.{kept_bytes}
use Rattle.pli_serving.specs.Values.{value_at}
use Rattle.storage_relation.proofs.Elements.{size_covers, element_inside, element_stored}
use Rattle.storage_relation.proofs.Kept.{kept_length, kept_told, same_address, as_many_leaves, within_allocated}
use Rattle.storage_relation.proofs.Named.{named_at, stored}
use Rattle.storage_relation.proofs.Slices.{part_around}
use Rattle.storage_relation.proofs.Values.{value_told, told_inside}
use Rattle.storage_relation.specs.Keeping.{IsStorable, IsNow, NowText, NowVarying, NowSame}
use Rattle.storage_relation.specs.Parts.{found_with, now_found, values_after, AreStores}
use Rattle.storage_relation.specs.Standing.{leaf_in, place_in, size_of, Reads, IsPlain, IsElement, address_now}
use Rattle.storage_relation.specs.Standing.{IsElementNow}
use Rattle.storage_relation.specs.Stored.{Places, StoredAs, place_of, AreFalling, IsBeside}
use Rattle.storage_relation.specs.Telling.{IsOf, Tells}

-- ---- memory that changes within some bytes

pub beside_written :
    (b : List ℕ) (p n x : ℕ) (m : List ℕ) → x + length b ≤ n → p + n ≤ length m → IsBeside p n m (with_part b (p + x) m)
beside_written b p n x m h i =
    record {
      as_many = length_with_part b (p + x) m (omega (arith, h, i));
      same = λ j o. by j o;
    }
  where
    by : (j : ℕ) → (j < p) ⊎ (p + n ≤ j) → slice_index (with_part b (p + x) m) j ≡ slice_index m j
    by j (inl below) = byte_below b (p + x) m j (omega (arith, h, i)) (omega (arith, below))
    by j (inr past) = byte_past b (p + x) m j (omega (arith, h, i)) (omega (arith, past, h))

pub beside_both : (p n : ℕ) (a b c : List ℕ) → IsBeside p n a b → IsBeside p n b c → IsBeside p n a c
beside_both p n a b c f g = record { as_many = g.as_many ∙ f.as_many; same = λ j o. g.same j o ∙ f.same j o }

pub beside_none : (p n : ℕ) (m : List ℕ) → IsBeside p n m m
beside_none p n m = record { as_many = refl; same = λ j o. refl }

beside_is :
    (p n : ℕ) (old new : List ℕ) → p + n ≤ length old → IsBeside p n old new → with_part (part p n new) p old ≡ new
beside_is p n old new h is =
    ext_get_or 0 (with_part (part p n new) p old) new (omega (arith, whole, many))
    (λ j i. by j (cases_lt j p) (cases_lt j (p + n)))
  where
    many : length new ≡ length old
    many = is.as_many

    own : length (part p n new) ≡ n
    own = length_part p n new (omega (arith, many, h))

    whole : length (with_part (part p n new) p old) ≡ length old
    whole = length_with_part (part p n new) p old (omega (arith, own, h))

    by :
        (j : ℕ) → (j < p) ⊎ (p ≤ j) → (j < p + n) ⊎ (p + n ≤ j) →
        slice_index (with_part (part p n new) p old) j ≡ slice_index new j
    by j (inl below) q = byte_below (part p n new) p old j (omega (arith, h)) below ∙ sym (is.same j (inl below))
    by j (inr above) (inl under) =
        let e : j ≡ p + (j - p) = omega (arith, above) in
        ap (slice_index (with_part (part p n new) p old)) e
        ∙ byte_inside (part p n new) p old (j - p) (omega (arith, h)) (omega (arith, above, under, own))
        ∙ byte_part p n new (j - p) (omega (arith, above, under))
        ∙ ap (slice_index new) (sym e)
    by j (inr above) (inr past) =
        byte_past (part p n new) p old j (omega (arith, h)) (omega (arith, past, own)) ∙ sym (is.same j (inr past))

part_whole : (b bytes : List ℕ) → length b ≡ length bytes → with_part b 0 bytes ≡ b
part_whole b bytes h =
    let l : length (with_part b 0 bytes) ≡ length bytes = length_with_part b 0 bytes (omega (arith, h)) in
    ext_get_or 0 (with_part b 0 bytes) b (omega (arith, l, h)) (λ j i.
    let z : 0 + j ≡ j = omega arith in
    ap (slice_index (with_part b 0 bytes)) (sym z) ∙ byte_inside b 0 bytes j (omega arith) (omega (arith, l, h, i)))

-- whatever changed within a generation's data, the new generation is read there
pub stored_within :
    (k : Keeper) → Keeps k → (π : Places) (s : State) (m new : List ℕ) (above : ℕ) (n : Name) (g : Generation)
    (change : Generation → Generation) →
    StoredAs k π s m → AreFalling above s.living → generation_at s n ≡ Some g → IsPlain g →
    ((y : Generation) → (change y).shape ≡ y.shape) → (change g).extent ≡ g.extent →
    IsBeside (place_of k π s m n) (size_of g) m new → Reads (change g) (part (place_of k π s m n) (size_of g) new) →
    StoredAs k π (with_generation n change s) new
stored_within k keeps π s m new above n g change is falling e plain shape extent beside reads =
    let p = place_of k π s m n in
    let at = named_at k keeps π s m above n g is falling e plain in
    let i = at.inside in
    let b = part p (size_of g) new in
    let many = beside.as_many in
    let own : length b ≡ size_of g = length_part p (size_of g) new (omega (arith, i, many)) in
    let old : length (part p (size_of g) m) ≡ size_of g = length_part p (size_of g) m i in
    let whole : with_part b 0 (part p (size_of g) m) ≡ b = part_whole b (part p (size_of g) m) (own ∙ sym old) in
    let z : p + 0 ≡ p = omega arith in
    subst (StoredAs k π (with_generation n change s)) (ap (λ q. with_part b q m) z
    ∙ beside_is p (size_of g) m new i beside)
    (stored k keeps π s m b above 0 n g change is falling e plain shape extent (omega (arith, own))
    (subst (Reads (change g)) (sym whole) reads))

-- values that agree on all elements are read alike
pub reads_alike :
    (g : Generation) (values : ℕ → List ℤ → BasicValue) (bytes : List ℕ) → Reads g bytes →
    ((leaf : ℕ) (is : List ℤ) → IsElement g leaf is → values leaf is ≡ g.values leaf is) →
    Reads (record g { values = values }) bytes
reads_alike g values bytes reads alike =
    record {
      elements = λ leaf is h i.
          subst (λ v. Tells (leaf_in g leaf).kind v (place_in g leaf is) bytes) (sym (alike leaf is (h, i)))
          (reads.elements leaf is h i);
    }

pub element_allocated :
    (g : Generation) (z : ℤ) (leaf : ℕ) (is : List ℤ) → IsElementNow g z leaf is → IsElement g leaf is
element_allocated g z leaf is h =
    let a = as_many_leaves g.shape g.extent in
    let b = h.leaf_there in
    (omega (arith, a, b), within_allocated g.shape z g.extent leaf is h.less h.within)

pub address_same :
    (g : Generation) (z : ℤ) (leaf : ℕ) (is : List ℤ) (at : ℕ) → IsElementNow g z leaf is →
    address_now g z leaf is at ≡ at + place_in g leaf is
address_same g z leaf is at h = same_address g.shape z g.extent leaf is at h.leaf_there ∙ omega arith

-- a load: what stands there tells the meaning's value
pub element_read :
    (k : Keeper) → Keeps k → (π : Places) (s : State) (m : List ℕ) (above : ℕ) (n : Name) (g : Generation) (z : ℤ)
    (leaf : ℕ) (is : List ℤ) → StoredAs k π s m → AreFalling above s.living →
    generation_at s n ≡ Some g → IsPlain g → IsElementNow g z leaf is →
    Tells (leaf_in g leaf).kind (g.values leaf is) (address_now g z leaf is (place_of k π s m n)) m
element_read k keeps π s m above n g z leaf is there falling e plain h =
    let p = place_of k π s m n in
    let at = named_at k keeps π s m above n g there falling e plain in
    let own = element_allocated g z leaf is h in
    let i = element_inside g leaf is own in
    let c = size_covers (leaf_in g leaf).kind in
    subst (λ a. Tells (leaf_in g leaf).kind (g.values leaf is) a m) (sym (address_same g z leaf is p h))
    (told_inside (leaf_in g leaf).kind (g.values leaf is) (place_in g leaf is) p (size_of g) m (omega (arith, i, c))
    (at.reads.elements leaf is own.0 own.1))

-- what a service reads there, in the kind in force
pub value_seen :
    (now kind : LeafKind) (v : BasicValue) (at : ℕ) (m : List ℕ) → IsNow now kind → Tells kind v at m →
    value_at now at m ≡ seen now v
value_seen now kind (BasicText t) at m (NowText n more) is =
    let size : length t ≡ n + more = is.fits in
    let long : part at (n + more) m ≡ t = ap (λ c. part at c m) (sym size) ∙ is.tells in
    ap BasicText (sym (take-take n (n + more) (drop at m) (omega arith)) ∙ ap (take n) long)
value_seen now kind (BasicNumber z) at m (NowText n more) is = absurd is.fits
value_seen now kind (BasicBit z) at m (NowText n more) is = absurd is.fits
value_seen now kind (BasicPointer z) at m (NowText n more) is = absurd is.fits
value_seen now kind (BasicOffset z) at m (NowText n more) is = absurd is.fits
value_seen now kind v at m (NowVarying n w) is = value_told (Varying w) v at m is
value_seen now kind v at m (NowSame k) is = value_told k v at m is ∙ whole k v is.fits
  where
    whole : (k : LeafKind) (v : BasicValue) → IsOf k v → v ≡ seen k v
    whole (Character n) (BasicText t) h = ap BasicText (sym (take_all n t (omega (arith, h))))
    whole (Character n) (BasicNumber z) h = refl
    whole (Character n) (BasicBit z) h = refl
    whole (Character n) (BasicPointer z) h = refl
    whole (Character n) (BasicOffset z) h = refl
    whole (Fixed n) v h = refl
    whole (Varying n) v h = refl
    whole Bit v h = refl
    whole Pointer v h = refl
    whole Offset v h = refl
    whole (Area n) v h = refl

-- a store, as the meaning assigns an element
pub element_assigned :
    (k : Keeper) → Keeps k → (π : Places) (s : State) (m : List ℕ) (above : ℕ) (d : Designated) (v : BasicValue) →
    StoredAs k π s m → AreFalling above s.living →
    generation_at s d.name ≡ Some d.generation → IsPlain d.generation →
    IsElementNow d.generation d.extent d.part.first d.subscripts →
    IsStorable (first_leaf d).kind (leaf_in d.generation d.part.first).kind v →
    StoredAs k π (with_generation d.name (with_element d v) s)
    (with_part (kept_bytes (first_leaf d).kind v) (address_now d.generation d.extent d.part.first d.subscripts
    (place_of k π s m d.name)) m)
element_assigned k keeps π s m above d v is falling e plain h storable =
    let g = d.generation in
    let leaf = d.part.first in
    let js = d.subscripts in
    let p = place_of k π s m d.name in
    let at = named_at k keeps π s m above d.name g is falling e plain in
    let own = element_allocated g d.extent leaf js h in
    let i = element_inside g leaf js own in
    let c = size_covers (leaf_in g leaf).kind in
    let few = kept_length (first_leaf d).kind (leaf_in g leaf).kind v storable in
    let inside = at.inside in
    let long : length (part p (size_of g) m) ≡ size_of g = length_part p (size_of g) m inside in
    let told = kept_told (first_leaf d).kind (leaf_in g leaf).kind v (g.values leaf js) (place_in g leaf js)
    (part p (size_of g) m) storable (omega (arith, i, c, long)) (at.reads.elements leaf js own.0 own.1) in
    let reads = element_stored g leaf js (kept (first_leaf d).kind (g.values leaf js) v)
    (kept_bytes (first_leaf d).kind v) (part p (size_of g) m) at.reads long own (omega (arith, few, c)) told in
    subst (λ a. StoredAs k π (with_generation d.name (with_element d v) s)
    (with_part (kept_bytes (first_leaf d).kind v) a m)) (sym (address_same g d.extent leaf js p h))
    (stored k keeps π s m (kept_bytes (first_leaf d).kind v) above (place_in g leaf js) d.name g
    (with_element d v) is falling e plain (λ y. refl) refl (omega (arith, few, c, i)) reads)

pub stores_read :
    (p : PartFound) (ss : List Store) (values : ℕ → List ℤ → BasicValue) (m : List ℕ) → AreStores p ss →
    p.found.at + size_of (found_with p values) ≤ length m →
    Reads (found_with p values) (part p.found.at (size_of (found_with p values)) m) →
    Reads (found_with p (values_after p ss values)) (part p.found.at (size_of (found_with p values)) (stored_in p ss m))
    × IsBeside p.found.at (size_of (found_with p values)) m (stored_in p ss m)
stores_read p [] values m are inside reads = (reads, beside_none p.found.at (size_of (found_with p values)) m)
stores_read p (s ∷ ss) values m are inside reads =
    let g = found_with p values in
    let leaf = s.0.0 in
    let js = s.0.1 in
    let at = p.found.at in
    let now = now_found p leaf in
    let own : IsElement g leaf js = are.0.there in
    let i = element_inside g leaf js own in
    let c = size_covers (leaf_in g leaf).kind in
    let few = kept_length now (leaf_in g leaf).kind s.1 are.0.storable in
    let b = kept_bytes now s.1 in
    let long : length (part at (size_of g) m) ≡ size_of g = length_part at (size_of g) m inside in
    let told = kept_told now (leaf_in g leaf).kind s.1 (values leaf js) (place_in g leaf js)
    (part at (size_of g) m) are.0.storable (omega (arith, i, c, long)) (reads.elements leaf js own.0 own.1) in
    let one = element_stored g leaf js (kept now (values leaf js) s.1) b (part at (size_of g) m) reads long own
    (omega (arith, few, c)) told in
    let here : element_at p.part.generation.shape p.found s.0 ≡ at + place_in g leaf js = omega arith in
    let around : part at (size_of g) (with_part b (element_at p.part.generation.shape p.found s.0) m)
    ≡ with_part b (place_in g leaf js) (part at (size_of g) m) =
    ap (λ a. part at (size_of g) (with_part b a m)) here ∙ part_around at (size_of g) b (place_in g leaf js) m
    (omega (arith, few, c, i)) inside
    in
    let first : IsBeside at (size_of g) m (with_part b (element_at p.part.generation.shape p.found s.0) m) =
    subst (λ a. IsBeside at (size_of g) m (with_part b a m)) (sym here)
    (beside_written b at (size_of g) (place_in g leaf js) m (omega (arith, few, c, i)) inside)
    in
    let l = first.as_many in
    let next' : ℕ → List ℤ → BasicValue = λ u vs. if (u == leaf)
    && same_subscripts vs js then kept now (values leaf js) s.1 else values u vs in
    let rest = stores_read p ss next' (with_part b (element_at p.part.generation.shape p.found s.0) m) are.1
    (omega (arith, l, inside)) (subst (Reads (found_with p next')) (sym around) one) in (
      rest.0,
      beside_both at (size_of g) m (with_part b (element_at p.part.generation.shape p.found s.0) m)
          (stored_in p (s ∷ ss) m) first rest.1,
    )
