-- What a keeper makes of a generation that it places: it is kept at its offset, within the capacity.
use Rattle.std.proofs.Common.{◌≡◌, ◌≢◌, ℕ, zero, suc, ◌+◌, ◌≤◌, ◌<◌, ◌^◌, ℤ, List, [], ◌∷◌, ◌++◌, length, take, drop, Option, Some, None, Ok, Err, Bool, true, false, refl, sym, ap, subst, ◌∙◌, arith, append_assoc, zero-add, length-take, length-drop}
use Rattle.std.specs.Prelude.{◌==◌, ◌⊎◌, FitsSigned, IsSome, nat_le, nat_lt, if◌then◌else◌}
use Rattle.std.specs.Int.{w32}
use Rattle.std.proofs.lemmas.Bool.Decides.{nat_tests}
use Rattle.std.proofs.lemmas.List.{drop-append-le, drop-drop, length-take-le, nil_from_length, take-append-le}
use Rattle.pli_values.proofs.Parts.{length_with, with_none}
use Rattle.pli_storage.proofs.Parts.{put_or}
use Rattle.pli_typing.specs.Signatures.{capped, data_size, footprint}
use Rattle.pli_meaning.specs.Contents.{AreApart, Generation, IsGap, Placed, end_of, footprint_of, gap, signature_of}
use Rattle.area_keeper.specs.Keeper.{Kept, KeptArea, Keeper}
use Rattle.area_keeper.specs.KeeperLaws.{Keeps, KeepsAlike, Leaves, PlacesAtLeast}
use Rattle.area_keeper.specs.KeptAreas.{Alike, kept_as, kept_at, with_kept}
use Rattle.area_keeper.proofs.Alikeness.{keeps_alike}
use Rattle.area_heap.specs.Answers.{bytes_or, kept_of, of_signature, offset_or_fault, placed_or, start_or_fault}
use Rattle.area_heap.specs.declared.fault.AreaFault.{AreaFault}
use Rattle.pli_serving.specs.Bytes.{bytes_at, with_bytes}
use Rattle.pli_serving.specs.Values.{generation_bytes}
use Rattle.pli_allocation.specs.Beginnings.{IsBegun}
use Rattle.pli_allocation.specs.Placing.{IsKept, IsWithin, bytes_placed, memory_placed, placing}
use Rattle.pli_allocation.specs.declared.beginning.Beginning.{Beginning}

-- ---- no other generation is at the offset of a gap

abbrev pub NoneAt : (offset : ℕ) → List Kept → Type 0
NoneAt offset [] = Unit {0}
NoneAt offset (g ∷ gs) = (g.offset ≢ offset) × NoneAt offset gs

apart_from : (p : Placed) (offset bytes : ℕ) → 0 < bytes → (end_of p ≤ offset) ⊎ (offset + bytes ≤ p.offset) → p.offset ≢ offset
apart_from p offset bytes some h e = let z : footprint_of p.generation ≡ footprint_of p.generation = refl in grind (arith, some, h, e)

none_at : (gs : List Kept) (ps : List Placed) (offset bytes : ℕ) → 0 < bytes → Alike gs ps → AreApart offset bytes ps → NoneAt offset gs
none_at [] [] offset bytes some h a = tt
none_at [] (p ∷ ps) offset bytes some h a = absurd h
none_at (g ∷ gs) [] offset bytes some h a = absurd h
none_at (g ∷ gs) (p ∷ ps) offset bytes some h a =
    let other = apart_from p offset bytes some a.0 in
    (λ e. other (sym h.0 ∙ e), none_at gs ps offset bytes some h.2 a.1)

eq_false : (a b : ℕ) → a ≢ b → (a == b) ≡ false
eq_false a b e = grind (arith, nat_tests)

eq_same : (a : ℕ) → (a == a) ≡ true
eq_same a = grind (arith, nat_tests)

here : (g : Kept) (gs : List Kept) → kept_at (g ∷ gs) g.offset ≡ Some g
here g gs = ap (λ t. if t then Some g else kept_at gs g.offset) (eq_same g.offset)

pub kept_there : (n : Kept) (gs : List Kept) → NoneAt n.offset gs → kept_at (with_kept n gs) n.offset ≡ Some n
kept_there n [] h = here n []
kept_there n (g ∷ gs) h = by_test (nat_lt n.offset g.offset) (kept_there n gs h.1)
  where
    by_test : (t : Bool) → kept_at (with_kept n gs) n.offset ≡ Some n → kept_at (if t then n ∷ g ∷ gs else g ∷ with_kept n gs) n.offset ≡ Some n
    by_test true further = here n (g ∷ gs)
    by_test false further = ap (λ t. if t then Some g else kept_at (with_kept n gs) n.offset) (eq_false g.offset n.offset h.0) ∙ further

-- ---- what is placed

pub record IsPlaced (k : Keeper) (size signature : ℕ) (extent : ℤ) (bytes : List ℕ) (a : KeptArea) (offset : ℕ) (new : List ℕ) : Type 0 where
  pub within : offset + footprint size ≤ a.capacity
  pub leaves : Leaves k a.placed a.capacity (with_kept (kept_as offset size signature extent) a.placed) bytes new
  pub kept : kept_at (with_kept (kept_as offset size signature extent) a.placed) offset ≡ Some (kept_as offset size signature extent)

same_pair : (x y : ℕ × List ℕ) → Some x ≡ Some y → x ≡ y
same_pair x y e = cc e

no_pair : (x : ℕ × List ℕ) → None ≡ Some x → ⊥
no_pair x e = cc e

leaves_at : (k : Keeper) (size signature : ℕ) (extent : ℤ) (bytes : List ℕ) (a : KeptArea) (x y : ℕ × List ℕ) → x ≡ y → Leaves k a.placed a.capacity (with_kept (kept_as x.0 size signature extent) a.placed) bytes x.1 → Leaves k a.placed a.capacity (with_kept (kept_as y.0 size signature extent) a.placed) bytes y.1
leaves_at k size signature extent bytes a x y e l = subst (λ (z : ℕ × List ℕ). Leaves k a.placed a.capacity (with_kept (kept_as z.0 size signature extent) a.placed) bytes z.1) e l

pub is_placed : (k : Keeper) → Keeps k → PlacesAtLeast → (size signature : ℕ) (extent : ℤ) (bytes : List ℕ) (a : KeptArea) (offset : ℕ) (new : List ℕ) → signature < 2 ^ 32 → FitsSigned w32 extent → k.area_of bytes ≡ Some a → k.allocated size signature extent bytes ≡ Some (offset, new) → IsPlaced k size signature extent bytes a offset new
is_placed k keeps at_least size signature extent bytes a offset new small fits e r =
    let some = keeps_alike.some a.placed in
    let least : IsGap a.capacity (footprint size) some.0 offset = at_least k keeps size signature extent bytes a some.0 offset new e some.1 small fits r in
    record {
      within = least.fits.within;
      leaves = by_gap some.0 some.1 (gap a.capacity (footprint size) some.0) refl;
      kept = kept_there (kept_as offset size signature extent) a.placed (none_at a.placed some.0 offset (footprint size) (omega arith) some.1 least.fits.apart);
    }
  where
    by_gap : (ps : List Placed) → Alike a.placed ps → (g : Option ℕ) → gap a.capacity (footprint size) ps ≡ g → Leaves k a.placed a.capacity (with_kept (kept_as offset size signature extent) a.placed) bytes new
    by_gap ps alike None q = absurd (no_pair (offset, new) (sym (keeps.allocating.refused size signature extent bytes a ps e alike q) ∙ r))
    by_gap ps alike (Some p) q =
        let found = keeps.allocating.placed size signature extent bytes a ps p e alike small fits q in
        leaves_at k size signature extent bytes a (p, found.0) (offset, new) (same_pair (p, found.0) (offset, new) (sym found.1 ∙ r)) found.2

-- ---- what has no gap

pub no_room : (k : Keeper) → Keeps k → PlacesAtLeast → (size signature : ℕ) (extent : ℤ) (bytes : List ℕ) (a : KeptArea) → signature < 2 ^ 32 → FitsSigned w32 extent → k.area_of bytes ≡ Some a → a.capacity < footprint size → k.allocated size signature extent bytes ≡ None
no_room k keeps at_least size signature extent bytes a small fits e h = by_result (k.allocated size signature extent bytes) refl
  where
    by_result : (o : Option (ℕ × List ℕ)) → k.allocated size signature extent bytes ≡ o → o ≡ None
    by_result None r = refl
    by_result (Some p) r = let it = is_placed k keeps at_least size signature extent bytes a p.0 p.1 small fits e r in absurd (omega (arith, it.within, h))

-- the empty area has a gap for all that its capacity holds
pub has_room : (k : Keeper) → Keeps k → (size signature : ℕ) (extent : ℤ) (bytes : List ℕ) (a : KeptArea) → signature < 2 ^ 32 → FitsSigned w32 extent → k.area_of bytes ≡ Some a → a.placed ≡ [] → footprint size ≤ a.capacity → (new : List ℕ) × (k.allocated size signature extent bytes ≡ Some (0, new))
has_room k keeps size signature extent bytes a small fits e empty h =
    let fitting : gap a.capacity (footprint size) [] ≡ Some 0 = grind (arith, nat_tests, h) in
    let alike : Alike a.placed [] = subst (λ (gs : List Kept). Alike gs []) (sym empty) tt in
    let found = keeps.allocating.placed size signature extent bytes a [] 0 e alike small fits fitting in
    (found.0, found.1)

-- ---- a generation that is kept

found_at : (k : Keeper) (bytes : List ℕ) (offset signature : ℕ) (o : Option KeptArea) (a : KeptArea) (g : Kept) → o ≡ Some a → kept_at a.placed offset ≡ Some g → g.offset ≡ offset → g.signature ≡ signature → start_or_fault k bytes (kept_of offset signature o) ≡ Ok (k.data_at offset bytes)
found_at k bytes offset signature o a g e f at s =
    let same : (g.signature == signature) ≡ true = ap (λ n. n == signature) s ∙ eq_same signature in
    ap (λ o. start_or_fault k bytes (kept_of offset signature o)) e
    ∙ ap (λ o. start_or_fault k bytes (of_signature signature o)) f
    ∙ ap (λ (t : Bool). start_or_fault k bytes (if t then Some g else None)) same
    ∙ ap (λ n. Ok (k.data_at n bytes)) at

pub found_start : (k : Keeper) (offset signature count : ℕ) (bytes : List ℕ) → IsKept k offset signature count bytes → start_or_fault k bytes (kept_of offset signature (k.area_of bytes)) ≡ Ok (k.data_at offset bytes)
found_start k offset signature count bytes i = found_at k bytes offset signature (k.area_of bytes) i.area i.kept i.stands i.there i.offset_is i.signature_is

pub start_is : (k : Keeper) (offset signature count start : ℕ) (bytes : List ℕ) → IsKept k offset signature count bytes → Ok start ≡ start_or_fault k bytes (kept_of offset signature (k.area_of bytes)) → start ≡ k.data_at offset bytes
start_is k offset signature count start bytes i e = let f : Ok start ≡ Ok (k.data_at offset bytes) = e ∙ found_start k offset signature count bytes i in cc

pub no_fault : (k : Keeper) (offset signature count : ℕ) (bytes : List ℕ) (fault : AreaFault) → IsKept k offset signature count bytes → Err fault ≡ start_or_fault k bytes (kept_of offset signature (k.area_of bytes)) → ⊥
no_fault k offset signature count bytes fault i e = let f : Err fault ≡ Ok (k.data_at offset bytes) = e ∙ found_start k offset signature count bytes i in cc

pub kept_inside : (k : Keeper) (offset signature count start : ℕ) (bytes : List ℕ) → Keeps k → IsKept k offset signature count bytes → start ≡ k.data_at offset bytes → start + count ≤ length bytes
kept_inside k offset signature count start bytes keeps i e =
    let inside = keeps.writing.within bytes i.area offset i.kept i.stands i.there in
    let room = i.room in
    omega (arith, inside, room, e)

-- ---- what is kept after a generation was placed

pub allocated_is : (o : Option (ℕ × List ℕ)) (offset : ℕ) (old new : List ℕ) → Ok offset ≡ offset_or_fault o → new ≡ placed_or old o → o ≡ Some (offset, new)
allocated_is None offset old new e f = cc
allocated_is (Some p) offset old new e f =
    let at : offset ≡ p.0 = cc in
    λ i. Some (sym at i, sym f i)

pub is_kept : (k : Keeper) → Keeps k → PlacesAtLeast → (size signature : ℕ) (extent : ℤ) (bytes : List ℕ) (a : KeptArea) (offset : ℕ) (new : List ℕ) (count : ℕ) → signature < 2 ^ 32 → FitsSigned w32 extent → k.area_of bytes ≡ Some a → k.allocated size signature extent bytes ≡ Some (offset, new) → count ≤ size → IsKept k offset signature count new
is_kept k keeps at_least size signature extent bytes a offset new count small fits e r room =
    let it = is_placed k keeps at_least size signature extent bytes a offset new small fits e r in
    record {
      area = record { capacity = a.capacity; placed = with_kept (kept_as offset size signature extent) a.placed };
      kept = kept_as offset size signature extent;
      stands = it.leaves.becomes.stands;
      there = it.kept;
      offset_is = refl;
      signature_is = refl;
      room = room;
    }

some_area : (o : Option KeptArea) → IsSome o → (a : KeptArea) × (o ≡ Some a)
some_area None i = absurd (cc)
some_area (Some a) i = (a, refl)

pub kept_after : (k : Keeper) (size signature : ℕ) (extent : ℤ) (bytes : List ℕ) (offset : ℕ) (new : List ℕ) (count : ℕ) → Keeps k → PlacesAtLeast → IsSome (k.area_of bytes) → signature < 2 ^ 32 → FitsSigned w32 extent → Ok offset ≡ offset_or_fault (k.allocated size signature extent bytes) → new ≡ placed_or bytes (k.allocated size signature extent bytes) → count ≤ size → IsKept k offset signature count new
kept_after k size signature extent bytes offset new count keeps at_least i small fits answer after room =
    let a = some_area (k.area_of bytes) i in
    is_kept k keeps at_least size signature extent bytes a.0 offset new count small fits a.1 (allocated_is (k.allocated size signature extent bytes) offset bytes new answer after) room

-- ---- by what code holds of a generation

size_is : (n size : ℕ) → size ≡ capped n → size ≤ 2 ^ 22 → n ≡ size
size_is n size e h = omega (arith, e, h)

too_large : (n size capacity : ℕ) → size ≡ capped n → 2 ^ 22 < size → capacity ≤ 2 ^ 22 → capacity < footprint n
too_large n size capacity e h small = omega (arith, e, h, small)

pub placing_is : (k : Keeper) (signature : ℕ) (bytes : List ℕ) (b : Beginning) (g : Generation) → b.size ≤ 2 ^ 22 → IsBegun b g → placing k signature g bytes ≡ k.allocated b.size signature b.extent bytes
placing_is k signature bytes b g h i =
    ap (λ n. k.allocated n signature g.extent bytes) (size_is (data_size (signature_of g)) b.size i.size h)
    ∙ ap (λ z. k.allocated b.size signature z bytes) (sym i.extent)

placing_none : (k : Keeper) (signature : ℕ) (bytes : List ℕ) (b : Beginning) (g : Generation) → Keeps k → PlacesAtLeast → IsSome (k.area_of bytes) → signature < 2 ^ 32 → FitsSigned w32 b.extent → 2 ^ 22 < b.size → IsBegun b g → placing k signature g bytes ≡ None
placing_none k signature bytes b g keeps at_least some small fits h i =
    let a = some_area (k.area_of bytes) some in
    ap (λ z. k.allocated (data_size (signature_of g)) signature z bytes) (sym i.extent)
    ∙ no_room k keeps at_least (data_size (signature_of g)) signature b.extent bytes a.0 small fits a.1 (too_large (data_size (signature_of g)) b.size a.0.capacity i.size h (keeps.order.bounded bytes a.0 a.1))

none_allocated : (o : Option (ℕ × List ℕ)) (fault : AreaFault) → Err fault ≡ offset_or_fault o → o ≡ None
none_allocated None fault e = refl
none_allocated (Some p) fault e = cc

pub no_gap : (o : Option (ℕ × List ℕ)) (fault : AreaFault) → Err fault ≡ offset_or_fault o → Err fault ≡ offset_or_fault None
no_gap None fault e = e
no_gap (Some p) fault e = cc

pub not_placed : (o : Option (ℕ × List ℕ)) (fault : AreaFault) (old new : List ℕ) → Err fault ≡ offset_or_fault o → new ≡ placed_or old o → new ≡ old
not_placed None fault old new e f = f
not_placed (Some p) fault old new e f = cc

-- it has no gap
pub placed_not : (k : Keeper) (signature : ℕ) (bytes : List ℕ) (b : Beginning) (g : Generation) (fault : AreaFault) → Keeps k → PlacesAtLeast → IsSome (k.area_of bytes) → signature < 2 ^ 32 → FitsSigned w32 b.extent → IsBegun b g → Err fault ≡ offset_or_fault (k.allocated b.size signature b.extent bytes) → placing k signature g bytes ≡ None
placed_not k signature bytes b g fault keeps at_least some small fits i e = by_test (nat_le b.size (2 ^ 22)) refl
  where
    by_test : (t : Bool) → nat_le b.size (2 ^ 22) ≡ t → placing k signature g bytes ≡ None
    by_test true t = let h : b.size ≤ 2 ^ 22 = grind (arith, nat_tests) in placing_is k signature bytes b g h i ∙ none_allocated (k.allocated b.size signature b.extent bytes) fault e
    by_test false t = let h : 2 ^ 22 < b.size = grind (arith, nat_tests) in placing_none k signature bytes b g keeps at_least some small fits h i

-- it was placed
pub record IsPlacedSo (k : Keeper) (signature : ℕ) (b : Beginning) (g : Generation) (bytes : List ℕ) (offset : ℕ) (new : List ℕ) : Type 0 where
  pub some : placing k signature g bytes ≡ Some (offset, new)
  pub content : b.bytes.items ≡ generation_bytes g
  pub as_many : length new ≡ length bytes
  pub inside : k.data_at offset new + length b.bytes.items ≤ length bytes

pub placed_so : (k : Keeper) (signature : ℕ) (bytes : List ℕ) (b : Beginning) (g : Generation) (offset : ℕ) (new : List ℕ) → Keeps k → PlacesAtLeast → IsSome (k.area_of bytes) → signature < 2 ^ 32 → FitsSigned w32 b.extent → length b.bytes.items ≤ b.size → IsBegun b g → Ok offset ≡ offset_or_fault (k.allocated b.size signature b.extent bytes) → new ≡ placed_or bytes (k.allocated b.size signature b.extent bytes) → IsPlacedSo k signature b g bytes offset new
placed_so k signature bytes b g offset new keeps at_least some small fits few i answer after =
    let a = some_area (k.area_of bytes) some in
    let e = allocated_is (k.allocated b.size signature b.extent bytes) offset bytes new answer after in
    let it = is_placed k keeps at_least b.size signature b.extent bytes a.0 offset new small fits a.1 e in
    let bounded = keeps.order.bounded bytes a.0 a.1 in
    let within = it.within in
    let size : b.size ≤ 2 ^ 22 = omega (arith, bounded, within) in
    let as_many = it.leaves.becomes.as_many in
    let kept = is_kept k keeps at_least b.size signature b.extent bytes a.0 offset new (length b.bytes.items) small fits a.1 e few in
    let inside = kept_inside k offset signature (length b.bytes.items) (k.data_at offset new) new keeps kept refl in
    record {
      some = placing_is k signature bytes b g size i ∙ e;
      content = i.bytes size;
      as_many = as_many;
      inside = omega (arith, as_many, inside);
    }

pub within_so : (k : Keeper) (signature : ℕ) (bytes : List ℕ) (b : Beginning) (g : Generation) (offset : ℕ) (new : List ℕ) → IsPlacedSo k signature b g bytes offset new → IsWithin k (generation_bytes g) (length bytes) (placing k signature g bytes)
within_so k signature bytes b g offset new p =
    let same = ap length p.content in
    let inside = p.inside in
    subst (IsWithin k (generation_bytes g) (length bytes)) (sym p.some) (p.as_many, omega (arith, same, inside))

-- ---- the data in the area, and the area in the memory

take_further : (front xs : List ℕ) (n : ℕ) → take (length front + n) (front ++ xs) ≡ front ++ take n xs
take_further [] xs n = ap (λ k. take k xs) (zero-add n)
take_further (x ∷ front) xs n = ap (λ k. take k (x ∷ front ++ xs)) (more front n) ∙ ap (λ ys. x ∷ ys) (take_further front xs n)
  where
    more : (front : List ℕ) (n : ℕ) → suc (length front) + n ≡ suc (length front + n)
    more front n = omega arith

drop_further : (front xs : List ℕ) (n : ℕ) → drop (length front + n) (front ++ xs) ≡ drop n xs
drop_further [] xs n = ap (λ k. drop k xs) (zero-add n)
drop_further (x ∷ front) xs n = ap (λ k. drop k (x ∷ front ++ xs)) (more front n) ∙ drop_further front xs n
  where
    more : (front : List ℕ) (n : ℕ) → suc (length front) + n ≡ suc (length front + n)
    more front n = omega arith

take_first : (xs rest : List ℕ) (n : ℕ) → n ≤ length xs → take n (xs ++ rest) ≡ take n xs
take_first xs rest n h = take-append-le n xs rest h

drop_first : (xs rest : List ℕ) (n : ℕ) → n ≤ length xs → drop n (xs ++ rest) ≡ drop n xs ++ rest
drop_first xs rest n h = drop-append-le n xs rest h

nested_in : (front b rest content : List ℕ) (d : ℕ) → d + length content ≤ length b → with_bytes content (length front + d) (front ++ (b ++ rest)) ≡ front ++ (with_bytes content d b ++ rest)
nested_in front b rest content d h =
    let behind : length front + d + length content ≡ length front + (d + length content) = omega arith in
    let first = take_further front (b ++ rest) d ∙ ap (λ xs. front ++ xs) (take_first b rest d (omega (arith, h))) in
    let last = ap (λ k. drop k (front ++ (b ++ rest))) behind ∙ drop_further front (b ++ rest) (d + length content) ∙ drop_first b rest (d + length content) h in
    ap (λ xs. xs ++ (content ++ drop (length front + d + length content) (front ++ (b ++ rest)))) first
    ∙ ap (λ xs. (front ++ take d b) ++ (content ++ xs)) last
    ∙ append_assoc front (take d b) (content ++ (drop (d + length content) b ++ rest))
    ∙ ap (λ xs. front ++ (take d b ++ xs)) (sym (append_assoc content (drop (d + length content) b) rest))
    ∙ ap (λ xs. front ++ xs) (sym (append_assoc (take d b) (content ++ drop (d + length content) b) rest))

pub nested : (m b content : List ℕ) (at d : ℕ) → at ≤ length m → d + length content ≤ length b → with_bytes (with_bytes content d b) at m ≡ with_bytes content (at + d) (with_bytes b at m)
nested m b content at d inside h =
    let front : length (take at m) ≡ at = length-take-le at m inside in
    let same = length_with content b d h in
    ap (λ k. take at m ++ (with_bytes content d b ++ drop (at + k) m)) same
    ∙ sym (nested_in (take at m) b (drop (at + length b) m) content d h)
    ∙ ap (λ k. with_bytes content (k + d) (with_bytes b at m)) front

moved : (m b content : List ℕ) (start at d count : ℕ) → length b ≡ count → d + length content ≤ count → (0 < count → start ≡ at) → with_bytes content (start + d) (with_bytes b start m) ≡ with_bytes content (at + d) (with_bytes b at m)
moved m b content start at d zero many inside e =
    let none : b ≡ [] = nil_from_length b many in
    let nothing : content ≡ [] = nil_from_length content (omega (arith, inside)) in
    let all_none : (s : ℕ) → with_bytes content (s + d) (with_bytes b s m) ≡ m = λ s. ap (λ b. with_bytes content (s + d) (with_bytes b s m)) none ∙ ap (with_bytes content (s + d)) (with_none s m) ∙ ap (λ c. with_bytes c (s + d) m) nothing ∙ with_none (s + d) m in
    all_none start ∙ sym (all_none at)
moved m b content start at d (suc count) many inside e = ap (λ s. with_bytes content (s + d) (with_bytes b s m)) (e (omega arith))

as_many_of : (count at : ℕ) (m : List ℕ) → at + count ≤ length m → length (bytes_at count at m) ≡ count
as_many_of count at m h = simp (length-take, length-drop) (grind arith)

-- the part of the memory that was an area's, with what was placed in it
pub placed_at : (k : Keeper) (m slice whole content : List ℕ) (start count n at : ℕ) (o : Option (ℕ × List ℕ)) → start + count ≤ length m → n ≡ count → length slice ≡ length whole → bytes_at count start m ≡ whole → (0 < count → start ≡ at) → slice ≡ bytes_or whole (bytes_placed k content o) → IsWithin k content (length whole) o → take start m ++ (slice ++ drop n (drop start m)) ≡ memory_placed k at content m o
placed_at k m slice whole content start count n at o inside same many part moves e w =
    ap (λ n. take start m ++ (slice ++ drop n (drop start m))) same ∙ ap (λ xs. take start m ++ (slice ++ xs)) (drop-drop count start m) ∙ by_option o e w
  where
    counted : length whole ≡ count
    counted = ap length (sym part) ∙ as_many_of count start m inside

    by_option : (o : Option (ℕ × List ℕ)) → slice ≡ bytes_or whole (bytes_placed k content o) → IsWithin k content (length whole) o → take start m ++ (slice ++ drop (start + count) m) ≡ memory_placed k at content m o
    by_option None e w = put_or m start count slice None inside (many ∙ counted) (e ∙ sym part)
    by_option (Some p) e w =
        let length_is : length p.1 ≡ count = w.0 ∙ counted in
        let room : k.data_at p.0 p.1 + length content ≤ count = omega (arith, w.1, counted) in
        put_or m start count slice (Some (with_bytes content (k.data_at p.0 p.1) p.1)) inside (many ∙ counted) e
        ∙ nested m p.1 content start (k.data_at p.0 p.1) (omega (arith, inside)) (omega (arith, room, length_is))
        ∙ moved m p.1 content start at (k.data_at p.0 p.1) count length_is room moves

-- ---- an area that was copied

pub copied_back : (k : Keeper) (m old new content : List ℕ) (at offset : ℕ) (o : Option (ℕ × List ℕ)) → Ok offset ≡ offset_or_fault o → new ≡ bytes_or old (bytes_placed k content o) → IsWithin k content (length old) o → at ≤ length m → with_bytes new at m ≡ memory_placed k at content m o
copied_back k m old new content at offset None e f w inside = cc
copied_back k m old new content at offset (Some p) e f w inside =
    ap (λ b. with_bytes b at m) f ∙ nested m p.1 content at (k.data_at p.0 p.1) inside (omega (arith, w.0, w.1))

pub not_copied : (k : Keeper) (m content : List ℕ) (at : ℕ) (fault : AreaFault) (o : Option (ℕ × List ℕ)) → Err fault ≡ offset_or_fault o → m ≡ memory_placed k at content m o
not_copied k m content at fault None e = refl
not_copied k m content at fault (Some p) e = cc
