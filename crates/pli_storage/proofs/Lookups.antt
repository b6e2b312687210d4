-- Generations found in an area's bytes, in the heap before anything was placed in it, and where no area is.
use Rattle.std.proofs.Common.{◌≡◌, ℕ, ◌+◌, ◌≤◌, ◌%◌, ℤ, List, [], ◌∷◌, length, refl, sym, ap, ◌∙◌, Option, Some, None, Ok, Err, Bool, true, false, arith, length-take, length-drop}
use Rattle.std.specs.Prelude.{is_some, IsSome, ◌==◌, if◌then◌else◌}
use Rattle.std.proofs.lemmas.Bool.Decides.{nat_tests}
use Rattle.area_keeper.specs.Keeper.{Kept, KeptArea, Keeper}
use Rattle.area_keeper.specs.KeptAreas.{kept_at}
use Rattle.area_keeper.specs.KeeperLaws.{Keeps, greatest_capacity}
use Rattle.area_heap.specs.declared.fault.AreaFault.{AreaFault}
use Rattle.area_heap.specs.Answers.{extent_or_fault, kept_of, of_signature, start_or_fault}
use Rattle.pli_serving.specs.Bytes.{bytes_at}
use Rattle.pli_serving.specs.Finding as F
use Rattle.pli_serving.specs.Finding.{AreaBytes, Call, FoundAt, NotLiving, NoArea, area_at, area_bytes, found_based, found_in_area, found_kept, heap_bytes, if_of_signature}
use Rattle.pli_storage.specs.declared.held.Held.{Held}
use Rattle.pli_storage.specs.Findings.{area_with}
use Rattle.pli_storage.specs.Held.{IsLaid, with_held}

abbrev kept_finding : Call → AreaBytes → Option Kept → F.Finding
kept_finding c a None = NotLiving
kept_finding c a (Some g) = FoundAt (record { at = a.at + c.keeper.data_at g.offset a.bytes; signature = g.signature; extent = g.extent })

same : (a b : ℕ) → (a == b) ≡ true → b ≡ a
same a b e = grind (arith, nat_tests)

placed_found : (c : Call) (a : AreaBytes) (offset signature : ℕ) (ks : List Kept) → if_of_signature signature (found_kept c a offset ks) ≡ kept_finding c a (of_signature signature (kept_at ks offset))
placed_found c a offset signature [] = refl
placed_found c a offset signature (k ∷ ks) = by_test (k.offset == offset) refl (placed_found c a offset signature ks)
  where
    by_signature : (t : Bool) → offset ≡ k.offset → (if t then FoundAt (record { at = a.at + c.keeper.data_at offset a.bytes; signature = k.signature; extent = k.extent }) else NotLiving) ≡ kept_finding c a (if t then Some k else None)
    by_signature true e = rw e refl
    by_signature false e = refl

    by_test : (t : Bool) → (k.offset == offset) ≡ t → if_of_signature signature (found_kept c a offset ks) ≡ kept_finding c a (of_signature signature (kept_at ks offset)) → if_of_signature signature (if t then FoundAt (record { at = a.at + c.keeper.data_at offset a.bytes; signature = k.signature; extent = k.extent }) else found_kept c a offset ks) ≡ kept_finding c a (of_signature signature (if t then Some k else kept_at ks offset))
    by_test true t further = by_signature (k.signature == signature) (same k.offset offset t)
    by_test false t further = further

signature_is : (signature : ℕ) (o : Option Kept) (g : Kept) → of_signature signature o ≡ Some g → g.signature ≡ signature
signature_is signature None g e = cc
signature_is signature (Some h) g e = by_test (h.signature == signature) refl e
  where
    by_test : (t : Bool) → (h.signature == signature) ≡ t → (if t then Some h else None) ≡ Some g → g.signature ≡ signature
    by_test true t e = let it : h ≡ g = cc in rw (sym it) (sym (same h.signature signature t))
    by_test false t e = cc

-- ---- in an area

pub found_at : (c : Call) (k : Keeper) (at : ℕ) (bytes : List ℕ) (offset signature start : ℕ) (extent : ℤ) → c.keeper ≡ k → Ok start ≡ start_or_fault k bytes (kept_of offset signature (k.area_of bytes)) → Ok extent ≡ extent_or_fault (kept_of offset signature (k.area_of bytes)) → if_of_signature signature (found_in_area c (area_with at bytes) offset (k.area_of bytes)) ≡ FoundAt (record { at = at + start; signature = signature; extent = extent })
found_at c k at bytes offset signature start extent e s z = by_area (k.area_of bytes) s z
  where
    by_kept : (o : Option Kept) → ((g : Kept) → o ≡ Some g → g.signature ≡ signature) → Ok start ≡ start_or_fault k bytes o → Ok extent ≡ extent_or_fault o → kept_finding c (area_with at bytes) o ≡ FoundAt (record { at = at + start; signature = signature; extent = extent })
    by_kept None h s z = cc
    by_kept (Some g) h s z =
        let start_is : start ≡ k.data_at g.offset bytes = cc in
        let extent_is : extent ≡ g.extent = cc in
        rw (e, start_is, extent_is, sym (h g refl)) refl

    by_area : (o : Option KeptArea) → Ok start ≡ start_or_fault k bytes (kept_of offset signature o) → Ok extent ≡ extent_or_fault (kept_of offset signature o) → if_of_signature signature (found_in_area c (area_with at bytes) offset o) ≡ FoundAt (record { at = at + start; signature = signature; extent = extent })
    by_area None s z = cc
    by_area (Some a) s z = placed_found c (area_with at bytes) offset signature a.placed ∙ by_kept (of_signature signature (kept_at a.placed offset)) (λ g f. signature_is signature (kept_at a.placed offset) g f) s z

pub not_found : (c : Call) (k : Keeper) (at : ℕ) (bytes : List ℕ) (offset signature : ℕ) (fault : AreaFault) → IsSome (k.area_of bytes) → Err fault ≡ start_or_fault k bytes (kept_of offset signature (k.area_of bytes)) → if_of_signature signature (found_in_area c (area_with at bytes) offset (k.area_of bytes)) ≡ NotLiving
not_found c k at bytes offset signature fault i s = by_area (k.area_of bytes) i s
  where
    by_kept : (o : Option Kept) → Err fault ≡ start_or_fault k bytes o → kept_finding c (area_with at bytes) o ≡ NotLiving
    by_kept None s = refl
    by_kept (Some g) s = cc

    by_area : (o : Option KeptArea) → IsSome o → Err fault ≡ start_or_fault k bytes (kept_of offset signature o) → if_of_signature signature (found_in_area c (area_with at bytes) offset o) ≡ NotLiving
    by_area None i s = cc
    by_area (Some a) i s = placed_found c (area_with at bytes) offset signature a.placed ∙ by_kept (of_signature signature (kept_at a.placed offset)) s

pub no_extent : (c : Call) (k : Keeper) (at : ℕ) (bytes : List ℕ) (offset signature : ℕ) (fault : AreaFault) → IsSome (k.area_of bytes) → Err fault ≡ extent_or_fault (kept_of offset signature (k.area_of bytes)) → if_of_signature signature (found_in_area c (area_with at bytes) offset (k.area_of bytes)) ≡ NotLiving
no_extent c k at bytes offset signature fault i s = by_area (k.area_of bytes) i s
  where
    by_kept : (o : Option Kept) → Err fault ≡ extent_or_fault o → kept_finding c (area_with at bytes) o ≡ NotLiving
    by_kept None s = refl
    by_kept (Some g) s = cc

    by_area : (o : Option KeptArea) → IsSome o → Err fault ≡ extent_or_fault (kept_of offset signature o) → if_of_signature signature (found_in_area c (area_with at bytes) offset o) ≡ NotLiving
    by_area None i s = cc
    by_area (Some a) i s = placed_found c (area_with at bytes) offset signature a.placed ∙ by_kept (of_signature signature (kept_at a.placed offset)) s

pub no_area : (c : Call) (at : ℕ) (bytes : List ℕ) (offset signature : ℕ) (o : Option KeptArea) → is_some o ≡ false → if_of_signature signature (found_in_area c (area_with at bytes) offset o) ≡ NoArea
no_area c at bytes offset signature None e = refl
no_area c at bytes offset signature (Some a) e = cc

-- ---- in the heap, where nothing was placed in it yet

heap_as_many : (count at : ℕ) (m : List ℕ) → at + count ≤ length m → length (bytes_at count at m) ≡ count
heap_as_many count at m h = simp (length-take, length-drop) (grind arith)

pub unmade_empty : (c : Call) → Keeps c.keeper → c.services.heap_made ≡ false → c.layout.heap_capacity % 16 ≡ 0 → c.layout.heap_capacity ≤ greatest_capacity → c.layout.heap_at + c.keeper.bytes_for c.layout.heap_capacity ≤ length c.memory → c.keeper.area_of (heap_bytes c).bytes ≡ Some (record { capacity = c.layout.heap_capacity; placed = [] })
unmade_empty c k made rounded bounded within =
    rw made
    ((k.making.made c.layout.heap_capacity _ rounded bounded (heap_as_many (c.keeper.bytes_for c.layout.heap_capacity) c.layout.heap_at c.memory within)).stands)

pub unmade_found : (c : Call) (offset : ℕ) → Keeps c.keeper → c.services.heap_made ≡ false → c.layout.heap_capacity % 16 ≡ 0 → c.layout.heap_capacity ≤ greatest_capacity → c.layout.heap_at + c.keeper.bytes_for c.layout.heap_capacity ≤ length c.memory → found_based c offset (Some (heap_bytes c)) ≡ NotLiving
unmade_found c offset k made rounded bounded within = ap (λ o. found_in_area c (heap_bytes c) offset o) (unmade_empty c k made rounded bounded within)

pub based_unmade : (k : Keeper) (h : Held) (m : List ℕ) (c : Call) (offset signature : ℕ) → Keeps k → IsLaid k h.layout m → h.heap_made ≡ false → if_of_signature signature (found_based (with_held k h m c) offset (Some (heap_bytes (with_held k h m c)))) ≡ NotLiving
based_unmade k h m c offset signature keeps laid made = ap (if_of_signature signature) (unmade_found (with_held k h m c) offset keeps made laid.rounded laid.bounded laid.heap_within)

pub heap_is : (k : Keeper) (h : Held) (m : List ℕ) (c : Call) → h.heap_made ≡ true → heap_bytes (with_held k h m c) ≡ area_bytes (with_held k h m c) h.layout.heap_capacity h.layout.heap_at
heap_is k h m c made = rw made refl
