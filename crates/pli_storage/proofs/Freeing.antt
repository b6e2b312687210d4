-- Generations that are freed, by what their names name and by the bytes of their areas.
use Rattle.std.proofs.Common.{◌≡◌, ◌≢◌, ℕ, List, refl, sym, ap, ◌∙◌, Option, Some, None, Bool, true, false, Ok, Err, arith}
use Rattle.std.specs.Prelude.{◌==◌, is_some, slice_get, if◌then◌else◌}
use Rattle.std.proofs.lemmas.Bool.Decides.{nat_tests}
use Rattle.area_keeper.specs.Keeper.{KeptArea, Keeper}
use Rattle.area_keeper.specs.KeeperLaws.{Keeps}
use Rattle.area_heap.specs.declared.fault.AreaFault.{AreaFault}
use Rattle.area_heap.specs.declared.fault.AreaFault.TheVariants.{NoGeneration}
use Rattle.area_heap.specs.Answers.{done_or}
use Rattle.pli_meaning.specs.BasicValues.{BasedName}
use Rattle.pli_serving.specs.Answers.{Done, Bad}
use Rattle.pli_serving.specs.Arguments.{asked, own_signature}
use Rattle.pli_serving.specs.AreaServices.{without_kept}
use Rattle.pli_serving.specs.Bytes.{with_bytes}
use Rattle.pli_serving.specs.Finding.{AreaBytes, Call, Finding, Found, FoundAt, NoArea, NotLiving, area_at, area_living, found, found_based, found_in_area, heap_bytes, if_of_signature, named}
use Rattle.pli_serving.specs.Outcomes.{or_bad}
use Rattle.pli_serving.specs.ServiceState.{living_of}
use Rattle.pli_storage.specs.declared.held.Held.{Held}
use Rattle.pli_storage.specs.Areas.{written_or}
use Rattle.pli_storage.specs.Held.{IsLaid, with_held}
use Rattle.pli_storage.proofs.Lookups.{based_unmade}

-- ---- where a based name's generation was found

asked_named : (c : Call) (area offset signature : ℕ) (f : Finding) → asked c (BasedName area offset) signature ≡ Some f → named c (BasedName area offset) signature ≡ f
asked_named c area offset signature f e = by_own (signature == own_signature) e
  where
    by_number : (t : Bool) → (if t then Some (named c (BasedName area offset) signature) else None) ≡ Some f → named c (BasedName area offset) signature ≡ f
    by_number true e = cc
    by_number false e = cc

    by_own : (t : Bool) → (if t then None else (if is_some (slice_get c.services.signatures signature) then Some (named c (BasedName area offset) signature) else None)) ≡ Some f → named c (BasedName area offset) signature ≡ f
    by_own true e = cc
    by_own false e = by_number (is_some (slice_get c.services.signatures signature)) e

same : (a b : ℕ) → (a == b) ≡ true → a ≡ b
same a b e = grind (arith, nat_tests)

signature_of : (signature : ℕ) (o : Finding) (f : Found) → if_of_signature signature o ≡ FoundAt f → f.signature ≡ signature
signature_of signature NotLiving f e = cc
signature_of signature NoArea f e = cc
signature_of signature (FoundAt g) f e = by_test (g.signature == signature) refl e
  where
    by_test : (t : Bool) → (g.signature == signature) ≡ t → (if t then FoundAt g else NotLiving) ≡ FoundAt f → f.signature ≡ signature
    by_test true t e = let it : g ≡ f = cc in ap (λ (f : Found). f.signature) (sym it) ∙ same g.signature signature t
    by_test false t e = cc

pub freed_nowhere : (c : Call) (area offset signature : ℕ) (f : Found) → named c (BasedName area offset) signature ≡ NotLiving → asked c (BasedName area offset) signature ≡ Some (FoundAt f) → ⊥
freed_nowhere c area offset signature f e g = let it = asked_named c area offset signature (FoundAt f) g in cc

not_in : (c : Call) (area offset signature : ℕ) (f : Found) (a : AreaBytes) → area_at c area ≡ Some a → is_some (c.keeper.area_of a.bytes) ≡ false → named c (BasedName area offset) signature ≡ FoundAt f → ⊥
not_in c area offset signature f a e t g =
    let none : if_of_signature signature (found_in_area c a offset (c.keeper.area_of a.bytes)) ≡ FoundAt f = ap (λ o. if_of_signature signature (found_based c offset o)) (sym e) ∙ g in
    by_area (c.keeper.area_of a.bytes) t none
  where
    by_area : (o : Option KeptArea) → is_some o ≡ false → if_of_signature signature (found_in_area c a offset o) ≡ FoundAt f → ⊥
    by_area None t g = cc
    by_area (Some k) t g = cc

pub freed_no_area : (c : Call) (name area offset signature : ℕ) (f : Found) (a : AreaBytes) → area_at c area ≡ Some a → is_some (c.keeper.area_of a.bytes) ≡ false → asked c (BasedName area offset) signature ≡ Some (FoundAt f) → or_bad (area_at c area) (λ a. without_kept c name offset f.signature a) ≡ Bad
freed_no_area c name area offset signature f a e t g = absurd (not_in c area offset signature f a e t (asked_named c area offset signature (FoundAt f) g))

-- ---- what is freed

pub not_written : (at : ℕ) (m m' : List ℕ) (o : Option (List ℕ)) (fault : AreaFault) → Err fault ≡ done_or NoGeneration o → m' ≡ written_or at m o → m' ≡ m
not_written at m m' None fault e w = w
not_written at m m' (Some bytes) fault e w = cc

pub freed_so : (c : Call) (name area offset signature : ℕ) (f : Found) (a : AreaBytes) (m : List ℕ) → area_at c area ≡ Some a → asked c (BasedName area offset) signature ≡ Some (FoundAt f) → Ok tt ≡ done_or NoGeneration (c.keeper.freed offset signature a.bytes) → m ≡ written_or a.at c.memory (c.keeper.freed offset signature a.bytes) → or_bad (area_at c area) (λ a. without_kept c name offset f.signature a) ≡ Done c.services m name 0
freed_so c name area offset signature f a m e g k w =
    let number = signature_of signature (found c (BasedName area offset)) f (asked_named c area offset signature (FoundAt f) g) in
    ap (λ o. or_bad o (λ a. without_kept c name offset f.signature a)) e
    ∙ ap (λ s. without_kept c name offset s a) number
    ∙ by_free (c.keeper.freed offset signature a.bytes) k w
  where
    by_free : (o : Option (List ℕ)) → Ok tt ≡ done_or NoGeneration o → m ≡ written_or a.at c.memory o → or_bad o (λ bytes. Done c.services (with_bytes bytes a.at c.memory) name 0) ≡ Done c.services m name 0
    by_free None k w = cc
    by_free (Some bytes) k w = ap (λ m. Done c.services m name 0) (sym w)

pub freed_not : (c : Call) (name area offset signature : ℕ) (f : Found) (a : AreaBytes) (fault : AreaFault) → area_at c area ≡ Some a → asked c (BasedName area offset) signature ≡ Some (FoundAt f) → Err fault ≡ done_or NoGeneration (c.keeper.freed offset signature a.bytes) → or_bad (area_at c area) (λ a. without_kept c name offset f.signature a) ≡ Bad
freed_not c name area offset signature f a fault e g k =
    let number = signature_of signature (found c (BasedName area offset)) f (asked_named c area offset signature (FoundAt f) g) in
    ap (λ o. or_bad o (λ a. without_kept c name offset f.signature a)) e
    ∙ ap (λ s. without_kept c name offset s a) number
    ∙ by_free (c.keeper.freed offset signature a.bytes) k
  where
    by_free : (o : Option (List ℕ)) → Err fault ≡ done_or NoGeneration o → or_bad o (λ bytes. Done c.services (with_bytes bytes a.at c.memory) name 0) ≡ Bad
    by_free None k = refl
    by_free (Some bytes) k = cc

-- ---- where an area of a serial lies

pub nowhere_in_heap : (k : Keeper) (h : Held) (m : List ℕ) (c : Call) (serial offset signature : ℕ) → serial ≡ 0 → Keeps k → IsLaid k h.layout m → h.heap_made ≡ false → named (with_held k h m c) (BasedName serial offset) signature ≡ NotLiving
nowhere_in_heap k h m c serial offset signature z keeps laid made = rw z (based_unmade k h m c offset signature keeps laid made)

pub at_living : (c : Call) (serial : ℕ) → serial ≢ 0 → area_at c serial ≡ area_living c (living_of c.services.living serial)
at_living c serial h =
    let other : (serial == 0) ≡ false = grind (arith, nat_tests) in
    ap (λ t. if t then Some (heap_bytes c) else area_living c (living_of c.services.living serial)) other
