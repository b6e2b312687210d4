-- ALLOCATE and FREE at a call: services 10 and 11 answer so, and what other names name stands where it stood.
use Rattle.pli_serving.specs.Finding as F
use Rattle.storage_relation.proofs.Finding.{named_found, named_unfound}
use Rattle.storage_relation.proofs.CallArguments.{asked_is}
use Rattle.pli_serving.specs.Finding.{Finding}
use Rattle.pli_serving.specs.Arguments.{asked, where_found}
use Rattle.pli_serving.specs.Outcomes.{or_bad}
use Rattle.pli_serving.specs.Answers.{Answer}
use Rattle.pli_meaning.specs.Codes.{no_generation_code, not_in_area_code}
use Rattle.std.proofs.Common.{◌≡◌, ℕ, ◌+◌, ◌≤◌, List, length, true, ◌^◌, ◌<◌, Option, Some, None, Bool, false, ◌≢◌, suc}
use Rattle.std.proofs.Common.{◌⊎◌, zero, inl, inr, refl, sym, ap, ◌∙◌, subst, arith}
use Rattle.std.proofs.lemmas.Bool.{cases_eq, eqb-true}
use Rattle.std.specs.Int.{w32}
use Rattle.std.specs.Prelude.{◌==◌, FitsSigned, cond}
use Rattle.pli_meaning.specs.BasicValues.{Name, BasedName, VariableName, NullName}
use Rattle.pli_meaning.specs.Contents.{Generation, Placed, footprint_of, gap, with_placed, without_offset, Shape}
use Rattle.pli_meaning.specs.StorageState as M
use Rattle.pli_meaning.specs.StorageState.{State, AreaContents, with_area, heap_serial}
use Rattle.pli_types.specs.Templates.{Template}
use Rattle.area_keeper.proofs.Agreement.{length_with_part}
use Rattle.area_keeper.specs.Keeper.{Keeper, Kept, KeptArea}
use Rattle.area_keeper.specs.KeeperLaws.{Keeps, Leaves}
use Rattle.area_keeper.specs.KeptAreas.{with_part, kept_as, kept_at, with_kept, without_kept}
use Rattle.pli_serving.specs.Answers.{Done}
use Rattle.pli_serving.specs.AreaServices as A
use Rattle.pli_serving.specs.Arguments.{name_in, area_if}
use Rattle.pli_serving.specs.Bytes.{name_bytes}
use Rattle.pli_serving.specs.Finding.{AreaBytes}
use Rattle.pli_serving.specs.Values.{generation_bytes}
use Rattle.storage_relation.specs.Changes.{area_then, Asking, IsAsking, KeepsPlaces, KeepsPlacesBut, HasGap, allocated}
use Rattle.storage_relation.specs.Changes.{made_by}
use Rattle.storage_relation.specs.Served.{Now, call, place_now, Holds, IsNumberOf, area_bytes_of}
use Rattle.storage_relation.specs.Standing.{Holder, held, AreaOf, size_of, Alone, AreaStands}
use Rattle.storage_relation.specs.Stored.{with_heap_made, place_of, taken_as, place_held}
use Rattle.storage_relation.proofs.Turned.{bytes_now, Turn, place_then}
use Rattle.storage_relation.proofs.Answering.{free_answer}
use Rattle.storage_relation.proofs.AreaLaws.{alike, found, kept_placed}
use Rattle.storage_relation.proofs.Calls.{placed_now, allocated_holds}
use Rattle.storage_relation.proofs.Named.{area_holder}
use Rattle.storage_relation.proofs.CallArguments.{number_there}
use Rattle.storage_relation.proofs.Calls.{allocate_step}
use Rattle.storage_relation.proofs.Spelling.{spelled_length}
use Rattle.storage_relation.proofs.Storing.{taken-other, taken-made}
use Rattle.storage_relation.proofs.Turning.{some_same}
use Rattle.storage_relation.proofs.Addresses.{first_stay, allocated_stay, freed_stay, memory_placed, area_stands}
use Rattle.storage_relation.proofs.Calls.{PlacedNow, allocated_served, area_holds}
use Rattle.storage_relation.proofs.Answering.{Freed}

-- ---- what the keeper makes for a new generation

headed_fits :
    (k : Keeper) → Keeps k → (t : List Template) (a : AreaContents) (bytes : List ℕ) → AreaStands k t a bytes →
    (g : Generation) (signature o : ℕ) (headed : List ℕ) → gap a.capacity (footprint_of g) a.placed ≡ Some o →
    (signature < 2 ^ 32) × FitsSigned w32 g.extent →
    k.allocated (size_of g) signature g.extent bytes ≡ Some (o, headed) →
    (length headed ≡ length bytes) × (k.data_at o headed + size_of g ≤ length headed)
headed_fits k keeps t a bytes is g signature o headed free small e =
    subst (λ new. (length new ≡ length bytes) × (k.data_at o new + size_of g ≤ length new)) one
    (p.2.becomes.as_many, keeps.writing.within p.0 bigger o n p.2.becomes.stands there.0)
  where
    n : Kept
    n = kept_as o (size_of g) signature g.extent

    p :
        (new : List ℕ) × (k.allocated (size_of g) signature g.extent bytes ≡ Some (o, new))
        × Leaves k is.kept a.capacity (with_kept n is.kept) bytes new
    p =
        keeps.allocating.placed (size_of g) signature g.extent bytes
        (record { capacity = a.capacity; placed = is.kept }) a.placed o is.stands
        (alike k t bytes is.kept a.placed is.are) small.0 small.1 free

    bigger : KeptArea
    bigger = record { capacity = a.capacity; placed = with_kept n is.kept }

    there : (kept_at (with_kept n is.kept) o ≡ Some n) × (without_kept o (with_kept n is.kept) ≡ is.kept)
    there = kept_placed 0 a.capacity n is.kept (keeps.order.ordered p.0 bigger p.2.becomes.stands)

    one : p.0 ≡ headed
    one = second (some_same (sym p.1 ∙ e))
      where
        second : {x y : ℕ × List ℕ} → x ≡ y → x.1 ≡ y.1
        second h = ap (λ z. z.1) h

-- ---- the data that service 10 writes

data_written :
    (w : Now) (a : AreaBytes) (g : Generation) (o : ℕ) (new : List ℕ) (x : Option (ℕ × List ℕ)) →
    A.with_data (call w) a g x ≡ Some (record { offset = o; memory = new }) →
    (headed : List ℕ) × (x ≡ Some (o, headed))
    × (with_part (generation_bytes g) (a.at + w.keeper.data_at o headed) (with_part headed a.at w.memory) ≡ new)
data_written w a g o new None e = absurd (cc e)
data_written w a g o new (Some p) e =
    let q = some_same e in
    let at : p.0 ≡ o = ap (λ (d : A.PlacedData). d.offset) q in (
      p.1,
      ap (λ i. Some (i, p.1)) at,
      ap (λ i. with_part (generation_bytes g) (a.at + w.keeper.data_at i p.1) (with_part p.1 a.at w.memory)) (sym at)
          ∙ ap (λ (d : A.PlacedData). d.memory) q,
    )

same_place_made :
    (w : Now) (n : ℕ) (s : State) (m : List ℕ) (p : Name) →
    place_of w.keeper (made_by n w.places) s m p ≡ place_of w.keeper w.places s m p
same_place_made w n s m p = by (n == heap_serial) p
  where
    by :
        (q : Bool) (p : Name) →
        place_of w.keeper (cond q (with_heap_made w.places) w.places) s m p ≡ place_of w.keeper w.places s m p
    by false p = refl
    by true NullName = refl
    by true (VariableName j) = refl
    by true (BasedName j o) = held_by (held s j)
      where
        held_by :
            (x : Option Holder) →
            place_held w.keeper (with_heap_made w.places) m j o x ≡ place_held w.keeper w.places m j o x
        held_by None = refl
        held_by (Some (Alone g)) = refl
        held_by (Some (AreaOf a)) = refl

-- ---- ALLOCATE

pub placed_stays :
    (w : Now) → Holds w → (n signature o : ℕ) (g : Generation) (is : HasGap w n g signature o) (new : List ℕ) →
    PlacedNow w n o signature is.area g (made_by n w.places) new → KeepsPlaces w (allocated n o g new w)
placed_stays w h n signature o g is new made p x lives =
    same_place_made w n (with_area n change w.state) new p
    ∙ ap (λ m. place_of w.keeper w.places (with_area n change w.state) m p) (sym whole)
    ∙ by (n == heap_serial) w.places.heap_made refl refl
  where
    change : List Placed → List Placed
    change = with_placed (record { offset = o; generation = g })

    own : AreaBytes
    own = area_bytes_of w.keeper w.places w.memory n is.area

    stands : AreaStands w.keeper w.places.signatures is.area own.bytes
    stands = h.stored.stands n (AreaOf is.area) (area_holder w.state n is.area is.lives)

    r :
        (headed : List ℕ)
        × (w.keeper.allocated (size_of g) signature g.extent own.bytes ≡ Some (o, headed))
        × (with_part (generation_bytes g) (own.at + w.keeper.data_at o headed) (with_part headed own.at w.memory) ≡ new)
    r = data_written w own g o new (w.keeper.allocated (size_of g) signature g.extent own.bytes) made.0

    fits : (length r.0 ≡ length own.bytes) × (w.keeper.data_at o r.0 + size_of g ≤ length r.0)
    fits =
        headed_fits w.keeper h.keeps w.places.signatures is.area own.bytes stands g signature o r.0 is.free
        (is.small, is.fits) r.1

    spelled : length (generation_bytes g) ≡ size_of g
    spelled = spelled_length g is.values

    long : length own.bytes ≡ w.keeper.bytes_for is.area.capacity
    long = h.keeps.order.as_many own.bytes (record { capacity = is.area.capacity; placed = stands.kept }) stands.stands

    bytes : List ℕ
    bytes = with_part (generation_bytes g) (w.keeper.data_at o r.0) r.0

    same_long : length bytes ≡ length r.0
    same_long =
        let room = fits.1 in
        length_with_part (generation_bytes g) (w.keeper.data_at o r.0) r.0 (omega (arith, room, spelled))

    whole : with_part bytes (w.places.at n) w.memory ≡ new
    whole =
        let inside = h.stored.inside n (AreaOf is.area) (area_holder w.state n is.area is.lives) in
        let room = fits.1 in
        let as_long = fits.0 in
        sym (memory_placed r.0 (generation_bytes g) (w.places.at n) (w.keeper.data_at o r.0) w.memory
        (omega (arith, room, spelled)) (omega (arith, inside, as_long, long)))
        ∙ r.2

    turn : Turn w n
    turn = record {
      area = is.area;
      was = is.lives;
      bytes = bytes;
      long = same_long ∙ fits.0 ∙ long;
      change = change;
    }

    plain : ((b : List ℕ) → taken_as w.keeper w.places n b ≡ b) → place_then w n turn p ≡ place_now w p
    plain taken =
        allocated_stay w h n turn (record {
          offset = o;
          signature = signature;
          generation = g;
          spelled = generation_bytes g;
          headed = r.0;
          free = is.free;
          small = is.small;
          fits = is.fits;
          length_same = spelled;
          allocated_so =
              ap (w.keeper.allocated (size_of g) signature g.extent)
              (sym (taken (bytes_now w n is.area))) ∙ r.1;
          written = refl;
        }) taken p x lives

    first : n ≡ heap_serial → w.places.heap_made ≡ false → place_then w n turn p ≡ place_now w p
    first e f = at n e turn
      where
        at : (j : ℕ) → j ≡ heap_serial → (t : Turn w j) → place_then w j t p ≡ place_now w p
        at zero e t = first_stay w h t f p x lives
        at (suc j) e t = absurd (omega (arith, e))

    by :
        (q b : Bool) → (n == heap_serial) ≡ q → w.places.heap_made ≡ b → place_then w n turn p ≡ place_now w p
    by false b e f = plain (λ c. taken-other w.keeper w.places n c (λ z. cc (sym e ∙ ap (λ i. i == 0) z)))
    by true true e f = plain (λ c. taken-made w.keeper w.places n c f)
    by true false e f = first (eqb-true n heap_serial e) f

-- service 10 answers with the state that the storage machine comes to
pub allocate_answered :
    (w : Now) → Holds w → (q : Asking) (n o : ℕ) (g : Generation) → IsAsking w q n g → HasGap w n g q.signature o →
    (new : List ℕ) × Holds (allocated n o g new w) × KeepsPlaces w (allocated n o g new w)
    × (A.allocate_served (call w) q.area q.signature q.extent q.initial q.destination
    ≡ Done (call (allocated n o g new w)).services (with_part (name_bytes (BasedName n o)) q.destination new) q.area 0)
allocate_answered w h q n o g asks is =
    let r = placed_now w h n q.signature o g is in (
      r.0,
      allocated_holds w h n o g r.0 r.1.1,
      placed_stays w h n q.signature o g is r.0 r.1,
      allocate_step w h q n g is.area asks is.lives
          ∙ ap (A.allocation_answered (call w) q.area q.destination n) r.1.0
          ∙ ap (λ v. Done v (with_part (name_bytes (BasedName n o)) q.destination r.0) q.area 0)
          (sym (allocated_served w n o g r.0)),
    )

-- ---- FREE

freed_long :
    (w : Now) → Holds w → (n o : ℕ) (g : Generation) (f : Freed w.keeper w.places w.state w.memory n o g) →
    length f.bytes ≡ w.keeper.bytes_for f.area.capacity
freed_long w h n o g f = by (cases_eq c.0.signature f.signature)
  where
    own : List ℕ
    own = bytes_now w n f.area

    stands : AreaStands w.keeper w.places.signatures f.area own
    stands = area_stands w h n f.area o g f.was f.there

    area : KeptArea
    area = record { capacity = f.area.capacity; placed = stands.kept }

    long : length own ≡ w.keeper.bytes_for f.area.capacity
    long = h.keeps.order.as_many own area stands.stands

    c : (c : Kept) × (kept_at stands.kept o ≡ Some c)
    c = let r = found w.keeper w.places.signatures own stands.kept f.area.placed o g stands.are f.there in (r.0, r.1)

    by :
        (c.0.signature ≡ f.signature) ⊎ (c.0.signature ≢ f.signature) →
        length f.bytes ≡ w.keeper.bytes_for f.area.capacity
    by (inl same) =
        let r = h.keeps.freeing.freed o f.signature own area c.0 stands.stands c.1 same in
        let one : r.0 ≡ f.bytes = some_same (sym r.1 ∙ f.freed_so) in
        sym (ap length one) ∙ r.2.becomes.as_many ∙ long
    by (inr other) =
        absurd (cc (sym (h.keeps.freeing.another o f.signature own area c.0 stands.stands c.1 other) ∙ f.freed_so))

pub freed_keeps :
    (w : Now) → Holds w → (n o : ℕ) (g : Generation) (f : Freed w.keeper w.places w.state w.memory n o g) →
    KeepsPlacesBut (BasedName n o) w (area_then n (without_offset o) (with_part f.bytes (w.places.at n) w.memory) w)
freed_keeps w h n o g f p x lives other =
    freed_stay w h n
    (record {
      area = f.area;
      was = f.was;
      bytes = f.bytes;
      long = freed_long w h n o g f;
      change = without_offset o;
    })
    (record { offset = o; signature = f.signature; generation = g; there = f.there; freed_so = f.freed_so }) p x lives
    other

-- service 11 answers so, too
pub freed_answered :
    (w : Now) → Holds w → (name number area n o : ℕ) (within : Option ℕ) (shape : Shape) (g : Generation) →
    IsNumberOf w number shape → name_in (call w) name ≡ Some (BasedName n o) → area_if (call w) area ≡ Some within →
    A.is_given n within ≡ true → M.named w.state (BasedName n o) shape ≡ Some g →
    (new : List ℕ) × Holds (area_then n (without_offset o) new w)
    × KeepsPlacesBut (BasedName n o) w (area_then n (without_offset o) new w)
    × (A.free_served (call w) name number area ≡ Done (call w).services new name 0)
freed_answered w h name number area n o within shape g is named inside given f =
    let r =
    free_answer w h name number area n o within shape g (
      is,
      number_there w.places.signatures number shape is.shape_same,
    )
    named inside given f
    in
    let new = with_part r.0.bytes (w.places.at n) w.memory in
    (new, area_holds w h n (without_offset o) new r.0.stored, freed_keeps w h n o g r.0, r.1)

-- a generation that doesn't live, or that isn't in the area that is given, isn't freed
pub absent_answered :
    (w : Now) → Holds w → (name number area : ℕ) (n : Name) (within : Option ℕ) (shape : Shape) →
    IsNumberOf w number shape → name_in (call w) name ≡ Some n → area_if (call w) area ≡ Some within →
    M.named w.state n shape ≡ None →
    A.free_served (call w) name number area ≡ Done (call w).services w.memory name no_generation_code
absent_answered w h name number area n within shape is named inside none =
    let found = asked_is w n number shape is
    ∙ ap Some (named_unfound w.keeper h.keeps w.layout w.places w.state w.services w.memory n number shape h.heap
    h.lives
    h.stored h.distinct is.shape_same none) in
    ap (λ z. or_bad z (λ n'. or_bad (area_if (call w) area) (λ within'. free n' within' (asked (call w) n' number))))
    named
    ∙ ap (λ z. or_bad z (λ within'. free n within' (asked (call w) n number))) inside
    ∙ ap (free n within) found
  where
    free : Name → Option ℕ → Option Finding → Answer
    free n' within' o =
        where_found o (Done (call w).services w.memory name no_generation_code)
        (λ f. A.name_freed (call w) name n' f.signature within')

pub elsewhere_answered :
    (w : Now) → Holds w → (name number area n o : ℕ) (within : Option ℕ) (shape : Shape) (g : Generation) →
    IsNumberOf w number shape → name_in (call w) name ≡ Some (BasedName n o) → area_if (call w) area ≡ Some within →
    A.is_given n within ≡ false → M.named w.state (BasedName n o) shape ≡ Some g →
    A.free_served (call w) name number area ≡ Done (call w).services w.memory name not_in_area_code
elsewhere_answered w h name number area n o within shape g is named inside other lives =
    let r = named_found w.keeper h.keeps w.layout w.places w.state w.services w.memory (BasedName n o) number shape g
    h.heap h.lives h.stored h.distinct is.shape_same lives in
    let found = asked_is w (BasedName n o) number shape is ∙ ap Some r.1 in
    ap (λ z. or_bad z (λ n'. or_bad (area_if (call w) area) (λ within'. free n' within' (asked (call w) n' number))))
    named
    ∙ ap (λ z. or_bad z (λ within'. free (BasedName n o) within' (asked (call w) (BasedName n o) number))) inside
    ∙ ap (free (BasedName n o) within) found
    ∙ ap (λ q. cond q (or_bad (area_at' n) (λ a. A.without_kept (call w) name o r.0.found.signature a))
    (Done (call w).services w.memory name not_in_area_code)) other
  where
    free : Name → Option ℕ → Option Finding → Answer
    free n' within' o =
        where_found o (Done (call w).services w.memory name no_generation_code)
        (λ f. A.name_freed (call w) name n' f.signature within')

    area_at' : ℕ → Option AreaBytes
    area_at' serial = F.area_at (call w) serial
