-- What holds when a service is called holds after an assignment and after areas change, and the services' state stays.
use Rattle.pli_meaning.specs.StorageState.{Living}
use Rattle.storage_relation.specs.Changes.{with_storage}
use Rattle.std.proofs.Common.{◌≡◌, ◌≢◌, ℕ, zero, ◌≤◌, List, [], Option, Some, None, Bool}
use Rattle.std.proofs.Common.{true}
use Rattle.std.proofs.Common.{false, refl, sym, ap, ◌∙◌, subst}
use Rattle.std.specs.Prelude.{cond, ◌==◌, ◌&&◌, is_some}
use Rattle.std.proofs.lemmas.Bool.{eqb-true}
use Rattle.pli_meaning.specs.BasicValues.{BasedName}
use Rattle.pli_meaning.specs.Contents.{Generation, Placed, greatest_end, footprint_of, gap}
use Rattle.pli_meaning.specs.Contents.{with_placed}
use Rattle.pli_meaning.specs.StorageState.{State, AreaContents, living_changed, area_changed}
use Rattle.pli_meaning.specs.StorageState.{with_area, heap_serial, heap_capacity, area_at, generation_at}
use Rattle.pli_meaning.specs.Codes.{area_code, heap_full_code}
use Rattle.pli_serving.specs.Answers.{Answer, Done}
use Rattle.pli_serving.specs.Outcomes.{or_bad, bad_unless}
use Rattle.pli_serving.specs.Arguments.{area_or_heap, area_named, is_area, AreaArgument}
use Rattle.pli_serving.specs.Finding.{AreaBytes, heap_bytes}
use Rattle.pli_serving.specs.Bytes.{name_size, is_data}
use Rattle.pli_serving.specs.AreaServices as A
use Rattle.pli_serving.specs.ServiceState as S
use Rattle.pli_serving.specs.ServiceState.{Controlled}
use Rattle.pli_serving.specs.ControlledServices as K
use Rattle.storage_relation.specs.Standing.{AreaOf}
use Rattle.storage_relation.specs.Stored.{Places, StoredAs, Lives, taken_as, slice, with_heap_made}
use Rattle.storage_relation.specs.Served.{Now, Holds, call, served_living, area_bytes_of, HasHeap, AreDistinct}
use Rattle.storage_relation.specs.Served.{NamesArea}
use Rattle.storage_relation.specs.Changes.{GivesArea, GivesHeap, GivesNamed}
use Rattle.storage_relation.specs.Changes.{area_then, HasGap, Asking, IsAsking, made_by, allocated}
use Rattle.storage_relation.proofs.Living.{lives_changed, stays_area}
use Rattle.storage_relation.proofs.Storing.{taken-other, taken-made}
use Rattle.storage_relation.proofs.Named.{area_holder}
use Rattle.storage_relation.proofs.Served.{served_changed}
use Rattle.storage_relation.proofs.Making.{placed_served, first_served, full_served}
use Rattle.storage_relation.proofs.Answering.{area_argued, empty_answer, assign_answer}
use Rattle.storage_relation.proofs.NameWords.{placed_named}
use Rattle.storage_relation.proofs.Controlled.{heap_made_same, heap_bytes_are, push_answer}
use Rattle.storage_relation.specs.Controlled.{Begins}

-- ---- what lives

pub lives_area :
    (π : Places) (s : State) (n : ℕ) (change : List Placed → List Placed) → Lives π s → Lives π (with_area n change s)
lives_area π s n change lives = by (n == heap_serial)
  where
    by :
        (q : Bool) →
        Lives π (cond q (record s { heap = change s.heap })
        (record s { living = living_changed n (area_changed change) s.living }))
    by true = record { falling = lives.falling; numbered = lives.numbered; extents = lives.extents }
    by false = lives_changed π s n (area_changed change) (stays_area change) lives

-- ---- the services' state

-- of a state, the rest as it is
abbrev pub seen_of : Now → State → S.Services
seen_of w s = (call (with_storage s w.memory w)).services

abbrev seen_as : Now → List S.Living → S.Services
seen_as w ls =
    record w.services {
      serials = w.state.serials;
      living = ls;
      signatures = w.places.signatures;
      heap_made = w.places.heap_made;
    }

pub seen_living :
    (w : Now) (n : ℕ) (change : Living → Living) →
    ((x : Living) → served_living w.places (change x) ≡ served_living w.places x) →
    seen_of w (record w.state { living = living_changed n change w.state.living }) ≡ (call w).services
seen_living w n change same = ap (seen_as w) (served_changed w.places n change w.state.living same)

pub served_area :
    (w : Now) (n : ℕ) (change : List Placed → List Placed) (new : List ℕ) →
    (call (area_then n change new w)).services ≡ (call w).services
served_area w n change new = by (n == heap_serial)
  where
    by :
        (q : Bool) →
        seen_of w (cond q (record w.state { heap = change w.state.heap })
        (record w.state { living = living_changed n (area_changed change) w.state.living })) ≡ (call w).services
    by true = refl
    by false = seen_living w n (area_changed change) (λ x. refl)

-- ---- areas change

pub area_holds :
    (w : Now) → Holds w → (n : ℕ) (change : List Placed → List Placed) (new : List ℕ) →
    StoredAs w.keeper w.places (with_area n change w.state) new → Holds (area_then n change new w)
area_holds w h n change new is =
    record {
      keeps = h.keeps;
      heap = h.heap;
      lives = lives_area w.places w.state n change h.lives;
      stored = is;
      distinct = h.distinct;
    }

-- ---- what stands for an area in a call

pub area_is_given :
    (w : Now) → Holds w → (at n : ℕ) → GivesArea w at n → (a : AreaContents) → area_at w.state n ≡ Some a →
    area_or_heap (call w) at ≡ Some (record { serial = n; area = area_bytes_of w.keeper w.places w.memory n a })
area_is_given w h zero zero GivesHeap a e =
    let f : record { capacity = heap_capacity; placed = w.state.heap } ≡ a = cc e in
    ap (λ b. Some (record { serial = heap_serial; area = b })) (heap_bytes_are w h)
    ∙ ap (λ b. Some (record { serial = heap_serial; area = area_bytes_of w.keeper w.places w.memory heap_serial b })) f
area_is_given w h at n (GivesNamed at' n' ne named) a e =
    ap (λ q. cond q (Some (record { serial = heap_serial; area = heap })) own) ne
    ∙ area_argued w h at n (record { some = named.some; name = named.name; area = a; lives = e })
    ∙ ap (λ bytes. Some (record { serial = n; area = record { at = w.places.at n; bytes = bytes } }))
    (sym (taken-other w.keeper w.places n (slice w.keeper w.places n (AreaOf a) w.memory) named.some))
  where
    heap : AreaBytes
    heap = heap_bytes (call w)

    own : Option AreaArgument
    own = area_named (call w) at

-- ---- ALLOCATE

abbrev pub PlacedNow : (w : Now) (n o signature : ℕ) → AreaContents → Generation → Places → List ℕ → Type 0
PlacedNow w n o signature a g π new =
    (A.placed_in (call w) (area_bytes_of w.keeper w.places w.memory n a) signature g
    ≡ Some (record { offset = o; memory = new }))
    × StoredAs w.keeper π (with_area n (with_placed (record { offset = o; generation = g })) w.state) new

pub placed_now :
    (w : Now) → Holds w → (n signature o : ℕ) (g : Generation) (h : HasGap w n g signature o) →
    (new : List ℕ) × PlacedNow w n o signature h.area g (made_by n w.places) new
placed_now w h n signature o g is = by (n == heap_serial) w.places.heap_made refl refl
  where
    plain : ((bytes : List ℕ) → taken_as w.keeper w.places n bytes ≡ bytes) →
        (new : List ℕ) × PlacedNow w n o signature is.area g w.places new
    plain taken =
        let r =
        placed_served w.keeper h.keeps w.layout w.places w.state w.services w.memory n o signature is.area g taken
        h.stored (area_holder w.state n is.area is.lives) is.free is.small is.fits is.shape is.values is.valued
        in
        (r.0, (r.1, r.2))

    first :
        n ≡ heap_serial → w.places.heap_made ≡ false →
        (new : List ℕ) × PlacedNow w n o signature is.area g (with_heap_made w.places) new
    first e f =
        let own : area_at w.state heap_serial ≡ Some is.area =
        subst (λ i. area_at w.state i ≡ Some is.area) e is.lives in
        let same : record { capacity = heap_capacity; placed = w.state.heap } ≡ is.area = cc own in
        let free = subst (λ (a : AreaContents). gap a.capacity (footprint_of g) a.placed ≡ Some o) (sym same) is.free in
        let r =
        first_served w.keeper h.keeps w.layout w.places w.state w.services w.memory o signature g f h.stored free
        is.small is.fits is.shape is.values is.valued
        in
        subst (λ i. (new : List ℕ) × PlacedNow w i o signature is.area g (with_heap_made w.places) new) (sym e)
        (subst (λ a. (new : List ℕ) × PlacedNow w heap_serial o signature a g (with_heap_made w.places) new) same
        (r.0, (r.1, r.2)))

    by :
        (q made : Bool) → (n == heap_serial) ≡ q → w.places.heap_made ≡ made →
        (new : List ℕ) × PlacedNow w n o signature is.area g (cond q (with_heap_made w.places) w.places) new
    by false made e f = plain (λ bytes. taken-other w.keeper w.places n bytes (λ z. cc (sym e ∙ ap (λ i. i == 0) z)))
    by true true e f =
        subst (λ π. (new : List ℕ) × PlacedNow w n o signature is.area g π new) (sym (heap_made_same w.places f))
        (plain (λ bytes. taken-made w.keeper w.places n bytes f))
    by true false e f = first (eqb-true n heap_serial e) f

placed_lives :
    (π : Places) (s : State) (n : ℕ) → Lives π s → Lives (made_by n π) s
placed_lives π s n lives = by (n == heap_serial)
  where
    by : (q : Bool) → Lives (cond q (with_heap_made π) π) s
    by true = record { falling = lives.falling; numbered = lives.numbered; extents = lives.extents }
    by false = lives

placed_heap : (w : Now) (n : ℕ) → HasHeap w.layout w.places → HasHeap w.layout (made_by n w.places)
placed_heap w n has = by (n == heap_serial)
  where
    by : (q : Bool) → HasHeap w.layout (cond q (with_heap_made w.places) w.places)
    by true = record { at = has.at; capacity = has.capacity }
    by false = has

placed_distinct : (n : ℕ) (π : Places) → AreDistinct π.signatures → AreDistinct (made_by n π).signatures
placed_distinct n π d = by (n == heap_serial)
  where
    by : (q : Bool) → AreDistinct (cond q (with_heap_made π) π).signatures
    by true = d
    by false = d

pub allocated_holds :
    (w : Now) → Holds w → (n o : ℕ) (g : Generation) (new : List ℕ) →
    StoredAs w.keeper (made_by n w.places) (with_area n (with_placed (record { offset = o; generation = g })) w.state)
    new → Holds (allocated n o g new w)
allocated_holds w h n o g new stored =
    record {
      keeps = h.keeps;
      heap = placed_heap w n h.heap;
      lives = lives_area (made_by n w.places) w.state n (with_placed (record { offset = o; generation = g }))
          (placed_lives w.places w.state n h.lives);
      stored = stored;
      distinct = placed_distinct n w.places h.distinct;
    }

pub allocated_served :
    (w : Now) (n o : ℕ) (g : Generation) (new : List ℕ) →
    (call (allocated n o g new w)).services ≡ A.with_heap n (call w).services
allocated_served w n o g new = by (n == heap_serial)
  where
    change : List Placed → List Placed
    change = with_placed (record { offset = o; generation = g })

    by :
        (q : Bool) →
        (call (record w {
          places = cond q (with_heap_made w.places) w.places;
          state = cond q (record w.state { heap = change w.state.heap })
              (record w.state { living = living_changed n (area_changed change) w.state.living });
        })).services
        ≡ cond q (record (call w).services { heap_made = true }) (call w).services
    by true = refl
    by false = seen_living w n (area_changed change) (λ x. refl)

-- ---- 10: without a gap

pub allocate_step :
    (w : Now) → Holds w → (q : Asking) (n : ℕ) (g : Generation) (a : AreaContents) → IsAsking w q n g →
    area_at w.state n ≡ Some a →
    A.allocate_served (call w) q.area q.signature q.extent q.initial q.destination
    ≡ A.allocation_answered (call w) q.area q.destination n
    (A.placed_in (call w) (area_bytes_of w.keeper w.places w.memory n a) q.signature g)
allocate_step w h q n g a asks e =
    let own : AreaArgument = record { serial = n; area = area_bytes_of w.keeper w.places w.memory n a } in
    let stands = h.stored.stands n (AreaOf a) (area_holder w.state n a e) in
    let one : is_area (call w) own ≡ true = ap is_some stands.stands in
    ap (λ z. or_bad z (λ a'. or_bad (A.begun (call w) q.signature q.extent q.initial) (λ g'. answer a' g')))
    (area_is_given w h q.area n asks.area a e)
    ∙ ap (λ z. or_bad z (answer own)) asks.begun
    ∙ ap (λ b. bad_unless (b && is_data w.layout q.destination name_size) (placed own g)) one
    ∙ ap (λ b. bad_unless b (placed own g)) asks.there
  where
    placed : AreaArgument → Generation → Answer
    placed a' g' =
        A.allocation_answered (call w) q.area q.destination a'.serial (A.placed_in (call w) a'.area q.signature g')

    answer : AreaArgument → Generation → Answer
    answer a' g' = bad_unless (is_area (call w) a' && is_data w.layout q.destination name_size) (placed a' g')

pub full_answered :
    (w : Now) → Holds w → (q : Asking) (n : ℕ) (g : Generation) (a : AreaContents) → IsAsking w q n g →
    area_at w.state n ≡ Some a → gap a.capacity (footprint_of g) a.placed ≡ None →
    A.allocate_served (call w) q.area q.signature q.extent q.initial q.destination
    ≡ Done (call w).services w.memory q.area (cond (n == heap_serial) heap_full_code area_code)
full_answered w h q n g a asks e none =
    allocate_step w h q n g a asks e
    ∙ ap (A.allocation_answered (call w) q.area q.destination n)
    (full_served w.keeper h.keeps w.layout w.places w.state w.services w.memory n q.signature a g h.stored
    (area_holder w.state n a e) none)

-- the new name names what was placed
pub allocated_named :
    (w : Now) (n o : ℕ) (g : Generation) (new : List ℕ) (a : AreaContents) → Holds (allocated n o g new w) →
    area_at w.state n ≡ Some a → generation_at (allocated n o g new w).state (BasedName n o) ≡ Some g
allocated_named w n o g new a h e =
    placed_named w.keeper h.keeps (made_by n w.places) w.state new n o g a e h.stored

-- ---- 12 and 13

pub copied_answered :
    (w : Now) → Holds w → (target source i j : ℕ) (to : NamesArea w target i) (from : NamesArea w source j) →
    i ≢ j → greatest_end from.area.placed ≤ to.area.capacity →
    (new : List ℕ) × Holds (area_then i (λ placed. from.area.placed) new w)
    × (A.area_assignment_served (call w) target source ≡ Done (call w).services new target 0)
copied_answered w h target source i j to from ne room =
    let r = assign_answer w h target source i j to from ne room in
    (r.0, area_holds w h i (λ placed. from.area.placed) r.0 r.2, r.1)

pub emptied_answered :
    (w : Now) → Holds w → (at x n : ℕ) → NamesArea w at n →
    (new : List ℕ) × Holds (area_then n (λ placed. []) new w)
    × (A.empty_served (call w) at x ≡ Done (call w).services new at x)
emptied_answered w h at x n is =
    let r = empty_answer w h at x n is in
    (r.0, area_holds w h n (λ placed. []) r.0 r.2, r.1)

-- ---- 16

pub pushed_answered :
    (w : Now) → Holds w → (number signature initial o : ℕ) (g : Generation) → Begins w number signature initial g →
    gap heap_capacity (footprint_of g) w.state.heap ≡ Some o →
    (new : List ℕ) × Holds (allocated heap_serial o g new w)
    × (K.push_served (call w) number signature initial
    ≡ Done (K.with_newest number (record { offset = o; signature = signature })
    (call (allocated heap_serial o g new w)).services) new number 0)
pushed_answered w h number signature initial o g b free =
    let r = push_answer w h number signature initial o g b free in
    (r.0, allocated_holds w h heap_serial o g r.0 r.2, r.1)
