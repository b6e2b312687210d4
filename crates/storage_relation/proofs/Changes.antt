-- What holds at a call holds after an assignment, after writes apart from storage, and after variables begin and end.
use Rattle.std.specs.Prelude.{◌==◌}
use Rattle.std.proofs.Common.{false, true}
use Rattle.std.proofs.Common.{◌≡◌, ℕ, suc, ◌+◌, ◌%◌, ◌≤◌, List, ◌∷◌, length, Option, Some, None}
use Rattle.std.proofs.Common.{refl, sym, ap, ◌∙◌, ℤ, arith}
use Rattle.std.specs.Prelude.{cond, nat_le}
use Rattle.std.specs.List.{filter}
use Rattle.pli_meaning.specs.BasicValues.{BasicValue, Name, NullName, VariableName, BasedName}
use Rattle.pli_meaning.specs.Contents.{Generation, changed_at}
use Rattle.pli_meaning.specs.Evaluating.{Designated, first_leaf}
use Rattle.pli_meaning.specs.Placing.{with_element}
use Rattle.pli_meaning.specs.StorageState.{State, generation_at, with_generation, generation_changed, heap_serial}
use Rattle.pli_serving.specs.ServiceState as S
use Rattle.pli_serving.specs.Making as G
use Rattle.pli_serving.specs.Answers.{Done}
use Rattle.pli_serving.specs.Arguments.{data_bytes}
use Rattle.pli_serving.specs.Bytes.{is_data, name_size}
use Rattle.pli_meaning.specs.StorageState.{most_automatic, automatic_in_use}
use Rattle.std.specs.Prelude.{nat_lt, ◌^◌}
use Rattle.pli_meaning.specs.Contents.{footprint_of}
use Rattle.storage_relation.specs.Changes.{variable_of}
use Rattle.pli_serving.specs.Stored.{kept_bytes}
use Rattle.area_keeper.specs.KeptAreas.{with_part}
use Rattle.storage_relation.specs.Telling.{Tells}
use Rattle.storage_relation.specs.Standing.{Holder, Alone, AreaOf, held, leaf_in, place_in}
use Rattle.storage_relation.specs.Standing.{address_now}
use Rattle.storage_relation.specs.Standing.{IsElementNow, IsPlain}
use Rattle.storage_relation.specs.Stored.{Places, Lives, place_held, place_of, IsClear, AreLow}
use Rattle.storage_relation.specs.Stored.{with_place}
use Rattle.storage_relation.specs.Stored.{with_living, Extends}
use Rattle.storage_relation.specs.Served.{Now, Holds, call, place_now, AreDistinct}
use Rattle.storage_relation.specs.Changes.{with_memory, IsAssignable, assigned, Making, IsMaking, made}
use Rattle.storage_relation.specs.Changes.{ended}
use Rattle.storage_relation.specs.Changes.{with_table}
use Rattle.pli_types.specs.Templates.{Template}
use Rattle.storage_relation.proofs.Slices.{part_beside}
use Rattle.storage_relation.proofs.Holders.{eqb-other}
use Rattle.storage_relation.proofs.Elements.{element_inside, size_covers}
use Rattle.storage_relation.proofs.Kept.{kept_length}
use Rattle.storage_relation.proofs.Turning.{stored_beside}
use Rattle.storage_relation.proofs.Named.{places_stay}
use Rattle.storage_relation.proofs.Aligned.{named_placed, element_aligned}
use Rattle.storage_relation.proofs.Confined.{element_assigned, address_same, element_allocated, element_read}
use Rattle.storage_relation.proofs.Making.{same_held}
use Rattle.storage_relation.proofs.Making as Making
use Rattle.storage_relation.proofs.Placing as Placing
use Rattle.storage_relation.proofs.Living.{lives_added, lives_ended, lives_changed, lives_signatures, stays_generation}
use Rattle.storage_relation.proofs.Calls.{lives_area, seen_of, seen_living, served_area}
use Rattle.storage_relation.proofs.Served.{served_added, make_answer, in_use}
use Rattle.storage_relation.proofs.FoundValues.{served_left}

-- ---- elements

lives_element :
    (π : Places) (s : State) (n : Name) (d : Designated) (v : BasicValue) → Lives π s →
    Lives π (with_generation n (with_element d v) s)
lives_element π s NullName d v lives = lives
lives_element π s (VariableName n) d v lives =
    lives_changed π s n (generation_changed (with_element d v))
    (stays_generation (with_element d v) (λ y. refl) (λ y. refl)) lives
lives_element π s (BasedName n o) d v lives = lives_area π s n (changed_at o (with_element d v)) lives

pub assigned_holds :
    (w : Now) → Holds w → (d : Designated) (v : BasicValue) → IsAssignable w d v → Holds (assigned d v w)
assigned_holds w h d v is =
    record {
      keeps = h.keeps;
      heap = h.heap;
      lives = lives_element w.places w.state d.name d v h.lives;
      stored = element_assigned w.keeper h.keeps w.places w.state w.memory (w.state.serials + 1) d v h.stored
          h.lives.falling is.lives is.plain is.element is.storable;
      distinct = h.distinct;
    }

pub assigned_served : (w : Now) (d : Designated) (v : BasicValue) → (call (assigned d v w)).services ≡ (call w).services
assigned_served w d v = by d.name
  where
    by : (n : Name) → seen_of w (with_generation n (with_element d v) w.state) ≡ (call w).services
    by NullName = refl
    by (VariableName n) = seen_living w n (generation_changed (with_element d v)) (λ x. refl)
    by (BasedName n o) = served_area w n (changed_at o (with_element d v)) w.memory

pub element_held :
    (w : Now) → Holds w → (n : Name) (g : Generation) (z : ℤ) (leaf : ℕ) (is : List ℤ) →
    generation_at w.state n ≡ Some g → IsPlain g → IsElementNow g z leaf is →
    Tells (leaf_in g leaf).kind (g.values leaf is) (address_now g z leaf is (place_now w n)) w.memory
    × (address_now g z leaf is (place_now w n) % 4 ≡ 0)
element_held w h n g z leaf is e plain now =
    let place = named_placed w.keeper h.keeps w.places w.state w.memory (w.state.serials + 1) n g h.stored
    h.lives.falling e plain in
    let p = place.1 in
    let q = element_aligned g leaf is in
    let same = address_same g z leaf is (place_now w n) now in (
      element_read w.keeper h.keeps w.places w.state w.memory (w.state.serials + 1) n g z leaf is h.stored
          h.lives.falling e plain now,
      omega (arith, p, q, same),
    )

-- an assignment moves nothing
pub assigned_stays :
    (w : Now) → Holds w → (d : Designated) (v : BasicValue) → IsAssignable w d v → (n : Name) (g : Generation) →
    generation_at w.state n ≡ Some g → place_now (assigned d v w) n ≡ place_now w n
assigned_stays w h d v is n g e =
    let o = d.generation in
    let leaf = d.part.first in
    let own = element_allocated o d.extent leaf d.subscripts is.element in
    let inside = element_inside o leaf d.subscripts own in
    let covers = size_covers (leaf_in o leaf).kind in
    let few = kept_length (first_leaf d).kind (leaf_in o leaf).kind v is.storable in
    let same = address_same o d.extent leaf d.subscripts (place_now w d.name) is.element in
    ap (λ a. place_of w.keeper w.places (with_generation d.name (with_element d v) w.state)
    (with_part (kept_bytes (first_leaf d).kind v) a w.memory) n) same
    ∙ places_stay w.keeper h.keeps w.places w.state w.memory (kept_bytes (first_leaf d).kind v) (w.state.serials + 1)
    (place_in o leaf d.subscripts) d.name n o g (with_element d v) h.stored h.lives.falling is.lives is.plain e
    (omega (arith, inside, covers, few))

-- ---- writes apart

pub apart_holds :
    (w : Now) → Holds w → (at : ℕ) (new : List ℕ) → IsClear w.keeper w.places w.state at (length new) →
    at + length new ≤ length w.memory → Holds (with_memory (with_part new at w.memory) w)
apart_holds w h at new clear room =
    record {
      keeps = h.keeps;
      heap = h.heap;
      lives = h.lives;
      stored = stored_beside w.keeper w.places w.state w.memory new at h.stored room clear;
      distinct = h.distinct;
    }

pub apart_stays :
    (w : Now) → Holds w → (at : ℕ) (new : List ℕ) → IsClear w.keeper w.places w.state at (length new) →
    at + length new ≤ length w.memory → (n : Name) → place_now (with_memory (with_part new at w.memory) w) n
    ≡ place_now w n
apart_stays w h at new clear room NullName = refl
apart_stays w h at new clear room (VariableName n) = refl
apart_stays w h at new clear room (BasedName n o) = by (held w.state n) refl
  where
    by :
        (x : Option Holder) → held w.state n ≡ x →
        place_held w.keeper w.places (with_part new at w.memory) n o x ≡ place_held w.keeper w.places w.memory n o x
    by None e = refl
    by (Some (Alone g)) e = refl
    by (Some (AreaOf a)) e =
        ap (λ bytes. w.places.at n + w.keeper.data_at o bytes)
        (part_beside (w.places.at n) (w.keeper.bytes_for a.capacity) new at w.memory room
        (h.stored.inside n (AreaOf a) e) (clear.0 n (AreaOf a) e))

-- ---- variables

some_serial : (w : Now) (q : Making) → IsMaking w q → q.living.serial ≡ heap_serial → ⊥
some_serial w q is e = let s = is.serial in omega (arith, s, e)

pub made_holds : (w : Now) → Holds w → (q : Making) → IsMaking w q → Holds (made q w)
made_holds w h q is =
    record {
      keeps = h.keeps;
      heap = record { at = h.heap.at ∙ sym heap_stays; capacity = h.heap.capacity };
      lives = lives_added w.places w.state q.living q.place q.number is.serial is.extent is.shape h.lives;
      stored =
          same_held w.keeper (with_place q.living.serial q.place q.number w.places) (with_living q.living w.state)
          (record w.state { serials = w.state.serials + 1; living = q.living ∷ w.state.living })
          (with_part q.named q.name (with_part q.data_bytes q.place w.memory)) refl refl
          (Making.made w.keeper w.places w.state w.memory q.data_bytes q.named q.living q.place q.name q.number h.stored
          (some_serial w q is) is.room is.behind is.aligned is.name_room is.beside is.clear is.name_clear is.long
          is.stands);
      distinct = h.distinct;
    }
  where
    heap_stays : (with_place q.living.serial q.place q.number w.places).at heap_serial ≡ w.places.at heap_serial
    heap_stays =
        ap (λ b. cond b q.place (w.places.at heap_serial))
        (eqb-other heap_serial q.living.serial (λ e. some_serial w q is (sym e)))

pub made_served :
    (w : Now) → Holds w → (q : Making) → IsMaking w q →
    (call (made q w)).services.living
    ≡ record { serial = q.living.serial; owner = q.living.owner; signature = q.number; at = q.place }
    ∷ (call w).services.living
made_served w h q is = served_added w.places w.state q.living q.place q.number is.serial h.lives

pub ended_holds : (w : Now) → Holds w → (height : ℕ) → Holds (ended height w)
ended_holds w h height =
    record {
      keeps = h.keeps;
      heap = h.heap;
      lives = lives_ended w.places w.state height h.lives;
      stored = Placing.ended w.keeper w.places w.state w.memory (w.state.serials + 1) height h.lives.falling h.stored;
      distinct = h.distinct;
    }

pub ended_served :
    (w : Now) (height : ℕ) → AreLow (suc height) w.state.living →
    (call (ended (suc height) w)).services.living
    ≡ filter (λ (l : S.Living). nat_le l.owner height) (call w).services.living
ended_served w height low = sym (served_left w.places height w.state.living low)

-- ---- more signatures

pub table_holds :
    (w : Now) → Holds w → (t : List Template) → Extends w.places.signatures t → AreDistinct t → Holds (with_table t w)
table_holds w h t more distinct =
    record {
      keeps = h.keeps;
      heap = record { at = h.heap.at; capacity = h.heap.capacity };
      lives = lives_signatures w.places w.state t more h.lives;
      stored = Placing.more_signatures w.keeper w.places w.state w.memory t more h.stored;
      distinct = distinct;
    }

-- ---- service 7

-- the limit is the meaning's
pub limit_same :
    (w : Now) → Holds w → (owner : ℕ) (g : Generation) →
    G.passes_limit (call w).services owner g
    ≡ cond (owner == 0) false (nat_lt most_automatic (automatic_in_use w.state.living + footprint_of g))
limit_same w h owner g =
    ap (λ n. cond (owner == 0) false (nat_lt most_automatic (n + footprint_of g)))
    (in_use w.places (w.state.serials + 1) w.state.living h.lives.falling h.lives.numbered h.lives.extents)

pub variable_answered :
    (w : Now) → Holds w → (name signature place owner : ℕ) (g : Generation) →
    IsMaking w (variable_of w name signature place owner g) → G.passes_limit (call w).services owner g ≡ false →
    nat_lt (w.state.serials + 1) (2 ^ 64) ≡ true →
    (is_data w.layout place (data_bytes w.keeper g.shape) ≡ true) × (is_data w.layout name name_size ≡ true) →
    Holds (made (variable_of w name signature place owner g) w)
    × (G.limited (call w) name signature place owner g
    ≡ Done (call (made (variable_of w name signature place owner g) w)).services
    (made (variable_of w name signature place owner g) w).memory name signature)
variable_answered w h name signature place owner g is limit small there = (
  made_holds w h (variable_of w name signature place owner g) is,
  make_answer w name signature place owner g limit small there
      ∙ ap (λ ls. Done (record (call w).services { serials = w.state.serials + 1; living = ls })
      (made (variable_of w name signature place owner g) w).memory name signature)
      (sym (made_served w h (variable_of w name signature place owner g) is)),
)
