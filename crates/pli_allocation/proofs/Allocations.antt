-- Services that place generations, by what was placed.
use Rattle.std.proofs.Common.{◌≡◌, ℕ, ◌+◌, List, [], length, Option, Some, None, Result, Ok, Err, Bool, true, false, refl, sym, ap, ◌∙◌, arith}
use Rattle.std.specs.Prelude.{◌&&◌, ◌==◌, ◌≢◌, if◌then◌else◌, is_some}
use Rattle.std.proofs.lemmas.Bool.Decides.{nat_tests}
use Rattle.area_keeper.specs.Keeper.{Keeper}
use Rattle.area_keeper.specs.KeeperLaws.{Keeps}
use Rattle.area_heap.specs.Answers.{offset_or_fault}
use Rattle.area_heap.specs.declared.fault.AreaFault.{AreaFault}
use Rattle.pli_meaning.specs.BasicValues.{BasedName}
use Rattle.pli_meaning.specs.Contents.{Generation}
use Rattle.pli_serving.specs.Answers.{Done}
use Rattle.pli_serving.specs.Arguments.{AreaArgument, area_named, area_or_heap, is_area}
use Rattle.pli_serving.specs.AreaServices.{allocation_answered, is_heap, with_data, with_heap}
use Rattle.pli_serving.specs.Bytes.{is_data, name_bytes, name_size, with_bytes}
use Rattle.pli_serving.specs.Finding.{AreaBytes, Call, heap_bytes}
use Rattle.pli_serving.specs.ControlledServices.{heap_of}
use Rattle.pli_serving.specs.Outcomes.{bad_unless}
use Rattle.pli_serving.specs.ServiceState.{Services}
use Rattle.pli_serving.specs.Values.{generation_bytes}
use Rattle.pli_storage.specs.declared.held.Held.{Held}
use Rattle.pli_storage.specs.Held.{IsLaid, holding, with_held}
use Rattle.pli_storage.proofs.Lookups.{unmade_empty}
use Rattle.pli_allocation.specs.Allocating.{begun_answered, begun_placed, full_code, held_with}
use Rattle.pli_allocation.specs.Placing.{heap_first, memory_placed, placing}
use Rattle.pli_allocation.specs.declared.allocating.Allocation.{Allocation}

heap_made : (area : ℕ) (h : Held) (v : Services) → with_heap area (holding h v) ≡ holding (held_with area h) v
heap_made area h v = by_test (is_heap area)
  where
    by_test : (t : Bool) → (if t then record (holding h v) { heap_made = true } else holding h v) ≡ holding (if t then record h { heap_made = true } else h) v
    by_test true = refl
    by_test false = refl

pub answered_so : (k : Keeper) (h h' : Held) (m m1 m' : List ℕ) (c : Call) (w : Allocation) (a : AreaArgument) (g : Generation) (offset : ℕ) (o : Option (ℕ × List ℕ)) → o ≡ placing k w.signature g a.area.bytes → Ok offset ≡ offset_or_fault o → m1 ≡ memory_placed k a.area.at (generation_bytes g) m o → h' ≡ held_with a.serial h → m' ≡ with_bytes (name_bytes (BasedName a.serial offset)) w.destination m1 → begun_answered (with_held k h m c) w a g ≡ Done (holding h' c.services) m' w.area 0
answered_so k h h' m m1 m' c w a g offset o e answer placed held named =
    ap (λ o. allocation_answered (with_held k h m c) w.area w.destination a.serial (with_data (with_held k h m c) a.area g o)) (sym e) ∙ by_option o answer placed
  where
    by_option : (o : Option (ℕ × List ℕ)) → Ok offset ≡ offset_or_fault o → m1 ≡ memory_placed k a.area.at (generation_bytes g) m o → allocation_answered (with_held k h m c) w.area w.destination a.serial (with_data (with_held k h m c) a.area g o) ≡ Done (holding h' c.services) m' w.area 0
    by_option None answer placed = cc
    by_option (Some p) answer placed =
        let at : offset ≡ p.0 = cc in
        let C = with_held k h m c in
        ap (λ (v : Services). Done v (with_bytes (name_bytes (BasedName a.serial p.0)) w.destination (with_bytes (generation_bytes g) (a.area.at + k.data_at p.0 p.1) (with_bytes p.1 a.area.at m))) w.area 0) (heap_made a.serial h c.services ∙ ap (λ (h : Held). holding h c.services) (sym held))
        ∙ ap (λ (m : List ℕ). Done (holding h' c.services) (with_bytes (name_bytes (BasedName a.serial p.0)) w.destination m) w.area 0) (sym placed)
        ∙ ap (λ n. Done (holding h' c.services) (with_bytes (name_bytes (BasedName a.serial n)) w.destination m1) w.area 0) (sym at)
        ∙ ap (λ (m : List ℕ). Done (holding h' c.services) m w.area 0) (sym named)

pub answered_none : (k : Keeper) (h : Held) (m m1 : List ℕ) (c : Call) (w : Allocation) (a : AreaArgument) (g : Generation) (fault : AreaFault) (code : ℕ) (o : Option (ℕ × List ℕ)) → o ≡ placing k w.signature g a.area.bytes → Err fault ≡ offset_or_fault o → m1 ≡ memory_placed k a.area.at (generation_bytes g) m o → code ≡ full_code a.serial → begun_answered (with_held k h m c) w a g ≡ Done (holding h c.services) m1 w.area code
answered_none k h m m1 c w a g fault code o e answer placed full =
    ap (λ o. allocation_answered (with_held k h m c) w.area w.destination a.serial (with_data (with_held k h m c) a.area g o)) (sym e) ∙ by_option o answer placed
  where
    by_option : (o : Option (ℕ × List ℕ)) → Err fault ≡ offset_or_fault o → m1 ≡ memory_placed k a.area.at (generation_bytes g) m o → allocation_answered (with_held k h m c) w.area w.destination a.serial (with_data (with_held k h m c) a.area g o) ≡ Done (holding h c.services) m1 w.area code
    by_option None answer placed =
        ap (λ (m : List ℕ). Done (holding h c.services) m w.area (full_code a.serial)) (sym placed) ∙ ap (λ n. Done (holding h c.services) m1 w.area n) (sym full)
    by_option (Some p) answer placed = cc

-- ---- the heap before anything was placed in it

abbrev pub unmade_heap : Keeper → Held → List ℕ → AreaArgument
unmade_heap k h m = record { serial = 0; area = record { at = h.layout.heap_at; bytes = heap_first k h.layout m } }

heap_unmade : (k : Keeper) (h : Held) (m : List ℕ) (c : Call) → h.heap_made ≡ false → heap_of (with_held k h m c) ≡ unmade_heap k h m
heap_unmade k h m c made = rw made refl

some_true : {A : Type 0} (o : Option A) (a : A) → o ≡ Some a → is_some o ≡ true
some_true o a e = ap is_some e

pub begun_first : (k : Keeper) (h : Held) (m : List ℕ) (c : Call) (w : Allocation) (g : Generation) → Keeps k → IsLaid k h.layout m → h.heap_made ≡ false → true ≡ is_data (with_held k h m c).layout w.destination name_size → begun_placed (with_held k h m c) w (heap_of (with_held k h m c)) g ≡ begun_answered (with_held k h m c) w (unmade_heap k h m) g
begun_first k h m c w g keeps laid made there =
    let C = with_held k h m c in
    let is_one : is_area C (heap_of C) ≡ true = some_true (k.area_of (heap_bytes C).bytes) (record { capacity = h.layout.heap_capacity; placed = [] }) (unmade_empty C keeps made laid.rounded laid.bounded laid.heap_within) in
    ap (λ (t : Bool). bad_unless (t && is_data C.layout w.destination name_size) (begun_answered C w (heap_of C) g)) is_one
    ∙ ap (λ (t : Bool). bad_unless t (begun_answered C w (heap_of C) g)) (sym there)
    ∙ ap (λ (a : AreaArgument). begun_answered C w a g) (heap_unmade k h m c made)

-- ---- which area is meant

pub heap_asked : (c : Call) (area : ℕ) → area ≡ 0 → area_or_heap c area ≡ Some (heap_of c)
heap_asked c area e =
    let same : (area == 0) ≡ true = grind (arith, nat_tests) in
    ap (λ (t : Bool). if t then Some (heap_of c) else area_named c area) same

pub named_asked : (c : Call) (area : ℕ) → area ≢ 0 → area_or_heap c area ≡ area_named c area
named_asked c area e =
    let other : (area == 0) ≡ false = grind (arith, nat_tests) in
    ap (λ (t : Bool). if t then Some (heap_of c) else area_named c area) other
