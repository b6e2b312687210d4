-- The code of assignments, ALLOCATE and FREE has no more words than their nodes take.
use Rattle.std.proofs.Common.{ℕ, ◌+◌, ◌≤◌, List, [], ◌∷◌, ◌++◌, Bool, true, false, arith, ℤ, Option, Some, None}
use Rattle.std.proofs.Common.{if◌then◌else◌}
use Rattle.std.specs.Prelude.{nat_lt, slice_get}
use Rattle.rv_meaning.specs.declared.instr.Register.{Register}
use Rattle.pli_typing.specs.TypedTree as Y
use Rattle.pli_meaning.specs.Numbers.{operator_precision}
use Rattle.pli_coding.specs.Registers.{zero_register, frame_register, a0, a1, a2, a3, a4, u1}
use Rattle.pli_coding.specs.Assembly.{NumberWord, Code, size_of}
use Rattle.pli_coding.specs.Instructions.{is_immediate, small, number, service, tested_service, load_word, store_word}
use Rattle.pli_coding.specs.Environments.{Environment, Taken, with_number, with_words, save, fetch, declaration_of}
use Rattle.pli_coding.specs.StaticForms.{initial_datum}
use Rattle.pli_coding.specs.Locating as L
use Rattle.pli_coding.specs.Expressions as X
use Rattle.pli_coding.specs.Storing as S
use Rattle.pli_coding.specs.Extents as E
use Rattle.pli_coding.specs.Allocating as A
use Rattle.code_sizes.specs.ExpressionSizes.{pointer_size, reference_size, locator_size, subscripts_size, stored_size}
use Rattle.code_sizes.specs.StoringSizes.{put_size, assignment_size, record_size, elements_size, aggregate_size}
use Rattle.code_sizes.specs.StoringSizes.{target_size, allocation_size, allocations_size, freeing_size, freeings_size}
use Rattle.code_sizes.specs.StoringSizes.{StoringSized}
use Rattle.code_sizes.proofs.PieceSizes.{both, one_of, none, constant_most, number_most, load_most, store_most}
use Rattle.code_sizes.proofs.PieceSizes.{save_most, fetch_most, own_most, name_most, number_loaded_most, copied_most}
use Rattle.code_sizes.proofs.PieceSizes.{frame_found_most, number_more, number_more_most}
use Rattle.code_sizes.proofs.ReachedSizes.{found_first_most, leaf_most, counted_size, subscripts_most}
use Rattle.code_sizes.proofs.ExpressionSizes.{standing_most, kind_most, address_most, given_size, subscripts_split}
use Rattle.code_sizes.proofs.ExpressionSizes.{locator_sized, subscripts_sized, pointer_sized, reference_sized}
use Rattle.code_sizes.proofs.ExpressionSizes.{stored_sized}

-- ---- scalars

pub stored_most : (type : Y.LeafType) (r : Register) (a : L.Address) → size_of (L.stored type r a) ≤ 3
stored_most (Y.FixedLeaf p) r a = one_of (is_immediate a.displacement) _ _ (omega arith) (omega arith)
stored_most Y.BitLeaf r a = one_of (is_immediate a.displacement) _ _ (omega arith) (omega arith)
stored_most (Y.CharacterLeaf n) r a = store_most a.register r a.displacement
stored_most (Y.VaryingLeaf n) r a = store_most a.register r a.displacement
stored_most Y.PointerLeaf r a = store_most a.register r a.displacement
stored_most (Y.OffsetLeaf area) r a = store_most a.register r a.displacement
stored_most (Y.AreaLeaf n) r a = store_most a.register r a.displacement

pub word_most : (e : Environment) (t : Taken) (r : Y.Reference)
    → size_of (S.word_stored e t r) ≤ reference_size r + 9
word_most e t r =
    let into = stored_most (X.type_in e r) a0 (X.address_in e r) in
    one_of (S.is_near e r) _ _
    (let all = both (X.reference_code e t r) _ (reference_sized e t r) into in omega (arith, all))
    (let all = both (save a0 t) _ (save_most a0 t)
    (both (X.reference_code e (with_number t) r) _ (reference_sized e (with_number t) r)
    (both (fetch a0 t) _ (fetch_most a0 t) into)) in omega (arith, all))

pub text_into_most : (type : Y.LeafType) (a : L.Address) → size_of (L.text_stored type a) ≤ 12
text_into_most type a =
    both (L.address_offset a) _ (address_most a)
    (both (L.text_kind type) (service 27) (kind_most type) {n = 2} (omega arith))

pub top_most : (e : Environment) (t : Taken) (r : Y.Reference)
    → size_of (S.top_stored e t r) ≤ reference_size r + 12
top_most e t r =
    both (X.reference_code e t r) _ (reference_sized e t r) (text_into_most (X.type_in e r) (X.address_in e r))

pub name_into_most : (e : Environment) (t : Taken) (r : Y.Reference)
    → size_of (S.name_stored e t r) ≤ reference_size r + 24
name_into_most e t r =
    both (X.reference_code e (with_words 4 t) r) _ (reference_sized e (with_words 4 t) r)
    (copied_most (L.in_own_frame (L.waiting_name t)) (X.address_in e r))

into_most : (e : Environment) (t : Taken) (r : Y.Reference) (v : Y.Stored)
    → size_of (S.stored_into e t r v) ≤ reference_size r + put_size v
into_most e t r (Y.StoredNumber precision x) = word_most e t r
into_most e t r (Y.StoredText x) = top_most e t r
into_most e t r (Y.StoredBit x) = word_most e t r
into_most e t r (Y.StoredPointer x) = name_into_most e t r
into_most e t r (Y.StoredOffset x) = word_most e t r

pub assigned_most : (e : Environment) (t : Taken) (r : Y.Reference) (v : Y.Stored)
    → size_of (S.assigned_code e t r v) ≤ assignment_size r v
assigned_most e t r v = both (X.stored_code e t v) _ (stored_sized e t v) (into_most e t r v)

named_most : (e : Environment) (t : Taken) (r : Y.Reference) (x : Y.Pointer) (place : Option ℤ)
    → size_of (S.name_assigned e t r x place) ≤ pointer_size x + (reference_size r + 24)
named_most e t r x None =
    both (X.pointer_to e t (L.waiting_name t) x) _ (pointer_sized e t (L.waiting_name t) x) (name_into_most e t r)
named_most e t r x (Some place) = let p = pointer_sized e t place x in omega (arith, p)

pub assignment_most : (e : Environment) (t : Taken) (r : Y.Reference) (v : Y.Stored)
    → size_of (S.assignment_code e t r v) ≤ assignment_size r v
assignment_most e t r (Y.StoredNumber precision x) = assigned_most e t r (Y.StoredNumber precision x)
assignment_most e t r (Y.StoredText x) = assigned_most e t r (Y.StoredText x)
assignment_most e t r (Y.StoredBit x) = assigned_most e t r (Y.StoredBit x)
assignment_most e t r (Y.StoredPointer x) = named_most e t r x (S.place_assigned e r x)
assignment_most e t r (Y.StoredOffset x) = assigned_most e t r (Y.StoredOffset x)

-- ---- records of aggregates

recorded_most : (t : Taken) (word : ℕ) (r : Register) → size_of (S.record_stored t word r) ≤ 3
recorded_most t word r = store_most frame_register r (S.record_place t word)

extent_most : (t : Taken) (b : Bool) → size_of (S.extent_recorded t b) ≤ 3
extent_most t true = recorded_most t 3 a0
extent_most t false = recorded_most t 3 zero_register

-- with room for one number more
found_and_number : (e : Environment) (t found : Taken) (v : Y.Variable) (part : Y.Part)
    → size_of (S.aggregate_found e t found v part) + number_more (L.located e found v).number ≤ 62
found_and_number e t found v part = by (L.is_direct e v) where
  leaf : Code
  leaf =
      L.leaf_found e (L.located e found v) part.first (L.needs_buffer (L.leaf_number e v part.first))
      (L.is_referred e v part)

  by : (b : Bool) → size_of (if b then S.extent_recorded t false
      else L.class_found e found v v.class ++ (leaf ++ S.extent_recorded t (L.is_referred e v part)))
      + number_more (L.located e found v).number ≤ 62
  by true =
      let m = extent_most t false in
      let more = number_more_most (L.located e found v).number in
      omega (arith, m, more)
  by false =
      let first = found_first_most e found v (declaration_of e v) v.class in
      let all = both (L.class_found e found v v.class) _ {m = size_of (L.class_found e found v v.class)} (omega arith)
      (both leaf _
      (leaf_most e (L.located e found v) part.first (L.needs_buffer (L.leaf_number e v part.first))
      (L.is_referred e v part)) (extent_most t (L.is_referred e v part))) in
      omega (arith, all, first)

places_most : (e : Environment) (t waiting : Taken) (v : Y.Variable) (part : Y.Part) (xs : Y.Numbers)
    → size_of (S.subscripts_recorded e t waiting v part xs) ≤ counted_size xs + 3
places_most e t waiting v part Y.NoNumber = recorded_most t 2 zero_register
places_most e t waiting v part (Y.NumberThen first rest) =
    both (L.subscripts_counted e waiting 0 (Y.NumberThen first rest) (L.leaf_number e v part.first).bounds) _
    (subscripts_most e waiting 0 (Y.NumberThen first rest) (L.leaf_number e v part.first).bounds)
    (recorded_most t 2 u1)

number_recorded_most : (e : Environment) (t : Taken) (l : L.Located)
    → size_of (S.name_recorded e t l) ≤ 19 + number_more l.number
number_recorded_most e t l =
    let all = both (L.name_offset e a0 l.name) _ (name_most e a0 l.name)
    (both (S.record_stored t 0 a0) _ (recorded_most t 0 a0)
    (both (L.number_loaded e a0 l.number) _ (number_loaded_most e a0 l.number) (recorded_most t 1 a0))) in
    omega (arith, all)

filled_most : (e : Environment) (t found : Taken) (v : Y.Variable) (part : Y.Part) (xs : Y.Numbers)
    → size_of (S.record_filled e t found v part xs) ≤ counted_size xs + 84
filled_most e t found v part xs =
    let first = found_and_number e t found v part in
    let all = both (S.aggregate_found e t found v part) _ {m = size_of (S.aggregate_found e t found v part)}
    (omega arith)
    (both (S.subscripts_recorded e t (L.behind_locator v found) v part xs) _
    (places_most e t (L.behind_locator v found) v part xs) (number_recorded_most e t (L.located e found v))) in
    omega (arith, all, first)

pub record_most : (e : Environment) (t : Taken) (r : Y.Reference) → size_of (S.record_code e t r) ≤ record_size r
record_most e t (Y.Referring v locator part xs) =
    let waiting = L.behind_locator v (with_words 4 t) in
    let split = subscripts_split xs in
    let all = both (X.locator_code e (with_words 4 t) locator) _ (locator_sized e (with_words 4 t) locator)
    (both (X.subscripts_code e waiting xs) _ (subscripts_sized e waiting xs)
    (filled_most e t (with_words 4 t) v part xs)) in
    omega (arith, all, split)

pub given_most : (e : Environment) (t : Taken) → size_of (S.record_given e t) ≤ 4
given_most e t = own_most e a0 (S.record_place t 0)

-- ---- arrays and structures

saved_most : (t : Taken) (v : Y.Stored) → size_of (S.value_saved t v) ≤ 3
saved_most t (Y.StoredNumber precision x) = save_most a0 t
saved_most t (Y.StoredText x) = none
saved_most t (Y.StoredBit x) = save_most a0 t
saved_most t (Y.StoredPointer x) = none
saved_most t (Y.StoredOffset x) = save_most a0 t

value_most : (e : Environment) (t : Taken) (v : Y.Stored) → size_of (S.value_given e t v) ≤ 4
value_most e t (Y.StoredNumber precision x) = let m = fetch_most a2 t in omega (arith, m)
value_most e t (Y.StoredText x) = none
value_most e t (Y.StoredBit x) = let m = fetch_most a2 t in omega (arith, m)
value_most e t (Y.StoredPointer x) = own_most e a2 (L.waiting_name t)
value_most e t (Y.StoredOffset x) = let m = fetch_most a2 t in omega (arith, m)

pub elements_most : (e : Environment) (t : Taken) (r : Y.Reference) (v : Y.Stored)
    → size_of (S.elements_code e t r v) ≤ elements_size r v
elements_most e t r v =
    let behind = S.behind_value v t in
    let all = both (X.stored_code e t v) _ (stored_sized e t v)
    (both (S.value_saved t v) _ (saved_most t v)
    (both (S.record_code e behind r) _ (record_most e behind r)
    (both (S.record_given e behind) _ (given_most e behind)
    (both (number a1 (S.first_leaf r)) _ (number_most a1 (S.first_leaf r))
    (both (S.value_given e t v) (service 41) (value_most e t v) {n = 2} (omega arith)))))) in
    omega (arith, all)

part_most : (e : Environment) (t : Taken) (r : Y.Reference) (mode : ℕ)
    → size_of (S.aggregate_given e t r mode) ≤ 11
part_most e t r mode =
    both (S.record_given e t) _ (given_most e t)
    (both (number a1 (S.first_leaf r)) _ (number_most a1 (S.first_leaf r))
    (both (number a2 (S.leaf_count r)) _ (number_most a2 (S.leaf_count r))
    (both (number a3 (S.subscript_count r)) (small a4 mode ∷ []) (number_most a3 (S.subscript_count r)) {n = 1}
    (omega arith))))

pub aggregate_most : (e : Environment) (t : Taken) (r s : Y.Reference)
    → size_of (S.aggregate_code e t r s) ≤ aggregate_size r s
aggregate_most e t r s =
    let into = S.record_code e t r ++ (S.aggregate_given e t r 1 ++ tested_service 40) in
    let all = both (S.record_code e t s) _ (record_most e t s)
    (both (S.aggregate_given e t s 0) (service 40 ++ into) (part_most e t s 0)
    (both (service 40) into {m = 2} (omega arith)
    (both (S.record_code e t r) _ (record_most e t r)
    (both (S.aggregate_given e t r 1) (tested_service 40) (part_most e t r 1) {n = 5} (omega arith))))) in
    omega (arith, all)

-- ---- areas

pub area_name_most : (e : Environment) (r : Register) (t : Taken) (v : Y.Variable)
    → size_of (S.area_name e r t v) ≤ 7
area_name_most e r t v = name_most e r (L.located e t v).name

pub areas_most : (e : Environment) (t : Taken) (v w : Y.Variable)
    → (size_of (S.area_code' e t v w) ≤ 21) × (size_of (S.emptied_code e t v) ≤ 9)
areas_most e t v w = (
  both (S.area_name e a0 t v) _ (area_name_most e a0 t v)
      (both (S.area_name e a1 t w) _ (area_name_most e a1 t w) {n = 7} (omega arith)),
  both (S.area_name e a0 t v) (service 13) (area_name_most e a0 t v) {n = 2} (omega arith),
)

-- ---- ALLOCATE

narrow_most : (precision : ℕ) → size_of (E.precision_checked precision) ≤ 6
narrow_most precision = one_of (nat_lt precision operator_precision) _ _ (omega arith) none

amount_most : (t : Taken) (x : Y.Extent) → size_of (E.amount_loaded t x) ≤ 3
amount_most t (Y.ConstantExtent z) = let m = constant_most a1 z in omega (arith, m)
amount_most t Y.StarExtent = load_most a1 frame_register (E.refer_word t)
amount_most t Y.ReferExtent = load_most a1 frame_register (E.refer_word t)
amount_most t (Y.EvaluatedExtent n) = load_most a1 frame_register (E.refer_word t)

pub refer_amount_most : (t : Taken) (ls : List Y.Leaf) (r : Option Y.ReferMember)
    → size_of (E.refer_amount t ls r) ≤ 9
refer_amount_most t ls None = omega arith
refer_amount_most t ls (Some r) =
    both (E.amount_loaded t r.amount) _ (amount_most t r.amount)
    (narrow_most (E.member_precision (slice_get ls r.member)))

pub initial_most : (r : Register) (d : Y.DeclaredVariable) → size_of (E.initial_code r d) ≤ 2
initial_most r d = by (initial_datum d) where
  by : (o : Option _) → size_of (E.initial_given r o) ≤ 2
  by None = omega arith
  by (Some datum) = omega arith

pub act_most : (line : ℕ) → size_of (A.act_code line) ≤ 5
act_most line = both (number a0 line) _ (number_most a0 line) {n = 3} (omega arith)

pub routine_most : (e : Environment) (line : ℕ) (v : Y.Variable) → size_of (A.routine_called e line v) ≤ 11
routine_most e line v =
    both (A.act_code line) _ (act_most line)
    (both (X.frame_given e v.level) _ {m = 4}
    (both (L.frame_found e v.level a0) _ (frame_found_most e v.level a0) {n = 1} (omega arith)) {n = 2} (omega arith))

beside_most : (e : Environment) (v : Y.Variable) (d : Y.DeclaredVariable)
    → size_of (A.number_beside_refer e v d) ≤ 6
beside_most e v d = one_of (L.needs_number_word d) _ _ (omega arith) none

-- the number of a BASED variable is no parameter's
based_most : (e : Environment) (v : Y.Variable) (d : Y.DeclaredVariable) → number_more (L.based_number e v d) ≤ 0
based_most e v d = by (L.needs_number_word d) where
  by : (b : Bool) → number_more (if b then L.DataNumber (NumberWord v.block v.index)
      else L.KnownNumber (L.table_number e d)) ≤ 0
  by true = omega arith
  by false = omega arith

amounts_found_most : (e : Environment) (t : Taken) (line : ℕ) (v : Y.Variable) (d : Y.DeclaredVariable)
    (xs : List Y.Evaluation) → size_of (A.amounts_found e t line v d xs) ≤ 17
amounts_found_most e t line v d [] =
    let all = both (E.refer_amount t d.leaves d.refer) _ (refer_amount_most t d.leaves d.refer)
    (number_loaded_most e a0 (L.based_number e v d)) in
    let more = based_most e v d in
    omega (arith, all, more)
amounts_found_most e t line v d (x ∷ xs) =
    both (A.routine_called e line v) _ (routine_most e line v) (beside_most e v d)

kept_most : (t : Taken) → size_of (A.both_kept t) ≤ 6
kept_most t =
    both (store_word frame_register a0 (A.allocated_number t)) _
    (store_most frame_register a0 (A.allocated_number t)) (store_most frame_register a1 (A.allocated_extent t))

amounts_most : (e : Environment) (t : Taken) (line : ℕ) (v : Y.Variable) → size_of (A.amounts_code e t line v) ≤ 23
amounts_most e t line v =
    both (A.amounts_found e t line v (declaration_of e v) (declaration_of e v).evaluations) _
    (amounts_found_most e t line v (declaration_of e v) (declaration_of e v).evaluations) (kept_most t)

heap_most : (e : Environment) (r : Register) (t : Taken) (o : Option Y.Variable)
    → size_of (A.area_or_heap e r t o) ≤ 7
heap_most e r t None = omega arith
heap_most e r t (Some area) = area_name_most e r t area

asked_most : (e : Environment) (t : Taken) (v : Y.Variable) (area : Option Y.Variable) (name : L.NamePlace)
    → size_of (A.placing_asked e t v area name) ≤ 24
asked_most e t v area name =
    both (A.area_or_heap e a0 t area) _ (heap_most e a0 t area)
    (both (load_word a1 frame_register (A.allocated_number t)) _
    (load_most a1 frame_register (A.allocated_number t))
    (both (load_word a2 frame_register (A.allocated_extent t)) _
    (load_most a2 frame_register (A.allocated_extent t))
    (both (E.initial_code a3 (declaration_of e v)) _ (initial_most a3 (declaration_of e v))
    (both (L.name_offset e a4 name) (service 10) (name_most e a4 name) {n = 2} (omega arith)))))

tried_most : (placing : Code) (o : Option Y.Variable) → size_of (A.placing_tried placing o) ≤ 8
tried_most placing None = omega arith
tried_most placing (Some area) = omega arith

placed_most : (placing : Code) (o : Option Y.Variable) → size_of placing ≤ 24
    → size_of (A.placing_code placing o) ≤ 33
placed_most placing o h =
    let m = tried_most placing o in
    both placing _ h {n = 9} (omega (arith, m))

set_most : (e : Environment) (t : Taken) (target : Y.LocatorTarget)
    → size_of (A.locator_set e t target) ≤ target_size target
set_most e t (Y.SetPointer r) =
    standing_most (X.standing_in e r) (λ name. []) (S.name_stored e t r) (reference_size r + 24)
    (λ name. none) (name_into_most e t r)
set_most e t (Y.SetOffset r area) =
    let asked = small a3 1 ∷ tested_service 14 in
    let all = both (L.own_place e a0 (L.waiting_name t)) _ (own_most e a0 (L.waiting_name t))
    (both (S.area_name e a1 t area) (asked ++ S.word_stored e (with_words 4 t) r) (area_name_most e a1 t area)
    (both asked (S.word_stored e (with_words 4 t) r) {m = 6} (omega arith) (word_most e (with_words 4 t) r))) in
    omega (arith, all)

allocation_most : (e : Environment) (t : Taken) (line : ℕ) (a : Y.Allocation)
    → size_of (A.allocation_code e t line a) ≤ allocation_size a
allocation_most e t line (Y.AllocateBased v area target) =
    let behind = A.behind_amounts t in
    let placing = A.placing_asked e t v area (A.name_target e behind target) in
    let all = both (A.amounts_code e t line v) _ (amounts_most e t line v)
    (both (A.placing_code placing area) _
    (placed_most placing area (asked_most e t v area (A.name_target e behind target))) (set_most e behind target)) in
    omega (arith, all)
allocation_most e t line (Y.AllocateControlled v) =
    let all = both (A.amounts_code e t line v) _ (amounts_most e t line v)
    (both (number a0 (L.controlled_number e v)) _ (number_most a0 (L.controlled_number e v))
    (both (load_word a1 frame_register (A.allocated_number t)) _
    (load_most a1 frame_register (A.allocated_number t))
    (both (E.initial_code a2 (declaration_of e v)) (tested_service 16) (initial_most a2 (declaration_of e v))
    {n = 5} (omega arith)))) in
    omega (arith, all)

pub allocations_most : (e : Environment) (t : Taken) (line : ℕ) (all : List Y.Allocation)
    → size_of (A.allocations_code e t line all) ≤ allocations_size all
allocations_most e t line [] = none
allocations_most e t line (a ∷ as') =
    both (A.allocation_code e t line a) _ (allocation_most e t line a) (allocations_most e t line as')

-- ---- FREE

freed_most : (e : Environment) (t : Taken) (name : L.NamePlace) (v : Y.Variable) (area : Option Y.Variable)
    → size_of (A.generation_freed e t name v area) ≤ 25
freed_most e t name v area =
    let more = based_most e v (declaration_of e v) in
    let all = both (L.name_offset e a0 name) _ (name_most e a0 name)
    (both (L.number_loaded e a1 (L.based_number e v (declaration_of e v))) _
    (number_loaded_most e a1 (L.based_number e v (declaration_of e v)))
    (both (A.area_or_heap e a2 t area) (tested_service 11) (heap_most e a2 t area) {n = 5} (omega arith))) in
    omega (arith, all, more)

freeing_most : (e : Environment) (t : Taken) (f : Y.Freeing) → size_of (A.freeing_code e t f) ≤ freeing_size f
freeing_most e t (Y.FreeBased v p area) =
    let waiting = L.FrameName e.level (L.waiting_name t) in
    standing_most (X.standing_name e p) (λ name. A.generation_freed e t name v area)
    (X.pointer_to e t (L.waiting_name t) p ++ A.generation_freed e t waiting v area) (pointer_size p + 25)
    (λ name. let m = freed_most e t name v area in omega (arith, m))
    (both (X.pointer_to e t (L.waiting_name t) p) _ (pointer_sized e t (L.waiting_name t) p)
    (freed_most e t waiting v area))
freeing_most e t (Y.FreeControlled v) =
    both (number a0 (L.controlled_number e v)) (service 17) (number_most a0 (L.controlled_number e v)) {n = 2}
    (omega arith)

pub freeings_most : (e : Environment) (t : Taken) (all : List Y.Freeing)
    → size_of (A.freeings_code e t all) ≤ freeings_size all
freeings_most e t [] = none
freeings_most e t (f ∷ fs) =
    both (A.freeing_code e t f) _ (freeing_most e t f) (freeings_most e t fs)

-- ---- all

pub storing_sized : StoringSized
storing_sized = (
  ((assignment_most, elements_most), (aggregate_most, areas_most)),
  (allocations_most, freeings_most),
)
