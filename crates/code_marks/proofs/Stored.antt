-- The code of assignments, extents and allocations marks nothing.
use Rattle.std.proofs.Common.{◌≡◌, ◌==◌, ℕ, zero, suc, List, [], ◌∷◌, ◌++◌, Bool, true, false, refl}
use Rattle.std.specs.Prelude.{ℤ, pos, nat_lt, Option, None, Some, unwrap_or, slice_get, if◌then◌else◌}
use Rattle.rv_meaning.specs.declared.instr.Register.{Register}
use Rattle.pli_typing.specs.TypedTree as Y
use Rattle.pli_meaning.specs.Numbers.{operator_precision}
use Rattle.pli_coding.specs.Registers.{a0, a1, a2}
use Rattle.pli_coding.specs.Assembly.{Datum, Code, NumberWord}
use Rattle.pli_coding.specs.Frames.{greatest_area, capacity_of}
use Rattle.pli_coding.specs.StaticForms.{initial_datum, size_datum, bounds_datum}
use Rattle.pli_coding.specs.Environments.{Environment, declaration_of, Taken, with_number, with_words}
use Rattle.pli_coding.specs.Locating.{Located, located, NamePlace, FrameName, DataNumber, is_direct, is_referred}
use Rattle.pli_coding.specs.Locating.{behind_locator, leaf_number, needs_buffer, waiting_name, based_number}
use Rattle.pli_coding.specs.Locating.{needs_number_word}
use Rattle.pli_coding.specs.Expressions.{type_in, pointer_code, standing_in, standing_name}
use Rattle.pli_coding.specs.Extents as E
use Rattle.pli_coding.specs.Storing as S
use Rattle.pli_coding.specs.Allocating as A
use Rattle.code_marks.specs.CodeMarks.{Unmarked}
use Rattle.code_marks.proofs.Pieces.{clear, also, next, one_of, far, none, constant_none, number_none, load_none}
use Rattle.code_marks.proofs.Pieces.{store_none}
use Rattle.code_marks.proofs.Pieces.{save_none, fetch_none}
use Rattle.code_marks.proofs.Reached.{own_none, name_none, number_loaded_none, class_none, leaf_none, stored_none}
use Rattle.code_marks.proofs.Reached.{copied_none, text_stored_none, subscripts_none, standing_none}
use Rattle.code_marks.proofs.Expressions.{numbers, pointers, references, locators, all_subscripts, values}
use Rattle.code_marks.proofs.Expressions.{frame_given_none}
use Rattle.pli_coding.specs.Registers.{zero_register, frame_register, a3, a4, u1}
use Rattle.pli_coding.specs.Locating.{in_own_frame, table_number, controlled_number}
use Rattle.pli_coding.specs.Expressions.{address_in}
use Rattle.pli_coding.specs.Instructions.{tested_service}

-- ---- scalars

pub word_stored_none : (e : Environment) (t : Taken) (target : Y.Reference) → Unmarked (S.word_stored e t target)
word_stored_none e t target =
    one_of (S.is_near e target) (also (references e t target) (stored_none (type_in e target) a0 (address_in e target)))
    (also (save_none a0 t)
    (also (references e (with_number t) target) (also (fetch_none a0 t) (stored_none (type_in e target) a0
    (address_in e target)))))

pub top_stored_none : (e : Environment) (t : Taken) (target : Y.Reference) → Unmarked (S.top_stored e t target)
top_stored_none e t target = also (references e t target) (text_stored_none (type_in e target) (address_in e target))

name_stored_none : (e : Environment) (t : Taken) (target : Y.Reference) → Unmarked (S.name_stored e t target)
name_stored_none e t target =
    also (references e (with_words 4 t) target) (copied_none (in_own_frame (waiting_name t)) (address_in e target))

into_none : (e : Environment) (t : Taken) (target : Y.Reference) (v : Y.Stored) → Unmarked (S.stored_into e t target v)
into_none e t target (Y.StoredNumber precision x) = word_stored_none e t target
into_none e t target (Y.StoredText x) = top_stored_none e t target
into_none e t target (Y.StoredBit x) = word_stored_none e t target
into_none e t target (Y.StoredPointer x) = name_stored_none e t target
into_none e t target (Y.StoredOffset x) = word_stored_none e t target

assigned_none : (e : Environment) (t : Taken) (target : Y.Reference) (v : Y.Stored)
    → Unmarked (S.assigned_code e t target v)
assigned_none e t target v = also (values e t v) (into_none e t target v)

name_assigned_none : (e : Environment) (t : Taken) (target : Y.Reference) (x : Y.Pointer) (o : Option ℤ)
    → Unmarked (S.name_assigned e t target x o)
name_assigned_none e t target x None = also (pointers e t (waiting_name t) x) (name_stored_none e t target)
name_assigned_none e t target x (Some place) = pointers e t place x

pub assignment_none : (e : Environment) (t : Taken) (target : Y.Reference) (v : Y.Stored)
    → Unmarked (S.assignment_code e t target v)
assignment_none e t target (Y.StoredNumber precision x) = assigned_none e t target (Y.StoredNumber precision x)
assignment_none e t target (Y.StoredText x) = assigned_none e t target (Y.StoredText x)
assignment_none e t target (Y.StoredBit x) = assigned_none e t target (Y.StoredBit x)
assignment_none e t target (Y.StoredPointer x) = name_assigned_none e t target x (S.place_assigned e target x)
assignment_none e t target (Y.StoredOffset x) = assigned_none e t target (Y.StoredOffset x)

-- ---- aggregates

extent_recorded_none : (t : Taken) (referred : Bool) → Unmarked (S.extent_recorded t referred)
extent_recorded_none t true = store_none frame_register a0 (S.record_place t 3)
extent_recorded_none t false = store_none frame_register zero_register (S.record_place t 3)

aggregate_found_none : (e : Environment) (t found : Taken) (v : Y.Variable) (part : Y.Part)
    → Unmarked (S.aggregate_found e t found v part)
aggregate_found_none e t found v part =
    one_of (is_direct e v) (extent_recorded_none t false)
    (also (class_none e found v v.class)
    (also (leaf_none e (located e found v) part.first (needs_buffer (leaf_number e v part.first))
    (is_referred e v part))
    (extent_recorded_none t (is_referred e v part))))

subscripts_recorded_none : (e : Environment) (t waiting : Taken) (v : Y.Variable) (part : Y.Part)
    (subscripts : Y.Numbers) → Unmarked (S.subscripts_recorded e t waiting v part subscripts)
subscripts_recorded_none e t waiting v part Y.NoNumber = store_none frame_register zero_register (S.record_place t 2)
subscripts_recorded_none e t waiting v part (Y.NumberThen first rest) =
    also (subscripts_none e waiting 0 (Y.NumberThen first rest) (leaf_number e v part.first).bounds)
    (store_none frame_register u1 (S.record_place t 2))

name_recorded_none : (e : Environment) (t : Taken) (l : Located) → Unmarked (S.name_recorded e t l)
name_recorded_none e t l =
    also (name_none e a0 l.name)
    (also (store_none frame_register a0 (S.record_place t 0)) (also (number_loaded_none e a0 l.number)
    (store_none frame_register a0 (S.record_place t 1))))

pub record_none : (e : Environment) (t : Taken) (x : Y.Reference) → Unmarked (S.record_code e t x)
record_none e t (Y.Referring v locator part subscripts) =
    let found = with_words S.record_words t in
    also (locators e found locator)
    (also (all_subscripts e (behind_locator v found) subscripts)
    (also (aggregate_found_none e t found v part)
    (also (subscripts_recorded_none e t (behind_locator v found) v part subscripts)
    (name_recorded_none e t (located e found v)))))

pub record_given_none : (e : Environment) (t : Taken) → Unmarked (S.record_given e t)
record_given_none e t = own_none e a0 (S.record_place t 0)

value_saved_none : (t : Taken) (v : Y.Stored) → Unmarked (S.value_saved t v)
value_saved_none t (Y.StoredNumber precision x) = save_none a0 t
value_saved_none t (Y.StoredText x) = none
value_saved_none t (Y.StoredBit x) = save_none a0 t
value_saved_none t (Y.StoredPointer x) = none
value_saved_none t (Y.StoredOffset x) = save_none a0 t

value_given_none : (e : Environment) (t : Taken) (v : Y.Stored) → Unmarked (S.value_given e t v)
value_given_none e t (Y.StoredNumber precision x) = fetch_none a2 t
value_given_none e t (Y.StoredText x) = none
value_given_none e t (Y.StoredBit x) = fetch_none a2 t
value_given_none e t (Y.StoredPointer x) = own_none e a2 (waiting_name t)
value_given_none e t (Y.StoredOffset x) = fetch_none a2 t

pub elements_none : (e : Environment) (t : Taken) (target : Y.Reference) (v : Y.Stored)
    → Unmarked (S.elements_code e t target v)
elements_none e t target v =
    also (values e t v)
    (also (value_saved_none t v)
    (also (record_none e (S.behind_value v t) target)
    (also (record_given_none e (S.behind_value v t)) (also (number_none a1 (S.first_leaf target)) (also
    (value_given_none e t v) (clear refl))))))

given_none : (e : Environment) (t : Taken) (x : Y.Reference) (mode : ℕ) → Unmarked (S.aggregate_given e t x mode)
given_none e t x mode =
    also (record_given_none e t) (also (number_none a1 (S.first_leaf x)) (also (number_none a2 (S.leaf_count x))
    (also (number_none a3 (S.subscript_count x)) (clear refl))))

pub aggregate_none : (e : Environment) (t : Taken) (target source : Y.Reference)
    → Unmarked (S.aggregate_code e t target source)
aggregate_none e t target source =
    also (record_none e t source)
    (also (given_none e t source 0)
    (next refl (next refl (also (record_none e t target) (also (given_none e t target 1) (clear refl))))))

-- ---- areas

area_name_none : (e : Environment) (r : Register) (t : Taken) (v : Y.Variable) → Unmarked (S.area_name e r t v)
area_name_none e r t v = name_none e r (located e t v).name

pub area_none : (e : Environment) (t : Taken) (target source : Y.Variable) → Unmarked (S.area_code' e t target source)
area_none e t target source = also (area_name_none e a0 t target) (also (area_name_none e a1 t source) (clear refl))

pub emptied_none : (e : Environment) (t : Taken) (target : Y.Variable) → Unmarked (S.emptied_code e t target)
emptied_none e t target = also (area_name_none e a0 t target) (clear refl)

-- ---- extents

filled_none : (t : Taken) (places : Datum) → Unmarked (E.filled_in t places)
filled_none t places =
    also (load_none a0 frame_register (E.number_word t)) (next refl (next refl (next refl (also
    (store_none frame_register a0 (E.number_word t)) (store_none frame_register a1 (E.bytes_word t))))))

filled_or_kept_none : (t : Taken) (kept : Bool) (places : Datum) → Unmarked (E.filled_or_kept t kept places)
filled_or_kept_none t true places = store_none frame_register a3 (E.refer_word t)
filled_or_kept_none t false places = filled_none t places

extent_given_none : (t : Taken) (r : Register) (place : ℕ) (x : Y.Extent) → Unmarked (E.extent_given t r place x)
extent_given_none t r place (Y.ConstantExtent z) = constant_none r z
extent_given_none t r place (Y.EvaluatedExtent n) =
    one_of (n == place) (clear refl) (load_none r frame_register (E.lower_word t))
extent_given_none t r place Y.StarExtent = none
extent_given_none t r place Y.ReferExtent = none

bounds_checked_none : (t : Taken) (place : ℕ) (b : Y.Bounds) → Unmarked (E.bounds_checked t place b)
bounds_checked_none t place b =
    also (extent_given_none t a2 place b.lower) (also (extent_given_none t a3 place b.upper) (clear refl))

checked_none : (t : Taken) (place : ℕ) (kept : Bool) (leaves : List Y.Leaf) (x : Y.Check)
    → Unmarked (E.checked_code t place kept leaves x)
checked_none t place kept leaves Y.NoCheck = store_none frame_register a0 (E.lower_word t)
checked_none t place kept leaves Y.LengthCheck =
    also {xs = E.length_checked} (clear refl) (filled_or_kept_none t kept (size_datum (Y.EvaluatedExtent place) leaves))
checked_none t place kept leaves Y.SizeCheck =
    also {xs = E.size_checked} (clear refl) (filled_or_kept_none t kept (size_datum (Y.EvaluatedExtent place) leaves))
checked_none t place kept leaves (Y.BoundsCheck b) =
    also (bounds_checked_none t place b) (filled_or_kept_none t kept (bounds_datum b leaves))

evaluations_none : (e : Environment) (t : Taken) (d : Y.DeclaredVariable) (place : ℕ) (xs : List Y.Evaluation)
    → Unmarked (E.evaluations_code e t d place xs)
evaluations_none e t d place [] = none
evaluations_none e t d place (x ∷ xs) =
    also (numbers e (with_words E.extent_words t) x.value)
    (also (checked_none t place (E.is_kept_by place d.refer) d.leaves x.check)
    (evaluations_none e t d (suc place) xs))

constant_filled_none : (t : Taken) (leaves : List Y.Leaf) (type : Y.LeafType)
    → Unmarked (E.constant_filled t leaves type)
constant_filled_none t leaves (Y.FixedLeaf p) = none
constant_filled_none t leaves Y.BitLeaf = none
constant_filled_none t leaves (Y.CharacterLeaf n) = none
constant_filled_none t leaves (Y.VaryingLeaf n) = none
constant_filled_none t leaves Y.PointerLeaf = none
constant_filled_none t leaves (Y.OffsetLeaf area) = none
constant_filled_none t leaves (Y.AreaLeaf (Y.ConstantExtent z)) =
    one_of (nat_lt greatest_area (capacity_of z)) (also (constant_none a3 z) (filled_none t (size_datum
    (Y.ConstantExtent z) leaves))) none
constant_filled_none t leaves (Y.AreaLeaf Y.StarExtent) = none
constant_filled_none t leaves (Y.AreaLeaf Y.ReferExtent) = none
constant_filled_none t leaves (Y.AreaLeaf (Y.EvaluatedExtent n)) = none

constants_filled_none : (t : Taken) (leaves : List Y.Leaf) → Unmarked (E.constants_filled t leaves)
constants_filled_none t [] = none
constants_filled_none t (l ∷ []) = constant_filled_none t (l ∷ []) l.type
constants_filled_none t (l ∷ m ∷ ls) = none

pub extents_none : (e : Environment) (t : Taken) (d : Y.DeclaredVariable) → Unmarked (E.extents_code e t d)
extents_none e t d =
    also (number_none a0 (table_number e d))
    (also (store_none frame_register a0 (E.number_word t))
    (also (constants_filled_none t d.leaves) (evaluations_none e t d 0 d.evaluations)))

precision_none : (precision : ℕ) → Unmarked (E.precision_checked precision)
precision_none precision = one_of (nat_lt precision operator_precision) (clear refl) none

amount_none : (t : Taken) (x : Y.Extent) → Unmarked (E.amount_loaded t x)
amount_none t (Y.ConstantExtent z) = constant_none a1 z
amount_none t Y.StarExtent = load_none a1 frame_register (E.refer_word t)
amount_none t Y.ReferExtent = load_none a1 frame_register (E.refer_word t)
amount_none t (Y.EvaluatedExtent n) = load_none a1 frame_register (E.refer_word t)

pub refer_amount_none : (t : Taken) (leaves : List Y.Leaf) (r : Option Y.ReferMember)
    → Unmarked (E.refer_amount t leaves r)
refer_amount_none t leaves None = clear refl
refer_amount_none t leaves (Some r) =
    also (amount_none t r.amount) (precision_none (E.member_precision (slice_get leaves r.member)))

initial_given_none : (r : Register) (o : Option Datum) → Unmarked (E.initial_given r o)
initial_given_none r None = clear refl
initial_given_none r (Some d) = clear refl

pub initial_none : (r : Register) (d : Y.DeclaredVariable) → Unmarked (E.initial_code r d)
initial_none r d = initial_given_none r (initial_datum d)

-- ---- ALLOCATE and FREE

pub act_none : (line : ℕ) → Unmarked (A.act_code line)
act_none line = also (number_none a0 line) (clear refl)

both_kept_none : (t : Taken) → Unmarked (A.both_kept t)
both_kept_none t =
    also (store_none frame_register a0 (A.allocated_number t)) (store_none frame_register a1 (A.allocated_extent t))

beside_none : (e : Environment) (v : Y.Variable) (d : Y.DeclaredVariable) → Unmarked (A.number_beside_refer e v d)
beside_none e v d =
    one_of (needs_number_word d) (number_loaded_none e a0 (DataNumber (NumberWord v.block v.index))) none

amounts_found_none : (e : Environment) (t : Taken) (line : ℕ) (v : Y.Variable) (d : Y.DeclaredVariable)
    (xs : List Y.Evaluation) → Unmarked (A.amounts_found e t line v d xs)
amounts_found_none e t line v d [] =
    also (refer_amount_none t d.leaves d.refer) (number_loaded_none e a0 (based_number e v d))
amounts_found_none e t line v d (x ∷ xs) =
    also (also (act_none line) (also (frame_given_none e v.level) (clear refl))) (beside_none e v d)

amounts_none : (e : Environment) (t : Taken) (line : ℕ) (v : Y.Variable) → Unmarked (A.amounts_code e t line v)
amounts_none e t line v =
    also (amounts_found_none e t line v (declaration_of e v) (declaration_of e v).evaluations) (both_kept_none t)

area_or_heap_none : (e : Environment) (r : Register) (t : Taken) (area : Option Y.Variable)
    → Unmarked (A.area_or_heap e r t area)
area_or_heap_none e r t None = clear refl
area_or_heap_none e r t (Some area) = area_name_none e r t area

placing_none : (e : Environment) (t : Taken) (v : Y.Variable) (area : Option Y.Variable) (name : NamePlace)
    → Unmarked (A.placing_asked e t v area name)
placing_none e t v area name =
    also (area_or_heap_none e a0 t area)
    (also (load_none a1 frame_register (A.allocated_number t))
    (also (load_none a2 frame_register (A.allocated_extent t))
    (also (initial_none a3 (declaration_of e v)) (also (name_none e a4 name) (clear refl)))))

tried_none : (placing : Code) (area : Option Y.Variable) → Unmarked (A.placing_tried placing area)
tried_none placing None = clear refl
tried_none placing (Some area) = clear refl

placing_code_none : (placing : Code) (area : Option Y.Variable) → Unmarked placing
    → Unmarked (A.placing_code placing area)
placing_code_none placing area h = also h (next refl (tried_none placing area))

locator_set_none : (e : Environment) (t : Taken) (target : Y.LocatorTarget) → Unmarked (A.locator_set e t target)
locator_set_none e t (Y.SetPointer r) = standing_none (standing_in e r) _ _ (λ name. none) (name_stored_none e t r)
locator_set_none e t (Y.SetOffset r area) =
    also (own_none e a0 (waiting_name t))
    (also (area_name_none e a1 t area) (next refl
    (also {xs = tested_service 14} (clear refl) (word_stored_none e (with_words 4 t) r))))

allocation_none : (e : Environment) (t : Taken) (line : ℕ) (a : Y.Allocation) → Unmarked (A.allocation_code e t line a)
allocation_none e t line (Y.AllocateBased v area target) =
    let b = A.behind_amounts t in
    also (amounts_none e t line v)
    (also (placing_code_none _ area (placing_none e t v area (A.name_target e b target))) (locator_set_none e b target))
allocation_none e t line (Y.AllocateControlled v) =
    also (amounts_none e t line v)
    (also (number_none a0 (controlled_number e v)) (also (load_none a1 frame_register (A.allocated_number t)) (also
    (initial_none a2 (declaration_of e v)) (clear refl))))

pub allocations_none : (e : Environment) (t : Taken) (line : ℕ) (as' : List Y.Allocation)
    → Unmarked (A.allocations_code e t line as')
allocations_none e t line [] = none
allocations_none e t line (a ∷ as') = also (allocation_none e t line a) (allocations_none e t line as')

freed_none : (e : Environment) (t : Taken) (name : NamePlace) (v : Y.Variable) (area : Option Y.Variable)
    → Unmarked (A.generation_freed e t name v area)
freed_none e t name v area =
    also (name_none e a0 name)
    (also (number_loaded_none e a1 (based_number e v (declaration_of e v)))
    (also (area_or_heap_none e a2 t area) (clear refl)))

freeing_none : (e : Environment) (t : Taken) (f : Y.Freeing) → Unmarked (A.freeing_code e t f)
freeing_none e t (Y.FreeBased v locator area) =
    standing_none (standing_name e locator) _ _ (λ name. freed_none e t name v area)
    (also (pointers e t (waiting_name t) locator) (freed_none e t (FrameName e.level (waiting_name t)) v area))
freeing_none e t (Y.FreeControlled v) = also (number_none a0 (controlled_number e v)) (clear refl)

pub freeings_none : (e : Environment) (t : Taken) (fs : List Y.Freeing) → Unmarked (A.freeings_code e t fs)
freeings_none e t [] = none
freeings_none e t (f ∷ fs) = also (freeing_none e t f) (freeings_none e t fs)
