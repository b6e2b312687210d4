-- The code of GET and PUT marks nothing.
use Rattle.std.proofs.Common.{◌≡◌, ℕ, zero, suc, ◌+◌, List, [], ◌∷◌, ◌++◌, Bool, true, false, refl}
use Rattle.std.specs.Prelude.{◌&&◌, ◌||◌, ℤ, pos, Option, None, Some, if◌then◌else◌}
use Rattle.rv_meaning.specs.declared.image.TableKind.TheVariants as K
use Rattle.rv_meaning.specs.Tables.{kind_number}
use Rattle.pli_language.specs.Tree as T
use Rattle.pli_typing.specs.TypedTree as Y
use Rattle.pli_coding.specs.Registers.{a0, a3, u3}
use Rattle.pli_coding.specs.Assembly.{Code, size_of}
use Rattle.pli_coding.specs.Environments.{Environment, Taken, with_number}
use Rattle.pli_coding.specs.Locating.{Address, address_of, leaf_number}
use Rattle.pli_coding.specs.Expressions.{type_in}
use Rattle.pli_coding.specs.Streams as S
use Rattle.code_marks.specs.CodeMarks.{Unmarked}
use Rattle.code_marks.proofs.Pieces.{clear, also, next, one_of, far, none, number_none, load_none, store_none}
use Rattle.code_marks.proofs.Pieces.{plus_none}
use Rattle.code_marks.proofs.Pieces.{save_none, fetch_none, overflow_none, fitted_none}
use Rattle.code_marks.proofs.Reached.{own_none, direct_none, loaded_none, stored_none, pushed_none, text_stored_none}
use Rattle.code_marks.proofs.Expressions.{numbers, texts, bits}
use Rattle.code_marks.proofs.Stored.{word_stored_none, top_stored_none, record_none, record_given_none}
use Rattle.pli_typing.specs.Signatures.{leaf_bytes, leaf_size, rounded_up}
use Rattle.pli_meaning.specs.DeclaredShapes.{kind_of, leaf_of}
use Rattle.pli_coding.specs.Registers.{zero_register, frame_register, a1, a2, a5, u0, u1, u2, u4}
use Rattle.pli_coding.specs.Frames.{buffer, buffer_kind, buffer_size}
use Rattle.pli_coding.specs.Instructions.{status_tested}
use Rattle.pli_meaning.specs.Numbers.{operator_precision}
use Rattle.pli_coding.specs.Instructions.{small, service, tested_service}

-- ---- one item

by_item_none : (formats : T.Formats) (fixed text : Code) → Unmarked fixed → Unmarked text
    → Unmarked (S.by_item formats fixed text)
by_item_none formats fixed text h k =
    one_of (S.has_fixed formats && S.has_text formats)
    (next refl (also (next refl (also k (clear refl))) h))
    (one_of (S.has_fixed formats) h k)

number_put_none : (t : Taken) (formats : T.Formats) (text : Code) → Unmarked text
    → Unmarked (S.number_put t formats text)
number_put_none t formats text h =
    also {xs = S.controls_carried_out} (clear refl)
    (by_item_none formats _ _ (also (fetch_none a0 t) (clear refl)) (also (fetch_none a0 t) (also h (clear refl))))

text_put_none : (formats : T.Formats) → Unmarked (S.text_put formats)
text_put_none formats = also {xs = S.controls_carried_out} (clear refl)
    (by_item_none formats (small a0 0 ∷ (tested_service 26 ++ S.number_written)) S.text_written (clear refl)
    (clear refl))

value_put_none : (e : Environment) (t : Taken) (formats : T.Formats) (v : Y.Value) → Unmarked
    (S.value_put e t formats v)
value_put_none e t formats (Y.NumberValue precision x) =
    also (numbers e t x) (also (save_none a0 t) (number_put_none t formats (S.as_text precision) (clear refl)))
value_put_none e t formats (Y.TextValue x) = also (texts e t x) (text_put_none formats)
value_put_none e t formats (Y.BitValue x) =
    also (bits e t x) (also (save_none a0 t) (number_put_none t formats (S.as_text 0) (clear refl)))
value_put_none e t formats (Y.PointerValue x) = none
value_put_none e t formats (Y.OffsetValue x area) = none
value_put_none e t formats Y.NullValue = none

-- ---- elements of aggregates

shape_none : (e : Environment) (x : Y.Reference) → Unmarked (S.shape_in e x)
shape_none e (Y.Referring v locator part subscripts) = clear refl

begun_none : (l : S.Elements) → Unmarked (S.elements_begun l)
begun_none l =
    also (store_none frame_register zero_register (S.next_place l 0)) (store_none frame_register zero_register
    (S.next_place l 1))

asked_none : (e : Environment) (l : S.Elements) (x : Y.Reference) → Unmarked (S.element_asked e l x)
asked_none e l x =
    also (record_given_none e l.taken)
    (also (shape_none e x)
    (also (load_none a2 frame_register (S.next_place l 0)) (also (load_none a5 frame_register (S.next_place l 1))
    (also (own_none e a3 (pos buffer)) (clear refl)))))

counted_none : (l : S.Elements) → Unmarked (S.next_counted l)
counted_none l =
    also (load_none u1 frame_register (S.next_place l 0))
    (next refl
    (also (store_none frame_register u1 (S.next_place l 0))
    (next refl (also (load_none u2 frame_register (S.next_place l 1)) (next refl (store_none frame_register u2
    (S.next_place l 1)))))))

turns_none : (l : S.Elements) (asked each : Code) → Unmarked asked → Unmarked each → Unmarked (S.turns l asked each)
turns_none l asked each h k =
    also h (next refl (next refl (also k (also (counted_none l) (clear refl)))))

for_elements_none : (e : Environment) (l : S.Elements) (x : Y.Reference) (each : Code) → Unmarked each
    → Unmarked (S.for_elements e l x each)
for_elements_none e l x each h =
    also (begun_none l) (turns_none l _ each (also (asked_none e l x) (clear refl)) h)

distance_none : (t : Taken) (l : Y.Leaf) → Unmarked (S.distance_counted t l)
distance_none t l =
    also (fetch_none u1 t) (also (plus_none u1 u1 (pos (rounded_up 4 (leaf_bytes (kind_of [] l.type))))) (also
    (save_none u1 t) (number_none u2 (leaf_size (leaf_of [] l)))))

by_distance_none : (t : Taken) (l : Y.Leaf) (each : Code) → Unmarked each → Unmarked (S.by_distance t l each)
by_distance_none t l each h = also (save_none zero_register t) (also (also h (distance_none t l)) (clear refl))

distance_added_none : (e : Environment) (t : Taken) (v : Y.Variable) → Unmarked (S.distance_added e t v)
distance_added_none e t v = also (fetch_none u4 t) (also (direct_none e u3 v v.class) (clear refl))

-- ---- by the kind in the buffer

pub data AllUnmarked : List S.KindCode → Type 0 where
  NoKind : AllUnmarked []
  KindThen : {k : S.KindCode} {ks : List S.KindCode} → Unmarked k.code → AllUnmarked ks → AllUnmarked (k ∷ ks)

by_kind_none : (ks : List S.KindCode) → AllUnmarked ks → Unmarked (S.by_kind ks)
by_kind_none [] h = none
by_kind_none (k ∷ []) (KindThen h more) = h
by_kind_none (k ∷ l ∷ ks) (KindThen h more) =
    also (load_none u0 frame_register buffer_kind) (next refl (also (next refl (also (by_kind_none (l ∷ ks) more)
    (clear refl))) h))

kind_if_none : (q : Bool) (kind : ℕ) (code : Code) (ks : List S.KindCode) → Unmarked code → AllUnmarked ks
    → AllUnmarked (S.kind_if q kind code ++ ks)
kind_if_none true kind code ks h more = KindThen h more
kind_if_none false kind code ks h more = more

last_kind_none : (q : Bool) (kind : ℕ) (code : Code) → Unmarked code → AllUnmarked (S.kind_if q kind code)
last_kind_none true kind code h = KindThen h NoKind
last_kind_none false kind code h = NoKind

by_kinds_none : (e : Environment) (x : Y.Reference) (fixed bit text : Code) → Unmarked fixed → Unmarked bit
    → Unmarked text → Unmarked (S.by_kinds_of e x fixed bit text)
by_kinds_none e x fixed bit text h k l =
    by_kind_none _
    (kind_if_none (S.has_kind e x K.Fixed) _ fixed _ h
    (kind_if_none (S.has_kind e x K.Bit) _ bit _ k (last_kind_none (S.has_texts e x) _ text l)))

-- ---- one element

fixed_loaded_none : Unmarked S.fixed_loaded
fixed_loaded_none = clear refl

fixed_stored_none : (t : Taken) → Unmarked (S.fixed_stored t)
fixed_stored_none t = next refl (next refl (also (fetch_none a0 t) (clear refl)))

fixed_put_none : (t : Taken) (formats : T.Formats) → Unmarked (S.fixed_element_put t formats)
fixed_put_none t formats =
    also fixed_loaded_none
    (also (save_none a0 t)
    (also (save_none u2 (with_number t))
    (number_put_none t formats _ (also (fetch_none a1 (with_number t)) (clear refl)))))

mixed_put_none : (e : Environment) (formats : T.Formats) (x : Y.Reference) → Unmarked (S.mixed_element_put e formats x)
mixed_put_none e formats x =
    also (by_kinds_none e x _ _ _ (clear refl) (clear refl) (clear refl)) (text_put_none formats)

element_put_none : (e : Environment) (l : S.Elements) (formats : T.Formats) (x : Y.Reference)
    → Unmarked (S.element_put e l formats x)
element_put_none e l formats x =
    also {xs = status_tested} (clear refl)
    (one_of (S.has_kind e x K.Bit || S.has_texts e x)
    (mixed_put_none e formats x) (fixed_put_none (S.free_in l) formats))

elements_put_none : (e : Environment) (l : S.Elements) (formats : T.Formats) (x : Y.Reference)
    → Unmarked (S.elements_put e l formats x)
elements_put_none e l formats x =
    also (record_none e l.taken x) (for_elements_none e l x _ (element_put_none e l formats x))

shown_none : (t : Taken) (formats : T.Formats) (type : Y.LeafType) (a : Address)
    → Unmarked (S.element_shown t formats type a)
shown_none t formats (Y.FixedLeaf p) a =
    also (loaded_none (Y.FixedLeaf p) a0 a)
    (also (save_none a0 t) (number_put_none t formats (S.as_text p) (clear refl)))
shown_none t formats (Y.CharacterLeaf n) a = also (pushed_none (Y.CharacterLeaf n) a) (text_put_none formats)
shown_none t formats (Y.VaryingLeaf n) a = also (pushed_none (Y.VaryingLeaf n) a) (text_put_none formats)
shown_none t formats Y.BitLeaf a =
    also (loaded_none Y.BitLeaf a0 a)
    (also (save_none a0 t) (number_put_none t formats (S.as_text 0) (clear refl)))
shown_none t formats Y.PointerLeaf a = none
shown_none t formats (Y.OffsetLeaf area) a = none
shown_none t formats (Y.AreaLeaf n) a = none

counted_put_none : (e : Environment) (t : Taken) (formats : T.Formats) (x : Y.Reference)
    → Unmarked (S.counted_put e t formats x)
counted_put_none e t formats (Y.Referring v locator part subscripts) =
    let l = leaf_number e v part.first in
    by_distance_none t l _
    (also (distance_added_none e t v) (shown_none (with_number t) formats l.type (address_of e v part 1)))

-- ---- PUT

item_put_none : (e : Environment) (t : Taken) (formats : T.Formats) (i : Y.PutItem)
    → Unmarked (S.item_put e t formats i)
item_put_none e t formats (Y.PutValue v) = value_put_none e t formats v
item_put_none e t formats (Y.PutAggregate x) =
    one_of (S.is_counted e x)
    (counted_put_none e t formats x) (elements_put_none e (S.elements_of t x) formats x)

items_put_none : (e : Environment) (t : Taken) (formats : T.Formats) (is : List Y.PutItem)
    → Unmarked (S.items_put e t formats is)
items_put_none e t formats [] = none
items_put_none e t formats (i ∷ is) = also (item_put_none e t formats i) (items_put_none e t formats is)

skip_none : (mode : ℕ) (o : Option ℕ) → Unmarked (S.skip_option mode o)
skip_none mode None = none
skip_none mode (Some n) = also (number_none a0 n) (clear refl)

put_pairs_none : (e : Environment) (t : Taken) (ps : List Y.PutPair) → Unmarked (S.put_pairs e t ps)
put_pairs_none e t [] = none
put_pairs_none e t (p ∷ ps) =
    also (also {xs = S.edit_begun p.formats 1} (clear refl) (also (items_put_none e t p.formats p.items)
    (clear refl))) (put_pairs_none e t ps)

pub put_none : (e : Environment) (t : Taken) (skip : Option ℕ) (ps : List Y.PutPair) → Unmarked (S.put_code e t skip ps)
put_none e t skip ps = also (skip_none 1 skip) (put_pairs_none e t ps)

-- ---- GET of one value

awaited_none : (behind : ℕ) → Unmarked (S.field_awaited behind)
awaited_none behind = clear refl

number_got_none : (formats : T.Formats) → Unmarked (S.number_got formats)
number_got_none formats =
    by_item_none formats (tested_service 36) (service 37 ++ (small a0 0 ∷ tested_service 26)) (clear refl) (clear refl)

text_got_none : (formats : T.Formats) → Unmarked (S.text_got formats)
text_got_none formats =
    by_item_none formats (tested_service 36 ++ S.as_text operator_precision) (service 37) (clear refl) (clear refl)

field_stored_none : (e : Environment) (t : Taken) (formats : T.Formats) (x : Y.Reference) (type : Y.LeafType)
    → Unmarked (S.field_stored e t formats x type)
field_stored_none e t formats x (Y.FixedLeaf p) =
    also (number_got_none formats) (also (fitted_none t p) (word_stored_none e t x))
field_stored_none e t formats x (Y.CharacterLeaf n) = also (text_got_none formats) (top_stored_none e t x)
field_stored_none e t formats x (Y.VaryingLeaf n) = also (text_got_none formats) (top_stored_none e t x)
field_stored_none e t formats x Y.BitLeaf = also {xs = S.bit_got} (clear refl) (word_stored_none e t x)
field_stored_none e t formats x Y.PointerLeaf = none
field_stored_none e t formats x (Y.OffsetLeaf area) = none
field_stored_none e t formats x (Y.AreaLeaf n) = none

awaited_before_none : (code : Code) (behind : ℕ) → Unmarked code → Unmarked (S.awaited_before code behind)
awaited_before_none code behind h = also (awaited_none _) h

-- ---- GET of an aggregate

number_fitted_none : (t : Taken) → Unmarked (S.number_fitted t)
number_fitted_none t =
    also (load_none u2 frame_register buffer_size)
    (next refl (next refl (next refl (next refl
    (also (next refl (next refl (overflow_none t))) (save_none a0 t))))))

mixed_field_none : (e : Environment) (t : Taken) (formats : T.Formats) (x : Y.Reference)
    → Unmarked (S.mixed_field_taken e t formats x)
mixed_field_none e t formats x =
    also (text_got_none formats)
    (by_kinds_none e x _ _ _ (also {xs = S.text_converted 0} (clear refl) (number_fitted_none t))
    (also {xs = S.text_converted 1} (clear refl) (save_none a0 t)) none)

field_taken_none : (e : Environment) (t : Taken) (formats : T.Formats) (x : Y.Reference)
    → Unmarked (S.element_field_taken e t formats x)
field_taken_none e t formats x =
    one_of (S.has_kind e x K.Fixed)
    (one_of (S.has_kind e x K.Bit || S.has_texts e x)
    (mixed_field_none e t formats x) (also (number_got_none formats) (number_fitted_none t)))
    (one_of (S.has_kind e x K.Bit)
    (one_of (S.has_texts e x) (mixed_field_none e t formats x) (also {xs = S.bit_got} (clear refl) (save_none a0 t)))
    (text_got_none formats))

element_stored_none : (e : Environment) (t : Taken) (x : Y.Reference) → Unmarked (S.element_stored e t x)
element_stored_none e t x =
    by_kinds_none e x _ _ _ (fixed_stored_none t) (next refl (next refl (also (fetch_none a0 t) (clear refl))))
    (clear refl)

element_got_none : (e : Environment) (l : S.Elements) (formats : T.Formats) (x : Y.Reference)
    → Unmarked (S.element_got e l formats x)
element_got_none e l formats x =
    also (field_taken_none e (S.free_in l) formats x)
    (also (also (asked_none e l x) (clear refl)) (element_stored_none e (S.free_in l) x))

elements_got_none : (e : Environment) (l : S.Elements) (formats : T.Formats) (x : Y.Reference) (behind : ℕ)
    → Unmarked (S.elements_got e l formats x behind)
elements_got_none e l formats x behind =
    also (record_none e l.taken x)
    (for_elements_none e l x _ (awaited_before_none _ _ (element_got_none e l formats x)))

converted_none : (t : Taken) (formats : T.Formats) (type : Y.LeafType) → Unmarked (S.field_converted t formats type)
converted_none t formats (Y.FixedLeaf p) = also (number_got_none formats) (fitted_none t p)
converted_none t formats (Y.CharacterLeaf n) = text_got_none formats
converted_none t formats (Y.VaryingLeaf n) = text_got_none formats
converted_none t formats Y.BitLeaf = clear refl
converted_none t formats Y.PointerLeaf = none
converted_none t formats (Y.OffsetLeaf area) = none
converted_none t formats (Y.AreaLeaf n) = none

field_kept_none : (type : Y.LeafType) (a : Address) → Unmarked (S.field_kept type a)
field_kept_none (Y.FixedLeaf p) a = stored_none (Y.FixedLeaf p) a0 a
field_kept_none (Y.CharacterLeaf n) a = text_stored_none (Y.CharacterLeaf n) a
field_kept_none (Y.VaryingLeaf n) a = text_stored_none (Y.VaryingLeaf n) a
field_kept_none Y.BitLeaf a = stored_none Y.BitLeaf a0 a
field_kept_none Y.PointerLeaf a = none
field_kept_none (Y.OffsetLeaf area) a = none
field_kept_none (Y.AreaLeaf n) a = none

counted_got_none : (e : Environment) (t : Taken) (formats : T.Formats) (x : Y.Reference) (behind : ℕ)
    → Unmarked (S.counted_got e t formats x behind)
counted_got_none e t formats (Y.Referring v locator part subscripts) behind =
    let l = leaf_number e v part.first in
    by_distance_none t l _
    (awaited_before_none _ _
    (also (converted_none (with_number t) formats l.type)
    (also (distance_added_none e t v) (field_kept_none l.type (address_of e v part 1)))))

-- ---- GET

item_got_none : (e : Environment) (t : Taken) (formats : T.Formats) (i : Y.GetItem) (behind : ℕ)
    → Unmarked (S.item_got e t formats i behind)
item_got_none e t formats (Y.GetScalar x) behind =
    awaited_before_none _ behind (field_stored_none e t formats x (type_in e x))
item_got_none e t formats (Y.GetAggregate x) behind =
    one_of (S.is_counted e x)
    (counted_got_none e t formats x behind) (elements_got_none e (S.elements_of t x) formats x behind)

items_got_none : (e : Environment) (t : Taken) (formats : T.Formats) (behind : ℕ) (is : List Y.GetItem)
    → Unmarked (S.items_got e t formats behind is)
items_got_none e t formats behind [] = none
items_got_none e t formats behind (i ∷ is) =
    also (item_got_none e t formats i _) (items_got_none e t formats behind is)

get_pairs_none : (e : Environment) (t : Taken) (ps : List Y.GetPair) → Unmarked (S.get_pairs e t ps)
get_pairs_none e t [] = clear refl
get_pairs_none e t (p ∷ ps) =
    also (also {xs = S.edit_begun p.formats 0} (clear refl) (also (items_got_none e t p.formats _ p.items)
    (clear refl))) (get_pairs_none e t ps)

pub get_none : (e : Environment) (t : Taken) (skip : Option ℕ) (ps : List Y.GetPair) → Unmarked (S.get_code e t skip ps)
get_none e t skip ps = also (skip_none 0 skip) (also (get_pairs_none e t ps) (clear refl))
