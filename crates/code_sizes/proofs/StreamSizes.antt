-- The code of GET and PUT has no more words than their nodes take.
use Rattle.std.proofs.Common.{ℕ, suc, ◌+◌, ◌≤◌, ◌^◌, List, [], ◌∷◌, ◌++◌, Bool, true, false, arith, pos, negsuc, Option}
use Rattle.std.proofs.Common.{Some, None}
use Rattle.std.specs.Prelude.{◌&&◌, ◌||◌, ◌==◌, if◌then◌else◌}
use Rattle.rv_meaning.specs.declared.image.TableKind.TheVariants as K
use Rattle.rv_meaning.specs.declared.instr.BranchTest.{BranchTest}
use Rattle.rv_meaning.specs.declared.instr.BranchTest.TheVariants as Test
use Rattle.rv_meaning.specs.declared.instr.ImmediateOp.TheVariants as Imm
use Rattle.rv_meaning.specs.declared.instr.Instr.TheVariants as I
use Rattle.rv_meaning.specs.declared.instr.StoreKind.TheVariants as Store
use Rattle.rv_meaning.specs.declared.instr.Register.{Register}
use Rattle.rv_meaning.specs.Tables.{kind_number}
use Rattle.pli_language.specs.Tree as T
use Rattle.pli_typing.specs.Signatures.{leaf_bytes, leaf_size, rounded_up}
use Rattle.pli_typing.specs.TypedTree as Y
use Rattle.pli_meaning.specs.DeclaredShapes.{kind_of, leaf_of}
use Rattle.pli_meaning.specs.Numbers.{operator_precision}
use Rattle.pli_coding.specs.Registers.{zero_register, frame_register, a0, a1, a2, a3, a4, a5, u0, u1, u2, u3, u4}
use Rattle.pli_coding.specs.Assembly.{Code, Plain, JumpAhead, JumpBack, size_of}
use Rattle.pli_coding.specs.Instructions.{small, number, plus, load_word, store_word, service, tested_service}
use Rattle.pli_coding.specs.Instructions.{status_tested, add, immediate, choice, skip_where}
use Rattle.pli_coding.specs.Frames.{buffer, buffer_size}
use Rattle.pli_coding.specs.Environments.{Environment, Taken, with_number, with_words, save, fetch}
use Rattle.pli_coding.specs.Arithmetic.{fitted_code, overflow_raised}
use Rattle.pli_coding.specs.Locating as L
use Rattle.pli_coding.specs.Expressions as X
use Rattle.pli_coding.specs.Storing as S
use Rattle.pli_coding.specs.Streams as P
use Rattle.code_sizes.specs.ExpressionSizes.{reference_size}
use Rattle.code_sizes.specs.StoringSizes.{record_size}
use Rattle.code_sizes.specs.StreamSizes.{value_size, put_item_size, put_items_size, put_pairs_size, put_size}
use Rattle.code_sizes.specs.StreamSizes.{get_item_size, get_items_size, get_pairs_size, get_size, StreamsSized}
use Rattle.code_sizes.proofs.PieceSizes.{both, one_of, none, number_most, load_most, store_most, plus_most}
use Rattle.code_sizes.proofs.PieceSizes.{save_most, fetch_most, fitted_most, loaded_most, own_most}
use Rattle.code_sizes.proofs.PieceSizes.{overflow_most}
use Rattle.code_sizes.proofs.ReachedSizes.{base_most}
use Rattle.code_sizes.proofs.ExpressionSizes.{three_most, pushed_most, number_sized, text_sized, bit_sized}
use Rattle.code_sizes.proofs.StoringSizes.{stored_most, text_into_most, word_most, top_most, record_most, given_most}

-- ---- fields

choice_most : (test : BranchTest) (r s : Register) (first second : Code) (m n : ℕ) → size_of first ≤ m
    → size_of second ≤ n → size_of (choice test r s first second) ≤ 3 + (m + n)
choice_most test r s first second m n h k =
    let all = three_most second (JumpAhead (size_of first) ∷ []) first n (2 + m) k (omega (arith, h)) in
    omega (arith, all)

by_item_most : (fs : T.Formats) (a b : Code) (m n : ℕ) → size_of a ≤ m → size_of b ≤ n
    → size_of (P.by_item fs a b) ≤ 4 + (m + n)
by_item_most fs a b m n h k =
    one_of (P.has_fixed fs && P.has_text fs) _ _
    (let c = choice_most Test.Equal a0 u1 a b m n h k in omega (arith, c))
    (one_of (P.has_fixed fs) _ _ (omega (arith, h)) (omega (arith, k)))

number_put_most : (t : Taken) (fs : T.Formats) (text : Code) (n : ℕ) → size_of text ≤ n
    → size_of (P.number_put t fs text) ≤ 26 + n
number_put_most t fs text n h =
    let f = fetch_most a0 t in
    let first = both (fetch a0 t) P.number_written f {n = 9} (omega arith) in
    let second = both (fetch a0 t) (text ++ P.text_written) f (both text P.text_written h {n = 2} (omega arith)) in
    let all = both P.controls_carried_out
    (P.by_item fs (fetch a0 t ++ P.number_written) (fetch a0 t ++ (text ++ P.text_written))) {m = 5} (omega arith)
    (by_item_most fs _ _ 12 (3 + (n + 2)) first second) in
    omega (arith, all)

text_put_most : (fs : T.Formats) → size_of (P.text_put fs) ≤ 26
text_put_most fs =
    both P.controls_carried_out (P.by_item fs (small a0 0 ∷ (tested_service 26 ++ P.number_written)) P.text_written)
    {m = 5} (omega arith)
    (by_item_most fs (small a0 0 ∷ (tested_service 26 ++ P.number_written)) P.text_written 15 2 (omega arith)
    (omega arith))

waiting_put_most : (t : Taken) (fs : T.Formats) (precision : ℕ)
    → size_of (save a0 t ++ P.number_put t fs (P.as_text precision)) ≤ 32
waiting_put_most t fs precision =
    both (save a0 t) _ (save_most a0 t) (number_put_most t fs (P.as_text precision) 3 (omega arith))

value_put_most : (e : Environment) (t : Taken) (fs : T.Formats) (v : Y.Value)
    → size_of (P.value_put e t fs v) ≤ value_size v + 32
value_put_most e t fs (Y.NumberValue precision x) =
    both (X.number_code e t x) _ (number_sized e t x) (waiting_put_most t fs precision)
value_put_most e t fs (Y.TextValue x) =
    let m = text_put_most fs in
    both (X.text_code e t x) _ (text_sized e t x) (omega (arith, m))
value_put_most e t fs (Y.BitValue x) =
    both (X.bit_code e t x) _ (bit_sized e t x) (waiting_put_most t fs 0)
value_put_most e t fs (Y.PointerValue p) = none
value_put_most e t fs (Y.OffsetValue area o) = none
value_put_most e t fs Y.NullValue = none

-- ---- elements by their numbers

asked_most : (e : Environment) (l : P.Elements) (r : Y.Reference) → size_of (P.element_asked e l r) ≤ 19
asked_most e l (Y.Referring v locator part xs) =
    both (S.record_given e l.taken) _ (given_most e l.taken)
    (both (P.shape_in e (Y.Referring v locator part xs)) (load_word a2 frame_register (P.next_place l 0)
    ++ (load_word a5 frame_register (P.next_place l 1)
    ++ (L.own_place e a3 (pos buffer) ++ (small a4 1 ∷ service 8)))) {m = 2} (omega arith)
    (both (load_word a2 frame_register (P.next_place l 0)) _ (load_most a2 frame_register (P.next_place l 0))
    (both (load_word a5 frame_register (P.next_place l 1)) _ (load_most a5 frame_register (P.next_place l 1))
    (both (L.own_place e a3 (pos buffer)) (small a4 1 ∷ service 8) (own_most e a3 (pos buffer)) {n = 3}
    (omega arith)))))

counted_most : (l : P.Elements) → size_of (P.next_counted l) ≤ 15
counted_most l =
    let low = store_most frame_register u1 (P.next_place l 0) in
    let high = load_most u2 frame_register (P.next_place l 1) in
    let back = store_most frame_register u2 (P.next_place l 1) in
    let carried = add u2 u2 u1 ∷ store_word frame_register u2 (P.next_place l 1) in
    let higher = load_word u2 frame_register (P.next_place l 1) ++ carried in
    let kept = immediate Imm.SetLessUnsigned u1 u1 (pos 1) ∷ higher in
    let last = both (load_word u2 frame_register (P.next_place l 1)) carried high {n = 4} (omega (arith, back)) in
    let behind = both (store_word frame_register u1 (P.next_place l 0)) kept low {n = 8} (omega (arith, last)) in
    both (load_word u1 frame_register (P.next_place l 0)) _ (load_most u1 frame_register (P.next_place l 0)) {n = 12}
    (omega (arith, behind))

turns_most : (l : P.Elements) (asked each : Code) (m n : ℕ) → size_of asked ≤ m → size_of each ≤ n
    → size_of (P.turns l asked each) ≤ m + (n + 20)
turns_most l asked each m n h k =
    let c = counted_most l in
    let back = both (P.next_counted l)
    (JumpBack (size_of asked + (3 + (size_of each + size_of (P.next_counted l)))) ∷ []) c {n = 2} (omega arith) in
    let all = both each _ k back in
    both asked _ h (omega (arith, all))

begun_most : (l : P.Elements) → size_of (P.elements_begun l) ≤ 6
begun_most l =
    both (store_word frame_register zero_register (P.next_place l 0)) _
    (store_most frame_register zero_register (P.next_place l 0))
    (store_most frame_register zero_register (P.next_place l 1))

for_elements_most : (e : Environment) (l : P.Elements) (r : Y.Reference) (each : Code) (n : ℕ) → size_of each ≤ n
    → size_of (P.for_elements e l r each) ≤ n + 46
for_elements_most e l r each n h =
    let asked = both (P.element_asked e l r) (immediate Imm.Add u1 zero_register (negsuc 0) ∷ []) (asked_most e l r)
    {n = 1} (omega arith) in
    let all = both (P.elements_begun l) _ (begun_most l) (turns_most l (P.next_asked e l r) each 20 n asked h) in
    omega (arith, all)

-- ---- by the kind in the buffer

kinds_most : (b c d : Bool) (i j k : ℕ) (x y z : Code) (l m n : ℕ) → size_of x ≤ l → size_of y ≤ m → size_of z ≤ n
    → size_of (P.by_kind (P.kind_if b i x ++ (P.kind_if c j y ++ P.kind_if d k z))) ≤ 10 + (l + (m + n))
kinds_most true true true i j k x y z l m n hx hy hz =
    let rest = P.by_kind (P.kind_if true j y ++ P.kind_if true k z) in
    let more = choice_most Test.Equal u0 u1 y z m n hy hz in
    let all = choice_most Test.Equal u0 u1 x rest l (5 + (m + n)) hx (omega (arith, more)) in
    omega (arith, all)
kinds_most true true false i j k x y z l m n hx hy hz =
    let all = choice_most Test.Equal u0 u1 x y l m hx hy in omega (arith, all)
kinds_most true false true i j k x y z l m n hx hy hz =
    let all = choice_most Test.Equal u0 u1 x z l n hx hz in omega (arith, all)
kinds_most true false false i j k x y z l m n hx hy hz = omega (arith, hx)
kinds_most false true true i j k x y z l m n hx hy hz =
    let all = choice_most Test.Equal u0 u1 y z m n hy hz in omega (arith, all)
kinds_most false true false i j k x y z l m n hx hy hz = omega (arith, hy)
kinds_most false false true i j k x y z l m n hx hy hz = omega (arith, hz)
kinds_most false false false i j k x y z l m n hx hy hz = none

by_kinds_most : (e : Environment) (r : Y.Reference) (x y z : Code) (l m n : ℕ) → size_of x ≤ l → size_of y ≤ m
    → size_of z ≤ n → size_of (P.by_kinds_of e r x y z) ≤ 10 + (l + (m + n))
by_kinds_most e r x y z l m n hx hy hz =
    kinds_most (P.has_kind e r K.Fixed) (P.has_kind e r K.Bit) (P.has_texts e r) (kind_number K.Fixed)
    (kind_number K.Bit) (kind_number K.Character) x y z l m n hx hy hz

-- ---- PUT of an aggregate

fixed_put_most : (t : Taken) (fs : T.Formats) → size_of (P.fixed_element_put t fs) ≤ 47
fixed_put_most t fs =
    let f = fetch_most a1 (with_number t) in
    both P.fixed_loaded
    (save a0 t ++ (save u2 (with_number t) ++ P.number_put t fs (fetch a1 (with_number t) ++ service 21))) {m = 10}
    (omega arith)
    (both (save a0 t) _ (save_most a0 t)
    (both (save u2 (with_number t)) _ (save_most u2 (with_number t))
    (number_put_most t fs (fetch a1 (with_number t) ++ service 21) 5
    (both (fetch a1 (with_number t)) (service 21) f {n = 2} (omega arith)))))

mixed_put_most : (e : Environment) (fs : T.Formats) (r : Y.Reference) → size_of (P.mixed_element_put e fs r) ≤ 61
mixed_put_most e fs r =
    both (P.by_kinds_of e r P.fixed_element_pushed P.bit_element_pushed P.text_element_pushed) _
    (by_kinds_most e r P.fixed_element_pushed P.bit_element_pushed P.text_element_pushed 13 7 5 (omega arith)
    (omega arith) (omega arith)) (text_put_most fs)

element_put_most : (e : Environment) (l : P.Elements) (fs : T.Formats) (r : Y.Reference)
    → size_of (P.element_put e l fs r) ≤ 64
element_put_most e l fs r =
    both status_tested (P.element_written e (P.free_in l) fs r) {m = 3} (omega arith)
    (one_of (P.has_kind e r K.Bit || P.has_texts e r) _ _ (mixed_put_most e fs r)
    (let m = fixed_put_most (P.free_in l) fs in omega (arith, m)))

-- ---- elements by their distance

distance_most : (t : Taken) (l : Y.Leaf) → size_of (P.distance_counted t l) ≤ 11
distance_most t l =
    both (fetch u1 t) _ (fetch_most u1 t)
    (both (plus u1 u1 (pos (rounded_up 4 (leaf_bytes (kind_of [] l.type))))) _
    (plus_most u1 u1 (pos (rounded_up 4 (leaf_bytes (kind_of [] l.type)))))
    (both (save u1 t) _ (save_most u1 t) (number_most u2 (leaf_size (leaf_of [] l)))))

by_distance_most : (t : Taken) (l : Y.Leaf) (each : Code) (n : ℕ) → size_of each ≤ n
    → size_of (P.by_distance t l each) ≤ n + 17
by_distance_most t l each n h =
    let turn = each ++ P.distance_counted t l in
    let all = both (save zero_register t) _ (save_most zero_register t)
    (both turn (skip_where Test.Equal u1 u2 (JumpBack (size_of turn + 1) ∷ []))
    (both each (P.distance_counted t l) h (distance_most t l)) {n = 3} (omega arith)) in
    omega (arith, all)

added_most : (e : Environment) (t : Taken) (v : Y.Variable) → size_of (P.distance_added e t v) ≤ 9
added_most e t v =
    both (fetch u4 t) _ (fetch_most u4 t)
    (both (L.direct_base e u3 v v.class) _ (base_most e u3 v v.class) {n = 1} (omega arith))

shown_most : (t : Taken) (fs : T.Formats) (type : Y.LeafType) (a : L.Address)
    → size_of (P.element_shown t fs type a) ≤ 38
shown_most t fs (Y.FixedLeaf p) a =
    let all = both (L.loaded (Y.FixedLeaf p) a0 a) _ (loaded_most (Y.FixedLeaf p) a0 a) (waiting_put_most t fs p) in
    omega (arith, all)
shown_most t fs (Y.CharacterLeaf x) a =
    both (L.text_pushed (Y.CharacterLeaf x) a) _ (pushed_most (Y.CharacterLeaf x) a) (text_put_most fs)
shown_most t fs (Y.VaryingLeaf x) a =
    both (L.text_pushed (Y.VaryingLeaf x) a) _ (pushed_most (Y.VaryingLeaf x) a) (text_put_most fs)
shown_most t fs Y.BitLeaf a =
    let all = both (L.loaded Y.BitLeaf a0 a) _ (loaded_most Y.BitLeaf a0 a) (waiting_put_most t fs 0) in
    omega (arith, all)
shown_most t fs Y.PointerLeaf a = none
shown_most t fs (Y.OffsetLeaf area) a = none
shown_most t fs (Y.AreaLeaf n) a = none

counted_put_most : (e : Environment) (t : Taken) (fs : T.Formats) (r : Y.Reference)
    → size_of (P.counted_put e t fs r) ≤ 64
counted_put_most e t fs (Y.Referring v locator part xs) =
    by_distance_most t (L.leaf_number e v part.first) (P.counted_element_put e t fs v part) 47
    (both (P.distance_added e t v) _ (added_most e t v)
    (shown_most (with_number t) fs (L.leaf_number e v part.first).type (L.address_of e v part 1)))

aggregate_put_most : (e : Environment) (t : Taken) (fs : T.Formats) (r : Y.Reference)
    → size_of (P.aggregate_put e t fs r) ≤ record_size r + 110
aggregate_put_most e t fs r =
    let l = P.elements_of t r in
    one_of (P.is_counted e r) _ _ (let m = counted_put_most e t fs r in omega (arith, m))
    (both (S.record_code e t r) _ (record_most e t r)
    (for_elements_most e l r (P.element_put e l fs r) 64 (element_put_most e l fs r)))

-- ---- PUT

item_put_most : (e : Environment) (t : Taken) (fs : T.Formats) (i : Y.PutItem)
    → size_of (P.item_put e t fs i) ≤ put_item_size i
item_put_most e t fs (Y.PutValue v) = value_put_most e t fs v
item_put_most e t fs (Y.PutAggregate r) = aggregate_put_most e t fs r

items_put_most : (e : Environment) (t : Taken) (fs : T.Formats) (is : List Y.PutItem)
    → size_of (P.items_put e t fs is) ≤ put_items_size is
items_put_most e t fs [] = none
items_put_most e t fs (i ∷ is) =
    both (P.item_put e t fs i) _ (item_put_most e t fs i) (items_put_most e t fs is)

put_pairs_most : (e : Environment) (t : Taken) (ps : List Y.PutPair)
    → size_of (P.put_pairs e t ps) ≤ put_pairs_size ps
put_pairs_most e t [] = none
put_pairs_most e t (p ∷ ps) =
    let items = both (P.items_put e t p.formats p.items) P.edit_ended (items_put_most e t p.formats p.items) {n = 2}
    (omega arith) in
    both (P.put_pair e t p) (P.put_pairs e t ps) (omega (arith, items)) (put_pairs_most e t ps)

skip_most : (mode : ℕ) (o : Option ℕ) → size_of (P.skip_option mode o) ≤ 5
skip_most mode None = none
skip_most mode (Some n) = both (number a0 n) _ (number_most a0 n) {n = 3} (omega arith)

pub puts_sized : (e : Environment) (t : Taken) (skip : Option ℕ) (ps : List Y.PutPair)
    → size_of (P.put_code e t skip ps) ≤ put_size ps
puts_sized e t skip ps =
    let all = both (P.skip_option 1 skip) _ (skip_most 1 skip) (put_pairs_most e t ps) in omega (arith, all)

-- ---- GET of one value

awaited_most : (code : Code) (behind n : ℕ) → size_of code ≤ n → size_of (P.awaited_before code behind) ≤ 13 + n
awaited_most code behind n h =
    both (P.field_awaited (size_of code + behind)) code {m = 13} (omega arith) h

number_got_most : (fs : T.Formats) → size_of (P.number_got fs) ≤ 17
number_got_most fs =
    by_item_most fs (tested_service 36) (service 37 ++ (small a0 0 ∷ tested_service 26)) 5 8 (omega arith) (omega arith)

text_got_most : (fs : T.Formats) → size_of (P.text_got fs) ≤ 14
text_got_most fs =
    by_item_most fs (tested_service 36 ++ P.as_text operator_precision) (service 37) 8 2 (omega arith) (omega arith)

field_most : (e : Environment) (t : Taken) (fs : T.Formats) (r : Y.Reference) (type : Y.LeafType)
    → size_of (P.field_stored e t fs r type) ≤ reference_size r + 40
field_most e t fs r (Y.FixedLeaf p) =
    let all = both (P.number_got fs) _ (number_got_most fs)
    (both (fitted_code t p) _ (fitted_most t p) (word_most e t r)) in
    omega (arith, all)
field_most e t fs r (Y.CharacterLeaf x) =
    let all = both (P.text_got fs) _ (text_got_most fs) (top_most e t r) in omega (arith, all)
field_most e t fs r (Y.VaryingLeaf x) =
    let all = both (P.text_got fs) _ (text_got_most fs) (top_most e t r) in omega (arith, all)
field_most e t fs r Y.BitLeaf =
    let all = both P.bit_got (S.word_stored e t r) {m = 8} (omega arith) (word_most e t r) in omega (arith, all)
field_most e t fs r Y.PointerLeaf = none
field_most e t fs r (Y.OffsetLeaf area) = none
field_most e t fs r (Y.AreaLeaf n) = none

-- ---- GET of an aggregate

fitted_there_most : (t : Taken) → size_of (P.number_fitted t) ≤ 20
fitted_there_most t =
    let o = overflow_most t in
    let s = save_most a0 t in
    let all = both (overflow_raised t) (save a0 t) o s in
    omega (arith, o, s, all)

mixed_field_most : (e : Environment) (t : Taken) (fs : T.Formats) (r : Y.Reference)
    → size_of (P.mixed_field_taken e t fs r) ≤ 59
mixed_field_most e t fs r =
    both (P.text_got fs) _ (text_got_most fs)
    (by_kinds_most e r (P.text_converted 0 ++ P.number_fitted t) (P.text_converted 1 ++ save a0 t) [] 26 9 0
    (both (P.text_converted 0) (P.number_fitted t) {m = 6} (omega arith) (fitted_there_most t))
    (both (P.text_converted 1) (save a0 t) {m = 6} (omega arith) (save_most a0 t)) none)

taken_most : (e : Environment) (t : Taken) (fs : T.Formats) (r : Y.Reference)
    → size_of (P.element_field_taken e t fs r) ≤ 59
taken_most e t fs r =
    one_of (P.has_kind e r K.Fixed) _ _
    (one_of (P.has_kind e r K.Bit || P.has_texts e r) _ _ (mixed_field_most e t fs r)
    (let all = both (P.number_got fs) (P.number_fitted t) (number_got_most fs) (fitted_there_most t) in
    omega (arith, all)))
    (one_of (P.has_kind e r K.Bit) _ _
    (one_of (P.has_texts e r) _ _ (mixed_field_most e t fs r)
    (let all = both P.bit_got (save a0 t) {m = 8} (omega arith) (save_most a0 t) in omega (arith, all)))
    (let m = text_got_most fs in omega (arith, m)))

kept_there_most : (e : Environment) (t : Taken) (r : Y.Reference) → size_of (P.element_stored e t r) ≤ 35
kept_there_most e t r =
    let f = fetch_most a0 t in
    let byte = Plain (I.Store Store.Byte u3 a0 (pos 0)) ∷ [] in
    let half = Plain (I.Store Store.Half u3 a0 (pos 0)) in
    let word = Plain (I.Store Store.Word u3 a0 (pos 0)) in
    let fixed = both (fetch a0 t) (load_word u2 frame_register buffer_size ++ P.by_precision half word) f {n = 7}
    (omega arith) in
    let bit = both (fetch a0 t) byte f {n = 1} (omega arith) in
    by_kinds_most e r (P.fixed_stored t) (P.bit_stored t) (P.text_described ++ service 27) 13 7 5 (omega (arith, fixed))
    (omega (arith, bit)) (omega arith)

element_got_most : (e : Environment) (l : P.Elements) (fs : T.Formats) (r : Y.Reference)
    → size_of (P.element_got e l fs r) ≤ 116
element_got_most e l fs r =
    both (P.element_field_taken e (P.free_in l) fs r) _ (taken_most e (P.free_in l) fs r)
    (both (P.element_found e l r) _ {m = 22}
    (both (P.element_asked e l r) status_tested (asked_most e l r) {n = 3} (omega arith))
    (kept_there_most e (P.free_in l) r))

converted_most : (t : Taken) (fs : T.Formats) (type : Y.LeafType) → size_of (P.field_converted t fs type) ≤ 31
converted_most t fs (Y.FixedLeaf p) =
    both (P.number_got fs) _ (number_got_most fs) (fitted_most t p)
converted_most t fs (Y.CharacterLeaf x) = let m = text_got_most fs in omega (arith, m)
converted_most t fs (Y.VaryingLeaf x) = let m = text_got_most fs in omega (arith, m)
converted_most t fs Y.BitLeaf = omega arith
converted_most t fs Y.PointerLeaf = none
converted_most t fs (Y.OffsetLeaf area) = none
converted_most t fs (Y.AreaLeaf n) = none

field_kept_most : (type : Y.LeafType) (a : L.Address) → size_of (P.field_kept type a) ≤ 12
field_kept_most (Y.FixedLeaf p) a = let m = stored_most (Y.FixedLeaf p) a0 a in omega (arith, m)
field_kept_most (Y.CharacterLeaf x) a = text_into_most (Y.CharacterLeaf x) a
field_kept_most (Y.VaryingLeaf x) a = text_into_most (Y.VaryingLeaf x) a
field_kept_most Y.BitLeaf a = let m = stored_most Y.BitLeaf a0 a in omega (arith, m)
field_kept_most Y.PointerLeaf a = none
field_kept_most (Y.OffsetLeaf area) a = none
field_kept_most (Y.AreaLeaf n) a = none

counted_got_most : (e : Environment) (t : Taken) (fs : T.Formats) (r : Y.Reference) (behind : ℕ)
    → size_of (P.counted_got e t fs r behind) ≤ 82
counted_got_most e t fs (Y.Referring v locator part xs) behind =
    let l = L.leaf_number e v part.first in
    let each = P.counted_element_got e t fs v part in
    let got = both (P.field_converted (with_number t) fs l.type) _ (converted_most (with_number t) fs l.type)
    (both (P.distance_added e t v) _ (added_most e t v) (field_kept_most l.type (L.address_of e v part 1))) in
    by_distance_most t l (P.awaited_before each (size_of (P.distance_counted t l) + (3 + behind))) 65
    (awaited_most each (size_of (P.distance_counted t l) + (3 + behind)) 52 got)

aggregate_got_most : (e : Environment) (t : Taken) (fs : T.Formats) (r : Y.Reference) (behind : ℕ)
    → size_of (P.aggregate_got e t fs r behind) ≤ record_size r + 175
aggregate_got_most e t fs r behind =
    let l = P.elements_of t r in
    let each = P.element_got e l fs r in
    one_of (P.is_counted e r) _ _ (let m = counted_got_most e t fs r behind in omega (arith, m))
    (both (S.record_code e t r) _ (record_most e t r)
    (for_elements_most e l r (P.awaited_before each (size_of (P.next_counted l) + (2 + behind))) 129
    (awaited_most each (size_of (P.next_counted l) + (2 + behind)) 116 (element_got_most e l fs r))))

-- ---- GET

item_got_most : (e : Environment) (t : Taken) (fs : T.Formats) (i : Y.GetItem) (behind : ℕ)
    → size_of (P.item_got e t fs i behind) ≤ get_item_size i
item_got_most e t fs (Y.GetScalar r) behind =
    let all = awaited_most (P.field_stored e t fs r (X.type_in e r)) behind (reference_size r + 40)
    (field_most e t fs r (X.type_in e r)) in
    omega (arith, all)
item_got_most e t fs (Y.GetAggregate r) behind = aggregate_got_most e t fs r behind

items_got_most : (e : Environment) (t : Taken) (fs : T.Formats) (behind : ℕ) (is : List Y.GetItem)
    → size_of (P.items_got e t fs behind is) ≤ get_items_size is
items_got_most e t fs behind [] = none
items_got_most e t fs behind (i ∷ is) =
    both (P.item_got e t fs i (size_of (P.items_got e t fs behind is) + behind)) _
    (item_got_most e t fs i (size_of (P.items_got e t fs behind is) + behind)) (items_got_most e t fs behind is)

get_pairs_most : (e : Environment) (t : Taken) (ps : List Y.GetPair)
    → size_of (P.get_pairs e t ps) ≤ get_pairs_size ps
get_pairs_most e t [] = omega arith
get_pairs_most e t (p ∷ ps) =
    let behind = size_of P.edit_ended + size_of (P.get_pairs e t ps) in
    let items = both (P.items_got e t p.formats behind p.items) P.edit_ended
    (items_got_most e t p.formats behind p.items) {n = 2} (omega arith) in
    both (P.get_pair e t p (size_of (P.get_pairs e t ps))) (P.get_pairs e t ps) (omega (arith, items))
    (get_pairs_most e t ps)

pub gets_sized : (e : Environment) (t : Taken) (skip : Option ℕ) (ps : List Y.GetPair)
    → size_of (P.get_code e t skip ps) ≤ get_size ps
gets_sized e t skip ps =
    let all = both (P.skip_option 0 skip) _ (skip_most 0 skip)
    (both (P.get_pairs e t ps) P.edit_ended (get_pairs_most e t ps) {n = 2} (omega arith)) in
    omega (arith, all)

pub streams_sized : StreamsSized
streams_sized = (puts_sized, gets_sized)
