-- GET and PUT with EDIT. What is written waits while control items are carried out; a format item is asked for by a
-- service that makes no act before the one that acts.
use Rattle.std.specs.Prelude.{ℕ, suc, ◌+◌, ◌^◌, max, ℤ, pos, negsuc, Bool, true, false, ◌&&◌, ◌||◌, ◌==◌, nat_lt}
use Rattle.std.specs.Prelude.{List, [], ◌∷◌, ◌++◌, take, drop, Option, Some, None, if◌then◌else◌}
use Rattle.std.specs.List.{list_any}
use Rattle.rv_meaning.specs.declared.instr.LoadKind.TheVariants as Load
use Rattle.rv_meaning.specs.declared.instr.StoreKind.TheVariants as Store
use Rattle.rv_meaning.specs.declared.instr.Instr.TheVariants as I
use Rattle.rv_meaning.specs.declared.instr.RegisterOp.TheVariants as Op
use Rattle.rv_meaning.specs.declared.instr.ImmediateOp.TheVariants as Imm
use Rattle.rv_meaning.specs.declared.instr.BranchTest.TheVariants as Test
use Rattle.rv_meaning.specs.declared.image.TableKind.{TableKind}
use Rattle.rv_meaning.specs.declared.image.TableKind.TheVariants as K
use Rattle.rv_meaning.specs.Tables.{kind_number}
use Rattle.pli_language.specs.declared.condition.Condition.TheVariants as C
use Rattle.pli_language.specs.Tree as T
use Rattle.pli_typing.specs.Signatures.{leaf_bytes, leaf_size, rounded_up}
use Rattle.pli_typing.specs.TypedTree as Y
use Rattle.pli_meaning.specs.Codes.{endfile_code}
use Rattle.pli_meaning.specs.Numbers.{operator_precision}
use Rattle.pli_meaning.specs.DeclaredShapes.{kind_of, leaf_of}
use Rattle.pli_coding.specs.Registers.{zero_register, frame_register, a0, a1, a2, a3, a4, a5, u0, u1, u2, u3, u4}
use Rattle.pli_coding.specs.Assembly.{Item, Plain, BaseIn, OffsetOf, DataPlace, JumpAhead, JumpBack, Code, size_of}
use Rattle.pli_coding.specs.Instructions.{immediate, registers, add, subtract, move, small, number, plus, load_word}
use Rattle.pli_coding.specs.Instructions.{store_word, skip_where, choice, repeated_while_zero, service}
use Rattle.pli_coding.specs.Instructions.{tested_service, status_tested}
use Rattle.pli_coding.specs.Frames.{buffer, buffer_kind, buffer_size, word_in}
use Rattle.pli_coding.specs.StaticForms.{formats_datum, shape_datum}
use Rattle.pli_coding.specs.Environments.{Environment, declaration_of, Taken, with_words, with_number, most_taken, save}
use Rattle.pli_coding.specs.Environments.{fetch}
use Rattle.pli_coding.specs.Arithmetic.{raised, overflow_raised, fitted_code}
use Rattle.pli_coding.specs.Locating.{own_place, leaf_number, is_direct, direct_base, direct_register, Address}
use Rattle.pli_coding.specs.Locating.{address_of, loaded, stored, text_pushed, text_stored}
use Rattle.pli_coding.specs.Expressions.{given_in, type_in, number_code, text_code, bit_code}
use Rattle.pli_coding.specs.Temporaries.{number_takes, text_takes, bit_takes, reference_takes}
use Rattle.pli_coding.specs.Storing.{word_stored, top_stored, behind_record, record_code, record_given, aggregate_takes}

-- ---- which data items a format list has

abbrev mutual
  pub has_fixed : T.Formats → Bool
  has_fixed T.NoFormat = false
  has_fixed (T.FormatThen place repetition first rest) = is_fixed first || has_fixed rest

  pub is_fixed : T.Format → Bool
  is_fixed (T.FixedFormat width) = true
  is_fixed (T.FormatList formats) = has_fixed formats
  is_fixed _ = false

abbrev mutual
  pub has_text : T.Formats → Bool
  has_text T.NoFormat = false
  has_text (T.FormatThen place repetition first rest) = is_text first || has_text rest

  pub is_text : T.Format → Bool
  is_text (T.TextFormat width) = true
  is_text (T.FormatList formats) = has_text formats
  is_text _ = false

-- ---- the next data item

abbrev pub controls_carried_out : Code
controls_carried_out = repeated_while_zero (service 35)

-- by what service 35 said, 1 for F and 2 for A, where the list has both
abbrev pub by_item : T.Formats → (fixed text : Code) → Code
by_item formats fixed text =
    if has_fixed formats && has_text formats then small u1 1 ∷ choice Test.Equal a0 u1 fixed text
    else (if has_fixed formats then fixed else text)

-- ---- PUT of one value

-- a field that is too narrow is an ERROR (105) before anything is written
abbrev pub number_written : Code
number_written = small a1 0 ∷ (tested_service 36 ++ (small a1 1 ∷ service 36))

abbrev pub text_written : Code
text_written = service 37

abbrev pub number_put : Taken → T.Formats → (text : Code) → Code
number_put t formats text =
    controls_carried_out ++ by_item formats (fetch a0 t ++ number_written) (fetch a0 t ++ (text ++ text_written))

abbrev pub text_put : T.Formats → Code
text_put formats =
    controls_carried_out ++ by_item formats (small a0 0 ∷ (tested_service 26 ++ number_written)) text_written

-- a number with the places of its precision; with 0 a bit
abbrev pub as_text : (precision : ℕ) → Code
as_text precision = small a1 precision ∷ service 21

abbrev pub value_put : Environment → Taken → T.Formats → Y.Value → Code
value_put e t formats (Y.NumberValue precision x) =
    number_code e t x ++ (save a0 t ++ number_put t formats (as_text precision))
value_put e t formats (Y.TextValue x) = text_code e t x ++ text_put formats
value_put e t formats (Y.BitValue x) = bit_code e t x ++ (save a0 t ++ number_put t formats (as_text 0))
value_put e t formats _ = []

-- ---- elements of aggregates: a record, and behind it the number of the next element in two words, the lower one first

abbrev pub is_type : TableKind → Y.LeafType → Bool
is_type K.Fixed (Y.FixedLeaf p) = true
is_type K.Character (Y.CharacterLeaf x) = true
is_type K.Varying (Y.VaryingLeaf x) = true
is_type K.Bit Y.BitLeaf = true
is_type _ _ = false

abbrev pub leaves_in : Environment → Y.Reference → List Y.Leaf
leaves_in e (Y.Referring v locator part subscripts) = take part.count (drop part.first (declaration_of e v).leaves)

-- whether a part has leaves of a kind
abbrev pub has_kind : Environment → Y.Reference → TableKind → Bool
has_kind e r kind = list_any (λ l. is_type kind l.type) (leaves_in e r)

-- or leaves of either kind of text
abbrev pub has_texts : Environment → Y.Reference → Bool
has_texts e r = has_kind e r K.Character || has_kind e r K.Varying

abbrev pub shape_in : Environment → Y.Reference → Code
shape_in e (Y.Referring v locator part subscripts) =
    OffsetOf a1 (DataPlace (shape_datum (declaration_of e v).members part (given_in subscripts))) ∷ []

-- what is in use while elements go
pub record Elements : Type 0 where
  pub taken : Taken
  pub behind : Taken

abbrev pub elements_of : Taken → Y.Reference → Elements
elements_of t r = record { taken = t; behind = behind_record r t }

abbrev pub next_place : Elements → (word : ℕ) → ℤ
next_place l word = word_in l.behind.words 2 word

-- behind the number
abbrev pub free_in : Elements → Taken
free_in l = with_words 2 l.behind

-- the first is the next
abbrev pub elements_begun : Elements → Code
elements_begun l =
    store_word frame_register zero_register (next_place l 0) ++ store_word frame_register zero_register (next_place l 1)

-- the offset of the next one in a0, all ones where there is none, and what it is in the buffer
abbrev pub element_asked : Environment → Elements → Y.Reference → Code
element_asked e l r =
    record_given e l.taken
    ++ (shape_in e r
    ++ (load_word a2 frame_register (next_place l 0)
    ++ (load_word a5 frame_register (next_place l 1) ++ (own_place e a3 (pos buffer) ++ (small a4 1 ∷ service 8)))))

-- it must live (101) and be there in full (107)
abbrev pub element_found : Environment → Elements → Y.Reference → Code
element_found e l r = element_asked e l r ++ status_tested

-- a lower word that has become 0 carries
abbrev pub next_counted : Elements → Code
next_counted l =
    load_word u1 frame_register (next_place l 0)
    ++ (immediate Imm.Add u1 u1 (pos 1)
    ∷ (store_word frame_register u1 (next_place l 0)
    ++ (immediate Imm.SetLessUnsigned u1 u1 (pos 1)
    ∷ (load_word u2 frame_register (next_place l 1)
    ++ (add u2 u2 u1 ∷ store_word frame_register u2 (next_place l 1))))))

-- the offset of the next one in a0, and in u1 what is told where there is none
abbrev pub next_asked : Environment → Elements → Y.Reference → Code
next_asked e l r = element_asked e l r ++ immediate Imm.Add u1 zero_register (negsuc 0) ∷ []

-- what is done for each, given the words behind it, while what is asked first leaves a0 and u1 different; both sizes
-- are those of the code itself
abbrev pub turns : Elements → (asked each : Code) → Code
turns l asked each =
    asked
    ++ (skip_where Test.NotEqual a0 u1 (JumpAhead (size_of each + (size_of (next_counted l) + 2)) ∷ [])
    ++ (each
    ++ (next_counted l
    ++ JumpBack (size_of asked + (3 + (size_of each + size_of (next_counted l)))) ∷ [])))

abbrev pub for_elements : Environment → Elements → Y.Reference → (each : Code) → Code
for_elements e l r each = elements_begun l ++ turns l (next_asked e l r) each

-- ---- arrays of one kind at constant places: how far the next element stands behind the first waits as a number

-- a word holds how many bytes the elements take; what takes none isn't counted by them
abbrev pub is_distance : (bytes : ℕ) → Bool
is_distance bytes = nat_lt 0 bytes && nat_lt bytes (2 ^ 31)

-- all elements stand one behind the other
abbrev pub are_counted : Environment → Y.Variable → Y.Part → (given : ℕ) → Bool
are_counted e v part given =
    is_direct e v
    && ((part.count == 1) && ((given == 0) && is_distance (leaf_size (leaf_of [] (leaf_number e v part.first)))))

abbrev pub is_counted : Environment → Y.Reference → Bool
is_counted e (Y.Referring v locator part subscripts) = are_counted e v part (given_in subscripts)

-- that of the next one in u1, and that behind the last one in u2
abbrev pub distance_counted : Taken → Y.Leaf → Code
distance_counted t l =
    fetch u1 t
    ++ (plus u1 u1 (pos (rounded_up 4 (leaf_bytes (kind_of [] l.type))))
    ++ (save u1 t ++ number u2 (leaf_size (leaf_of [] l))))

-- code that is done again until these two are equal
abbrev pub repeated_until_equal : Code → Code
repeated_until_equal code = code ++ skip_where Test.Equal u1 u2 (JumpBack (size_of code + 1) ∷ [])

-- what is done for each, of which there is one at least
abbrev pub by_distance : Taken → Y.Leaf → (each : Code) → Code
by_distance t l each = save zero_register t ++ repeated_until_equal (each ++ distance_counted t l)

-- the element's address
abbrev pub distance_added : Environment → Taken → Y.Variable → Code
distance_added e t v = fetch u4 t ++ (direct_base e u3 v v.class ++ add u3 (direct_register e u3 v v.class) u4 ∷ [])

-- ---- by the kind in the buffer

pub record KindCode : Type 0 where
  pub kind : ℕ
  pub code : Code

abbrev pub kind_if : Bool → (kind : ℕ) → Code → List KindCode
kind_if holds kind code = if holds then record { kind = kind; code = code } ∷ [] else []

-- the last of them needs no test
abbrev pub by_kind : List KindCode → Code
by_kind [] = []
by_kind (k ∷ []) = k.code
by_kind (k ∷ l ∷ more) =
    load_word u0 frame_register buffer_kind ++ (small u1 k.kind ∷ choice Test.Equal u0 u1 k.code (by_kind (l ∷ more)))

-- numbers, bits, and texts of both kinds
abbrev pub by_kinds_of : Environment → Y.Reference → (fixed bit text : Code) → Code
by_kinds_of e r fixed bit text =
    by_kind
    (kind_if (has_kind e r K.Fixed) (kind_number K.Fixed) fixed
    ++ (kind_if (has_kind e r K.Bit) (kind_number K.Bit) bit
    ++ kind_if (has_texts e r) (kind_number K.Character) text))

-- ---- an element, from its offset in a0

-- its address in u3
abbrev pub element_addressed : Code
element_addressed = BaseIn u0 ∷ add u3 u0 a0 ∷ []

-- by its precision, in u2: two bytes, or four
abbrev pub by_precision : (half word : Item) → Code
by_precision half word = small u1 16 ∷ choice Test.Less u2 u1 (half ∷ []) (word ∷ [])

abbrev pub fixed_loaded : Code
fixed_loaded =
    element_addressed
    ++ (load_word u2 frame_register buffer_size
    ++ by_precision (Plain (I.Load Load.Half a0 u3 (pos 0))) (Plain (I.Load Load.Word a0 u3 (pos 0))))

-- what waits there
abbrev pub fixed_stored : Taken → Code
fixed_stored t =
    element_addressed
    ++ (fetch a0 t
    ++ (load_word u2 frame_register buffer_size
    ++ by_precision (Plain (I.Store Store.Half u3 a0 (pos 0))) (Plain (I.Store Store.Word u3 a0 (pos 0)))))

-- the length in a1, and in a2 whether the text varies
abbrev pub text_described : Code
text_described =
    load_word a1 frame_register buffer_size
    ++ (load_word a2 frame_register buffer_kind ++ immediate Imm.Add a2 a2 (negsuc 1) ∷ [])

-- ---- PUT of an aggregate

-- where all elements are numbers: the precision waits behind the number
abbrev pub fixed_element_put : Taken → T.Formats → Code
fixed_element_put t formats =
    fixed_loaded
    ++ (save a0 t ++ (save u2 (with_number t) ++ number_put t formats (fetch a1 (with_number t) ++ service 21)))

-- an element as the top text
abbrev pub fixed_element_pushed : Code
fixed_element_pushed = fixed_loaded ++ (move a1 u2 ∷ service 21)

abbrev pub bit_element_pushed : Code
bit_element_pushed = element_addressed ++ (Plain (I.Load Load.ByteUnsigned a0 u3 (pos 0)) ∷ as_text 0)

abbrev pub text_element_pushed : Code
text_element_pushed = text_described ++ service 20

-- where they are others too, each is a text first
abbrev pub mixed_element_put : Environment → T.Formats → Y.Reference → Code
mixed_element_put e formats r =
    by_kinds_of e r fixed_element_pushed bit_element_pushed text_element_pushed ++ text_put formats

abbrev pub element_written : Environment → Taken → T.Formats → Y.Reference → Code
element_written e t formats r =
    if has_kind e r K.Bit || has_texts e r then mixed_element_put e formats r else fixed_element_put t formats

abbrev pub element_put : Environment → Elements → T.Formats → Y.Reference → Code
element_put e l formats r = status_tested ++ element_written e (free_in l) formats r

abbrev pub elements_put : Environment → Elements → T.Formats → Y.Reference → Code
elements_put e l formats r =
    record_code e l.taken r ++ for_elements e l r (element_put e l formats r)

-- what stands at an address
abbrev pub element_shown : Taken → T.Formats → Y.LeafType → Address → Code
element_shown t formats (Y.FixedLeaf p) a =
    loaded (Y.FixedLeaf p) a0 a ++ (save a0 t ++ number_put t formats (as_text p))
element_shown t formats (Y.CharacterLeaf x) a = text_pushed (Y.CharacterLeaf x) a ++ text_put formats
element_shown t formats (Y.VaryingLeaf x) a = text_pushed (Y.VaryingLeaf x) a ++ text_put formats
element_shown t formats Y.BitLeaf a = loaded Y.BitLeaf a0 a ++ (save a0 t ++ number_put t formats (as_text 0))
element_shown t formats _ a = []

abbrev pub counted_element_put : Environment → Taken → T.Formats → Y.Variable → Y.Part → Code
counted_element_put e t formats v part =
    distance_added e t v
    ++ element_shown (with_number t) formats (leaf_number e v part.first).type (address_of e v part 1)

abbrev pub counted_put : Environment → Taken → T.Formats → Y.Reference → Code
counted_put e t formats (Y.Referring v locator part subscripts) =
    by_distance t (leaf_number e v part.first) (counted_element_put e t formats v part)

abbrev pub aggregate_put : Environment → Taken → T.Formats → Y.Reference → Code
aggregate_put e t formats r =
    if is_counted e r then counted_put e t formats r else elements_put e (elements_of t r) formats r

abbrev pub item_put : Environment → Taken → T.Formats → Y.PutItem → Code
item_put e t formats (Y.PutValue v) = value_put e t formats v
item_put e t formats (Y.PutAggregate r) = aggregate_put e t formats r

abbrev pub items_put : Environment → Taken → T.Formats → List Y.PutItem → Code
items_put e t formats [] = []
items_put e t formats (i ∷ is) = item_put e t formats i ++ items_put e t formats is

-- ---- places in format lists: 0 for GET, 1 for PUT

abbrev pub edit_begun : T.Formats → (mode : ℕ) → Code
edit_begun formats mode = OffsetOf a0 (DataPlace (formats_datum formats)) ∷ small a1 mode ∷ service 34

abbrev pub edit_ended : Code
edit_ended = service 38

abbrev pub skip_option : (mode : ℕ) → Option ℕ → Code
skip_option mode None = []
skip_option mode (Some n) = number a0 n ++ (small a1 mode ∷ service 39)

abbrev pub put_pair : Environment → Taken → Y.PutPair → Code
put_pair e t p = edit_begun p.formats 1 ++ (items_put e t p.formats p.items ++ edit_ended)

abbrev pub put_pairs : Environment → Taken → List Y.PutPair → Code
put_pairs e t [] = []
put_pairs e t (p ∷ ps) = put_pair e t p ++ put_pairs e t ps

abbrev pub put_code : Environment → Taken → Option ℕ → List Y.PutPair → Code
put_code e t skip pairs = skip_option 1 skip ++ put_pairs e t pairs

-- ---- GET of one value

-- what is next, in a0; with no character left ENDFILE, and then the statement's exit, so many words behind this
abbrev pub field_awaited : (behind : ℕ) → Code
field_awaited behind =
    controls_carried_out
    ++ (small u1 3 ∷ skip_where Test.NotEqual a0 u1 (raised C.Endfile endfile_code ++ JumpAhead behind ∷ []))

-- the field as a number in a0, or as the top text
abbrev pub number_got : T.Formats → Code
number_got formats = by_item formats (tested_service 36) (service 37 ++ (small a0 0 ∷ tested_service 26))

abbrev pub text_got : T.Formats → Code
text_got formats = by_item formats (tested_service 36 ++ as_text operator_precision) (service 37)

abbrev pub bit_got : Code
bit_got = service 37 ++ (small a0 1 ∷ tested_service 26)

-- a field is converted before its target is reached
abbrev pub field_stored : Environment → Taken → T.Formats → Y.Reference → Y.LeafType → Code
field_stored e t formats r (Y.FixedLeaf p) = number_got formats ++ (fitted_code t p ++ word_stored e t r)
field_stored e t formats r (Y.CharacterLeaf x) = text_got formats ++ top_stored e t r
field_stored e t formats r (Y.VaryingLeaf x) = text_got formats ++ top_stored e t r
field_stored e t formats r Y.BitLeaf = bit_got ++ word_stored e t r
field_stored e t formats r _ = []

abbrev pub awaited_before : (code : Code) → (behind : ℕ) → Code
awaited_before code behind = field_awaited (size_of code + behind) ++ code

-- ---- GET of an aggregate

-- a number in a0 is made one of the precision that the buffer tells, and waits
abbrev pub number_fitted : Taken → Code
number_fitted t =
    load_word u2 frame_register buffer_size
    ++ (small u1 operator_precision
    ∷ subtract u2 u1 u2
    ∷ registers Op.ShiftLeft u1 a0 u2
    ∷ registers Op.ShiftRightArithmetic u1 u1 u2
    ∷ (skip_where Test.Equal u1 a0 (move a0 u1 ∷ overflow_raised t) ++ save a0 t))

-- the top text as a number, with mode 1 as a bit
abbrev pub text_converted : (mode : ℕ) → Code
text_converted mode = small a0 mode ∷ tested_service 26

-- where they are of several kinds, the field is a text first
abbrev pub mixed_field_taken : Environment → Taken → T.Formats → Y.Reference → Code
mixed_field_taken e t formats r =
    text_got formats ++ by_kinds_of e r (text_converted 0 ++ number_fitted t) (text_converted 1 ++ save a0 t) []

-- a field, converted before its target is reached: a text on the stack, or a number or bit that waits
abbrev pub element_field_taken : Environment → Taken → T.Formats → Y.Reference → Code
element_field_taken e t formats r =
    if has_kind e r K.Fixed then
    (if has_kind e r K.Bit || has_texts e r then mixed_field_taken e t formats r
    else number_got formats ++ number_fitted t)
    else (if has_kind e r K.Bit then
    (if has_texts e r then mixed_field_taken e t formats r else bit_got ++ save a0 t)
    else text_got formats)

abbrev pub bit_stored : Taken → Code
bit_stored t = element_addressed ++ (fetch a0 t ++ Plain (I.Store Store.Byte u3 a0 (pos 0)) ∷ [])

abbrev pub element_stored : Environment → Taken → Y.Reference → Code
element_stored e t r = by_kinds_of e r (fixed_stored t) (bit_stored t) (text_described ++ service 27)

abbrev pub element_got : Environment → Elements → T.Formats → Y.Reference → Code
element_got e l formats r =
    element_field_taken e (free_in l) formats r ++ (element_found e l r ++ element_stored e (free_in l) r)

abbrev pub elements_got : Environment → Elements → T.Formats → Y.Reference → (behind : ℕ) → Code
elements_got e l formats r behind =
    record_code e l.taken r
    ++ for_elements e l r (awaited_before (element_got e l formats r) (size_of (next_counted l) + (2 + behind)))

-- a field as a value in a0, or as the top text
abbrev pub field_converted : Taken → T.Formats → Y.LeafType → Code
field_converted t formats (Y.FixedLeaf p) = number_got formats ++ fitted_code t p
field_converted t formats (Y.CharacterLeaf x) = text_got formats
field_converted t formats (Y.VaryingLeaf x) = text_got formats
field_converted t formats Y.BitLeaf = bit_got
field_converted t formats _ = []

abbrev pub field_kept : Y.LeafType → Address → Code
field_kept (Y.FixedLeaf p) a = stored (Y.FixedLeaf p) a0 a
field_kept (Y.CharacterLeaf x) a = text_stored (Y.CharacterLeaf x) a
field_kept (Y.VaryingLeaf x) a = text_stored (Y.VaryingLeaf x) a
field_kept Y.BitLeaf a = stored Y.BitLeaf a0 a
field_kept _ a = []

abbrev pub counted_element_got : Environment → Taken → T.Formats → Y.Variable → Y.Part → Code
counted_element_got e t formats v part =
    field_converted (with_number t) formats (leaf_number e v part.first).type
    ++ (distance_added e t v ++ field_kept (leaf_number e v part.first).type (address_of e v part 1))

abbrev pub counted_got : Environment → Taken → T.Formats → Y.Reference → (behind : ℕ) → Code
counted_got e t formats (Y.Referring v locator part subscripts) behind =
    by_distance t (leaf_number e v part.first)
    (awaited_before (counted_element_got e t formats v part)
    (size_of (distance_counted t (leaf_number e v part.first)) + (3 + behind)))

abbrev pub aggregate_got : Environment → Taken → T.Formats → Y.Reference → (behind : ℕ) → Code
aggregate_got e t formats r behind =
    if is_counted e r then counted_got e t formats r behind else elements_got e (elements_of t r) formats r behind

abbrev pub item_got : Environment → Taken → T.Formats → Y.GetItem → (behind : ℕ) → Code
item_got e t formats (Y.GetScalar r) behind = awaited_before (field_stored e t formats r (type_in e r)) behind
item_got e t formats (Y.GetAggregate r) behind = aggregate_got e t formats r behind

abbrev pub items_got : Environment → Taken → T.Formats → (behind : ℕ) → List Y.GetItem → Code
items_got e t formats behind [] = []
items_got e t formats behind (i ∷ is) =
    item_got e t formats i (size_of (items_got e t formats behind is) + behind) ++ items_got e t formats behind is

-- behind a pair's own end
abbrev pub get_pair : Environment → Taken → Y.GetPair → (behind : ℕ) → Code
get_pair e t p behind =
    edit_begun p.formats 0 ++ (items_got e t p.formats (size_of edit_ended + behind) p.items ++ edit_ended)

-- behind the pairs two words lead past the exit
abbrev pub get_pairs : Environment → Taken → List Y.GetPair → Code
get_pairs e t [] = JumpAhead (size_of edit_ended) ∷ []
get_pairs e t (p ∷ ps) = get_pair e t p (size_of (get_pairs e t ps)) ++ get_pairs e t ps

abbrev pub get_code : Environment → Taken → Option ℕ → List Y.GetPair → Code
get_code e t skip pairs = skip_option 0 skip ++ (get_pairs e t pairs ++ edit_ended)

-- ---- what these take at most, behind what is taken already

abbrev pub value_takes : Taken → Y.Value → Taken
value_takes t (Y.NumberValue precision x) = most_taken (with_number t) (number_takes t x)
value_takes t (Y.TextValue x) = text_takes t x
value_takes t (Y.BitValue x) = most_taken (with_number t) (bit_takes t x)
value_takes t _ = t

-- a record, the number of the next element, and up to two numbers that wait; what is counted by its distance needs no
-- more
abbrev pub elements_take : Taken → Y.Reference → Taken
elements_take t r = most_taken (aggregate_takes t r) (with_number (with_number (free_in (elements_of t r))))

abbrev pub put_item_takes : Taken → Y.PutItem → Taken
put_item_takes t (Y.PutValue v) = value_takes t v
put_item_takes t (Y.PutAggregate r) = elements_take t r

abbrev pub put_items_take : Taken → List Y.PutItem → Taken
put_items_take t [] = t
put_items_take t (i ∷ is) = most_taken (put_item_takes t i) (put_items_take t is)

abbrev pub put_takes : Taken → List Y.PutPair → Taken
put_takes t [] = t
put_takes t (p ∷ ps) = most_taken (put_items_take t p.items) (put_takes t ps)

abbrev pub get_item_takes : Taken → Y.GetItem → Taken
get_item_takes t (Y.GetScalar r) = reference_takes (with_number t) r
get_item_takes t (Y.GetAggregate r) = elements_take t r

abbrev pub get_items_take : Taken → List Y.GetItem → Taken
get_items_take t [] = t
get_items_take t (i ∷ is) = most_taken (get_item_takes t i) (get_items_take t is)

abbrev pub get_takes : Taken → List Y.GetPair → Taken
get_takes t [] = t
get_takes t (p ∷ ps) = most_taken (get_items_take t p.items) (get_takes t ps)
