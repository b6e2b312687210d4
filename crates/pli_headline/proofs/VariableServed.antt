-- Service 7 for a scalar: what it answers within the limit on automatic data and past it, and what stands in memory then.
use Rattle.std.proofs.Common.{◌≡◌, ℕ, suc, ◌+◌, ◌-◌, ◌*◌, ◌%◌, ◌^◌, ◌<◌, ◌≤◌, inl, inr, List, [], ◌∷◌, ◌++◌, length, map, Bool, true, false, refl, sym, ap, ◌∙◌, subst, arith, add-one, length-append}
use Rattle.std.specs.Prelude.{ℤ, pos, cond, ◌==◌, ◌&&◌, nat_lt, nat_le, replicate, slice_index}
use Rattle.std.proofs.lemmas.Bool.{lt-ltb, le-ltb, le-leb, eqb-true}
use Rattle.std.proofs.lemmas.Bool.Decides.{nat_tests}
use Rattle.rv_meaning.specs.declared.instr.Instr.{Instr}
use Rattle.rv_meaning.specs.Memory.{load}
use Rattle.rv_meaning.specs.Machine.{memory_size}
use Rattle.rv_meaning.specs.Tables.{TableSignature}
use Rattle.pli_meaning.specs.declared.outcome.End.TheVariants as E
use Rattle.pli_meaning.specs.declared.outcome.Limit.TheVariants as L
use Rattle.pli_meaning.specs.World.{ending}
use Rattle.pli_meaning.specs.BasicValues.{VariableName, BasicText}
use Rattle.pli_typing.specs.Signatures.{Character, Varying, rounded_up, Bounds, element_count}
use Rattle.pli_language.specs.Tree as T
use Rattle.pli_meaning.specs.Texts.{fitted}
use Rattle.std.proofs.lemmas.List.{length-replicate}
use Rattle.pli_typing.specs.TypedTree as Y
use Rattle.pli_meaning.specs.Contents.{footprint_of, fresh, initial_at}
use Rattle.pli_meaning.specs.StorageState.{most_automatic}
use Rattle.pli_serving.specs.Bytes.{is_data, with_bytes, number_bytes, name_bytes}
use Rattle.pli_serving.specs.Templates.{template_of}
use Rattle.pli_serving.specs.Values.{value_bytes, element_bytes}
use Rattle.pli_meaning.specs.DeclaredShapes.{kind_of}
use Rattle.pli_coding.specs.Linking.{Links}
use Rattle.pli_headline.specs.ProvedSoFar.{AreConstants, IsScalar, text_leaf, IsHeld, Kind, alone, IsElementType}
use Rattle.rv_meaning.specs.declared.instr.StoreKind.TheVariants as Store
use Rattle.rv_meaning.specs.Words.{word}
use Rattle.pli_serving.specs.ServiceState.{Services}
use Rattle.pli_serving.specs.Answers as N
use Rattle.pli_serving.specs.Answers.{Answer, Done, Ends}
use Rattle.pli_serving.specs.Outcomes.{or_bad, bad_unless}
use Rattle.pli_serving.specs.Finding.{Call}
use Rattle.pli_serving.specs.Arguments.{capacity_of, data_bytes}
use Rattle.pli_serving.specs.InitialValues.{initial_values}
use Rattle.pli_serving.specs.Making as G
use Rattle.run_steps.specs.Unlimited as U
use Rattle.run_steps.specs.Engine.{Base, most_code, call_at}
use Rattle.run_steps.proofs.Calls.{acts}
use Rattle.pli_headline.proofs.VariablePlaces.{Sizes, room_of, number_place, room_next, room_before, room_counts, data_size, data_fits, element_alone, sizes_of, scalar_data_size, data_size_for}
use Rattle.pli_headline.proofs.NamesStand.{NameThere, name_place, name_beside, name_written}
use Rattle.pli_headline.proofs.MainGround.{Stands}
use Rattle.pli_headline.proofs.MainFrame.{main_frame}
use Rattle.pli_headline.proofs.Scalars.{Declared, by_type, is_numeric, by_held, value_as, bit_of, bit_word, Fits, fits_wide, constant_text, begin_text, begin_of, begin_fits, store_kind, IsLimited, by_shape, begin_texts}
use Rattle.run_steps.proofs.Numbers.{word_small}
use Rattle.pli_headline.proofs.InitialRead.{start_datum, start_of, Reads}
use Rattle.pli_headline.proofs.Cells.{Cell, kept_by, kind_bytes, kind_length, cell_written, content, content_word}
use Rattle.pli_headline.proofs.TextsKept.{fitted_length, taken_most, padded_there, cut_there}
use Rattle.pli_headline.proofs.TextsBegun.{text_begun}
use Rattle.pli_headline.proofs.TextPlaces.{TextThere}
use Rattle.pli_headline.proofs.TextsStay.{text_beside}
use Rattle.pli_headline.proofs.Holdings.{Content, Counted, Written, Many, There, size_in, content_of, content_numeric, content_fits, content_by, ManyTexts, many_content}
use Rattle.pli_headline.proofs.ElementsStay.{elements_beside, contents_of}
use Rattle.pli_headline.proofs.PlainNumbers.{number_for, Numbered, numbered_shape}
use Rattle.pli_headline.proofs.Variables.{scalar_shape}
use Rattle.pli_headline.proofs.MainStates.{fresh_scalar, scalar_print, begins_as, begin_numbers, begin_contents, scalars_served, main_services, served_in_use, kind_shape}
use Rattle.pli_headline.proofs.WrittenBytes.{length-with_bytes, byte-with_below, load-with_other}
use Rattle.pli_headline.proofs.ArrayMeant.{array_shape}
use Rattle.pli_headline.proofs.ArraysMade.{array_size}
use Rattle.pli_headline.proofs.ArrayOrder.{bytes_of, bytes_long, elements_written}
use Rattle.pli_headline.proofs.ArrayInitial.{numbers_of, numbers_fit, begun_array, begun_bytes, all_given}
use Rattle.std.proofs.Math.Nat.{mul_comm}
use Rattle.pli_headline.proofs.TextArraysStay.{texts_beside}
use Rattle.pli_headline.proofs.TextArrayInitial.{bytes_of_texts, texts_long, texts_written, text_array_bytes, begin_kept}

-- ---- what the service answers

-- a scalar of which all is known that it begins with
pub record Ready (links : Links) (code : List Instr) (first : List ℕ) (table : List TableSignature) (s : Declared) : Type 0 where
  pub numbered : Numbered table s.kind
  pub begins : AreConstants s.kind.type s.initial
  pub reads : Reads links code first s.kind s.initial

-- where its INITIAL values stand
abbrev pub start_at : Links → Declared → ℕ
start_at links s = start_of links (start_datum s.initial)

-- the static data is what it was at first
abbrev pub KeepsFirst : (first m : List ℕ) → Type 0
KeepsFirst first m = (k : ℕ) → k < 7 * 2 ^ 20 → slice_index m k ≡ slice_index first k

make_limited : (links : Links) (code : List Instr) (first : List ℕ) (table : List TableSignature) (kind : ℕ → Declared) (input : List ℕ) (at line j name place : ℕ) (m : List ℕ) → Ready links code first table (kind j) → length m ≡ memory_size → KeepsFirst first m → U.make_served (call_at code (main_services table kind input at line j) m) name (number_for table (kind j).kind) (start_at links (kind j)) place 0 ≡ U.limited (call_at code (main_services table kind input at line j) m) name (number_for table (kind j).kind) place 1 (fresh_scalar (kind j))
make_limited links code first table kind input at line j name place m ready len keeps =
    let v = main_services table kind input at line j in
    let c = call_at code v m in
    let n = number_for table (kind j).kind in
    let shape = kind_shape (kind j).kind in
    ap (λ o. or_bad o (λ s. or_bad (initial_values c s.signature.leaves (start_at links (kind j))) (λ values. U.limited c name n place 1 (fresh s (pos 0) values)))) (numbered_shape table (kind j).kind ready.numbered)
    ∙ ap (λ o. or_bad o (λ values. U.limited c name n place 1 (fresh shape (pos 0) values))) (ready.reads.read v m len keeps)

-- past the limit the run ends
abbrev pub past_limit : Services → Services
past_limit v = N.with_world (ending (E.Limit L.Automatic) v.world) v

pub make_ends : (links : Links) (code : List Instr) (first : List ℕ) (table : List TableSignature) (kind : ℕ → Declared) (input : List ℕ) (at line j name place k : ℕ) (m : List ℕ) → ((i : ℕ) → i < suc j → Ready links code first table (kind i)) → length m ≡ memory_size → KeepsFirst first m → 2 ^ 20 < room_of (sizes_of kind) (suc j) → k + 1 < 2 ^ 64 → U.make_served (call_at code (main_services table kind input at line j) m) name (number_for table (kind j).kind) (start_at links (kind j)) place 0 ≡ Ends (past_limit (main_services table kind input at line j))
make_ends links code first table kind input at line j name place k m signs len keeps over fits =
    let v = main_services table kind input at line j in
    let c = call_at code v m in
    let n = number_for table (kind j).kind in
    let mine = signs j (omega arith) in
    let use' = served_in_use table kind at j (λ i h. (signs i (omega (arith, h))).numbered) in
    let print = scalar_print (kind j) mine.numbered.held in
    let t : nat_lt most_automatic (G.automatic_in_use (map template_of table) (scalars_served table kind at j) + footprint_of (fresh_scalar (kind j))) ≡ true = lt-ltb _ _ (omega (arith, use', over, print)) in
    make_limited links code first table kind input at line j name place m mine len keeps
    ∙ ap (λ u. cond u (N.acting v (Ends (past_limit v))) (U.variable_made c name n place 1 (j + 1) (fresh_scalar (kind j)))) t
    ∙ acts v k (Ends (past_limit v)) (omega arith) fits

-- with which bytes a variable of a type begins, by its number or its text
abbrev pub data_by : Y.LeafType → ℤ → List ℕ → List ℕ
data_by (Y.CharacterLeaf (Y.ConstantExtent (pos n))) z text = (element_bytes (Character n) (BasicText text) ++ []) ++ []
data_by (Y.VaryingLeaf (Y.ConstantExtent (pos n))) z text = (element_bytes (Varying n) (BasicText text) ++ []) ++ []
data_by type z text = kind_bytes (store_kind type) (word z)

-- of an array, those of its elements
abbrev pub many_data : Y.LeafType → List T.InitialItem → (count : ℕ) → List ℕ
many_data (Y.CharacterLeaf (Y.ConstantExtent (pos n))) items count = bytes_of_texts false n (begin_texts (text_leaf false n) items) count
many_data (Y.VaryingLeaf (Y.ConstantExtent (pos n))) items count = bytes_of_texts true n (begin_texts (text_leaf true n) items) count
many_data type items count = bytes_of type (numbers_of items) count

abbrev pub data_for : Y.LeafType → List Bounds → List T.InitialItem → List ℕ
data_for type [] items = data_by type (begin_of items) (begin_text type items)
data_for type (b ∷ bs) items = many_data type items (element_count (b ∷ bs))

abbrev pub data_of : Declared → List ℕ
data_of s = data_for s.kind.type s.kind.bounds s.initial

-- the memory with a scalar's bytes and its name, behind so many bytes of others
abbrev pub with_number_made : List ℕ → (at o j : ℕ) → List ℕ → List ℕ
with_number_made m at o j bytes =
    with_bytes (name_bytes (VariableName (j + 1))) (at + (144 + o)) (with_bytes bytes (at + (144 + o + 16)) m)

abbrev served_next : List TableSignature → (kind : ℕ → Declared) → (input : List ℕ) → (at line j n p : ℕ) → Services
served_next table kind input at line j n p =
    record (main_services table kind input at line j) {
      serials = n;
      living = record { serial = n; owner = 1; signature = number_for table (kind j).kind; at = p } ∷ scalars_served table kind at j;
    }

-- how many bytes a variable's data has
size_by : (q : Bool) → rounded_up 4 (cond q 2 4) * 1 + 0 ≡ 4
size_by true = refl
size_by false = refl

alone_size : (c : Call) (type : Y.LeafType) → IsScalar type → data_bytes c.keeper (scalar_shape type) ≡ scalar_data_size type
alone_size c type is =
    by_held (λ t. data_bytes c.keeper (scalar_shape t) ≡ scalar_data_size t) (λ p. size_by (nat_le p 15)) refl (λ n few. element_alone (rounded_up 4 (suc n))) (λ n few. element_alone (rounded_up 4 (2 + suc n))) type is

kind_size : (c : Call) (k : Kind) → IsHeld k.type k.bounds → data_bytes c.keeper (kind_shape k) ≡ data_size k
kind_size c k is =
    by_shape (λ t bs. data_bytes c.keeper (array_shape t bs) ≡ data_size_for t bs) (alone_size c) (λ t b bs held are few. array_size c t held (b ∷ bs)) k.type k.bounds is

padded_length : (n : ℕ) (xs : List ℕ) → length xs ≡ n → length (((xs ++ replicate (rounded_up 4 n - n) 0) ++ []) ++ []) ≡ rounded_up 4 n
padded_length n xs e =
    let zeros = replicate (rounded_up 4 n - n) 0 in
    let a = length-append ((xs ++ zeros) ++ []) [] in
    let b = length-append (xs ++ zeros) [] in
    let c = length-append xs zeros in
    let d = length-replicate {A = ℕ} (rounded_up 4 n - n) 0 in
    omega (arith, a, b, c, d, e)

varying_length : (n : ℕ) (text : List ℕ) → length (value_bytes (Varying n) (BasicText text)) ≡ 2 + n
varying_length n text = let e = fitted_length n text in omega (arith, e)

pub alone_length : (type : Y.LeafType) (z : ℤ) (text : List ℕ) → IsScalar type → length (data_by type z text) ≡ scalar_data_size type
alone_length type z text is =
    by_held (λ t. length (data_by t z text) ≡ scalar_data_size t) (λ p. kind_length (store_kind (Y.FixedLeaf p)) (word z)) (kind_length (store_kind Y.BitLeaf) (word z))
    (λ n few. padded_length (suc n) (fitted (suc n) text) (fitted_length (suc n) text))
    (λ n few. padded_length (2 + suc n) (value_bytes (Varying (suc n)) (BasicText text)) (varying_length (suc n) text))
    type is

many_length : (type : Y.LeafType) (items : List T.InitialItem) (count : ℕ) → IsScalar type → length (many_data type items count) ≡ scalar_data_size type * count
many_length (Y.FixedLeaf p) items count is = bytes_long (Y.FixedLeaf p) (numbers_of items) count
many_length Y.BitLeaf items count is = bytes_long Y.BitLeaf (numbers_of items) count
many_length (Y.CharacterLeaf (Y.ConstantExtent (pos n))) items count is =
    texts_long false n (begin_texts (text_leaf false n) items) count ∙ mul_comm count (rounded_up 4 n)
many_length (Y.VaryingLeaf (Y.ConstantExtent (pos n))) items count is =
    texts_long true n (begin_texts (text_leaf true n) items) count ∙ mul_comm count (rounded_up 4 (2 + n))
many_length _ items count is = absurd is

pub data_length : (s : Declared) → IsHeld s.kind.type s.kind.bounds → length (data_of s) ≡ data_size s.kind
data_length s is =
    by_shape (λ t bs. length (data_for t bs s.initial) ≡ data_size_for t bs) (λ t held. alone_length t (begin_of s.initial) (begin_text t s.initial) held)
    (λ t b bs held are few. many_length t s.initial (element_count (b ∷ bs)) held)
    s.kind.type s.kind.bounds is

bytes_by : (q : Bool) (w : ℕ) → ((number_bytes (cond q 2 4) w ++ replicate (rounded_up 4 (cond q 2 4) - cond q 2 4) 0) ++ []) ++ [] ≡ kind_bytes (cond q Store.Half Store.Word) w
bytes_by true w = refl
bytes_by false w = refl

value_written : (type : Y.LeafType) (z : ℤ) → Fits type z → (element_bytes (kind_of [] type) (value_as type z) ++ []) ++ [] ≡ kind_bytes (store_kind type) (word z)
value_written (Y.FixedLeaf p) z fits = bytes_by (nat_le p 15) (word z)
value_written Y.BitLeaf z fits =
    ap (λ w. w % 256 ∷ 0 ∷ 0 ∷ 0 ∷ []) (bit_word (bit_of z) ∙ ap word (sym fits))
value_written _ z fits = absurd fits

scalar_bytes : (c : Call) (place : ℕ) (type : Y.LeafType) (items : List T.InitialItem) → IsLimited type → AreConstants type items → G.bytes_made c place (fresh_scalar (record { kind = alone type; initial = items })) (capacity_of (scalar_shape type)) ≡ kind_bytes (store_kind type) (word (begin_of items))
scalar_bytes c place type items is begins =
    by_type (λ t. G.bytes_made c place (fresh_scalar (record { kind = alone t; initial = items })) (capacity_of (scalar_shape t)) ≡ (element_bytes (kind_of [] t) ((fresh_scalar (record { kind = alone t; initial = items })).values 0 []) ++ []) ++ []) (λ p. refl) refl type (is_numeric type is)
    ∙ ap (λ v. (element_bytes (kind_of [] type) v ++ []) ++ []) (begins_as type items (is_numeric type is) begins)
    ∙ value_written type (begin_of items) (begin_fits type items is begins)

text_bytes_by : (c : Call) (place : ℕ) (varying : Bool) (n : ℕ) (items : List T.InitialItem) → AreConstants (text_leaf varying n) items → G.bytes_made c place (fresh_scalar (record { kind = alone (text_leaf varying n); initial = items })) (capacity_of (scalar_shape (text_leaf varying n))) ≡ data_by (text_leaf varying n) (pos 0) (begin_text (text_leaf varying n) items)
text_bytes_by c place false n items h = ap (λ v. (element_bytes (Character n) v ++ []) ++ []) (text_begun false n items h)
text_bytes_by c place true n items h = ap (λ v. (element_bytes (Varying n) v ++ []) ++ []) (text_begun true n items h)

held_bytes : (c : Call) (place : ℕ) (type : Y.LeafType) (items : List T.InitialItem) → IsScalar type → AreConstants type items → G.bytes_made c place (fresh_scalar (record { kind = alone type; initial = items })) (capacity_of (scalar_shape type)) ≡ data_by type (begin_of items) (begin_text type items)
held_bytes c place (Y.FixedLeaf p) items is begins = scalar_bytes c place (Y.FixedLeaf p) items is begins
held_bytes c place Y.BitLeaf items is begins = scalar_bytes c place Y.BitLeaf items tt begins
held_bytes c place (Y.CharacterLeaf (Y.ConstantExtent (pos n))) items is begins = text_bytes_by c place false n items begins
held_bytes c place (Y.VaryingLeaf (Y.ConstantExtent (pos n))) items is begins = text_bytes_by c place true n items begins
held_bytes c place _ items is begins = absurd is

-- those of the elements of an array
many_bytes_made : (c : Call) (place : ℕ) (type : Y.LeafType) (bs : List Bounds) (items : List T.InitialItem) → IsScalar type → AreConstants type items → G.bytes_made c place (begun_array type bs items) (capacity_of (array_shape type bs)) ≡ many_data type items (element_count bs)
many_bytes_made c place (Y.FixedLeaf p) bs items is begins = begun_bytes (Y.FixedLeaf p) bs items is (all_given (Y.FixedLeaf p) items is begins).0
many_bytes_made c place Y.BitLeaf bs items is begins = begun_bytes Y.BitLeaf bs items is (all_given Y.BitLeaf items is begins).0
many_bytes_made c place (Y.CharacterLeaf (Y.ConstantExtent (pos n))) bs items is begins = text_array_bytes false n bs items begins
many_bytes_made c place (Y.VaryingLeaf (Y.ConstantExtent (pos n))) bs items is begins = text_array_bytes true n bs items begins
many_bytes_made c place _ bs items is begins = absurd is

-- the bytes with which a variable begins
kind_bytes_made : (c : Call) (place : ℕ) (type : Y.LeafType) (bs : List Bounds) (items : List T.InitialItem) → IsHeld type bs → AreConstants type items → G.bytes_made c place (fresh_scalar (record { kind = record { type = type; bounds = bs }; initial = items })) (capacity_of (array_shape type bs)) ≡ data_for type bs items
kind_bytes_made c place type [] items is begins = held_bytes c place type items is begins
kind_bytes_made c place type (b ∷ bs) items is begins = many_bytes_made c place type (b ∷ bs) items is.0 begins

abbrev pub made_bytes : Call → (name n place owner serial size : ℕ) → List ℕ → Answer
made_bytes c name n place owner serial size bytes =
    bad_unless (is_data c.layout place size && is_data c.layout name 16)
    (Done
    (G.with_living (record { serial = serial; owner = owner; signature = n; at = place }) c.services)
    (with_bytes (name_bytes (VariableName serial)) name (with_bytes bytes place c.memory))
    name n)

pub scalar_made : (c : Call) (name n place owner serial : ℕ) (s : Declared) → IsHeld s.kind.type s.kind.bounds → AreConstants s.kind.type s.initial → U.variable_made c name n place owner serial (fresh_scalar s) ≡ made_bytes c name n place owner serial (data_size s.kind) (data_of s)
scalar_made c name n place owner serial s is begins =
    ap (λ size. made_bytes c name n place owner serial size (G.bytes_made c place (fresh_scalar s) (capacity_of (kind_shape s.kind)))) (kind_size c s.kind is)
    ∙ ap (made_bytes c name n place owner serial (data_size s.kind)) (kind_bytes_made c place s.kind.type s.kind.bounds s.initial is begins)

pub make_made : (links : Links) (code : List Instr) (first : List ℕ) (table : List TableSignature) (kind : ℕ → Declared) (input : List ℕ) (at line j : ℕ) (m : List ℕ) → ((i : ℕ) → i < suc j → Ready links code first table (kind i)) → length m ≡ memory_size → KeepsFirst first m → room_of (sizes_of kind) (suc j) ≤ 2 ^ 20 → 4 * length code ≤ at → at + 200 + room_of (sizes_of kind) (suc j) ≤ memory_size → U.make_served (call_at code (main_services table kind input at line j) m) (at + (144 + room_of (sizes_of kind) j)) (number_for table (kind j).kind) (start_at links (kind j)) (at + (144 + room_of (sizes_of kind) j + 16)) 0 ≡ Done (main_services table kind input at line (suc j)) (with_number_made m at (room_of (sizes_of kind) j) j (data_of (kind j))) (at + (144 + room_of (sizes_of kind) j)) (number_for table (kind j).kind)
make_made links code first table kind input at line j m signs len keeps few low high =
    let v = main_services table kind input at line j in
    let c = call_at code v m in
    let n = number_for table (kind j).kind in
    let name = at + (144 + room_of (sizes_of kind) j) in
    let place = at + (144 + room_of (sizes_of kind) j + 16) in
    let mine = signs j (omega arith) in
    let held = mine.numbered.held in
    let size = data_size (kind j).kind in
    let all = data_fits (kind j).kind held in
    let use' = served_in_use table kind at j (λ i h. (signs i (omega (arith, h))).numbered) in
    let print = scalar_print (kind j) held in
    let t : nat_lt most_automatic (G.automatic_in_use (map template_of table) (scalars_served table kind at j) + footprint_of (fresh_scalar (kind j))) ≡ false = le-ltb _ _ (omega (arith, use', few, print)) in
    let t2 : nat_le (4 * length code) place ≡ true = le-leb _ _ (omega (arith, low)) in
    let t3 : nat_le (place + size) memory_size ≡ true = le-leb _ _ (omega (arith, high, all)) in
    let t4 : nat_le (4 * length code) name ≡ true = le-leb _ _ (omega (arith, low)) in
    let t5 : nat_le (name + 16) memory_size ≡ true = le-leb _ _ (omega (arith, high)) in
    let here : place ≡ at + number_place (sizes_of kind) j = omega arith in
    make_limited links code first table kind input at line j name place m mine len keeps
    ∙ ap (λ u. cond u (N.acting v (Ends (past_limit v))) (U.variable_made c name n place 1 (j + 1) (fresh_scalar (kind j)))) t
    ∙ scalar_made c name n place 1 (j + 1) (kind j) held mine.begins
    ∙ rw (t2, t3, t4, t5) refl
    ∙ ap (λ p. Done (served_next table kind input at line j (j + 1) p) (with_number_made m at (room_of (sizes_of kind) j) j (data_of (kind j))) name n) here
    ∙ ap (λ q. Done (served_next table kind input at line j q (at + number_place (sizes_of kind) j)) (with_number_made m at (room_of (sizes_of kind) j) j (data_of (kind j))) name n) (add-one j)

-- ---- what stands then

-- behind the bytes
pub made_length : (m bytes : List ℕ) (at o j : ℕ) → at + 200 + o + length bytes ≤ length m → length (with_number_made m at o j bytes) ≡ length m
made_length m bytes at o j room =
    let one = length-with_bytes bytes m (at + (144 + o + 16)) (omega (arith, room)) in
    length-with_bytes (name_bytes (VariableName (j + 1))) (with_bytes bytes (at + (144 + o + 16)) m) (at + (144 + o)) (omega (arith, room, one))
    ∙ one

made_below : (m bytes : List ℕ) (at o j k : ℕ) → at + 200 + o + length bytes ≤ length m → k < at + (144 + o) → slice_index (with_number_made m at o j bytes) k ≡ slice_index m k
made_below m bytes at o j k room below =
    let one = length-with_bytes bytes m (at + (144 + o + 16)) (omega (arith, room)) in
    byte-with_below (name_bytes (VariableName (j + 1))) (with_bytes bytes (at + (144 + o + 16)) m) (at + (144 + o)) k (omega (arith, room, one)) below
    ∙ byte-with_below bytes m (at + (144 + o + 16)) k (omega (arith, room)) (omega (arith, below))

made_load : (n : ℕ) (m bytes : List ℕ) (at o j q : ℕ) → at + 200 + o + length bytes ≤ length m → q + n ≤ at + (144 + o) → load n (with_number_made m at o j bytes) q ≡ load n m q
made_load n m bytes at o j q room below =
    let one = length-with_bytes bytes m (at + (144 + o + 16)) (omega (arith, room)) in
    load-with_other n (name_bytes (VariableName (j + 1))) (with_bytes bytes (at + (144 + o + 16)) m) (at + (144 + o)) q (omega (arith, room, one)) (inl below)
    ∙ load-with_other n bytes m (at + (144 + o + 16)) q (omega (arith, room)) (inl (omega (arith, below)))

made_loaded : (n : ℕ) (m bytes : List ℕ) (at o j : ℕ) → at + 200 + o + length bytes ≤ length m → load n (with_number_made m at o j bytes) (at + (144 + o + 16)) ≡ load n (with_bytes bytes (at + (144 + o + 16)) m) (at + (144 + o + 16))
made_loaded n m bytes at o j room =
    let one = length-with_bytes bytes m (at + (144 + o + 16)) (omega (arith, room)) in
    load-with_other n (name_bytes (VariableName (j + 1))) (with_bytes bytes (at + (144 + o + 16)) m) (at + (144 + o)) (at + (144 + o + 16)) (omega (arith, room, one)) (inr (omega arith))

-- the scalar itself
made_cell : (m : List ℕ) (at o j : ℕ) (type : Y.LeafType) (items : List T.InitialItem) → IsLimited type → AreConstants type items → at + 204 + o ≤ length m → Cell (with_number_made m at o j (kind_bytes (store_kind type) (word (begin_of items)))) (at + (160 + o)) (word (content type (begin_of items)))
made_cell m at o j type items is begins inside =
    let z = begin_of items in
    let wide = fits_wide type z (begin_fits type items is begins) in
    let kind = store_kind type in
    let bytes = kind_bytes kind (word z) in
    let place = at + (144 + o + 16) in
    let four = kind_length kind (word z) in
    let c = cell_written kind m place (word z) (word_small z wide) (omega (arith, inside)) in
    let room : at + 200 + o + length bytes ≤ length m = omega (arith, inside, four) in
    let there : Cell (with_number_made m at o j bytes) place (kept_by kind (word z)) = record {
      whole = made_loaded 4 m bytes at o j room ∙ c.whole;
      half = made_loaded 2 m bytes at o j room ∙ c.half;
      byte = made_loaded 1 m bytes at o j room ∙ c.byte;
    } in
    let here : place ≡ at + (160 + o) = omega arith in
    subst (λ q. Cell (with_number_made m at o j bytes) q (word (content type z))) here
    (subst (Cell (with_number_made m at o j bytes) place) (sym (content_word type z wide)) there)

pub scalar_data : (type : Y.LeafType) (z : ℤ) (text : List ℕ) → IsLimited type → data_by type z text ≡ kind_bytes (store_kind type) (word z)
scalar_data (Y.FixedLeaf p) z text is = refl
scalar_data Y.BitLeaf z text is = refl
scalar_data _ z text is = absurd is

made_scalar : (m : List ℕ) (at o j : ℕ) (type : Y.LeafType) (items : List T.InitialItem) → IsLimited type → AreConstants type items → at + 204 + o ≤ length m → Cell (with_number_made m at o j (data_by type (begin_of items) (begin_text type items))) (at + (160 + o)) (word (content type (begin_of items)))
made_scalar m at o j type items is begins inside =
    subst (λ bytes. Cell (with_number_made m at o j bytes) (at + (160 + o)) (word (content type (begin_of items)))) (sym (scalar_data type (begin_of items) (begin_text type items) is)) (made_cell m at o j type items is begins inside)

-- what stands below
made_there : (m bytes : List ℕ) (at o j q : ℕ) (c : Content) → at + 200 + o + length bytes ≤ length m → q + size_in c ≤ at + (144 + o) → There m q c → There (with_number_made m at o j bytes) q c
made_there m bytes at o j q (Counted z) room below c =
    record {
      whole = made_load 4 m bytes at o j q room below ∙ c.whole;
      half = made_load 2 m bytes at o j q room (omega (arith, below)) ∙ c.half;
      byte = made_load 1 m bytes at o j q room (omega (arith, below)) ∙ c.byte;
    }
made_there m bytes at o j q (Written varying most text) room below c =
    let one = length-with_bytes bytes m (at + (144 + o + 16)) (omega (arith, room)) in
    text_beside varying most q (with_bytes bytes (at + (144 + o + 16)) m) text (name_bytes (VariableName (j + 1))) (at + (144 + o)) (omega (arith, room, one)) (inr below)
    (text_beside varying most q m text bytes (at + (144 + o + 16)) (omega (arith, room)) (inr (omega (arith, below))) c)
made_there m bytes at o j q (Many count z) room below c =
    let one = length-with_bytes bytes m (at + (144 + o + 16)) (omega (arith, room)) in
    elements_beside (name_bytes (VariableName (j + 1))) (with_bytes bytes (at + (144 + o + 16)) m) (at + (144 + o)) q count z (omega (arith, room, one)) (inl below)
    (elements_beside bytes m (at + (144 + o + 16)) q count z (omega (arith, room)) (inl (omega (arith, below))) c)
made_there m bytes at o j q (ManyTexts varying most count texts) room below c =
    let one = length-with_bytes bytes m (at + (144 + o + 16)) (omega (arith, room)) in
    texts_beside (name_bytes (VariableName (j + 1))) (with_bytes bytes (at + (144 + o + 16)) m) (at + (144 + o)) q count varying most texts (omega (arith, room, one)) (inl below)
    (texts_beside bytes m (at + (144 + o + 16)) q count varying most texts (omega (arith, room)) (inl (omega (arith, below))) c)

variable_by : (s : Sizes) (q : Bool) (m bytes : List ℕ) (held : ℕ → Content) (at i j : ℕ) → (i == j) ≡ q → at + 200 + room_of s j + length bytes ≤ length m → 16 + size_in (held i) ≤ s.of i → There (with_number_made m at (room_of s j) j bytes) (at + number_place s j) (held j) → i < suc j → (i < j → There m (at + number_place s i) (held i)) → There (with_number_made m at (room_of s j) j bytes) (at + number_place s i) (held i)
variable_by s true m bytes held at i j e room size mine below o =
    subst (λ u. There (with_number_made m at (room_of s j) j bytes) (at + number_place s u) (held u)) (sym (eqb-true i j e)) mine
variable_by s false m bytes held at i j e room size mine below o =
    let less : i < j = grind (arith, nat_tests) in
    let r = room_next s i j less in
    made_there m bytes at (room_of s j) j (at + number_place s i) (held i) room (omega (arith, r, size)) (o less)

made_number : (m : List ℕ) (at o j : ℕ) (type : Y.LeafType) (items : List T.InitialItem) → IsLimited type → AreConstants type items → at + 204 + o ≤ length m → There (with_number_made m at o j (data_by type (begin_of items) (begin_text type items))) (at + (160 + o)) (content_of type (begin_of items) (begin_text type items))
made_number m at o j type items is begins inside =
    subst (There (with_number_made m at o j (data_by type (begin_of items) (begin_text type items))) (at + (160 + o))) (sym (content_numeric type (begin_of items) (begin_text type items) (begin_fits type items is begins))) (made_scalar m at o j type items is begins inside)

-- a text
text_made : (varying : Bool) (most : ℕ) (m bytes text : List ℕ) (at o j : ℕ) → at + 200 + o + length bytes ≤ length m → TextThere varying most (at + (144 + o + 16)) (with_bytes bytes (at + (144 + o + 16)) m) text → TextThere varying most (at + (160 + o)) (with_number_made m at o j bytes) text
text_made varying most m bytes text at o j room there =
    let place = at + (144 + o + 16) in
    let one = length-with_bytes bytes m place (omega (arith, room)) in
    let here : place ≡ at + (160 + o) = omega arith in
    subst (λ q. TextThere varying most q (with_number_made m at o j bytes) text) here
    (text_beside varying most place (with_bytes bytes place m) text (name_bytes (VariableName (j + 1))) (at + (144 + o)) (omega (arith, room, one)) (inl (omega arith)) there)

begin_size : (n : ℕ) (items : List T.InitialItem) → length (begin_text (Y.CharacterLeaf (Y.ConstantExtent (pos n))) items) ≡ n
begin_size n items = fitted_length n (constant_text (initial_at items 0))

begin_few : (n : ℕ) (items : List T.InitialItem) → length (begin_text (Y.VaryingLeaf (Y.ConstantExtent (pos n))) items) ≤ n
begin_few n items = taken_most n (constant_text (initial_at items 0))

pub made_content : (m : List ℕ) (at o j : ℕ) (type : Y.LeafType) (items : List T.InitialItem) → IsScalar type → AreConstants type items → at + 200 + o + length (data_by type (begin_of items) (begin_text type items)) ≤ length m → There (with_number_made m at o j (data_by type (begin_of items) (begin_text type items))) (at + (160 + o)) (content_of type (begin_of items) (begin_text type items))
made_content m at o j (Y.FixedLeaf p) items is begins room =
    let four = kind_length (store_kind (Y.FixedLeaf p)) (word (begin_of items)) in
    made_number m at o j (Y.FixedLeaf p) items is begins (omega (arith, room, four))
made_content m at o j Y.BitLeaf items is begins room =
    let four = kind_length (store_kind Y.BitLeaf) (word (begin_of items)) in
    made_number m at o j Y.BitLeaf items tt begins (omega (arith, room, four))
made_content m at o j (Y.CharacterLeaf (Y.ConstantExtent (pos n))) items is begins room =
    let type = Y.CharacterLeaf (Y.ConstantExtent (pos n)) in
    let text = begin_text type items in
    text_made false n m (data_by type (begin_of items) text) text at o j room
    (padded_there n text (replicate (rounded_up 4 n - n) 0) m (at + (144 + o + 16)) (begin_size n items) (omega (arith, room)))
made_content m at o j (Y.VaryingLeaf (Y.ConstantExtent (pos n))) items is begins room =
    let type = Y.VaryingLeaf (Y.ConstantExtent (pos n)) in
    let text = begin_text type items in
    text_made true n m (data_by type (begin_of items) text) text at o j room
    (cut_there n text (replicate (rounded_up 4 (2 + n) - (2 + n)) 0) m (at + (144 + o + 16)) is.1 (begin_few n items) (omega (arith, room)))
made_content m at o j _ items is begins room = absurd is

-- the elements of an array
array_there : (m : List ℕ) (at o j count : ℕ) (type : Y.LeafType) (z : ℕ → ℤ) → ((p : ℕ) → p < count → Fits type (z p)) → at + 200 + o + 4 * count ≤ length m → There (with_number_made m at o j (bytes_of type z count)) (at + (160 + o)) (Many count (contents_of type z))
array_there m at o j count type z fits room =
    let bytes = bytes_of type z count in
    let long = bytes_long type z count in
    let place = at + (144 + o + 16) in
    let one = length-with_bytes bytes m place (omega (arith, room, long)) in
    let here : place ≡ at + (160 + o) = omega arith in
    subst (λ q. There (with_number_made m at o j bytes) q (Many count (contents_of type z))) here
    (elements_beside (name_bytes (VariableName (j + 1))) (with_bytes bytes place m) (at + (144 + o)) place count (contents_of type z) (omega (arith, room, one)) (inr (omega arith)) (elements_written type z m place count (omega (arith, room)) fits))

texts_there : (m : List ℕ) (at o j count : ℕ) (varying : Bool) (most : ℕ) (items : List T.InitialItem) → most ≤ 1024 → at + 200 + o + length (bytes_of_texts varying most (begin_texts (text_leaf varying most) items) count) ≤ length m → There (with_number_made m at o j (bytes_of_texts varying most (begin_texts (text_leaf varying most) items) count)) (at + (160 + o)) (ManyTexts varying most count (begin_texts (text_leaf varying most) items))
texts_there m at o j count varying most items few room =
    let texts = begin_texts (text_leaf varying most) items in
    let bytes = bytes_of_texts varying most texts count in
    let long = texts_long varying most texts count in
    let place = at + (144 + o + 16) in
    let one = length-with_bytes bytes m place (omega (arith, room)) in
    let here : place ≡ at + (160 + o) = omega arith in
    subst (λ q. There (with_number_made m at o j bytes) q (ManyTexts varying most count texts)) here
    (texts_beside (name_bytes (VariableName (j + 1))) (with_bytes bytes place m) (at + (144 + o)) place count varying most texts (omega (arith, room, one)) (inr (omega arith))
    (texts_written varying most texts m place count few (λ p. begin_kept varying most items p) (omega (arith, room, long))))

numbers_there : (m : List ℕ) (at o j count : ℕ) (type : Y.LeafType) (items : List T.InitialItem) → IsElementType type → AreConstants type items → at + 200 + o + length (bytes_of type (numbers_of items) count) ≤ length m → There (with_number_made m at o j (bytes_of type (numbers_of items) count)) (at + (160 + o)) (Many count (contents_of type (numbers_of items)))
numbers_there m at o j count type items is begins room =
    let long = bytes_long type (numbers_of items) count in
    array_there m at o j count type (numbers_of items) (λ p below. numbers_fit type items p is (all_given type items is begins).0) (omega (arith, room, long))

made_many : (m : List ℕ) (at o j count : ℕ) (type : Y.LeafType) (items : List T.InitialItem) → IsScalar type → AreConstants type items → at + 200 + o + length (many_data type items count) ≤ length m → There (with_number_made m at o j (many_data type items count)) (at + (160 + o)) (many_content type count (numbers_of items) (begin_texts type items))
made_many m at o j count (Y.FixedLeaf p) items is begins room = numbers_there m at o j count (Y.FixedLeaf p) items is begins room
made_many m at o j count Y.BitLeaf items is begins room = numbers_there m at o j count Y.BitLeaf items is begins room
made_many m at o j count (Y.CharacterLeaf (Y.ConstantExtent (pos n))) items is begins room = texts_there m at o j count false n items is.1 room
made_many m at o j count (Y.VaryingLeaf (Y.ConstantExtent (pos n))) items is begins room = texts_there m at o j count true n items is.1 room
made_many m at o j count _ items is begins room = absurd is

pub made_kind : (m : List ℕ) (at o j : ℕ) (type : Y.LeafType) (bs : List Bounds) (items : List T.InitialItem) → IsHeld type bs → AreConstants type items → at + 200 + o + length (data_for type bs items) ≤ length m → There (with_number_made m at o j (data_for type bs items)) (at + (160 + o)) (content_by type bs (begin_of items) (begin_text type items) (numbers_of items) (begin_texts type items))
made_kind m at o j type [] items is begins room = made_content m at o j type items is begins room
made_kind m at o j type (b ∷ bs) items is begins room = made_many m at o j (element_count (b ∷ bs)) type items is.0 begins room

-- the names of all variables, and that of the one that is made
name_made : (s : Sizes) (q : Bool) (m bytes : List ℕ) (at i j : ℕ) → (i == j) ≡ q → j < 2 ^ 31 → at + 200 + room_of s j + length bytes ≤ length m → i < suc j → (i < j → NameThere m (at + name_place s i) (suc i)) → NameThere (with_number_made m at (room_of s j) j bytes) (at + name_place s i) (suc i)
name_made s true m bytes at i j e few room below o =
    let m' = with_number_made m at (room_of s j) j bytes in
    let one = length-with_bytes bytes m (at + (144 + room_of s j + 16)) (omega (arith, room)) in
    subst (λ u. NameThere m' (at + name_place s u) (suc u)) (sym (eqb-true i j e))
    (subst (NameThere m' (at + name_place s j)) (add-one j)
    (name_written (with_bytes bytes (at + (144 + room_of s j + 16)) m) (at + (144 + room_of s j)) (j + 1) (omega (arith, few)) (omega (arith, room, one))))
name_made s false m bytes at i j e few room below o =
    let less : i < j = grind (arith, nat_tests) in
    let r = room_before s i j less in
    let one = length-with_bytes bytes m (at + (144 + room_of s j + 16)) (omega (arith, room)) in
    name_beside (name_bytes (VariableName (j + 1))) (with_bytes bytes (at + (144 + room_of s j + 16)) m) (at + (144 + room_of s j)) (at + name_place s i) (suc i) (omega (arith, room, one)) (inl (omega (arith, r)))
    (name_beside bytes m (at + (144 + room_of s j + 16)) (at + name_place s i) (suc i) (omega (arith, room)) (inl (omega (arith, r))) (o less))

-- the frame with one more variable
pub more_stands : (kind : ℕ → Declared) (words j : ℕ) (small' : words ≤ most_code) (few : room_of (sizes_of kind) j ≤ 2 ^ 20) (few' : room_of (sizes_of kind) (suc j) ≤ 2 ^ 20) (first : List ℕ) (t : ℕ → ℕ) (b : Base) (m : List ℕ) → ((i : ℕ) → i < suc j → IsHeld (kind i).kind.type (kind i).kind.bounds) → AreConstants (kind j).kind.type (kind j).initial → length m ≡ memory_size → Stands (main_frame words (sizes_of kind) j small' few) first (begin_contents kind) t b m → Stands (main_frame words (sizes_of kind) (suc j) small' few') first (begin_contents kind) t b (with_number_made m (main_frame words (sizes_of kind) j small' few).at (room_of (sizes_of kind) j) j (data_of (kind j)))
more_stands kind words j small' few few' first t b m held begins len o =
    let f = main_frame words (sizes_of kind) j small' few in
    let above = f.above_statics in
    let inside = f.inside in
    let bytes = data_of (kind j) in
    let mine = held j (omega arith) in
    let behind = (main_frame words (sizes_of kind) (suc j) small' few').inside in
    let size = data_length (kind j) mine in
    let all = data_fits (kind j).kind mine in
    let room : f.at + 200 + room_of (sizes_of kind) j + length bytes ≤ length m = omega (arith, behind, len, size, all) in
    let held_fits : (i : ℕ) → i < suc j → 16 + size_in (begin_contents kind i) ≤ (sizes_of kind).of i = λ i h. content_fits (kind i).kind (begin_numbers kind i) (begin_text (kind i).kind.type (kind i).initial) (numbers_of (kind i).initial) (begin_texts (kind i).kind.type (kind i).initial) (held i h) in
    record {
      statics = λ k h. made_below m bytes f.at (room_of (sizes_of kind) j) j k room (omega (arith, above, h)) ∙ o.statics k h;
      resumes = made_load 4 m bytes f.at (room_of (sizes_of kind) j) j f.at room (omega arith) ∙ o.resumes;
      below = made_load 4 m bytes f.at (room_of (sizes_of kind) j) j (f.at + 4) room (omega arith) ∙ o.below;
      own = made_load 4 m bytes f.at (room_of (sizes_of kind) j) j (f.at + 36) room (omega arith) ∙ o.own;
      variables = λ i h. variable_by (sizes_of kind) (i == j) m bytes (begin_contents kind) f.at i j refl room (held_fits i h) (made_kind m f.at (room_of (sizes_of kind) j) j (kind j).kind.type (kind j).kind.bounds (kind j).initial mine begins room) h (o.variables i);
      fits = held_fits;
      temporaries = λ i h. made_load 4 m bytes f.at (room_of (sizes_of kind) j) j (f.at - 4 * suc i) room (omega arith) ∙ o.temporaries i h;
      names = λ i h. name_made (sizes_of kind) (i == j) m bytes f.at i j refl (let c = room_counts (sizes_of kind) j in omega (arith, c, few)) room h (o.names i);
    }
