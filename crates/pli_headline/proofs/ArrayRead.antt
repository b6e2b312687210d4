-- Service 7 reads what an array begins with, where its list of items stands.
use Rattle.std.proofs.Common.{◌≡◌, ℕ, ◌+◌, ◌*◌, ◌^◌, ◌<◌, ◌≤◌, List, [], ◌∷◌, ◌++◌, length, Some, true, false, refl, sym, ap, ◌∙◌, subst, arith, lit<, inl, inr}
use Rattle.std.specs.Prelude.{slice_index}
use Rattle.std.specs.List.{flat_map}
use Rattle.rv_meaning.specs.Words.{word}
use Rattle.rv_meaning.specs.Memory.{bytes_of_words}
use Rattle.rv_meaning.proofs.ImageBytes.{length-bytes_of_words}
use Rattle.pli_typing.specs.Signatures.{Bounds}
use Rattle.pli_typing.specs.TypedTree as Y
use Rattle.pli_language.specs.Tree as T
use Rattle.pli_meaning.specs.DeclaredShapes.{kind_of}
use Rattle.pli_meaning.specs.Pictures.{first_bytes}
use Rattle.pli_serving.specs.ServiceState.{Services}
use Rattle.pli_serving.specs.Bytes.{word_at}
use Rattle.pli_serving.specs.InitialValues.{initial_values}
use Rattle.pli_serving.specs.Finding.{Call}
use Rattle.pli_coding.specs.Assembly.{InitialValues, Code}
use Rattle.pli_coding.specs.StaticForms.{item_bytes}
use Rattle.pli_coding.specs.Images.{linked_code, picture_of_code}
use Rattle.pli_headline.specs.Headline.{FitsMemory}
use Rattle.pli_headline.specs.ProvedSoFar.{IsElementType}
use Rattle.run_steps.specs.Engine.{call_at}
use Rattle.run_steps.proofs.Numbers.{word_small}
use Rattle.pli_headline.proofs.Scalars.{constant_number, fewer_bits}
use Rattle.run_steps.specs.DataNamed.{IsNamed, BytesStand}
use Rattle.pli_headline.proofs.FormatsRead.{WordsAt, AreWords, words_stand, is_data_there}
use Rattle.pli_headline.proofs.ArrayMeant.{array_shape}
use Rattle.pli_headline.proofs.InitialLists.{leaf_of_items, list_place, list_reads}
use Rattle.pli_headline.proofs.ArrayInitial.{IsGiven, AreGiven, AreTimes, tag_of, ItemsLaid, items_read}

-- ---- its bytes in the static data

-- how often, what it is, and which
abbrev pub items_words : List T.InitialItem → List ℕ
items_words [] = []
items_words (i ∷ is) = i.repetition ∷ tag_of i.value ∷ word (constant_number i.value) ∷ items_words is

item_then : (type : Y.LeafType) (r : ℕ) (v : T.InitialValue) (bytes : List ℕ) → IsElementType type → IsGiven type v → item_bytes (record { repetition = r; value = v }) ++ bytes ≡ bytes_of_words (r ∷ tag_of v ∷ word (constant_number v) ∷ []) ++ bytes
item_then (Y.FixedLeaf p) r (T.InitialNumber z) bytes is (inl h) = refl
item_then Y.BitLeaf r (T.InitialBit true) bytes is (inl h) = refl
item_then Y.BitLeaf r (T.InitialBit false) bytes is (inl h) = refl
item_then type r v bytes is (inr e) =
    subst (λ u. item_bytes (record { repetition = r; value = u }) ++ bytes ≡ bytes_of_words (r ∷ tag_of u ∷ word (constant_number u) ∷ []) ++ bytes) (sym e) refl
item_then (Y.FixedLeaf p) r _ bytes is (inl h) = absurd h
item_then Y.BitLeaf r _ bytes is (inl h) = absurd h
item_then _ r v bytes is (inl h) = absurd is

items_spelled : (type : Y.LeafType) (items : List T.InitialItem) → IsElementType type → AreGiven type items → flat_map item_bytes items ≡ bytes_of_words (items_words items)
items_spelled type [] is are = refl
items_spelled type (i ∷ items) is are =
    item_then type i.repetition i.value (flat_map item_bytes items) is are.0
    ∙ ap (λ u. bytes_of_words (i.repetition ∷ tag_of i.value ∷ word (constant_number i.value) ∷ []) ++ u) (items_spelled type items is are.1)

words_many : (items : List T.InitialItem) → length (items_words items) ≡ 3 * length items
words_many [] = refl
words_many (i ∷ items) = let m = words_many items in omega (arith, m)

number_small : (type : Y.LeafType) (v : T.InitialValue) → IsElementType type → IsGiven type v → word (constant_number v) < 2 ^ 32
number_small (Y.FixedLeaf p) (T.InitialNumber z) is (inl h) = word_small z (fewer_bits p 31 z is.1 h)
number_small Y.BitLeaf (T.InitialBit true) is (inl h) = omega arith
number_small Y.BitLeaf (T.InitialBit false) is (inl h) = omega arith
number_small type v is (inr e) = subst (λ u. word (constant_number u) < 2 ^ 32) (sym e) (omega arith)
number_small (Y.FixedLeaf p) _ is (inl h) = absurd h
number_small Y.BitLeaf _ is (inl h) = absurd h
number_small _ v is (inl h) = absurd is

tag_small : (v : T.InitialValue) → tag_of v < 2 ^ 32
tag_small (T.InitialNumber z) = lit< tt
tag_small (T.InitialText t) = lit< tt
tag_small (T.InitialBit b) = lit< tt
tag_small T.InitialSkip = lit< tt
tag_small T.InitialNull = lit< tt
tag_small T.InitialEmpty = lit< tt

words_small : (type : Y.LeafType) (items : List T.InitialItem) → IsElementType type → AreGiven type items → AreTimes items → AreWords (items_words items)
words_small type [] is are times = tt
words_small type (i ∷ items) is are times =
    let r = times.0 in
    (omega (arith, r), (tag_small i.value, (number_small type i.value is are.0, words_small type items is are.1 times.1)))

laid_by : (c : Call) (at : ℕ) (items : List T.InitialItem) → c.layout.code_bytes ≤ at → at + 12 * length items ≤ c.layout.end → WordsAt c.memory at (items_words items) → ItemsLaid c at items
laid_by c at [] low high words = tt
laid_by c at (i ∷ items) low high words =
    let two : at + 4 + 4 ≡ at + 8 = omega arith in
    let three : at + 4 + 4 + 4 ≡ at + 12 = omega arith in
    let rest = subst (λ q. WordsAt c.memory q (items_words items)) three words.1.1.1 in (
      is_data_there c.layout at 12 low (omega (arith, high)),
      (words.0, (words.1.0, (ap (λ q. word_at q c.memory) (sym two) ∙ words.1.1.0, laid_by c (at + 12) items (omega (arith, low)) (omega (arith, high)) rest))),
    )

-- what service 7 reads, while the static data is what it was at first
pub array_reads : (program : Code) → FitsMemory (picture_of_code program) → 0 < length (linked_code program) → (type : Y.LeafType) (bs : List Bounds) (items : List T.InitialItem) → IsElementType type → AreGiven type items → AreTimes items → IsNamed (InitialValues (leaf_of_items items ∷ [])) program → (v : Services) (m : List ℕ) → ((k : ℕ) → k < 7 * 2 ^ 20 → slice_index m k ≡ slice_index (first_bytes (picture_of_code program)) k) → initial_values (call_at (linked_code program) v m) (array_shape type bs).signature.leaves (list_place program items) ≡ Some (items ∷ [])
array_reads program fits some type bs items is are times named u m same =
    list_reads program fits some (kind_of [] type) bs items named u m same
    (λ at stands.
    let c = call_at (linked_code program) u m in
    let ws = items_words items in
    let s = subst (BytesStand (linked_code program) m at) (items_spelled type items is are) stands in
    let low = s.behind_code in
    let inside = s.inside in
    let long = length-bytes_of_words ws in
    let many = words_many items in
    let high : at + 12 * length items ≤ 7 * 2 ^ 20 = omega (arith, inside, long, many) in
    items_read c type items at is are (laid_by c at items low (omega (arith, high)) (words_stand m at ws (words_small type items is are times) s.bytes_are)))
