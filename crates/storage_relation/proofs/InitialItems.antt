-- INITIAL values that stand in memory: the items of a leaf are read as they were written, whatever the leaf's kind.
use Rattle.std.proofs.Common.{◌≡◌, ℕ, ◌+◌, ◌-◌, ◌^◌, ◌<◌, ◌≤◌, List, [], ◌∷◌, ◌++◌, take, map, length, Some, None, true}
use Rattle.std.proofs.Common.{false, refl, sym, ap, ◌∙◌, subst, arith, length-append}
use Rattle.std.proofs.lemmas.Bool.Decides.{nat_tests}
use Rattle.std.proofs.lemmas.List.{length-replicate, drop_at, take_at}
use Rattle.std.specs.List.{flat_map}
use Rattle.std.specs.Prelude.{cond, nat_le, ◌&&◌, replicate}
use Rattle.rv_meaning.specs.Memory.{bytes_of_word, bytes_of_words}
use Rattle.rv_meaning.specs.Words.{word, flag}
use Rattle.pli_language.specs.Tree.{InitialValue, InitialNumber, InitialText, InitialBit, InitialSkip, InitialNull}
use Rattle.pli_language.specs.Tree.{InitialEmpty, InitialItem}
use Rattle.pli_typing.specs.Signatures.{LeafKind, Fixed, Character, Varying, Bit, Pointer, Offset, Area, rounded_up}
use Rattle.pli_meaning.specs.Numbers.{is_of_precision}
use Rattle.area_keeper.specs.KeptAreas.{part}
use Rattle.pli_serving.specs.Bytes.{is_data, word_at, bytes_at}
use Rattle.pli_serving.specs.Finding.{Call}
use Rattle.pli_serving.specs.InitialValues.{initial_text, initial_value, item_of, item_at, item_size, items_from}
use Rattle.pli_serving.specs.Templates.{put_before}
use Rattle.pli_coding.specs.StaticForms.{item_bytes, value_bytes}
use Rattle.storage_relation.proofs.Values.{number_read, sub, below_power, signed_word, word_small}
use Rattle.storage_relation.specs.Beginning.{HasBytes, read_value, read_item, IsGiven, AreGiven}

pub data_there : (c : Call) (at n : ℕ) → c.layout.code_bytes ≤ at → at + n ≤ c.layout.end → is_data c.layout at n ≡ true
data_there c at n low high = by c.layout.code_bytes c.layout.end low high
  where
    by : (b e : ℕ) → b ≤ at → at + n ≤ e → nat_le b at && nat_le (at + n) e ≡ true
    by b e low high = grind (arith, nat_tests)

pub front : (c : Call) (at : ℕ) (xs ys : List ℕ) → HasBytes c at (xs ++ ys) → HasBytes c at xs
front c at xs ys s =
    let long = length-append xs ys in
    let high = s.high in
    let z : at + 0 ≡ at = omega arith in
    record {
      low = s.low;
      high = omega (arith, high, long);
      are =
          ap (λ p. part p (length xs) c.memory) (sym z)
          ∙ sub at (length (xs ++ ys)) 0 (length xs) c.memory (xs ++ ys) s.are (omega (arith, long))
          ∙ take_at xs ys (length xs) refl;
    }

pub back : (c : Call) (at : ℕ) (xs ys : List ℕ) → HasBytes c at (xs ++ ys) → HasBytes c (at + length xs) ys
back c at xs ys s =
    let long = length-append xs ys in
    let high = s.high in
    let low = s.low in
    record {
      low = omega (arith, low);
      high = omega (arith, high, long);
      are =
          sub at (length (xs ++ ys)) (length xs) (length ys) c.memory (xs ++ ys) s.are (omega (arith, long))
          ∙ ap (take (length ys)) (drop_at xs ys (length xs) refl)
          ∙ whole ys;
    }
  where
    whole : (ys : List ℕ) → take (length ys) ys ≡ ys
    whole [] = refl
    whole (y ∷ ys) = ap (λ u. y ∷ u) (whole ys)

pub word_there :
    (c : Call) (at w : ℕ) (ys : List ℕ) → w < 2 ^ 32 → HasBytes c at (bytes_of_word w ++ ys) →
    (word_at at c.memory ≡ w) × HasBytes c (at + 4) ys
word_there c at w ys small s =
    (number_read 4 w at c.memory (front c at (bytes_of_word w) ys s).are small, back c at (bytes_of_word w) ys s)

-- a value as its words: what it is, its number or length, and the bytes behind these
abbrev pub tag_of : InitialValue → ℕ
tag_of (InitialNumber z) = 1
tag_of (InitialText t) = 2
tag_of (InitialBit b) = 1
tag_of InitialNull = 3
tag_of _ = 0

abbrev pub number_of : InitialValue → ℕ
number_of (InitialNumber z) = word z
number_of (InitialText t) = length t
number_of (InitialBit b) = flag b
number_of _ = 0

abbrev pub padded : List ℕ → List ℕ
padded t = t ++ replicate (rounded_up 4 (length t) - length t) 0

abbrev pub behind_of : InitialValue → List ℕ
behind_of (InitialText t) = padded t
behind_of _ = []

tag_small : (v : InitialValue) → tag_of v < 2 ^ 32
tag_small (InitialNumber z) = omega arith
tag_small (InitialText t) = omega arith
tag_small (InitialBit b) = omega arith
tag_small InitialNull = omega arith
tag_small InitialSkip = omega arith
tag_small InitialEmpty = omega arith

padded_size : (t : List ℕ) → length (padded t) ≡ rounded_up 4 (length t)
padded_size t =
    let a = length-append t (replicate (rounded_up 4 (length t) - length t) 0) in
    let b = length-replicate {A = ℕ} (rounded_up 4 (length t) - length t) 0 in
    omega (arith, a, b)

size_of_item : (v : InitialValue) → 12 + length (behind_of v) ≡ item_size (tag_of v) (number_of v)
size_of_item (InitialNumber z) = refl
size_of_item (InitialText t) = ap (λ n. 12 + n) (padded_size t)
size_of_item (InitialBit b) = refl
size_of_item InitialNull = refl
size_of_item InitialSkip = refl
size_of_item InitialEmpty = refl

append_twice : (xs ys zs : List ℕ) → (xs ++ ys) ++ zs ≡ xs ++ (ys ++ zs)
append_twice [] ys zs = refl
append_twice (x ∷ xs) ys zs = ap (λ u. x ∷ u) (append_twice xs ys zs)

-- the bytes of an item: three words, and those behind
item_spelled :
    (i : InitialItem) (rest : List ℕ) →
    item_bytes i ++ rest
    ≡ bytes_of_words (i.repetition ∷ tag_of i.value ∷ number_of i.value ∷ []) ++ (behind_of i.value ++ rest)
item_spelled i rest = by i.value
  where
    by :
        (v : InitialValue) →
        (bytes_of_words (i.repetition ∷ []) ++ value_bytes v) ++ rest
        ≡ bytes_of_words (i.repetition ∷ tag_of v ∷ number_of v ∷ []) ++ (behind_of v ++ rest)
    by (InitialNumber z) = refl
    by (InitialText t) =
        append_twice (bytes_of_words (i.repetition ∷ 2 ∷ length t ∷ [])) (padded t) rest
    by (InitialBit b) = refl
    by InitialNull = refl
    by InitialSkip = refl
    by InitialEmpty = refl

-- ---- what is read

-- a value behind its words
value_read :
    (c : Call) (kind : LeafKind) (v : InitialValue) (at : ℕ) → IsGiven kind v → HasBytes c at (behind_of v) →
    initial_value c kind (tag_of v) (number_of v) at ≡ Some (read_value v)
value_read c (Fixed p) (InitialNumber z) at given s =
    let wide : is_of_precision 31 z ≡ true = below_power p 31 z given.0 given.1 in
    ap (λ u. cond (is_of_precision p u) (Some (InitialNumber u)) None) (signed_word z wide)
    ∙ ap (λ t. cond t (Some (InitialNumber z)) None) given.1
value_read c (Character n) (InitialText t) at given s =
    let text = front c at t (replicate (rounded_up 4 (length t) - length t) 0) s in
    ap (λ q. cond q (initial_text (Character n) (bytes_at (length t) at c.memory)) None)
    (data_there c at (length t) text.low text.high)
    ∙ ap (initial_text (Character n)) text.are
value_read c (Varying n) (InitialText t) at given s =
    let text = front c at t (replicate (rounded_up 4 (length t) - length t) 0) s in
    ap (λ q. cond q (initial_text (Varying n) (bytes_at (length t) at c.memory)) None)
    (data_there c at (length t) text.low text.high)
    ∙ ap (initial_text (Varying n)) text.are
value_read c Bit (InitialBit true) at given s = refl
value_read c Bit (InitialBit false) at given s = refl
value_read c Pointer InitialNull at given s = refl
value_read c Offset InitialNull at given s = refl
value_read c kind InitialSkip at given s = refl
value_read c kind InitialEmpty at given s = refl
value_read c (Fixed p) _ at given s = absurd given
value_read c (Character p) _ at given s = absurd given
value_read c (Varying p) _ at given s = absurd given
value_read c Bit _ at given s = absurd given
value_read c Pointer _ at given s = absurd given
value_read c Offset _ at given s = absurd given
value_read c (Area n) _ at given s = absurd given

number_small :
    (c : Call) (kind : LeafKind) (v : InitialValue) (at : ℕ) (rest : List ℕ) → c.layout.end ≤ 2 ^ 32 → IsGiven kind v →
    0 < at → HasBytes c at (behind_of v ++ rest) → number_of v < 2 ^ 32
number_small c (Fixed p) (InitialNumber z) at rest few given some s = word_small z (below_power p 31 z given.0 given.1)
number_small c kind (InitialText t) at rest few given some s =
    let high = s.high in
    let a = length-append (padded t) rest in
    let b = length-append t (replicate (rounded_up 4 (length t) - length t) 0) in
    omega (arith, few, high, some, a, b)
number_small c kind (InitialBit true) at rest few given some s = omega arith
number_small c kind (InitialBit false) at rest few given some s = omega arith
number_small c kind InitialNull at rest few given some s = omega arith
number_small c kind InitialSkip at rest few given some s = omega arith
number_small c kind InitialEmpty at rest few given some s = omega arith
number_small c (Character p) (InitialNumber z) at rest few given some s = absurd given
number_small c (Varying p) (InitialNumber z) at rest few given some s = absurd given
number_small c Bit (InitialNumber z) at rest few given some s = absurd given
number_small c Pointer (InitialNumber z) at rest few given some s = absurd given
number_small c Offset (InitialNumber z) at rest few given some s = absurd given
number_small c (Area n) (InitialNumber z) at rest few given some s = absurd given

record Item (c : Call) (kind : LeafKind) (at : ℕ) (i : InitialItem) (rest : List ℕ) : Type 0 where
  reads : item_at c kind at ≡ Some (read_item i)
  behind : HasBytes c (at + item_size (word_at (at + 4) c.memory) (word_at (at + 8) c.memory)) rest

-- one item, and what stands behind it
item_read :
    (c : Call) (kind : LeafKind) (at : ℕ) (i : InitialItem) (rest : List ℕ) → c.layout.end ≤ 2 ^ 32 →
    i.repetition < 2 ^ 32 → IsGiven kind i.value → HasBytes c at (item_bytes i ++ rest) → Item c kind at i rest
item_read c kind at i rest few times given stands =
    let v = i.value in
    let what = tag_of v in
    let n = number_of v in
    let all = bytes_of_words (i.repetition ∷ what ∷ n ∷ []) in
    let m = c.memory in
    let s = subst (HasBytes c at) (item_spelled i rest) stands in
    let high = s.high in
    let long : length (all ++ (behind_of v ++ rest)) ≡ 12 + length (behind_of v ++ rest) =
    length-append all (behind_of v ++ rest)
    in
    let last : HasBytes c (at + 12) (behind_of v ++ rest) = back c at all (behind_of v ++ rest) s in
    let small = number_small c kind v (at + 12) rest few given (omega arith) last in
    let one = word_there c at i.repetition (bytes_of_words (what ∷ n ∷ []) ++ (behind_of v ++ rest)) times s in
    let two = word_there c (at + 4) what (bytes_of_words (n ∷ []) ++ (behind_of v ++ rest)) (tag_small v) one.1 in
    let three = word_there c (at + 4 + 4) n (behind_of v ++ rest) small two.1 in
    let e : at + 4 + 4 ≡ at + 8 = omega arith in
    let number : word_at (at + 8) m ≡ n = ap (λ q. word_at q m) (sym e) ∙ three.0 in
    let size = size_of_item v in
    let further : at + 12 + length (behind_of v) ≡ at + item_size (word_at (at + 4) m) (word_at (at + 8) m) =
    omega (arith, size)
    ∙ ap (λ q. at + item_size q n) (sym two.0)
    ∙ ap (λ q. at + item_size (word_at (at + 4) m) q) (sym number)
    in
    let value = initial_value c kind (word_at (at + 4) m) (word_at (at + 8) m) (at + 12) in
    record {
      reads =
          ap (λ q. cond q (item_of (word_at at m) value) None) (data_there c at 12 s.low (omega (arith, high, long)))
          ∙ ap (λ q. item_of q value) one.0
          ∙ ap (λ q. item_of i.repetition (initial_value c kind q (word_at (at + 8) m) (at + 12))) two.0
          ∙ ap (λ q. item_of i.repetition (initial_value c kind what q (at + 12))) number
          ∙ ap (item_of i.repetition) (value_read c kind v (at + 12) given (front c (at + 12) (behind_of v) rest last));
      behind = subst (λ q. HasBytes c q rest) further (back c (at + 12) (behind_of v) rest last);
    }

pub items_read :
    (c : Call) (kind : LeafKind) (items : List InitialItem) (at : ℕ) → c.layout.end ≤ 2 ^ 32 → AreGiven kind items →
    HasBytes c at (flat_map item_bytes items) → items_from c kind (length items) at ≡ Some (map read_item items)
items_read c kind [] at few are s = refl
items_read c kind (i ∷ more) at few are s =
    let one = item_read c kind at i (flat_map item_bytes more) few are.0.0 are.0.1 s in
    let next' = at + item_size (word_at (at + 4) c.memory) (word_at (at + 8) c.memory) in
    ap (λ o. put_before o (items_from c kind (length more) next')) one.reads
    ∙ ap (put_before (Some (read_item i))) (items_read c kind more next' few are.1 one.behind)
