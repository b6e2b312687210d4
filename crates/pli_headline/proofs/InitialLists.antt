-- A list of INITIAL of one variable in the static data: service 7 finds its items, wherever it reads these as they stand.
use Rattle.std.proofs.Common.{◌≡◌, ℕ, ◌+◌, ◌-◌, ◌*◌, ◌^◌, ◌<◌, ◌≤◌, List, [], ◌∷◌, ◌++◌, length, Some, None, true, false, ap, ◌∙◌, arith, lit<, length-append}
use Rattle.std.specs.Prelude.{cond, slice_get, slice_index, ◌==◌}
use Rattle.std.specs.List.{flat_map}
use Rattle.std.proofs.lemmas.Bool.{or_left}
use Rattle.std.proofs.lemmas.Bool.Decides.{nat_tests}
use Rattle.std.proofs.lemmas.List.{get_or_append_left, get_or-append-add}
use Rattle.rv_meaning.specs.declared.instr.Instr.{Instr}
use Rattle.rv_meaning.specs.Memory.{bytes_of_words}
use Rattle.pli_language.specs.Tree as T
use Rattle.pli_typing.specs.Signatures.{Bounds, LeafKind, Leaf}
use Rattle.pli_meaning.specs.Pictures.{first_bytes}
use Rattle.pli_serving.specs.Bytes.{is_data, word_at}
use Rattle.pli_serving.specs.Finding.{Call}
use Rattle.pli_serving.specs.ServiceState.{Services}
use Rattle.pli_serving.specs.InitialValues.{items_from, items_at, none_initial, with_items, leaves_from, leaves_at, initial_values}
use Rattle.pli_coding.specs.Assembly.{InitialLeaf, ConstantBytes, InitialValues, Code}
use Rattle.pli_coding.specs.StaticForms.{item_bytes, items_bytes}
use Rattle.pli_coding.specs.StaticData.{static_data}
use Rattle.pli_coding.specs.Images.{linked_code, picture_of_code}
use Rattle.pli_headline.specs.Headline.{FitsMemory}
use Rattle.run_steps.specs.Engine.{call_at}
use Rattle.run_steps.specs.DataNamed.{IsNamed, BytesStand}
use Rattle.code_marks.specs.CodeData.{Has}
use Rattle.code_marks.proofs.DataOnce.{same_datum-same}
use Rattle.pli_headline.proofs.DataOnce.{values_has}
use Rattle.pli_headline.proofs.FormatsRead.{WordsAt, AreWords, words_stand, is_data_there}
use Rattle.pli_headline.proofs.Statics.{place_in, datum_stands, constant_there, values_behind}

-- ---- bytes one behind the other

-- while the memory below the stacks is what it was
stands_still : {code : List Instr} {first : List ℕ} {at : ℕ} {bytes : List ℕ} (m : List ℕ) → ((k : ℕ) → k < 7 * 2 ^ 20 → slice_index m k ≡ slice_index first k) → BytesStand code first at bytes → BytesStand code m at bytes
stands_still {at = at} m same s =
    let high = s.inside in
    record { behind_code = s.behind_code; inside = high; bytes_are = λ k below. same (at + k) (omega (arith, below, high)) ∙ s.bytes_are k below }

pub front_stands : {code : List Instr} {m : List ℕ} {at : ℕ} (xs ys : List ℕ) → BytesStand code m at (xs ++ ys) → BytesStand code m at xs
front_stands xs ys s =
    let e = length-append xs ys in
    let high = s.inside in
    record {
      behind_code = s.behind_code;
      inside = omega (arith, high, e);
      bytes_are = λ k below. s.bytes_are k (omega (arith, below, e)) ∙ get_or_append_left xs ys 0 k below;
    }

pub back_stands : {code : List Instr} {m : List ℕ} {at : ℕ} (xs ys : List ℕ) → BytesStand code m at (xs ++ ys) → BytesStand code m (at + length xs) ys
back_stands {m = m} {at = at} xs ys s =
    let e = length-append xs ys in
    let low = s.behind_code in
    let high = s.inside in
    record {
      behind_code = omega (arith, low);
      inside = omega (arith, high, e);
      bytes_are = λ k below.
          let there : at + length xs + k ≡ at + (length xs + k) = omega arith in
          ap (slice_index m) there ∙ s.bytes_are (length xs + k) (omega (arith, below, e)) ∙ get_or-append-add xs ys k 0;
    }

-- words, and what is behind them
pub words_there : {code : List Instr} {m : List ℕ} {at : ℕ} (ws : List ℕ) (ys : List ℕ) → AreWords ws → BytesStand code m at (bytes_of_words ws ++ ys) → WordsAt m at ws × BytesStand code m (at + length (bytes_of_words ws)) ys
words_there {m = m} {at = at} ws ys small' s =
    let front = front_stands (bytes_of_words ws) ys s in
    (words_stand m at ws small' front.bytes_are, back_stands (bytes_of_words ws) ys s)

-- ---- where it stands

abbrev one_leaf : LeafKind → List Bounds → Leaf
one_leaf kind bs = record { kind = kind; bounds = bs }

record ListLaid (c : Call) (at behind : ℕ) (kind : LeafKind) (items : List T.InitialItem) : Type 0 where
  some : (at == 0) ≡ false
  inside : is_data c.layout at 4 ≡ true
  leaf_inside : is_data c.layout (at + 4) 8 ≡ true
  items_inside : is_data c.layout behind 4 ≡ true
  leaves : word_at at c.memory ≡ 1
  leaf : word_at (at + 4) c.memory ≡ 0
  distance : at + word_at (at + 4 + 4) c.memory ≡ behind
  many : word_at behind c.memory ≡ length items
  read : items_from c kind (length items) (behind + 4) ≡ Some items

list_read : (c : Call) (kind : LeafKind) (bs : List Bounds) (at behind : ℕ) (items : List T.InitialItem) → ListLaid c at behind kind items → initial_values c (one_leaf kind bs ∷ []) at ≡ Some (items ∷ [])
list_read c kind bs at behind items o =
    let m = c.memory in
    let one = one_leaf kind bs in
    let leaves = one ∷ [] in
    let none' = none_initial leaves in
    let read : items_at c (Some one) behind ≡ Some items =
    ap (λ t. cond t (items_from c kind (word_at behind m) (behind + 4)) None) o.items_inside
    ∙ ap (λ n. items_from c kind n (behind + 4)) o.many
    ∙ o.read in
    ap (λ t. cond t (Some none') (leaves_at c leaves at)) o.some
    ∙ ap (λ t. cond t (leaves_from c leaves at (word_at at m) (at + 4)) None) o.inside
    ∙ ap (λ n. leaves_from c leaves at n (at + 4)) o.leaves
    ∙ ap (λ t. cond t (with_items (word_at (at + 4) m) (items_at c (slice_get leaves (word_at (at + 4) m)) (at + word_at (at + 4 + 4) m)) (Some none')) None) o.leaf_inside
    ∙ ap (λ u. with_items u (items_at c (slice_get leaves u) (at + word_at (at + 4 + 4) m)) (Some none')) o.leaf
    ∙ ap (λ q. with_items 0 (items_at c (Some one) q) (Some none')) o.distance
    ∙ ap (λ i. with_items 0 i (Some none')) read

-- ---- in the static data

abbrev pub leaf_of_items : List T.InitialItem → InitialLeaf
leaf_of_items items = record { leaf = 0; values = items_bytes items }

-- where the list stands that code names
abbrev pub list_place : Code → List T.InitialItem → ℕ
list_place program items = place_in program (InitialValues (leaf_of_items items ∷ []))

not_first : (at n : ℕ) → 0 < n → 4 * n ≤ at → (at == 0) ≡ false
not_first at n h i = grind (arith, nat_tests)

-- an item has some bytes
items_few : (items : List T.InitialItem) → length items ≤ length (flat_map item_bytes items)
items_few [] = omega arith
items_few (i ∷ more) =
    let n = items_few more in
    let e = length-append (item_bytes i) (flat_map item_bytes more) in
    omega (arith, n, e)

pub list_small : (program : Code) → FitsMemory (picture_of_code program) → (items : List T.InitialItem) → IsNamed (InitialValues (leaf_of_items items ∷ [])) program → list_place program items < 2 ^ 32
list_small program fits items named =
    let s = datum_stands program fits (InitialValues (leaf_of_items items ∷ [])) named in
    let high : list_place program items + 12 ≤ 7 * 2 ^ 20 = s.inside in
    omega (arith, high)

-- what service 7 reads there, while the static data is what it was at first
pub list_reads : (program : Code) → FitsMemory (picture_of_code program) → 0 < length (linked_code program) → (kind : LeafKind) (bs : List Bounds) (items : List T.InitialItem) → IsNamed (InitialValues (leaf_of_items items ∷ [])) program → (v : Services) (m : List ℕ) → ((k : ℕ) → k < 7 * 2 ^ 20 → slice_index m k ≡ slice_index (first_bytes (picture_of_code program)) k) → ((at : ℕ) → BytesStand (linked_code program) m at (flat_map item_bytes items) → items_from (call_at (linked_code program) v m) kind (length items) at ≡ Some items) → initial_values (call_at (linked_code program) v m) (one_leaf kind bs ∷ []) (list_place program items) ≡ Some (items ∷ [])
list_reads program fits some kind bs items named v m same read =
    let list = InitialValues (leaf_of_items items ∷ []) in
    let values = items_bytes items in
    let at = place_in program list in
    let behind = place_in program (ConstantBytes values) in
    let has : Has (static_data program) (ConstantBytes values) = values_has program (leaf_of_items items ∷ []) (ConstantBytes values) named (or_left _ _ (same_datum-same (ConstantBytes values))) in
    let s1 = datum_stands program fits list named in
    let s2 = constant_there program fits values has in
    let order = values_behind program (leaf_of_items items) named has in
    let low1 = s1.behind_code in
    let low2 = s2.behind_code in
    let inside2 = s2.inside in
    let long = length-append (bytes_of_words (length items ∷ [])) (flat_map item_bytes items) in
    let some' = items_few items in
    let high1 : at + 12 ≤ 7 * 2 ^ 20 = s1.inside in
    let high2 : behind + 4 ≤ 7 * 2 ^ 20 = omega (arith, inside2, long) in
    let few : length items < 2 ^ 32 = omega (arith, inside2, long, some') in
    let c = call_at (linked_code program) v m in
    let ws : WordsAt m at (1 ∷ 0 ∷ (behind - at) ∷ []) = words_stand m at (1 ∷ 0 ∷ (behind - at) ∷ []) (lit< tt, (lit< tt, (omega (arith, high2), tt))) (λ k below. same (at + k) (omega (arith, below, high1)) ∙ s1.bytes_are k below) in
    let stand = words_there (length items ∷ []) (flat_map item_bytes items) (few, tt) (stands_still m same s2) in
    let gap = ws.1.1.0 in
    list_read c kind bs at behind items
    (record {
      some = not_first at (length (linked_code program)) some low1;
      inside = is_data_there c.layout at 4 low1 (omega (arith, high1));
      leaf_inside = is_data_there c.layout (at + 4) 8 (omega (arith, low1)) (omega (arith, high1));
      items_inside = is_data_there c.layout behind 4 low2 (omega (arith, high2));
      leaves = ws.0;
      leaf = ws.1.0;
      distance = omega (arith, gap, order);
      many = stand.0.0;
      read = read (behind + 4) stand.1;
    })
