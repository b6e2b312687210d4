-- INITIAL values of all leaves: what services 7 and 10 read of a variable's datum is what its declaration says.
use Rattle.std.proofs.Common.{◌≡◌, ℕ, suc, ◌+◌, ◌-◌, ◌^◌, ◌<◌, ◌≤◌, List, [], ◌∷◌, ◌++◌, map, length, Some, None, false}
use Rattle.std.proofs.Common.{refl, sym, ap, ◌∙◌, subst, arith, length-append}
use Rattle.std.proofs.lemmas.Bool.Decides.{nat_tests}
use Rattle.std.specs.List.{flat_map}
use Rattle.std.specs.Prelude.{ℤ, cond, slice_get, slice_set, ◌==◌, replicate}
use Rattle.rv_meaning.specs.Memory.{bytes_of_word, bytes_of_words}
use Rattle.pli_language.specs.Tree.{InitialItem}
use Rattle.pli_typing.specs.Signatures.{Leaf, rounded_up}
use Rattle.pli_typing.specs.TypedTree as Y
use Rattle.pli_meaning.specs.DeclaredShapes.{kind_of, leaf_of, shape_of, initial_of}
use Rattle.pli_serving.specs.Bytes.{word_at}
use Rattle.pli_serving.specs.Finding.{Call}
use Rattle.pli_serving.specs.InitialValues.{Initial, items_from, items_at, none_initial, with_items, leaves_from}
use Rattle.pli_serving.specs.InitialValues.{leaves_at, initial_values}
use Rattle.pli_coding.specs.Assembly.{InitialLeaf, ConstantBytes, InitialValues}
use Rattle.pli_coding.specs.StaticData.{PlacedDatum, datum_place, leaf_bytes}
use Rattle.pli_coding.specs.StaticForms.{item_bytes, items_bytes, leaf_with_items, initial_leaves, if_any}
use Rattle.pli_coding.specs.StaticForms.{initial_datum}
use Rattle.storage_relation.proofs.InitialItems.{data_there, front, word_there, items_read}
use Rattle.storage_relation.specs.Beginning.{HasBytes, AreGiven, AllGiven, read_items, AllStand, place_if}
use Rattle.storage_relation.specs.Beginning.{DatumStands, IsLaid}

-- ---- lists, leaf by leaf

-- the leaves from one on are these
abbrev AreAt : List ℤ → List Leaf → (n : ℕ) → List Y.Leaf → Type 0
AreAt values all n [] = Unit {0}
AreAt values all n (l ∷ ls) = (slice_get all n ≡ Some (leaf_of values l)) × AreAt values all (suc n) ls

at_next :
    (values : List ℤ) (x : Leaf) (all : List Leaf) (n : ℕ) (ls : List Y.Leaf) → AreAt values all n ls →
    AreAt values (x ∷ all) (suc n) ls
at_next values x all n [] are = tt
at_next values x all n (l ∷ ls) are = (are.0, at_next values x all (suc n) ls are.1)

all_at : (values : List ℤ) (ls : List Y.Leaf) → AreAt values (map (leaf_of values) ls) 0 ls
all_at values [] = tt
all_at values (l ∷ ls) =
    (refl, at_next values (leaf_of values l) (map (leaf_of values) ls) 0 ls (all_at values ls))

abbrev set_if : (leaf : ℕ) → List InitialItem → Initial → Initial
set_if leaf [] all = all
set_if leaf (i ∷ is) all = slice_set all leaf (read_items (i ∷ is))

-- the items of the leaves from one on, set in those of all
abbrev set_from : (leaf : ℕ) → List Y.Leaf → Initial → Initial
set_from n [] all = all
set_from n (l ∷ ls) all = set_if n l.initial (set_from (suc n) ls all)

set_there :
    (xs ys : Initial) (items : List InitialItem) → set_if (length xs) items (xs ++ ([] ∷ ys))
    ≡ xs ++ (read_items items ∷ ys)
set_there xs ys [] = refl
set_there xs ys (i ∷ is) = by xs
  where
    by : (xs : Initial) → slice_set (xs ++ ([] ∷ ys)) (length xs) (read_items (i ∷ is))
        ≡ xs ++ (read_items (i ∷ is) ∷ ys)
    by [] = refl
    by (x ∷ xs) = ap (λ u. x ∷ u) (by xs)

one_more : (xs ys : Initial) (y : List InitialItem) → (xs ++ (y ∷ [])) ++ ys ≡ xs ++ (y ∷ ys)
one_more [] ys y = refl
one_more (x ∷ xs) ys y = ap (λ u. x ∷ u) (one_more xs ys y)

abbrev nones : List Y.Leaf → Initial
nones ls = map (λ l. []) ls

abbrev given : List Y.Leaf → Initial
given ls = map (λ (l : Y.Leaf). read_items l.initial) ls

set_all : (xs : Initial) (ls : List Y.Leaf) → set_from (length xs) ls (xs ++ nones ls) ≡ xs ++ given ls
set_all xs [] = refl
set_all xs (l ∷ ls) =
    let one : List InitialItem = [] in
    let long : length (xs ++ (one ∷ [])) ≡ suc (length xs) = let e = length-append xs (one ∷ []) in omega (arith, e) in
    let rest = set_all (xs ++ (one ∷ [])) ls in
    let after : set_from (suc (length xs)) ls (xs ++ (one ∷ nones ls)) ≡ xs ++ (one ∷ given ls) =
    ap (λ n. set_from n ls (xs ++ (one ∷ nones ls))) (sym long)
    ∙ ap (set_from (length (xs ++ (one ∷ []))) ls) (sym (one_more xs (nones ls) one))
    ∙ rest
    ∙ one_more xs (given ls) one
    in
    ap (set_if (length xs) l.initial) after ∙ set_there xs (given ls) l.initial

none_are : (values : List ℤ) (ls : List Y.Leaf) → none_initial (map (leaf_of values) ls) ≡ nones ls
none_are values [] = refl
none_are values (l ∷ ls) = ap (λ u. [] ∷ u) (none_are values ls)

nothing_set : (n : ℕ) (ls : List Y.Leaf) (all : Initial) → initial_leaves n ls ≡ [] → set_from n ls all ≡ all
nothing_set n [] all e = refl
nothing_set n (l ∷ ls) all e = by (λ f. nothing_set (suc n) ls all f) l.initial e
  where
    by :
        (initial_leaves (suc n) ls ≡ [] → set_from (suc n) ls all ≡ all) → (items : List InitialItem) →
        leaf_with_items n items ++ initial_leaves (suc n) ls ≡ [] → set_if n items (set_from (suc n) ls all) ≡ all
    by rest [] e = rest e
    by rest (i ∷ is) e = absurd (cc e)

items_few : (items : List InitialItem) → length items ≤ length (flat_map item_bytes items)
items_few [] = omega arith
items_few (i ∷ more) =
    let n = items_few more in
    let e = length-append (item_bytes i) (flat_map item_bytes more) in
    omega (arith, n, e)

leaf_read :
    (c : Call) (l : Leaf) (items : List InitialItem) (at : ℕ) → c.layout.end ≤ 2 ^ 32 → 0 < c.layout.code_bytes →
    AreGiven l.kind items → HasBytes c at (items_bytes items) → items_at c (Some l) at ≡ Some (read_items items)
leaf_read c l items at few some are s =
    let m = c.memory in
    let low = s.low in
    let high = s.high in
    let body = flat_map item_bytes items in
    let long : length (items_bytes items) ≡ 4 + length body = length-append (bytes_of_words (length items ∷ [])) body in
    let n = items_few items in
    let w = word_there c at (length items) body (omega (arith, few, some, low, high, long, n)) s in
    ap (λ q. cond q (items_from c l.kind (word_at at m) (at + 4)) None)
    (data_there c at 4 low (omega (arith, high, long)))
    ∙ ap (λ n. items_from c l.kind n (at + 4)) w.0
    ∙ items_read c l.kind items (at + 4) few are w.1

-- what is read: a call, the extents' values, where data stand, the leaves, and where the whole starts
record Reading : Type 0 where
  call : Call
  values : List ℤ
  placed_data : List PlacedDatum
  leaves : List Leaf
  start : ℕ

-- the leaves from one on
leaves_read :
    (r : Reading) (n : ℕ) (ls : List Y.Leaf) (at : ℕ) →
    (r.call.layout.end ≤ 2 ^ 32) × (0 < r.call.layout.code_bytes) → n + length ls ≤ 2 ^ 32 → AllGiven r.values ls
    × AreAt r.values r.leaves n ls →
    AllStand r.call r.placed_data r.start (initial_leaves n ls) →
    HasBytes r.call at (flat_map (leaf_bytes r.placed_data r.start) (initial_leaves n ls)) →
    leaves_from r.call r.leaves r.start (length (initial_leaves n ls)) at ≡ Some (set_from n ls (none_initial r.leaves))
leaves_read r n [] at few count are stand s = refl
leaves_read r n (l ∷ ls) at few count are stand s =
    by (λ a stand s. leaves_read r (suc n) ls a few (omega (arith, count)) (are.0.1, are.1.1)
    stand s)
    l.initial are.0.0 stand s
  where
    by :
        ((a : ℕ) → AllStand r.call r.placed_data r.start (initial_leaves (suc n) ls) →
        HasBytes r.call a (flat_map (leaf_bytes r.placed_data r.start) (initial_leaves (suc n) ls)) →
        leaves_from r.call r.leaves r.start (length (initial_leaves (suc n) ls)) a
        ≡ Some (set_from (suc n) ls (none_initial r.leaves))) →
        (items : List InitialItem) → AreGiven (kind_of r.values l.type) items →
        AllStand r.call r.placed_data r.start (leaf_with_items n items ++ initial_leaves (suc n) ls) →
        HasBytes r.call at (flat_map (leaf_bytes r.placed_data r.start)
        (leaf_with_items n items ++ initial_leaves (suc n) ls)) →
        leaves_from r.call r.leaves r.start (length (leaf_with_items n items ++ initial_leaves (suc n) ls)) at
        ≡ Some (set_if n items (set_from (suc n) ls (none_initial r.leaves)))
    by rest [] g stand s = rest at stand s
    by rest (i ∷ is) g stand s =
        let m = r.call.memory in
        let items = i ∷ is in
        let place = datum_place (ConstantBytes (items_bytes items)) r.placed_data in
        let more = flat_map (leaf_bytes r.placed_data r.start) (initial_leaves (suc n) ls) in
        let here = stand.0.1 in
        let text = front r.call place (items_bytes items)
        (replicate (rounded_up 4 (length (items_bytes items)) - length (items_bytes items)) 0) here in
        let low = s.low in
        let high = s.high in
        let behind = stand.0.0 in
        let end = text.high in
        let body = flat_map item_bytes items in
        let long : length (items_bytes items)
        ≡ 4 + length body = length-append (bytes_of_words (length items ∷ [])) body in
        let small = few.0 in
        let one = word_there r.call at n (bytes_of_word (place - r.start) ++ more) (omega (arith, count)) s in
        let two = word_there r.call (at + 4) (place - r.start) more (omega (arith, small, end, long)) one.1 in
        let tail : Initial = set_from (suc n) ls (none_initial r.leaves) in
        let next' : at + 4 + 4 ≡ at + 8 = omega arith in
        let others = rest (at + 8) stand.1 (subst (λ q. HasBytes r.call q more) next' two.1) in
        let from : r.start + word_at (at + 4) m ≡ place = let d = two.0 in omega (arith, d, behind) in
        let left = leaves_from r.call r.leaves r.start (length (initial_leaves (suc n) ls)) (at + 8) in
        let read = items_at r.call (slice_get r.leaves (word_at at m)) (r.start + word_at (at + 4) m) in
        ap (λ q. cond q (with_items (word_at at m) read left) None) (data_there r.call at 8 low (omega (arith, high)))
        ∙ ap (λ w. with_items w (items_at r.call (slice_get r.leaves w) (r.start + word_at (at + 4) m)) left) one.0
        ∙ ap (λ o. with_items n (items_at r.call o (r.start + word_at (at + 4) m)) left) are.1.0
        ∙ ap (λ p. with_items n (items_at r.call (Some (leaf_of r.values l)) p) left) from
        ∙ ap (λ o. with_items n o left) (leaf_read r.call (leaf_of r.values l) items place small few.1 g text)
        ∙ ap (with_items n (Some (read_items items))) others

not_zero : (b at : ℕ) → 0 < b → b ≤ at → (at == 0) ≡ false
not_zero b at h i = grind (arith, nat_tests)

-- what services 7 and 10 read at the place of a variable's datum
pub initial_read :
    (c : Call) (all : List PlacedDatum) (values : List ℤ) (d : Y.DeclaredVariable) → IsLaid c all values d →
    initial_values c (shape_of values d).signature.leaves (place_if all (initial_datum d))
    ≡ Some (map read_items (initial_of d))
initial_read c all values d laid = by (initial_leaves 0 d.leaves) refl laid.stands
  where
    leaves : List Leaf
    leaves = map (leaf_of values) d.leaves

    twice : (ls : List Y.Leaf) → given ls ≡ map read_items (map (λ (l : Y.Leaf). l.initial) ls)
    twice [] = refl
    twice (l ∷ ls) = ap (λ u. read_items l.initial ∷ u) (twice ls)

    set : set_from 0 d.leaves (none_initial leaves) ≡ map read_items (initial_of d)
    set =
        ap (set_from 0 d.leaves) (none_are values d.leaves) ∙ set_all [] d.leaves ∙ twice d.leaves

    Goal : List InitialLeaf → Type 0
    Goal ls =
        initial_values c leaves (place_if all (if_any ls)) ≡ Some (map read_items (initial_of d))

    read :
        (ls : List InitialLeaf) → initial_leaves 0 d.leaves ≡ ls → (start at : ℕ) → AllStand c all start ls →
        HasBytes c at (flat_map (leaf_bytes all start) ls) → leaves_from c leaves start (length ls) at
        ≡ Some (map read_items (initial_of d))
    read ls e start at stand s =
        let count = laid.few in
        ap (λ k. leaves_from c leaves start (length k) at) (sym e)
        ∙ leaves_read (record { call = c; values = values; placed_data = all; leaves = leaves; start = start }) 0
        d.leaves at
        (laid.end, laid.code) (omega (arith, count))
        (laid.given, all_at values d.leaves)
        (subst (AllStand c all start) (sym e) stand)
        (subst (λ k. HasBytes c at (flat_map (leaf_bytes all start) k)) (sym e) s)
        ∙ ap Some set

    by : (ls : List InitialLeaf) → initial_leaves 0 d.leaves ≡ ls → DatumStands c all (if_any ls) → Goal ls
    by [] e stands =
        ap Some (sym (nothing_set 0 d.leaves (none_initial leaves) e) ∙ set)
    by (l ∷ ls) e stands =
        let start = datum_place (InitialValues (l ∷ ls)) all in
        let s = stands.0 in
        let low = s.low in
        let high = s.high in
        let code = laid.code in
        let end = laid.end in
        let body = flat_map (leaf_bytes all start) (l ∷ ls) in
        let long : length (bytes_of_word (length (l ∷ ls)) ++ body)
        ≡ 4 + length body = length-append (bytes_of_word (length (l ∷ ls))) body in
        let many = leaves_few (l ∷ ls) start in
        let w = word_there c start (length (l ∷ ls)) body (omega (arith, low, high, code, end, long, many)) s in
        ap (λ q. cond q (Some (none_initial leaves)) (leaves_at c leaves start))
        (not_zero c.layout.code_bytes start code low)
        ∙ ap (λ q. cond q (leaves_from c leaves start (word_at start c.memory) (start + 4)) None)
        (data_there c start 4 low (omega (arith, high, long)))
        ∙ ap (λ n. leaves_from c leaves start n (start + 4)) w.0
        ∙ read (l ∷ ls) e start (start + 4) stands.1 w.1
      where
        leaves_few : (ls : List InitialLeaf) (start : ℕ) → length ls ≤ length (flat_map (leaf_bytes all start) ls)
        leaves_few [] start = omega arith
        leaves_few (l ∷ ls) start =
            let n = leaves_few ls start in
            let e = length-append (leaf_bytes all start l) (flat_map (leaf_bytes all start) ls) in
            omega (arith, n, e)
