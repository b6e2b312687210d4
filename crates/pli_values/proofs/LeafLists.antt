-- The INITIAL values of leaves, list by list.
use Rattle.std.proofs.Common.{zero, suc, ◌≡◌, ◌≤◌, ◌<◌, ℕ, ◌+◌, ◌-◌, ◌*◌, if◌then◌else◌, slice_get, slice_set, replicate, length, Bool, true, false, Option, Some, None, is_some, List, [], ◌∷◌, refl, sym, ap, ◌∙◌, arith}
use Rattle.std.proofs.lemmas.Bool.Decides.{nat_tests}
use Rattle.pli_language.specs.Tree.{InitialItem}
use Rattle.pli_types.specs.declared.signature.Leaf as P
use Rattle.pli_types.specs.Templates.{kind_so_far, leaf_so_far}
use Rattle.pli_types.specs.View.{leaf_kind_of, leaf_of}
use Rattle.pli_typing.specs.Signatures.{LeafKind, Leaf}
use Rattle.pli_serving.specs.Bytes.{Layout, word_at, is_data}
use Rattle.pli_serving.specs.Finding.{Call}
use Rattle.pli_serving.specs.Templates.{put_before}
use Rattle.pli_serving.specs.InitialValues.{Initial, none_initial, items_from, items_at, with_items, leaves_from, leaves_at}
use Rattle.pli_values.specs.Leaves.{leaves_of}
use Rattle.pli_values.specs.LeafLists.{list_for, lists_read}
use Rattle.pli_values.specs.declared.lists.ItemList.{ItemList}

-- ---- the leaf of a number

leaf_found : (leaves : List P.Leaf) (leaf : ℕ) (l : P.Leaf) → slice_get leaves leaf ≡ Some l → slice_get (leaves_of leaves) leaf ≡ Some (leaf_so_far (leaf_of l))
leaf_found [] leaf l e = absurd (cc)
leaf_found (x ∷ xs) zero l e = ap (λ o. leaf_in o) e
  where
    leaf_in : Option P.Leaf → Option Leaf
    leaf_in None = None
    leaf_in (Some y) = Some (leaf_so_far (leaf_of y))
leaf_found (x ∷ xs) (suc leaf) l e = leaf_found xs leaf l e

pub leaf_missing : (leaves : List P.Leaf) (leaf : ℕ) → slice_get leaves leaf ≡ None → slice_get (leaves_of leaves) leaf ≡ None
leaf_missing [] leaf e = refl
leaf_missing (x ∷ xs) zero e = absurd (cc)
leaf_missing (x ∷ xs) (suc leaf) e = leaf_missing xs leaf e

-- the items for a leaf that is there, behind their number
pub items_of_leaf : (c : Call) (leaves : List P.Leaf) (leaf at count : ℕ) (l : P.Leaf) (kind : LeafKind) → slice_get leaves leaf ≡ Some l → kind ≡ kind_so_far (leaf_kind_of l.kind) → is_data c.layout at 4 ≡ true → count ≡ word_at at c.memory → items_from c kind count (at + 4) ≡ items_at c (slice_get (leaves_of leaves) leaf) at
items_of_leaf c leaves leaf at count l kind e k d n =
    ap (λ j. items_from c kind j (at + 4)) n
    ∙ ap (λ j. items_from c j (word_at at c.memory) (at + 4)) k
    ∙ ap (λ b. if b then items_from c (kind_so_far (leaf_kind_of l.kind)) (word_at at c.memory) (at + 4) else None) (sym d)
    ∙ ap (λ o. items_at c o at) (sym (leaf_found leaves leaf l e))

pub list_of_leaf : (c : Call) (leaves : List P.Leaf) (leaf : ℕ) (l : P.Leaf) (kind : LeafKind) (p : ItemList) → slice_get leaves leaf ≡ Some l → kind ≡ kind_so_far (leaf_kind_of l.kind) → items_from c kind p.count p.at ≡ list_for c (slice_get (leaves_of leaves) leaf) p
list_of_leaf c leaves leaf l kind p e k =
    ap (λ j. items_from c j p.count p.at) k ∙ ap (λ o. list_for c o p) (sym (leaf_found leaves leaf l e))

-- ---- a list noted for a leaf

pub list_inside : (c : Call) (ls : List Leaf) (leaf : ℕ) (p : ItemList) → is_some (list_for c (slice_get ls leaf) p) ≡ true → leaf < length ls
list_inside c [] leaf p h = absurd (cc)
list_inside c (l ∷ ls) zero p h = omega arith
list_inside c (l ∷ ls) (suc n) p h = let i = list_inside c ls n p h in omega (arith, i)

pub behind_some : (a : Option (List InitialItem)) (rest : Option Initial) → is_some (put_before a rest) ≡ true → is_some rest ≡ true
behind_some None rest h = absurd (cc)
behind_some (Some a) None h = h
behind_some (Some a) (Some rest) h = refl

first_replaced : (items old : Option (List InitialItem)) (rest : Option Initial) → is_some items ≡ true → is_some (put_before old rest) ≡ true → put_before items rest ≡ with_items 0 items (put_before old rest)
first_replaced None old rest h r = absurd (cc)
first_replaced (Some i) None rest h r = absurd (cc)
first_replaced (Some i) (Some o) None h r = absurd (cc)
first_replaced (Some i) (Some o) (Some rest) h r = refl

later_replaced : (n : ℕ) (items first : Option (List InitialItem)) (rest : Option Initial) → put_before first (with_items n items rest) ≡ with_items (suc n) items (put_before first rest)
later_replaced n None None rest = refl
later_replaced n None (Some f) None = refl
later_replaced n None (Some f) (Some rest) = refl
later_replaced n (Some i) None rest = refl
later_replaced n (Some i) (Some f) None = refl
later_replaced n (Some i) (Some f) (Some rest) = refl

pub set_read : (c : Call) (ls : List Leaf) (ps : List ItemList) (leaf : ℕ) (p : ItemList) → is_some (list_for c (slice_get ls leaf) p) ≡ true → is_some (lists_read c ls ps) ≡ true → lists_read c ls (slice_set ps leaf p) ≡ with_items leaf (list_for c (slice_get ls leaf) p) (lists_read c ls ps)
set_read c [] ps leaf p h r = absurd (cc)
set_read c (l ∷ ls) [] leaf p h r = absurd (cc)
set_read c (l ∷ ls) (q ∷ ps) zero p h r = first_replaced (items_from c l.kind p.count p.at) (items_from c l.kind q.count q.at) (lists_read c ls ps) h r
set_read c (l ∷ ls) (q ∷ ps) (suc n) p h r =
    ap (put_before (items_from c l.kind q.count q.at)) (set_read c ls ps n p h (behind_some (items_from c l.kind q.count q.at) (lists_read c ls ps) r))
    ∙ later_replaced n (list_for c (slice_get ls n) p) (items_from c l.kind q.count q.at) (lists_read c ls ps)

-- ---- lists from the last one on

part_is_data : (layout : Layout) (at n e k : ℕ) → is_data layout at n ≡ true → at ≤ e → e + k ≤ at + n → is_data layout e k ≡ true
part_is_data layout at n e k h low high = grind (arith, nat_tests)

pub entry_is_data : (layout : Layout) (at count left : ℕ) → is_data layout (at + 4) (8 * count) ≡ true → left < count → is_data layout (at + 4 + 8 * left) 8 ≡ true
entry_is_data layout at count left h less = part_is_data layout (at + 4) (8 * count) (at + 4 + 8 * left) 8 h (omega arith) (omega arith)

-- what stands for a leaf, where its values' distance from the start says
abbrev pub named_items : Call → List Leaf → (start at : ℕ) → Option (List InitialItem)
named_items c leaves start at = items_at c (slice_get leaves (word_at at c.memory)) (start + word_at (at + 4) c.memory)

abbrev pub named_by : Call → List Leaf → (start leaf distance : ℕ) → Option (List InitialItem)
named_by c leaves start leaf distance = items_at c (slice_get leaves leaf) (start + distance)

are_named : (c : Call) (ls : List Leaf) (start entry leaf distance : ℕ) → leaf ≡ word_at entry c.memory → distance ≡ word_at (entry + 4) c.memory → named_by c ls start leaf distance ≡ named_items c ls start entry
are_named c ls start entry leaf distance e f =
    ap (λ k. items_at c (slice_get ls k) (start + distance)) e ∙ ap (λ k. items_at c (slice_get ls (word_at entry c.memory)) (start + k)) f

pub next_noted : (c : Call) (ls : List Leaf) (start n m entry behind leaf distance : ℕ) (ps qs : List ItemList) (p : ItemList)
    → is_data c.layout entry 8 ≡ true → leaf ≡ word_at entry c.memory → distance ≡ word_at (entry + 4) c.memory
    → list_for c (slice_get ls leaf) p ≡ named_by c ls start leaf distance → is_some (named_by c ls start leaf distance) ≡ true
    → m ≡ suc n → behind ≡ entry + 8 → lists_read c ls ps ≡ leaves_from c ls start n behind → is_some (lists_read c ls ps) ≡ true → qs ≡ slice_set ps leaf p
    → lists_read c ls qs ≡ leaves_from c ls start m entry
next_noted c ls start n m entry behind leaf distance ps qs p d e f l s k b r t q =
    ap (lists_read c ls) q
    ∙ set_read c ls ps leaf p (ap is_some l ∙ s) t
    ∙ ap (λ o. with_items leaf o (lists_read c ls ps)) (l ∙ are_named c ls start entry leaf distance e f)
    ∙ ap (λ o. with_items leaf (named_items c ls start entry) o) (r ∙ ap (leaves_from c ls start n) b)
    ∙ ap (λ j. with_items j (named_items c ls start entry) (leaves_from c ls start n (entry + 8))) e
    ∙ ap (λ b. if b then with_items (word_at entry c.memory) (named_items c ls start entry) (leaves_from c ls start n (entry + 8)) else None) (sym d)
    ∙ ap (λ j. leaves_from c ls start j entry) (sym k)

some_set : (n : ℕ) (items : Option (List InitialItem)) (all : Option Initial) → is_some items ≡ true → is_some all ≡ true → is_some (with_items n items all) ≡ true
some_set n None all h r = absurd (cc)
some_set n (Some i) None h r = absurd (cc)
some_set n (Some i) (Some a) h r = refl

pub still_some : (c : Call) (ls : List Leaf) (start leaf distance : ℕ) (ps qs : List ItemList) (p : ItemList)
    → list_for c (slice_get ls leaf) p ≡ named_by c ls start leaf distance → is_some (named_by c ls start leaf distance) ≡ true
    → is_some (lists_read c ls ps) ≡ true → qs ≡ slice_set ps leaf p → is_some (lists_read c ls qs) ≡ true
still_some c ls start leaf distance ps qs p l s t q =
    let here = ap is_some l ∙ s in
    ap (λ xs. is_some (lists_read c ls xs)) q ∙ ap is_some (set_read c ls ps leaf p here t) ∙ some_set leaf (list_for c (slice_get ls leaf) p) (lists_read c ls ps) here t

-- ---- where one isn't right

none_set : (n : ℕ) (items : Option (List InitialItem)) (all : Option Initial) → is_some all ≡ false → is_some (with_items n items all) ≡ false
none_set n None all h = refl
none_set n (Some i) None h = refl
none_set n (Some i) (Some a) h = absurd (cc)

none_for : (n : ℕ) (items : Option (List InitialItem)) (all : Option Initial) → is_some items ≡ false → is_some (with_items n items all) ≡ false
none_for n None all h = refl
none_for n (Some i) all h = absurd (cc)

none_if : (b : Bool) (all : Option Initial) → is_some all ≡ false → is_some (if b then all else None) ≡ false
none_if true all h = h
none_if false all h = refl

none_before : (c : Call) (ls : List Leaf) (start k n at : ℕ) → is_some (leaves_from c ls start n (at + 8 * k)) ≡ false → is_some (leaves_from c ls start (k + n) at) ≡ false
none_before c ls start zero n at h =
    let none : 0 + n ≡ n = omega arith in
    let here : at ≡ at + 8 * 0 = omega arith in
    ap (λ j. is_some (leaves_from c ls start j at)) none ∙ ap (λ j. is_some (leaves_from c ls start n j)) here ∙ h
none_before c ls start (suc k) n at h =
    let more : suc k + n ≡ suc (k + n) = omega arith in
    let there : at + 8 + 8 * k ≡ at + 8 * suc k = omega arith in
    ap (λ j. is_some (leaves_from c ls start j at)) more
    ∙ none_if (is_data c.layout at 8) (with_items (word_at at c.memory) (named_items c ls start at) (leaves_from c ls start (k + n) (at + 8)))
    (none_set (word_at at c.memory) (named_items c ls start at) (leaves_from c ls start (k + n) (at + 8))
    (none_before c ls start k n (at + 8) (ap (λ j. is_some (leaves_from c ls start n j)) there ∙ h)))

pub none_named : (c : Call) (ls : List Leaf) (start at count left entry leaf distance : ℕ) → left < count → entry ≡ at + 8 * left → leaf ≡ word_at entry c.memory → distance ≡ word_at (entry + 4) c.memory
    → is_some (named_by c ls start leaf distance) ≡ false → is_some (leaves_from c ls start count at) ≡ false
none_named c ls start at count left entry leaf distance less e f g h =
    let n = count - suc left in
    let whole : count ≡ left + suc n = omega arith in
    let none = none_if (is_data c.layout entry 8) (with_items (word_at entry c.memory) (named_items c ls start entry) (leaves_from c ls start n (entry + 8)))
    (none_for (word_at entry c.memory) (named_items c ls start entry) (leaves_from c ls start n (entry + 8)) (ap is_some (sym (are_named c ls start entry leaf distance f g)) ∙ h)) in
    ap (λ j. is_some (leaves_from c ls start j at)) whole
    ∙ none_before c ls start left (suc n) at (ap (λ j. is_some (leaves_from c ls start (suc n) j)) (sym e) ∙ none)

cut_short : (c : Call) (ls : List Leaf) (start n at : ℕ) → is_data c.layout at 0 ≡ true → is_data c.layout at (8 * n) ≡ false → is_some (leaves_from c ls start n at) ≡ false
cut_short c ls start zero at h d = absurd (wrong (sym h ∙ d))
  where
    wrong : true ≡ false → ⊥
    wrong e = cc
cut_short c ls start (suc n) at h d = go (is_data c.layout at 8) refl (λ f r. cut_short c ls start n (at + 8) f r)
  where
    first_is_data : (layout : Layout) (at : ℕ) → is_data layout at 8 ≡ true → is_data layout (at + 8) 0 ≡ true
    first_is_data layout at f = grind (arith, nat_tests)

    rest_is_data : (layout : Layout) (at n : ℕ) → is_data layout at 8 ≡ true → is_data layout at (8 * suc n) ≡ false → is_data layout (at + 8) (8 * n) ≡ false
    rest_is_data layout at n e f = grind (arith, nat_tests)

    go : (b : Bool) → is_data c.layout at 8 ≡ b → (is_data c.layout (at + 8) 0 ≡ true → is_data c.layout (at + 8) (8 * n) ≡ false → is_some (leaves_from c ls start n (at + 8)) ≡ false)
        → is_some (if b then with_items (word_at at c.memory) (named_items c ls start at) (leaves_from c ls start n (at + 8)) else None) ≡ false
    go false e further = refl
    go true e further =
        none_set (word_at at c.memory) (named_items c ls start at) (leaves_from c ls start n (at + 8))
        (further (first_is_data c.layout at e) (rest_is_data c.layout at n e d))

pub list_cut : (c : Call) (ls : List Leaf) (at count : ℕ) → is_data c.layout at 4 ≡ true → count ≡ word_at at c.memory → is_data c.layout (at + 4) (8 * count) ≡ false → is_some (leaves_at c ls at) ≡ false
list_cut c ls at count h e d =
    let first : is_data c.layout (at + 4) 0 ≡ true = grind (arith, nat_tests) in
    ap (λ b. is_some (if b then leaves_from c ls at (word_at at c.memory) (at + 4) else None)) h
    ∙ ap (λ j. is_some (leaves_from c ls at j (at + 4))) (sym e)
    ∙ cut_short c ls at count (at + 4) first d

-- ---- the whole list

pub list_within : (layout : Layout) (at n : ℕ) → is_data layout at n ≡ true → at + n ≤ layout.end
list_within layout at n h = grind (arith, nat_tests)

pub list_wrong : (c : Call) (ls : List Leaf) (at count : ℕ) → is_data c.layout at 4 ≡ true → count ≡ word_at at c.memory → is_some (leaves_from c ls at count (at + 4)) ≡ false → is_some (leaves_at c ls at) ≡ false
list_wrong c ls at count d e h =
    ap (λ b. is_some (if b then leaves_from c ls at (word_at at c.memory) (at + 4) else None)) d ∙ ap (λ j. is_some (leaves_from c ls at j (at + 4))) (sym e) ∙ h

pub list_whole : (c : Call) (ls : List Leaf) (at count left : ℕ) (read : Option Initial) → is_data c.layout at 4 ≡ true → count ≡ word_at at c.memory → left ≡ 0 → read ≡ leaves_from c ls at (count - left) (at + 4 + 8 * left) → read ≡ leaves_at c ls at
list_whole c ls at count left read d e z h =
    let all : count - left ≡ count = omega arith in
    let here : at + 4 + 8 * left ≡ at + 4 = omega arith in
    h
    ∙ ap (λ j. leaves_from c ls at j (at + 4 + 8 * left)) (all ∙ e)
    ∙ ap (leaves_from c ls at (word_at at c.memory)) here
    ∙ ap (λ b. if b then leaves_from c ls at (word_at at c.memory) (at + 4) else None) (sym d)

-- ---- no lists

none_read : (c : Call) (ls : List Leaf) (p : ItemList) → p.count ≡ 0 → lists_read c ls (replicate (length ls) p) ≡ Some (none_initial ls)
none_read c [] p e = refl
none_read c (l ∷ ls) p e =
    ap (λ n. put_before (items_from c l.kind n p.at) (lists_read c ls (replicate (length ls) p))) e
    ∙ ap (put_before (Some [])) (none_read c ls p e)

pub leaves_even : (leaves : List P.Leaf) → length (leaves_of leaves) ≡ length leaves
leaves_even [] = refl
leaves_even (l ∷ ls) = ap suc (leaves_even ls)

pub no_lists : (c : Call) (leaves : List P.Leaf) (p : ItemList) (n : ℕ) → n ≡ length leaves → p.count ≡ 0 → lists_read c (leaves_of leaves) (replicate n p) ≡ Some (none_initial (leaves_of leaves))
no_lists c leaves p n e z =
    ap (λ k. lists_read c (leaves_of leaves) (replicate k p)) (e ∙ sym (leaves_even leaves)) ∙ none_read c (leaves_of leaves) p z
