-- Nodes as they are read, one by one, and the definitions' items.
use Rattle.std.proofs.Common.{◌≡◌, ℕ, zero, suc, ◌+◌, ◌-◌, ◌*◌, ◌≤◌, ◌<◌, Bool, true, false, ◌&&◌, List, [], ◌∷◌, ◌++◌, length, take, drop, Option, Some, None, option_map, if◌then◌else◌, refl, sym, ap, subst, ◌∙◌, append_assoc, arith}
use Rattle.std.specs.Prelude.{nat_le}
use Rattle.std.proofs.lemmas.Bool.{le-leb, lt-leb}
use Rattle.std.proofs.lemmas.List.{append-nil, length-append, take_at}
use Rattle.pli_language.specs.Formats.{is_times}
use Rattle.pli_meaning.specs.Streaming.{FormatItem, DataFormat, ControlFormat, FixedItem, TextItem, SpaceItem, SkipItem, ColumnItem, repeated}
use Rattle.pli_edit.specs.declared.format.Node.{Node}
use Rattle.pli_edit.specs.declared.format.Node.TheVariants as N
use Rattle.pli_edit.specs.FormatPlaces as places
use Rattle.pli_edit.specs.FormatPlaces.{items_from, items_of}
use Rattle.pli_serving.specs.Bytes.{is_data, word_at}
use Rattle.pli_serving.specs.Finding.{Call}
use Rattle.pli_serving.specs.FormatLists.{ReadItem, ReadOne, ReadList, ReadNothing, ReadItems, item_of, item_at, read_if, items_at, item_then, items_before, list_then, all_items, formats_at}
use Rattle.pli_serving.specs.Templates.{put_before}
use Rattle.pli_formats.specs.Reading.{format_of, node_of, node_at, items_in, node_then, nodes_at, joined}
use Rattle.pli_formats.specs.Sizes.{with_sizes}
use Rattle.pli_formats.proofs.Within.{even}
use Rattle.pli_formats.proofs.Forests.{Forest, no_items, item_before, list_before}

-- ---- behind nodes that were read

joined_none : (o : Option (List Node)) → joined [] o ≡ o
joined_none None = refl
joined_none (Some ns) = refl

joined_more : (ns : List Node) (n : Node) (o : Option (List Node)) → joined (ns ++ n ∷ []) o ≡ joined ns (put_before (Some n) o)
joined_more ns n None = refl
joined_more ns n (Some more) = ap (λ l. Some l) (append_assoc ns (n ∷ []) more)

-- ---- no more than memory holds

-- what doesn't lie before the end isn't an item
item_past : (c : Call) (at : ℕ) → c.layout.end < at + 12 → item_at c at ≡ ReadNothing
item_past c at h = ap (λ b. read_if b (item_of (word_at at c.memory) (word_at (at + 8) c.memory))) (no (nat_le c.layout.code_bytes at) (nat_le (at + 12) c.layout.end) (is_times (word_at (at + 4) c.memory)) (lt-leb (at + 12) c.layout.end h))
  where
    no : (a b t : Bool) → b ≡ false → ((a && b) && t) ≡ false
    no false b t e = refl
    no true b t e = ap (λ x. x && t) e

node_past : (c : Call) (at : ℕ) → c.layout.end < at + 12 → node_at c at ≡ None
node_past c at h = ap (λ i. node_of i (word_at (at + 4) c.memory)) (item_past c at h)

-- any number will do that is no less than what lies behind the address
pub enough : (m n : ℕ) (c : Call) (k at : ℕ) → c.layout.end ≤ at + m → c.layout.end ≤ at + n → nodes_at m c k at ≡ nodes_at n c k at
enough m n c zero at h g = refl
enough zero zero c (suc k) at h g = refl
enough zero (suc n) c (suc k) at h g = sym (ap (λ o. node_then o k (at + 12) (λ count behind. nodes_at n c count behind)) (node_past c at (omega (arith, h))))
enough (suc m) zero c (suc k) at h g = ap (λ o. node_then o k (at + 12) (λ count behind. nodes_at m c count behind)) (node_past c at (omega (arith, g)))
enough (suc m) (suc n) c (suc k) at h g = go (node_at c at) (λ j. enough m n c j (at + 12) (omega (arith, h)) (omega (arith, g)))
  where
    go : (o : Option Node) → ((j : ℕ) → nodes_at m c j (at + 12) ≡ nodes_at n c j (at + 12)) → node_then o k (at + 12) (λ count behind. nodes_at m c count behind) ≡ node_then o k (at + 12) (λ count behind. nodes_at n c count behind)
    go None same = refl
    go (Some i) same = ap (put_before (Some i)) (same (items_in i + k))

-- ---- one node more

next_node : (c : Call) (left at : ℕ) (n : Node) → node_at c at ≡ Some n → 0 < left → at + 12 ≤ c.layout.end → nodes_at c.layout.end c left at ≡ put_before (Some n) (nodes_at c.layout.end c (left - 1 + items_in n) (at + 12))
next_node c zero at n e some h = absurd (omega arith)
next_node c (suc left) at n e some h = step c.layout.end refl
  where
    step : (m : ℕ) → m ≡ c.layout.end → nodes_at m c (suc left) at ≡ put_before (Some n) (nodes_at c.layout.end c (suc left - 1 + items_in n) (at + 12))
    step zero f = absurd (omega (arith, f, h))
    step (suc m) f =
        let order : items_in n + left ≡ suc left - 1 + items_in n = omega arith in
        ap (λ o. node_then o left (at + 12) (λ count behind. nodes_at m c count behind)) e
        ∙ (ap (λ k. put_before (Some n) (nodes_at m c k (at + 12))) order
        ∙ ap (put_before (Some n)) (enough m c.layout.end c (suc left - 1 + items_in n) (at + 12) (omega (arith, f, h)) (omega arith)))

pub node_read : (c : Call) (ns more : List Node) (n : Node) (left next at : ℕ) (all : Option (List Node)) → node_at c at ≡ Some n → 0 < left → at + 12 ≤ c.layout.end → next ≡ left - 1 + items_in n → more ≡ ns ++ n ∷ [] → joined ns (nodes_at c.layout.end c left at) ≡ all → joined more (nodes_at c.layout.end c next (at + 12)) ≡ all
node_read c ns more n left next at all e some h f g all_so_far =
    ap (λ l. joined l (nodes_at c.layout.end c next (at + 12))) g
    ∙ (joined_more ns n (nodes_at c.layout.end c next (at + 12))
    ∙ (ap (λ k. joined ns (put_before (Some n) (nodes_at c.layout.end c k (at + 12)))) f
    ∙ (sym (ap (joined ns) (next_node c left at n e some h)) ∙ all_so_far)))

-- ---- some items behind others

-- nodes that were read, and so many more behind them
abbrev then_read : (m : ℕ) → Call → (k at : ℕ) → Option (List Node) → Option (List Node)
then_read m c k at None = None
then_read m c k at (Some ns) = joined ns (nodes_at m c k (at + 12 * length ns))

one_behind : (n : Node) (m : ℕ) (c : Call) (k at : ℕ) (o : Option (List Node)) → put_before (Some n) (then_read m c k (at + 12) o) ≡ then_read m c k at (put_before (Some n) o)
one_behind n m c k at None = refl
one_behind n m c k at (Some ns) = go (nodes_at m c k (at + 12 + 12 * length ns)) ∙ ap (λ b. joined (n ∷ ns) (nodes_at m c k b)) behind
  where
    go : (o : Option (List Node)) → put_before (Some n) (joined ns o) ≡ joined (n ∷ ns) o
    go None = refl
    go (Some more) = refl

    behind : at + 12 + 12 * length ns ≡ at + 12 * suc (length ns)
    behind = omega arith

less_behind : (n : Node) (m : ℕ) (c : Call) (k at : ℕ) (o : Option (List Node)) → c.layout.end ≤ at + suc m → then_read m c k at (put_before (Some n) o) ≡ then_read (suc m) c k at (put_before (Some n) o)
less_behind n m c k at None h = refl
less_behind n m c k at (Some ns) h = ap (joined (n ∷ ns)) (enough m (suc m) c k (at + 12 * suc (length ns)) (omega (arith, h)) (omega (arith, h)))

in_turn : (m : ℕ) (c : Call) (j k at : ℕ) → c.layout.end ≤ at + m → nodes_at m c (j + k) at ≡ then_read m c k at (nodes_at m c j at)
in_turn m c zero k at h =
    let none : 0 + k ≡ k = omega arith in
    let here : at ≡ at + 12 * 0 = omega arith in
    ap (λ i. nodes_at m c i at) none ∙ (ap (nodes_at m c k) here ∙ sym (joined_none (nodes_at m c k (at + 12 * 0))))
in_turn zero c (suc j) k at h = let more : suc j + k ≡ suc (j + k) = omega arith in ap (λ i. nodes_at 0 c i at) more
in_turn (suc m) c (suc j) k at h =
    let more : suc j + k ≡ suc (j + k) = omega arith in
    ap (λ i. nodes_at (suc m) c i at) more ∙ go (node_at c at) (λ i. in_turn m c i k (at + 12) (omega (arith, h)))
  where
    go : (o : Option Node) → ((i : ℕ) → nodes_at m c (i + k) (at + 12) ≡ then_read m c k (at + 12) (nodes_at m c i (at + 12)))
        → node_then o (j + k) (at + 12) (λ count behind. nodes_at m c count behind) ≡ then_read (suc m) c k at (node_then o j (at + 12) (λ count behind. nodes_at m c count behind))
    go None first = refl
    go (Some n) first =
        let group : items_in n + (j + k) ≡ items_in n + j + k = omega arith in
        ap (λ i. put_before (Some n) (nodes_at m c i (at + 12))) group
        ∙ (ap (put_before (Some n)) (first (items_in n + j))
        ∙ (one_behind n m c k at (nodes_at m c (items_in n + j) (at + 12))
        ∙ less_behind n m c k at (nodes_at m c (items_in n + j) (at + 12)) h))

-- ---- the items that nodes stand for

record Reads (k at : ℕ) (ns : List Node) (r : Option ReadItems) : Type 0 where
  pub items : List FormatItem
  pub is : r ≡ Some (record { items = items; behind = at + 12 * length ns })
  pub forest : Forest k ns items

abbrev IsReading : (k at : ℕ) → Option (List Node) → Option ReadItems → Type 0
IsReading k at None r = r ≡ None
IsReading k at (Some ns) r = Reads k at ns r

same_item : (f : FormatItem) → places.item_of (format_of f) ≡ f
same_item (DataFormat (FixedItem width)) = refl
same_item (DataFormat (TextItem width)) = refl
same_item (ControlFormat (SpaceItem n)) = refl
same_item (ControlFormat (SkipItem n)) = refl
same_item (ControlFormat (ColumnItem n)) = refl

item_read : (k at times : ℕ) (f : FormatItem) (o : Option (List Node)) (r : Option ReadItems) → IsReading k (at + 12) o r → IsReading (suc k) at (put_before (Some (N.Item times (format_of f))) o) (items_before times (f ∷ []) r)
item_read k at times f None r h = ap (items_before times (f ∷ [])) h
item_read k at times f (Some ns) r h =
    let behind : at + 12 + 12 * length ns ≡ at + 12 * suc (length ns) = omega arith in
    record {
      items = repeated times (f ∷ []) ++ h.items;
      is = ap (items_before times (f ∷ [])) h.is ∙ ap (λ b. Some (record { items = repeated times (f ∷ []) ++ h.items; behind = b })) behind;
      forest = subst (λ g. Forest (suc k) (N.Item times (format_of f) ∷ ns) (repeated times (g ∷ []) ++ h.items)) (same_item f) (item_before k ns h.items times (format_of f) h.forest);
    }

rest_read : (q k at times : ℕ) (a : List Node) (is : List FormatItem) (o : Option (List Node)) (r : Option ReadItems) → Forest q a is → IsReading k (at + 12 + 12 * length a) o r → IsReading (suc k) at (put_before (Some (N.List times q)) (joined a o)) (items_before times is r)
rest_read q k at times a is None r first h = ap (items_before times is) h
rest_read q k at times a is (Some b) r first h =
    let l = length-append a b in
    let behind : at + 12 + 12 * length a + 12 * length b ≡ at + 12 * suc (length (a ++ b)) = omega (arith, l) in
    record {
      items = repeated times is ++ h.items;
      is = ap (items_before times is) h.is ∙ ap (λ n. Some (record { items = repeated times is ++ h.items; behind = n })) behind;
      forest = list_before q k times a b is h.items first h.forest;
    }

list_read : (m : ℕ) (c : Call) (q k at times : ℕ) (o : Option (List Node)) (r : Option ReadItems) → IsReading q (at + 12) o r → ((b : ℕ) → at + 12 ≤ b → IsReading k b (nodes_at m c k b) (items_at m c k b))
    → IsReading (suc k) at (put_before (Some (N.List times q)) (then_read m c k (at + 12) o)) (list_then times r k (λ count behind. items_at m c count behind))
list_read m c q k at times None r h rest = ap (λ l. list_then times l k (λ count behind. items_at m c count behind)) h
list_read m c q k at times (Some a) r h rest =
    subst
    (λ l. IsReading (suc k) at (put_before (Some (N.List times q)) (joined a (nodes_at m c k (at + 12 + 12 * length a)))) (list_then times l k (λ count behind. items_at m c count behind)))
    (sym h.is)
    (rest_read q k at times a h.items (nodes_at m c k (at + 12 + 12 * length a)) (items_at m c k (at + 12 + 12 * length a)) h.forest (rest (at + 12 + 12 * length a) (omega arith)))

reading : (m : ℕ) (c : Call) (k at : ℕ) → c.layout.end ≤ at + m → IsReading k at (nodes_at m c k at) (items_at m c k at)
reading m c zero at h =
    let here : at ≡ at + 12 * 0 = omega arith in
    record { items = []; is = ap (λ b. Some (record { items = []; behind = b })) here; forest = no_items }
reading zero c (suc k) at h = refl
reading (suc m) c (suc k) at h = go (item_at c at) (λ j b more. reading m c j b (omega (arith, h, more))) (λ q. in_turn m c q k (at + 12) (omega (arith, h)))
  where
    go : (i : ReadItem) → ((j b : ℕ) → at + 12 ≤ b → IsReading j b (nodes_at m c j b) (items_at m c j b))
        → ((q : ℕ) → nodes_at m c (q + k) (at + 12) ≡ then_read m c k (at + 12) (nodes_at m c q (at + 12)))
        → IsReading (suc k) at (node_then (node_of i (word_at (at + 4) c.memory)) k (at + 12) (λ count behind. nodes_at m c count behind)) (item_then i (word_at (at + 4) c.memory) (at + 12) k (λ count behind. items_at m c count behind))
    go ReadNothing first turn = refl
    go (ReadOne f) first turn =
        let none : k ≡ 0 + k = omega arith in
        subst
        (λ j. IsReading (suc k) at (put_before (Some (N.Item (word_at (at + 4) c.memory) (format_of f))) (nodes_at m c j (at + 12))) (items_before (word_at (at + 4) c.memory) (f ∷ []) (items_at m c k (at + 12))))
        none
        (item_read k at (word_at (at + 4) c.memory) f (nodes_at m c k (at + 12)) (items_at m c k (at + 12)) (first k (at + 12) (omega arith)))
    go (ReadList q) first turn =
        subst
        (λ o. IsReading (suc k) at (put_before (Some (N.List (word_at (at + 4) c.memory) q)) o) (list_then (word_at (at + 4) c.memory) (items_at m c q (at + 12)) k (λ count behind. items_at m c count behind)))
        (sym (turn q))
        (list_read m c q k at (word_at (at + 4) c.memory) (nodes_at m c q (at + 12)) (items_at m c q (at + 12)) (first q (at + 12) (omega arith)) (λ b more. first k b more))

-- ---- whole lists

items_shown : (k : ℕ) (ns : List Node) (items : List FormatItem) → Forest k ns items → items_of (with_sizes ns) ≡ items
items_shown k ns items f =
    let sizes : with_sizes ns ≡ f.final = ap with_sizes (sym (append-nil ns)) ∙ (f.sizes [] ∙ append-nil f.final) in
    let none : length f.final ≡ length f.final + 0 = omega arith in
    ap items_of sizes
    ∙ (ap (λ l. items_from l 0 (length f.final)) (sym (append-nil f.final))
    ∙ (ap (items_from (f.final ++ []) 0) none ∙ (f.shown [] 0 ∙ append-nil items)))

pub list_shown : (c : Call) (k at : ℕ) → option_map (λ ns. items_of (with_sizes ns)) (nodes_at c.layout.end c k at) ≡ all_items (items_at c.layout.end c k at)
list_shown c k at = go (nodes_at c.layout.end c k at) (items_at c.layout.end c k at) (reading c.layout.end c k at (omega arith))
  where
    go : (o : Option (List Node)) (r : Option ReadItems) → IsReading k at o r → option_map (λ ns. items_of (with_sizes ns)) o ≡ all_items r
    go None r h = sym (ap all_items h)
    go (Some ns) r h = ap (λ l. Some l) (items_shown k ns h.items h.forest) ∙ sym (ap all_items h.is)

pub list_at : (c : Call) (at count : ℕ) (o : Option (List Node)) → is_data c.layout at 4 ≡ true → count ≡ word_at at c.memory → (count ≡ 0 → ⊥) → o ≡ nodes_at c.layout.end c count (at + 4) → option_map (λ ns. items_of (with_sizes ns)) o ≡ formats_at c at
list_at c at count o d w some e =
    ap (option_map (λ ns. items_of (with_sizes ns))) e
    ∙ (list_shown c count (at + 4)
    ∙ (ap (λ k. all_items (items_at c.layout.end c k (at + 4))) w
    ∙ sym (ap (λ b. if b then all_items (items_at c.layout.end c (word_at at c.memory) (at + 4)) else None) right)))
  where
    least : (k : ℕ) → (k ≡ 0 → ⊥) → nat_le 1 k ≡ true
    least zero s = absurd (s refl)
    least (suc k) s = le-leb 1 (suc k) (omega arith)

    right : (is_data c.layout at 4 && nat_le 1 (word_at at c.memory)) ≡ true
    right = ap (λ b. b && nat_le 1 (word_at at c.memory)) d ∙ subst (λ k. nat_le 1 k ≡ true) w (least count some)

pub put_back : (sizes old nodes : List Node) (n : ℕ) → sizes ≡ with_sizes old → old ≡ nodes → n ≡ length nodes → take n (sizes ++ drop (length sizes) nodes) ≡ with_sizes nodes
put_back sizes old nodes n e f g =
    let same : sizes ≡ with_sizes nodes = e ∙ ap with_sizes f in
    let long : length sizes ≡ n = ap length same ∙ (even nodes ∙ sym g) in
    take_at sizes (drop (length sizes) nodes) n long ∙ same
