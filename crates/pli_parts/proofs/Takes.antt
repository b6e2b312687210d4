-- What is taken of a part, leaf by leaf.
use Rattle.std.proofs.Common.{◌≡◌, ℕ, zero, suc, ◌+◌, ◌<◌, ◌≤◌, get_or, ℤ, true, List, [], ◌∷◌, ◌++◌, length, map}
use Rattle.std.proofs.Common.{refl, sym, ap, ap₂, subst, ◌∙◌, arith}
use Rattle.std.specs.Prelude.{◌&&◌}
use Rattle.std.specs.List.{list_all, range_with_len}
use Rattle.pli_typing.specs.Signatures.{Bounds, Leaf, LeafKind, element_count, leaf_bytes}
use Rattle.pli_types.specs.View.{pair_of}
use Rattle.pli_meaning.specs.Contents.{Shape, is_within}
use Rattle.pli_meaning.specs.Evaluating.{leaf_at}
use Rattle.pli_meaning.specs.Placing.{elements_of}
use Rattle.pli_meaning.specs.Streaming.{kind_holds}
use Rattle.pli_serving.specs.Aggregates.{Aggregate, element_at}
use Rattle.pli_serving.specs.AggregateServices.{goes_into, kind_of_nth, taken_bytes, taken_leaf}
use Rattle.pli_serving.specs.Finding.{Call, Found}
use Rattle.pli_serving.specs.ServiceState as S
use Rattle.pli_serving.specs.Values.{value_at}
use Rattle.pli_signatures.specs.View.{kind_of}
use Rattle.pli_aggregates.specs.Elements.{AreWithin}
use Rattle.pli_aggregates.specs.Standing.{CountsAs}
use Rattle.pli_aggregates.specs.Parts.{subscripts_left}
use Rattle.pli_entries.specs.Kept.{elements_in, leaf_of}
use Rattle.pli_parts.specs.Buffers.{IsGathered}
use Rattle.pli_parts.specs.Found.{designated_from}
use Rattle.pli_parts.specs.Leaves.{ArePartLeaves, AreReadable, IsPartLeaf, IsReadable, addresses_of, has_leaf}
use Rattle.pli_parts.specs.Taking.{have_values, leaf_taken}
use Rattle.pli_parts.specs.declared.leaf.PartLeaf.{PartLeaf}
use Rattle.pli_entries.specs.declared.taken.TakenLeaf.{TakenLeaf}
use Rattle.pli_parts.proofs.Elements.{gathered_elements}
use Rattle.pli_aggregates.proofs.Lists.{first_of_both, map_map, map_where, second_of_both}
use Rattle.pli_parts.proofs.Seeing.{leaves_alike, seen_so}

abbrev taken_by : LeafKind → List Bounds → List (List ℕ) → S.TakenLeaf
taken_by kind bounds elements = record { kind = kind; bounds = bounds; elements = elements }

-- the values of a leaf, as they are seen
values_seen : (c : Call) (a : Aggregate) (f : Found) (first count n : ℕ) (is : List ℤ) → has_leaf a.shape a.extent f is (first + n) ≡ true
    → map (λ js. taken_bytes (leaf_at a.shape a.extent (first + n)).kind (elements_of (designated_from c a f first count is) n js)) (subscripts_left (leaf_at a.shape a.extent (first + n)) is)
    ≡ map (λ js. taken_bytes (leaf_at a.shape a.extent (first + n)).kind (value_at (leaf_at a.shape a.extent (first + n)).kind (element_at a.shape f (first + n, is ++ js)) c.memory)) (subscripts_left (leaf_at a.shape a.extent (first + n)) is)
values_seen c a f first count n is h =
    let leaf = first + n in
    let had : Leaf = leaf_at a.shape f.extent leaf in
    let k : Leaf = leaf_at a.shape a.extent leaf in
    map_where (λ js. kind_holds had.kind k.kind && is_within had.bounds (is ++ js)) _ _ (subscripts_left k is) h
    (λ js t. ap (taken_bytes k.kind) (seen_so had.kind k.kind (element_at a.shape f (leaf, is ++ js)) c.memory (leaves_alike a.shape f.extent a.extent leaf) (first_of_both (kind_holds had.kind k.kind) (is_within had.bounds (is ++ js)) t)))

pub taken_so : (c : Call) (a : Aggregate) (f : Found) (end first count n : ℕ) (is : List ℤ) (l : PartLeaf) → IsPartLeaf a.shape a.extent f is end (first + n) l → leaf_taken c.memory l ≡ taken_leaf (designated_from c a f first count is) n
taken_so c a f end first count n is l i =
    let leaf = first + n in
    let k : Leaf = leaf_at a.shape a.extent leaf in
    let elements = λ (kind : LeafKind). map (λ b. taken_bytes kind (value_at kind b c.memory)) (addresses_of l) in
    let values : elements k.kind ≡ map (λ js. taken_bytes k.kind (elements_of (designated_from c a f first count is) n js)) (subscripts_left k is) =
    ap (map (λ b. taken_bytes k.kind (value_at k.kind b c.memory))) i.stand
    ∙ (map_map (λ b. taken_bytes k.kind (value_at k.kind b c.memory)) (λ js. element_at a.shape f (leaf, is ++ js)) (subscripts_left k is)
    ∙ sym (values_seen c a f first count n is (second_of_both _ (has_leaf a.shape a.extent f is leaf) i.there))) in
    ap (λ kind. taken_by kind (map pair_of l.bounds.items) (elements kind)) i.kind
    ∙ ap₂ (λ bounds es. taken_by k.kind bounds es) i.bounds values

next_place : (first n : ℕ) → suc (first + n) ≡ first + (n + 1)
next_place first n = omega arith

pub all_taken : (c : Call) (a : Aggregate) (f : Found) (end first count n : ℕ) (is : List ℤ) (ls : List PartLeaf) → ArePartLeaves a.shape a.extent f is end (first + n) ls
    → map (leaf_taken c.memory) ls ≡ map (taken_leaf (designated_from c a f first count is)) (range_with_len n (length ls))
all_taken c a f end first count n is [] p = refl
all_taken c a f end first count n is (l ∷ ls) p =
    ap₂ (λ t ts. t ∷ ts) (taken_so c a f end first count n is l p.0)
    (all_taken c a f end first count (n + 1) is ls (subst (λ leaf. ArePartLeaves a.shape a.extent f is end leaf ls) (next_place first n) p.1))

pub all_have_values : (c : Call) (a : Aggregate) (f : Found) (end first count n : ℕ) (is : List ℤ) (ls : List PartLeaf) → ArePartLeaves a.shape a.extent f is end (first + n) ls
    → have_values ls ≡ list_all (λ n. goes_into (kind_of_nth (designated_from c a f first count is) n) (kind_of_nth (designated_from c a f first count is) n)) (range_with_len n (length ls))
all_have_values c a f end first count n is [] p = refl
all_have_values c a f end first count n is (l ∷ ls) p =
    ap₂ (λ t ts. t && ts) (ap (λ kind. goes_into kind kind) p.0.kind)
    (all_have_values c a f end first count (n + 1) is ls (subst (λ leaf. ArePartLeaves a.shape a.extent f is end leaf ls) (next_place first n) p.1))

-- ---- as code holds it

pub leaf_gathered : (l : PartLeaf) (t : TakenLeaf) (m : List ℕ) → t.kind ≡ l.kind → t.bounds.items ≡ l.bounds.items
    → IsGathered (kind_of l.kind) m l.run (element_count (map pair_of l.bounds.items)) t.bytes.items
    → leaf_of t ≡ leaf_taken m l
leaf_gathered l t m k b g =
    let kind = kind_of l.kind in
    let bounds = map pair_of l.bounds.items in
    ap₂ (λ x bs. taken_by (kind_of x) (map pair_of bs) (elements_in (kind_of x) (map pair_of bs) t.bytes.items)) k b
    ∙ ap (taken_by kind bounds) (gathered_elements kind bounds m t.bytes.items l.run g)

pub readable_at : (end : ℕ) (ls : List PartLeaf) (n : ℕ) (l : PartLeaf) → AreReadable end ls → n < length ls → l ≡ get_or ls n l → IsReadable end l
readable_at end [] n l r h e = absurd (omega (arith, h))
readable_at end (k ∷ ls) zero l r h e = subst (IsReadable end) (sym e) r.0
readable_at end (k ∷ ls) (suc n) l r h e = readable_at end ls n l r.1 (omega (arith, h)) e

-- ---- leaves that were found are readable

within_as : (bytes end other most : ℕ) (addresses : List ℕ) → bytes ≡ other → end ≤ most → AreWithin bytes end addresses → AreWithin other most addresses
within_as bytes end other most [] e h w = tt
within_as bytes end other most (a ∷ as') e h w = let first = w.0 in (omega (arith, e, h, first), within_as bytes end other most as' e h w.1)

readable : (s : Shape) (z : ℤ) (f : Found) (given : List ℤ) (end leaf most : ℕ) (l : PartLeaf) → end ≤ most → IsPartLeaf s z f given end leaf l → IsReadable most l
readable s z f given end leaf most l h i =
    record {
      within = within_as (leaf_bytes (leaf_at s z leaf).kind) end (leaf_bytes (kind_of l.kind)) most (addresses_of l)
          (ap leaf_bytes (sym i.kind)) h i.within;
      counted = subst (λ kind. CountsAs kind l.run (element_count (map pair_of l.bounds.items))) (sym i.kind) i.counted;
    }

pub all_readable : (s : Shape) (z : ℤ) (f : Found) (given : List ℤ) (end leaf most : ℕ) (ls : List PartLeaf) → end ≤ most → ArePartLeaves s z f given end leaf ls → AreReadable most ls
all_readable s z f given end leaf most [] h p = tt
all_readable s z f given end leaf most (l ∷ ls) h p = (readable s z f given end leaf most l h p.0, all_readable s z f given end (suc leaf) most ls h p.1)
