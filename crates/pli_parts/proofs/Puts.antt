-- What is put into a part, leaf by leaf.
use Rattle.std.proofs.Common.{◌≡◌, ℕ, zero, suc, ◌+◌, ◌*◌, ◌<◌, ◌≤◌, ℤ, Bool, true, false, List, [], ◌∷◌, ◌++◌}
use Rattle.std.proofs.Common.{length, take, drop, get_or, map, refl, sym, ap, ap₂, subst, ◌∙◌, arith, zip, min, ◌≢◌}
use Rattle.std.proofs.Common.{mul-le-mul_left}
use Rattle.std.specs.Prelude.{◌&&◌, ◌||◌, ◌==◌, nat_le, nat_lt, slice_get, unwrap_or}
use Rattle.std.specs.List.{range_with_len}
use Rattle.std.proofs.lemmas.Bool.Decides.{nat_tests}
use Rattle.std.proofs.lemmas.List.{drop_all, drop_more}
use Rattle.pli_typing.specs.Signatures.{Bounds, Leaf, LeafKind, leaf_bytes}
use Rattle.pli_meaning.specs.Contents.{Shape, element_place, leaves_with, same_bounds}
use Rattle.pli_meaning.specs.Evaluating.{leaf_at}
use Rattle.pli_meaning.specs.Placing.{all_same_bounds, bounds_left}
use Rattle.pli_meaning.specs.Unreachable.{unreachable_leaf}
use Rattle.pli_serving.specs.Aggregates.{Aggregate, PartFound, element_at, leaf_elements}
use Rattle.pli_serving.specs.AggregateServices.{Store, goes_into, leaves_go_into, stored_in, stores_of, taken_bytes}
use Rattle.pli_serving.specs.AggregateServices.{taken_value}
use Rattle.pli_serving.specs.Bytes.{with_bytes}
use Rattle.pli_serving.specs.Finding.{Call, Found}
use Rattle.pli_serving.specs.Stored.{kept_bytes}
use Rattle.pli_serving.specs.Values.{all_subscripts, element_size, value_at}
use Rattle.pli_signatures.specs.View.{kind_of}
use Rattle.pli_aggregates.specs.Parts.{subscripts_left}
use Rattle.pli_entries.specs.Kept.{elements_in, leaf_of}
use Rattle.pli_parts.specs.Found.{designated_from}
use Rattle.pli_parts.specs.Leaves.{ArePartLeaves, IsPartLeaf, has_leaf}
use Rattle.pli_values.proofs.Parts.{with_none}
use Rattle.pli_aggregates.proofs.Running.{no_bytes}
use Rattle.pli_parts.specs.Leaves.{addresses_of}
use Rattle.pli_parts.specs.Putting.{are_whole, bounds_of, bounds_taken, elements_put, go_into, is_whole, leaf_put, leaves_put, value_again}
use Rattle.pli_parts.specs.declared.leaf.PartLeaf.{PartLeaf}
use Rattle.pli_entries.specs.declared.taken.TakenLeaf.{TakenLeaf}
use Rattle.pli_aggregates.proofs.Bounding.{equal_bounds}
use Rattle.pli_aggregates.proofs.Lists.{first_of_both, map_map, not_second, second_of_both}
use Rattle.pli_aggregates.proofs.Places.{as_many_subscripts, by_place}

next_place : (first n : ℕ) → suc (first + n) ≡ first + suc n
next_place first n = omega arith

-- ---- bounds

leaf_below : (leaf many : ℕ) (b : Bool) → (nat_lt leaf many && b) ≡ true → leaf < many
leaf_below leaf many b e = let first = first_of_both (nat_lt leaf many) b e in grind (arith, nat_tests)

got_or : (ls : List Leaf) (n : ℕ) (d : Leaf) → unwrap_or (slice_get ls n) d ≡ get_or ls n d
got_or [] n d = refl
got_or (l ∷ ls) zero d = refl
got_or (l ∷ ls) (suc n) d = got_or ls n d

left_of : (ls : List Leaf) (n : ℕ) (d : Leaf) → n < length ls → drop n ls ≡ unwrap_or (slice_get ls n) d ∷ drop (suc n) ls
left_of [] n d h = absurd (omega (arith, h))
left_of (l ∷ ls) zero d h = refl
left_of (l ∷ ls) (suc n) d h = left_of ls n d (omega (arith, h))

-- the bounds that are left of leaves from one on
pub bounds_known : (s : Shape) (z : ℤ) (f : Found) (given : List ℤ) (end leaf : ℕ) (ls : List PartLeaf) → length (leaves_with z s) ≡ length s.signature.leaves → ArePartLeaves s z f given end leaf ls
    → bounds_left (length given) (take (length ls) (drop leaf (leaves_with z s))) ≡ map bounds_of ls
bounds_known s z f given end leaf [] many p = refl
bounds_known s z f given end leaf (l ∷ ls) many p =
    let there = leaf_below leaf (length s.signature.leaves) (has_leaf s z f given leaf) p.0.there in
    ap (λ k. bounds_left (length given) (take (suc (length ls)) k)) (left_of (leaves_with z s) leaf unreachable_leaf (omega (arith, many, there)))
    ∙ ap₂ (λ b bs. b ∷ bs) (sym p.0.bounds) (bounds_known s z f given end (suc leaf) ls many p.1)

-- ---- kinds

pub kinds_known : (c : Call) (a : Aggregate) (f : Found) (end first count n : ℕ) (is : List ℤ) (ls : List PartLeaf) (ts : List TakenLeaf) → ArePartLeaves a.shape a.extent f is end (first + n) ls → length ls ≡ length ts
    → leaves_go_into (designated_from c a f first count is) n (map leaf_of ts) ≡ go_into ls ts
kinds_known c a f end first count n is [] [] p e = refl
kinds_known c a f end first count n is [] (t ∷ ts) p e = absurd (omega (arith, e))
kinds_known c a f end first count n is (l ∷ ls) [] p e = absurd (omega (arith, e))
kinds_known c a f end first count n is (l ∷ ls) (t ∷ ts) p e =
    ap₂ (λ x y. x && y) (ap (goes_into (kind_of t.kind)) (sym p.0.kind))
    (kinds_known c a f end first count (suc n) is ls ts (subst (λ leaf. ArePartLeaves a.shape a.extent f is end leaf ls) (next_place first n) p.1) (omega (arith, e)))

-- ---- the same bounds

pub as_many_bounds : (xs ys : List (List Bounds)) → all_same_bounds xs ys ≡ true → length xs ≡ length ys
as_many_bounds [] [] e = refl
as_many_bounds [] (y ∷ ys) e = cc
as_many_bounds (x ∷ xs) [] e = cc
as_many_bounds (x ∷ xs) (y ∷ ys) e = ap suc (as_many_bounds xs ys (second_of_both (same_bounds x y) (all_same_bounds xs ys) e))

-- ---- stores

stored_append : (p : PartFound) (xs ys : List Store) (m : List ℕ) → stored_in p (xs ++ ys) m ≡ stored_in p ys (stored_in p xs m)
stored_append p [] ys m = refl
stored_append p (x ∷ xs) ys m = stored_append p xs ys _

-- one leaf's elements, with values by their places
stored_row : (p : PartFound) (leaf : ℕ) (given : List ℤ) (target source : LeafKind) (bytes : List ℕ) (n : ℕ) (subscripts : List (List ℤ)) (m : List ℕ) → (leaf_at p.part.generation.shape p.part.extent leaf).kind ≡ target
    → stored_in p (zip (map (λ is. (leaf, given ++ is)) subscripts) (map (value_again source bytes) (range_with_len n (length subscripts)))) m
    ≡ elements_put target source bytes n (map (λ is. element_at p.part.generation.shape p.found (leaf, given ++ is)) subscripts) m
stored_row p leaf given target source bytes n [] m k = refl
stored_row p leaf given target source bytes n (is ∷ more) m k =
    let next : n + 1 ≡ suc n = omega arith in
    let at = element_at p.part.generation.shape p.found (leaf, given ++ is) in
    let after = with_bytes (kept_bytes target (value_again source bytes n)) at m in
    ap (λ (kind : LeafKind). stored_in p (zip (map (λ js. (leaf, given ++ js)) more) (map (value_again source bytes) (range_with_len (n + 1) (length more)))) (with_bytes (kept_bytes kind (value_again source bytes n)) at m)) k
    ∙ stored_row p leaf given target source bytes (n + 1) more after k
    ∙ ap (λ j. elements_put target source bytes j (map (λ js. element_at p.part.generation.shape p.found (leaf, given ++ js)) more) after) next

taken_again : (kind : LeafKind) (bounds : List Bounds) (bytes : List ℕ) → map (taken_value kind) (elements_in kind bounds bytes) ≡ map (value_again kind bytes) (range_with_len 0 (length (all_subscripts bounds)))
taken_again kind bounds bytes =
    map_map (taken_value kind) (λ is. taken_bytes kind (value_at kind (element_size kind * element_place bounds is) bytes)) (all_subscripts bounds)
    ∙ by_place (value_again kind bytes) bounds
    ∙ ap (λ n. map (value_again kind bytes) (range_with_len 0 n)) (sym (as_many_subscripts bounds))

stored_leaf : (c : Call) (a : Aggregate) (f : Found) (end first count n : ℕ) (is : List ℤ) (l : PartLeaf) (t : TakenLeaf) (m : List ℕ) → IsPartLeaf a.shape a.extent f is end (first + n) l → same_bounds (bounds_of l) (bounds_taken t) ≡ true
    → stored_in (record { found = f; part = designated_from c a f first count is }) (zip (leaf_elements (designated_from c a f first count is) n) (map (taken_value (kind_of t.kind)) (leaf_of t).elements)) m ≡ leaf_put l t m
stored_leaf c a f end first count n is l t m i same =
    let leaf = first + n in
    let k : Leaf = leaf_at a.shape a.extent leaf in
    let p : PartFound = record { found = f; part = designated_from c a f first count is } in
    let subscripts = subscripts_left k is in
    let bounds : bounds_taken t ≡ drop (length is) k.bounds = sym (equal_bounds (bounds_of l) (bounds_taken t) same) ∙ i.bounds in
    let values : map (taken_value (kind_of t.kind)) (leaf_of t).elements ≡ map (value_again (kind_of t.kind) t.bytes.items) (range_with_len 0 (length subscripts)) =
    taken_again (kind_of t.kind) (bounds_taken t) t.bytes.items
    ∙ ap (λ bs. map (value_again (kind_of t.kind) t.bytes.items) (range_with_len 0 (length (all_subscripts bs)))) bounds in
    ap (λ vs. stored_in p (zip (leaf_elements p.part n) vs) m) values
    ∙ stored_row p leaf is (kind_of l.kind) (kind_of t.kind) t.bytes.items 0 subscripts m (sym i.kind)
    ∙ ap (λ addresses. elements_put (kind_of l.kind) (kind_of t.kind) t.bytes.items 0 addresses m) (sym i.stand)

pub all_stored : (c : Call) (a : Aggregate) (f : Found) (end first count n : ℕ) (is : List ℤ) (ls : List PartLeaf) (ts : List TakenLeaf) (m : List ℕ) → ArePartLeaves a.shape a.extent f is end (first + n) ls → all_same_bounds (map bounds_of ls) (map bounds_taken ts) ≡ true
    → stored_in (record { found = f; part = designated_from c a f first count is }) (stores_of (designated_from c a f first count is) n (map leaf_of ts)) m ≡ leaves_put ls ts m
all_stored c a f end first count n is [] [] m p e = refl
all_stored c a f end first count n is [] (t ∷ ts) m p e = cc
all_stored c a f end first count n is (l ∷ ls) [] m p e = cc
all_stored c a f end first count n is (l ∷ ls) (t ∷ ts) m p e =
    let found : PartFound = record { found = f; part = designated_from c a f first count is } in
    let here = first_of_both (same_bounds (bounds_of l) (bounds_taken t)) (all_same_bounds (map bounds_of ls) (map bounds_taken ts)) e in
    let behind = second_of_both (same_bounds (bounds_of l) (bounds_taken t)) (all_same_bounds (map bounds_of ls) (map bounds_taken ts)) e in
    stored_append found (zip (leaf_elements found.part n) (map (taken_value (kind_of t.kind)) (leaf_of t).elements)) (stores_of found.part (suc n) (map leaf_of ts)) m
    ∙ ap (stored_in found (stores_of found.part (suc n) (map leaf_of ts))) (stored_leaf c a f end first count n is l t m p.0 here)
    ∙ all_stored c a f end first count (suc n) is ls ts (leaf_put l t m) (subst (λ leaf. ArePartLeaves a.shape a.extent f is end leaf ls) (next_place first n) p.1) behind

-- ---- as code goes through leaves

go_nowhere : (ls : List PartLeaf) → go_into ls [] ≡ true
go_nowhere [] = refl
go_nowhere (l ∷ ls) = refl

pub no_more : (ls : List PartLeaf) (ts : List TakenLeaf) (n : ℕ) → min (length ls) (length ts) ≤ n → go_into (drop n ls) (drop n ts) ≡ true
no_more [] ts zero h = refl
no_more [] ts (suc n) h = refl
no_more (l ∷ ls) [] zero h = refl
no_more (l ∷ ls) [] (suc n) h = go_nowhere (drop n ls)
no_more (l ∷ ls) (t ∷ ts) zero h = absurd (omega (arith, h))
no_more (l ∷ ls) (t ∷ ts) (suc n) h = no_more ls ts n (omega (arith, h))

pub uneven_leaves : (ls : List PartLeaf) (ts : List TakenLeaf) → length ls ≢ length ts → false ≡ all_same_bounds (map bounds_of ls) (map bounds_taken ts)
uneven_leaves [] [] h = absurd (h refl)
uneven_leaves [] (t ∷ ts) h = refl
uneven_leaves (l ∷ ls) [] h = refl
uneven_leaves (l ∷ ls) (t ∷ ts) h = sym (not_second (same_bounds (bounds_of l) (bounds_taken t)) (all_same_bounds (map bounds_of ls) (map bounds_taken ts)) (sym (uneven_leaves ls ts (λ e. h (ap suc e)))))

whole_nowhere : (ls : List PartLeaf) → are_whole ls [] ≡ true
whole_nowhere [] = refl
whole_nowhere (l ∷ ls) = refl

pub no_more_whole : (ls : List PartLeaf) (ts : List TakenLeaf) (n : ℕ) → min (length ls) (length ts) ≤ n → are_whole (drop n ls) (drop n ts) ≡ true
no_more_whole [] ts zero h = refl
no_more_whole [] ts (suc n) h = refl
no_more_whole (l ∷ ls) [] zero h = refl
no_more_whole (l ∷ ls) [] (suc n) h = whole_nowhere (drop n ls)
no_more_whole (l ∷ ls) (t ∷ ts) zero h = absurd (omega (arith, h))
no_more_whole (l ∷ ls) (t ∷ ts) (suc n) h = no_more_whole ls ts n (omega (arith, h))

put_nowhere : (ls : List PartLeaf) (m : List ℕ) → leaves_put ls [] m ≡ m
put_nowhere [] m = refl
put_nowhere (l ∷ ls) m = refl

pub no_more_put : (ls : List PartLeaf) (ts : List TakenLeaf) (n : ℕ) (m : List ℕ) → min (length ls) (length ts) ≤ n → leaves_put (drop n ls) (drop n ts) m ≡ m
no_more_put [] ts zero m h = refl
no_more_put [] ts (suc n) m h = refl
no_more_put (l ∷ ls) [] zero m h = refl
no_more_put (l ∷ ls) [] (suc n) m h = put_nowhere (drop n ls) m
no_more_put (l ∷ ls) (t ∷ ts) zero m h = absurd (omega (arith, h))
no_more_put (l ∷ ls) (t ∷ ts) (suc n) m h = no_more_put ls ts n m (omega (arith, h))

pub one_more_put : (ls : List PartLeaf) (ts : List TakenLeaf) (n : ℕ) (l : PartLeaf) (t : TakenLeaf) (m : List ℕ) → n < length ls → n < length ts → l ≡ get_or ls n l → t ≡ get_or ts n t
    → leaves_put (drop n ls) (drop n ts) m ≡ leaves_put (drop (n + 1) ls) (drop (n + 1) ts) (leaf_put l t m)
one_more_put [] ts n l t m h g e f = absurd (omega (arith, h))
one_more_put (k ∷ ls) [] n l t m h g e f = absurd (omega (arith, g))
one_more_put (k ∷ ls) (s ∷ ts) zero l t m h g e f = ap₂ (λ x y. leaves_put ls ts (leaf_put x y m)) (sym e) (sym f)
one_more_put (k ∷ ls) (s ∷ ts) (suc n) l t m h g e f =
    let next : suc n + 1 ≡ suc (n + 1) = omega arith in
    one_more_put ls ts n l t m (omega (arith, h)) (omega (arith, g)) e f ∙ ap (λ j. leaves_put (drop j (k ∷ ls)) (drop j (s ∷ ts)) (leaf_put l t m)) (sym next)

pub whole_at : (ls : List PartLeaf) (ts : List TakenLeaf) (n : ℕ) (l : PartLeaf) (t : TakenLeaf) → are_whole ls ts ≡ true → n < length ls → n < length ts → l ≡ get_or ls n l → t ≡ get_or ts n t → is_whole l t ≡ true
whole_at [] ts n l t w h g e f = absurd (omega (arith, h))
whole_at (k ∷ ls) [] n l t w h g e f = absurd (omega (arith, g))
whole_at (k ∷ ls) (s ∷ ts) zero l t w h g e f = ap₂ is_whole e f ∙ first_of_both (is_whole k s) (are_whole ls ts) w
whole_at (k ∷ ls) (s ∷ ts) (suc n) l t w h g e f = whole_at ls ts n l t (second_of_both (is_whole k s) (are_whole ls ts) w) (omega (arith, h)) (omega (arith, g)) e f

pub room_for : (size place count bytes : ℕ) → place < count → size * count ≤ bytes → size * place + size ≤ bytes
room_for size place count bytes h all =
    let next : size * (place + 1) ≤ size * count = mul-le-mul_left size (omega (arith, h)) in
    let more : size * (place + 1) ≡ size * place + size = omega arith in
    omega (arith, next, more, all)

pub one_more_element : (target source : LeafKind) (bytes : List ℕ) (n a : ℕ) (addresses m : List ℕ) → n < length addresses → a ≡ get_or addresses n 0
    → elements_put target source bytes n (drop n addresses) m ≡ elements_put target source bytes (n + 1) (drop (n + 1) addresses) (with_bytes (kept_bytes target (value_again source bytes n)) a m)
one_more_element target source bytes n a addresses m h e =
    let next : suc n ≡ n + 1 = omega arith in
    ap (λ as'. elements_put target source bytes n as' m) (drop_more addresses n 0 h)
    ∙ ap₂ (λ j b. elements_put target source bytes j (drop (n + 1) addresses) (with_bytes (kept_bytes target (value_again source bytes n)) b m)) next (sym e)

pub no_more_elements : (target source : LeafKind) (bytes : List ℕ) (n : ℕ) (addresses m : List ℕ) → length addresses ≤ n → elements_put target source bytes n (drop n addresses) m ≡ m
no_more_elements target source bytes n addresses m h = ap (λ as'. elements_put target source bytes n as' m) (drop_all n addresses h)

-- a leaf without bytes keeps nothing
none_put : (target source : LeafKind) (bytes : List ℕ) (n : ℕ) (addresses m : List ℕ) → leaf_bytes target ≡ 0
    → elements_put target source bytes n addresses m ≡ m
none_put target source bytes n [] m e = refl
none_put target source bytes n (a ∷ as') m e =
    ap (elements_put target source bytes (suc n) as')
    (ap (λ bs. with_bytes bs a m) (no_bytes target (value_again source bytes n) e) ∙ with_none a m)
    ∙ none_put target source bytes (suc n) as' m e

pub no_leaf_put : (l : PartLeaf) (t : TakenLeaf) (m : List ℕ) → leaf_bytes (kind_of l.kind) ≡ 0 → m ≡ leaf_put l t m
no_leaf_put l t m e = sym (none_put (kind_of l.kind) (kind_of t.kind) t.bytes.items 0 (addresses_of l) m e)

pub whole_bytes : (l : PartLeaf) (t : TakenLeaf) → 0 < leaf_bytes (kind_of l.kind) → is_whole l t ≡ true
    → element_size (kind_of t.kind) * l.run.count ≤ length t.bytes.items
whole_bytes l t some w = go (leaf_bytes (kind_of l.kind)) some w
  where
    go : (n : ℕ) → 0 < n → (n == 0 || nat_le (element_size (kind_of t.kind) * l.run.count) (length t.bytes.items))
        ≡ true → element_size (kind_of t.kind) * l.run.count ≤ length t.bytes.items
    go zero s e = absurd (omega (arith, s))
    go (suc n) s e = grind (arith, nat_tests, e)
