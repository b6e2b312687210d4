-- A part is there where all of its leaves are.
use Rattle.std.proofs.Common.{◌≡◌, ℕ, zero, suc, ◌+◌, ◌<◌, ◌≤◌, ℤ, Bool, true, false, List, [], ◌∷◌, ◌++◌, length, Option, Some, None, refl, sym, ap, subst, ◌∙◌, arith}
use Rattle.std.specs.Prelude.{nat_le, nat_lt, ◌&&◌, if◌then◌else◌}
use Rattle.std.specs.List.{list_all, range_with_len}
use Rattle.std.proofs.lemmas.Bool.Decides.{nat_tests}
use Rattle.pli_meaning.specs.Contents.{Shape}
use Rattle.pli_meaning.specs.Evaluating.{Designated, leaf_at}
use Rattle.pli_serving.specs.Aggregates.{Aggregate, PartFound, has_part, is_there, leaf_elements, leaf_numbers}
use Rattle.pli_serving.specs.Aggregates.{part_found, part_of_leaves, subscripts_given}
use Rattle.pli_serving.specs.Finding.{Call, Found, FoundAt, named}
use Rattle.pli_serving.specs.Outcomes.{then_found}
use Rattle.pli_aggregates.specs.Parts.{subscripts_left}
use Rattle.pli_parts.specs.Found.{designated_from}
use Rattle.pli_parts.specs.Leaves.{ArePartLeaves, IsPartLeaf, has_leaf, is_leaf_there}
use Rattle.pli_parts.specs.declared.leaf.PartLeaf.{PartLeaf}
use Rattle.pli_aggregates.proofs.Lists.{all_alike, all_flat, all_in, all_mapped, both, first_of_both, not_first}
use Rattle.pli_aggregates.proofs.Lists.{not_second, one_out, second_of_both}

pub part_has : (c : Call) (a : Aggregate) (f : Found) (first count : ℕ) (is : List ℤ)
    → has_part (designated_from c a f first count is) ≡ (nat_le (first + count) (length a.shape.signature.leaves) && list_all (λ n. has_leaf a.shape a.extent f is (first + n)) (range_with_len 0 count))
part_has c a f first count is =
    let d : Designated = designated_from c a f first count is in
    ap (λ b. nat_le (first + count) (length a.shape.signature.leaves) && b)
    (all_flat (is_there d) (leaf_elements d) (leaf_numbers d)
    ∙ all_alike (λ n. list_all (is_there d) (leaf_elements d n)) (λ n. has_leaf a.shape a.extent f is (first + n)) (range_with_len 0 count)
    (λ n. all_mapped (is_there d) (λ js. (first + n, is ++ js)) (subscripts_left (leaf_at a.shape a.extent (first + n)) is)))

-- ---- leaves that were found

same_place : (leaf : ℕ) → leaf ≡ leaf + 0
same_place leaf = omega arith

next_place : (leaf n : ℕ) → suc leaf + n ≡ leaf + suc n
next_place leaf n = omega arith

pub leaves_there : (s : Shape) (z : ℤ) (f : Found) (given : List ℤ) (end leaf : ℕ) (ls : List PartLeaf) → ArePartLeaves s z f given end leaf ls → (n : ℕ) → n < length ls → is_leaf_there s z f given (leaf + n) ≡ true
leaves_there s z f given end leaf [] a n h = absurd (omega (arith, h))
leaves_there s z f given end leaf (l ∷ ls) a zero h = subst (λ k. is_leaf_there s z f given k ≡ true) (same_place leaf) a.0.there
leaves_there s z f given end leaf (l ∷ ls) a (suc n) h =
    subst (λ k. is_leaf_there s z f given k ≡ true) (next_place leaf n) (leaves_there s z f given end (suc leaf) ls a.1 n (omega (arith, h)))

pub one_more : (s : Shape) (z : ℤ) (f : Found) (given : List ℤ) (end leaf : ℕ) (ls : List PartLeaf) (l : PartLeaf) → ArePartLeaves s z f given end leaf ls → IsPartLeaf s z f given end (leaf + length ls) l → ArePartLeaves s z f given end leaf (ls ++ l ∷ [])
one_more s z f given end leaf [] l a i = (subst (λ k. IsPartLeaf s z f given end k l) (sym (same_place leaf)) i, tt)
one_more s z f given end leaf (m ∷ ls) l a i =
    (a.0, one_more s z f given end (suc leaf) ls l a.1 (subst (λ k. IsPartLeaf s z f given end k l) (sym (next_place leaf (length ls))) i))

-- ---- whether the part is there

below_end : (leaf many : ℕ) → nat_lt leaf many ≡ true → leaf < many
below_end leaf many e = grind (arith, nat_tests)

pub part_there : (c : Call) (a : Aggregate) (f : Found) (end first count : ℕ) (is : List ℤ) (ls : List PartLeaf) → ArePartLeaves a.shape a.extent f is end first ls → length ls ≡ count → first ≤ length a.shape.signature.leaves → has_part (designated_from c a f first count is) ≡ true
part_there c a f end first count is ls p many low =
    let there : (n : ℕ) → n < count → is_leaf_there a.shape a.extent f is (first + n) ≡ true = λ n h. leaves_there a.shape a.extent f is end first ls p n (omega (arith, h, many)) in
    let leaves = length a.shape.signature.leaves in
    let whole : first + count ≤ leaves = by_count count there in
    part_has c a f first count is
    ∙ both (nat_le (first + count) leaves) (list_all (λ n. has_leaf a.shape a.extent f is (first + n)) (range_with_len 0 count)) (grind (arith, nat_tests))
    (all_in (λ n. has_leaf a.shape a.extent f is (first + n)) 0 count (λ n h. subst (λ k. has_leaf a.shape a.extent f is (first + k) ≡ true) (same n) (second_of_both (nat_lt (first + n) leaves) (has_leaf a.shape a.extent f is (first + n)) (there n h))))
  where
    same : (n : ℕ) → n ≡ 0 + n
    same n = omega arith

    by_count : (count : ℕ) → ((n : ℕ) → n < count → is_leaf_there a.shape a.extent f is (first + n) ≡ true) → first + count ≤ length a.shape.signature.leaves
    by_count zero h = omega (arith, low)
    by_count (suc k) h =
        let last = below_end (first + k) (length a.shape.signature.leaves) (first_of_both (nat_lt (first + k) (length a.shape.signature.leaves)) (has_leaf a.shape a.extent f is (first + k)) (h k (omega arith))) in
        omega (arith, last)

pub part_missing : (c : Call) (a : Aggregate) (f : Found) (first count n : ℕ) (is : List ℤ) → n < count → is_leaf_there a.shape a.extent f is (first + n) ≡ false → has_part (designated_from c a f first count is) ≡ false
part_missing c a f first count n is h e = part_has c a f first count is ∙ by_test (nat_lt (first + n) (length a.shape.signature.leaves)) refl e
  where
    leaves : ℕ
    leaves = length a.shape.signature.leaves

    by_test : (t : Bool) → nat_lt (first + n) (length a.shape.signature.leaves) ≡ t → (t && has_leaf a.shape a.extent f is (first + n)) ≡ false
        → (nat_le (first + count) (length a.shape.signature.leaves) && list_all (λ n. has_leaf a.shape a.extent f is (first + n)) (range_with_len 0 count)) ≡ false
    by_test true t e = not_second (nat_le (first + count) (length a.shape.signature.leaves)) (list_all (λ n. has_leaf a.shape a.extent f is (first + n)) (range_with_len 0 count)) (one_out (λ n. has_leaf a.shape a.extent f is (first + n)) 0 count n h (subst (λ k. has_leaf a.shape a.extent f is (first + k) ≡ false) (same n) e))
      where
        same : (n : ℕ) → n ≡ 0 + n
        same n = omega arith
    by_test false t e = not_first (nat_le (first + count) (length a.shape.signature.leaves)) (list_all (λ n. has_leaf a.shape a.extent f is (first + n)) (range_with_len 0 count)) (grind (arith, nat_tests, h, t))

pub part_behind : (c : Call) (a : Aggregate) (f : Found) (first count : ℕ) (is : List ℤ) → length a.shape.signature.leaves < first → has_part (designated_from c a f first count is) ≡ false
part_behind c a f first count is h =
    part_has c a f first count is
    ∙ not_first (nat_le (first + count) (length a.shape.signature.leaves)) (list_all (λ n. has_leaf a.shape a.extent f is (first + n)) (range_with_len 0 count)) (grind (arith, nat_tests, h))

-- ---- by the generation that was found

abbrev pub part_if : Call → Aggregate → Found → (first count : ℕ) → List ℤ → Bool → Option PartFound
part_if c a f first count is holds = if holds then Some (record { found = f; part = designated_from c a f first count is }) else None

pub part_at : (c : Call) (a : Aggregate) (f : Found) (first count given : ℕ) (is : List ℤ) → named c a.name a.signature ≡ FoundAt f → subscripts_given a first given ≡ Some is → part_of_leaves c a first count given ≡ part_if c a f first count is (has_part (designated_from c a f first count is))
part_at c a f first count given is n e =
    ap (λ o. then_found o (λ js. part_found c a (record { first = first; count = count }) js (named c a.name a.signature))) e
    ∙ ap (part_found c a (record { first = first; count = count }) is) n

pub part_not_given : (c : Call) (a : Aggregate) (first count given : ℕ) → subscripts_given a first given ≡ None → part_of_leaves c a first count given ≡ None
part_not_given c a first count given e = ap (λ o. then_found o (λ js. part_found c a (record { first = first; count = count }) js (named c a.name a.signature))) e
