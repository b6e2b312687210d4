-- The first leaf of a member has at least as many bounds as the member has dimensions.
use Rattle.std.proofs.Common.{◌≡◌, ℕ, zero, suc, ◌+◌, ◌-◌, ◌<◌, ◌≤◌, List, [], ◌∷◌, ◌++◌, Some, Bool, true, false}
use Rattle.std.proofs.Common.{refl, ap, sym, ◌∙◌, subst, arith}
use Rattle.std.specs.Prelude.{nat_lt, fold, length, take, drop, slice_get, cond}
use Rattle.std.specs.List.{sum}
use Rattle.std.proofs.lemmas.Bool.Decides.{nat_tests}
use Rattle.std.proofs.lemmas.List.{length-append, length-take-le, take_all}
use Rattle.pli_typing.specs.TypedTree as Y
use Rattle.well_formed_trees.specs.Members.{IsMember, leaves_among, dimensions_with, all_dimensions}
use Rattle.well_formed_trees.specs.Declarations.{AreMembers, IsBelow, HaveBounds, leaf_dimensions}

sum_with : (xs : List ℕ) (n : ℕ) → sum (xs ++ n ∷ []) ≡ sum xs + n
sum_with xs n = from xs 0
  where
    from : (xs : List ℕ) (a : ℕ) → fold (λ a x. a + x) a (xs ++ n ∷ []) ≡ fold (λ a x. a + x) a xs + n
    from [] a = refl
    from (x ∷ xs) a = from xs (a + x)

-- what of a list stands at a place is at least so much
pub record AtLeast (xs : List ℕ) (place least : ℕ) : Type 0 where
  pub is : ℕ
  pub there : slice_get xs place ≡ Some is
  pub enough : least ≤ is

-- the dimensions of those that hold the next members
abbrev holders_on : List ℕ → Y.Member → List ℕ
holders_on holders m = take m.depth holders ++ m.dimensions ∷ []

holders_many : (holders : List ℕ) (m : Y.Member) → m.depth ≤ length holders
    → length (holders_on holders m) ≡ suc m.depth
holders_many holders m h =
    let front = length-take-le m.depth holders h in
    let all = length-append (take m.depth holders) (m.dimensions ∷ []) in
    omega (arith, front, all)

first_leaf : (holders : List ℕ) (m : Y.Member) (ms : List Y.Member) → m.depth ≤ length holders → IsBelow m.depth ms
    → AtLeast (leaf_dimensions (m ∷ ms) (dimensions_with holders (m ∷ ms))) 0
    (sum (take m.depth holders) + m.dimensions)
first_leaf holders m [] h b = record { is = _; there = refl; enough = omega arith }
first_leaf holders m (n ∷ ms) h b =
    let more : List ℕ = holders_on holders m in
    let many : length more ≡ suc m.depth = holders_many holders m h in
    by_test (nat_lt m.depth n.depth) refl (first_leaf more n ms (omega (arith, many, b.0.1)) b.1)
  where
    by_test : (t : Bool) → nat_lt m.depth n.depth ≡ t
        → AtLeast (leaf_dimensions (n ∷ ms) (dimensions_with (holders_on holders m) (n ∷ ms))) 0
        (sum (take n.depth (holders_on holders m)) + n.dimensions)
        → AtLeast (cond t (leaf_dimensions (n ∷ ms) (dimensions_with (holders_on holders m) (n ∷ ms)))
        ((sum (take m.depth holders) + m.dimensions)
        ∷ leaf_dimensions (n ∷ ms) (dimensions_with (holders_on holders m) (n ∷ ms)))) 0
        (sum (take m.depth holders) + m.dimensions)
    by_test true e i =
        let many : length (holders_on holders m) ≡ suc m.depth = holders_many holders m h in
        let deep : m.depth < n.depth = grind (arith, nat_tests, e) in
        let all : take n.depth (holders_on holders m) ≡ holders_on holders m =
        take_all n.depth (holders_on holders m) (omega (arith, many, deep)) in
        let total : sum (take n.depth (holders_on holders m)) ≡ sum (take m.depth holders) + m.dimensions =
        ap sum all ∙ sum_with (take m.depth holders) m.dimensions in
        let enough = i.enough in
        record { is = i.is; there = i.there; enough = omega (arith, total, enough) }
    by_test false e i = record { is = _; there = refl; enough = omega arith }

fewer_among : (place : ℕ) (ms : List Y.Member) → leaves_among (drop place ms) ≤ leaves_among ms
fewer_among zero ms = omega arith
fewer_among (suc p) [] = omega arith
fewer_among (suc p) (m ∷ []) = let none = fewer_among p [] in omega (arith, none)
fewer_among (suc p) (m ∷ n ∷ ms) =
    let rest = fewer_among p (n ∷ ms) in by_test (nat_lt m.depth n.depth) rest
  where
    by_test : (t : Bool) → leaves_among (drop p (n ∷ ms)) ≤ leaves_among (n ∷ ms)
        → leaves_among (drop p (n ∷ ms)) ≤ cond t (leaves_among (n ∷ ms)) (suc (leaves_among (n ∷ ms)))
    by_test true e = e
    by_test false e = omega (arith, e)

-- the leaves before a member
abbrev before : (place : ℕ) → List Y.Member → ℕ
before place ms = leaves_among ms - leaves_among (drop place ms)

member_leaf : (holders : List ℕ) (m : Y.Member) (ms : List Y.Member) (place n : ℕ) → m.depth ≤ length holders
    → IsBelow m.depth ms → slice_get (dimensions_with holders (m ∷ ms)) place ≡ Some n
    → AtLeast (leaf_dimensions (m ∷ ms) (dimensions_with holders (m ∷ ms))) (before place (m ∷ ms)) n
member_leaf holders m ms zero n h b e =
    let same : sum (take m.depth holders) + m.dimensions ≡ n = cc e in
    let none : before zero (m ∷ ms) ≡ 0 = omega arith in
    subst (λ x. AtLeast (leaf_dimensions (m ∷ ms) (dimensions_with holders (m ∷ ms))) (before zero (m ∷ ms)) x) same
    (subst (λ x. AtLeast (leaf_dimensions (m ∷ ms) (dimensions_with holders (m ∷ ms))) x
    (sum (take m.depth holders) + m.dimensions)) (sym none) (first_leaf holders m ms h b))
member_leaf holders m [] (suc p) n h b e = absurd (cc e)
member_leaf holders m (k ∷ ms) (suc p) n h b e =
    let many : length (holders_on holders m) ≡ suc m.depth = holders_many holders m h in
    by_test (nat_lt m.depth k.depth)
    (member_leaf (holders_on holders m) k ms p n (omega (arith, many, b.0.1)) b.1 e) (fewer_among p (k ∷ ms))
  where
    by_test : (t : Bool)
        → AtLeast (leaf_dimensions (k ∷ ms) (dimensions_with (holders_on holders m) (k ∷ ms))) (before p (k ∷ ms)) n
        → leaves_among (drop p (k ∷ ms)) ≤ leaves_among (k ∷ ms)
        → AtLeast (cond t (leaf_dimensions (k ∷ ms) (dimensions_with (holders_on holders m) (k ∷ ms)))
        ((sum (take m.depth holders) + m.dimensions)
        ∷ leaf_dimensions (k ∷ ms) (dimensions_with (holders_on holders m) (k ∷ ms))))
        (cond t (leaves_among (k ∷ ms)) (suc (leaves_among (k ∷ ms))) - leaves_among (drop p (k ∷ ms))) n
    by_test true i few = i
    by_test false i few =
        let next : suc (leaves_among (k ∷ ms)) - leaves_among (drop p (k ∷ ms)) ≡ suc (before p (k ∷ ms)) =
        omega (arith, few) in
        subst (λ x. AtLeast ((sum (take m.depth holders) + m.dimensions)
        ∷ leaf_dimensions (k ∷ ms) (dimensions_with (holders_on holders m) (k ∷ ms))) x n) (sym next)
        (record { is = i.is; there = i.there; enough = i.enough })

-- a leaf of a variable has at least so many bounds
pub record HasLeaf (ls : List Y.Leaf) (place least : ℕ) : Type 0 where
  pub leaf : Y.Leaf
  pub there : slice_get ls place ≡ Some leaf
  pub enough : least ≤ length leaf.bounds

bounded : (ls : List Y.Leaf) (ns : List ℕ) (place least : ℕ) → HaveBounds ls ns → AtLeast ns place least
    → HasLeaf ls place least
bounded [] [] place least h a = let none = a.there in absurd (cc none)
bounded [] (n ∷ ns) place least h a = absurd h
bounded (l ∷ ls) [] place least h a = absurd h
bounded (l ∷ ls) (n ∷ ns) zero least h a =
    let there = a.there in
    let same : n ≡ a.is = cc there in
    let enough = a.enough in
    let many = h.0 in
    record { leaf = l; there = refl; enough = omega (arith, same, enough, many) }
bounded (l ∷ ls) (n ∷ ns) (suc p) least h a =
    let r = bounded ls ns p least h.1 (record { is = a.is; there = a.there; enough = a.enough }) in
    record { leaf = r.leaf; there = r.there; enough = r.enough }

-- the law on members
pub member_bounds : (d : Y.DeclaredVariable) (part : Y.Part) (n : ℕ) → AreMembers d.members
    → HaveBounds d.leaves (leaf_dimensions d.members (all_dimensions d.members)) → IsMember d part n
    → HasLeaf d.leaves part.first n
member_bounds d part n h b i =
    subst (λ x. HasLeaf d.leaves x.first n) (sym i.part_is)
    (bounded d.leaves (leaf_dimensions d.members (all_dimensions d.members)) _ n b
    (of_members d.members i.place h i.dimensions_are))
  where
    of_members : (ms : List Y.Member) (place : ℕ) → AreMembers ms → slice_get (all_dimensions ms) place ≡ Some n
        → AtLeast (leaf_dimensions ms (all_dimensions ms)) (before place ms) n
    of_members [] place h e = absurd h
    of_members (m ∷ ms) place h e =
        let top = h.0 in
        member_leaf [] m ms place n (omega (arith, top)) (subst (λ x. IsBelow x ms) (sym h.0) h.1) e
