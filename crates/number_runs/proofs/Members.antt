-- The members of what is BASED, as the class admits them: what they take and what code and table make of them.
use Rattle.std.proofs.Common.{◌≡◌, ◌⊎◌, inl, inr, ℕ, zero, suc, ◌^◌, ◌<◌, List, [], ◌∷◌, length, None, Some}
use Rattle.std.proofs.Common.{true, false, map, refl, sym, ap, ◌∙◌, subst, arith}
use Rattle.std.proofs.Common.{◌≤◌, Option}
use Rattle.std.specs.Prelude.{◌&&◌, ◌||◌, Bool, not, nat_lt, slice_get}
use Rattle.std.proofs.lemmas.Bool.{and_parts, le-leb, ltb-true, or_cases}
use Rattle.rv_meaning.specs.Tables.{LeavesFit, head_fits, stands, shape_of as table_shape}
use Rattle.pli_typing.specs.Signatures.{PlainClass, leaves_size}
use Rattle.pli_typing.specs.TypedTree as Y
use Rattle.pli_meaning.specs.DeclaredShapes.{leaf_of, shape_of}
use Rattle.pli_meaning.specs.StorageState.{area_of_leaves}
use Rattle.pli_serving.specs.InitialValues.{none_initial}
use Rattle.pli_serving.specs.Templates.{leaves_of, put_before, shape_at, shape_with, template_of, whole_leaves}
use Rattle.pli_coding.specs.SignatureTable.{signature_of, table_leaf}
use Rattle.pli_coding.specs.StaticForms.{if_any, initial_leaves}
use Rattle.storage_relation.proofs.Holders.{eqb-other}
use Rattle.storage_relation.specs.Keeping.{AreSound}
use Rattle.storage_relation.specs.Tables.{AreLeaves}
use Rattle.program_places.specs.Tables.{IsRuled}
use Rattle.scalar_runs.specs.Scalars.{scalar_leaf}
use Rattle.member_runs.specs.Allocations.{IsUninitialized}
use Rattle.member_runs.specs.Members.{IsMember, structure_declared}
use Rattle.number_runs.specs.Based.{are_members, are_some_members, has_member, is_based, is_one_leaf, is_pointer_type}
use Rattle.number_runs.specs.Based.{is_word_type, passes}
use Rattle.number_runs.specs.Variables.{variable_bytes}
use Rattle.number_runs.proofs.Initial.{IsBare}
use Rattle.number_runs.proofs.Based.{based_declared_is, leaf_is, pointer_type_is, word_type_is}

-- ---- one member

abbrev member_type : Y.LeafType → Bool
member_type t = is_word_type t || is_pointer_type t

-- what is so of a number and of a pointer is so of each
pub by_member :
    (P : Y.Leaf → Type 0) → P (scalar_leaf (Y.FixedLeaf 31) []) → P (scalar_leaf Y.PointerLeaf []) → (l : Y.Leaf) →
    is_one_leaf (λ t. is_word_type t || is_pointer_type t) l.type l.bounds l.initial ≡ true → P l
by_member P number pointer l h =
    let d = leaf_is member_type l.type l.bounds l.initial h in
    subst P (sym d.0) (by (or_cases (is_word_type l.type) (is_pointer_type l.type) d.1))
  where
    by : (is_word_type l.type ≡ true) ⊎ (is_pointer_type l.type ≡ true) → P (scalar_leaf l.type [])
    by (inl is) = subst (λ t. P (scalar_leaf t [])) (sym (word_type_is l.type is)) number
    by (inr is) = subst (λ t. P (scalar_leaf t [])) (sym (pointer_type_is l.type is)) pointer

-- and of each of them
both : (l : Y.Leaf) (ls : List Y.Leaf) → are_members (l ∷ ls) ≡ true →
    (is_one_leaf (λ t. is_word_type t || is_pointer_type t) l.type l.bounds l.initial ≡ true) × (are_members ls ≡ true)
both l ls h =
    and_parts (is_one_leaf (λ t. is_word_type t || is_pointer_type t) l.type l.bounds l.initial) (are_members ls) h

pub some_members : (ls : List Y.Leaf) → are_some_members ls ≡ true → are_members ls ≡ true
some_members [] h = absurd (cc h)
some_members (l ∷ ls) h = h

-- ---- what they take

pub members_take : (ls : List Y.Leaf) → are_some_members ls ≡ true → 0 < leaves_size (map (leaf_of []) ls)
members_take [] h = absurd (cc h)
members_take (l ∷ ls) h =
    by_member (λ m. 0 < leaves_size (map (leaf_of []) (m ∷ ls))) (omega arith) (omega arith) l (both l ls h).0

pub based_takes : (ms : List Y.Member) (ls : List Y.Leaf) → are_some_members ls ≡ true →
    32 ≤ variable_bytes (structure_declared ms ls)
based_takes ms ls h = let some = members_take ls h in omega (arith, some)

-- ---- what they hold

-- no area
pub members_bare : (ls : List Y.Leaf) → are_some_members ls ≡ true → area_of_leaves (map (leaf_of []) ls) [] ≡ None
members_bare [] h = absurd (cc h)
members_bare (l ∷ []) h =
    by_member (λ m. area_of_leaves (map (leaf_of []) (m ∷ [])) [] ≡ None) refl refl l (both l [] h).0
members_bare (l ∷ m ∷ ls) h = refl

pub members_sound : (ls : List Y.Leaf) → are_members ls ≡ true → AreSound (map (leaf_of []) ls)
members_sound [] h = tt
members_sound (l ∷ ls) h =
    let b = both l ls h in
    by_member (λ m. AreSound (map (leaf_of []) (m ∷ ls))) (omega arith, members_sound ls b.1)
    (tt, members_sound ls b.1) l b.0

-- nothing is given to them
pub members_begin : (ls : List Y.Leaf) (leaf : ℕ) → are_members ls ≡ true → initial_leaves leaf ls ≡ []
members_begin [] leaf h = refl
members_begin (l ∷ ls) leaf h =
    let b = both l ls h in
    by_member (λ m. initial_leaves leaf (m ∷ ls) ≡ []) (members_begin ls (suc leaf) b.1)
    (members_begin ls (suc leaf) b.1) l b.0

pub based_begins :
    (ms : List Y.Member) (ls : List Y.Leaf) → are_some_members ls ≡ true → IsUninitialized ms ls
based_begins ms ls h =
    record {
      none = ap if_any (members_begin ls 0 (some_members ls h));
      sound = members_sound ls (some_members ls h);
    }

members_none :
    (ls : List Y.Leaf) → are_members ls ≡ true →
    none_initial (map (leaf_of []) ls) ≡ map (λ (l : Y.Leaf). l.initial) ls
members_none [] h = refl
members_none (l ∷ ls) h =
    let b = both l ls h in
    let rest = members_none ls b.1 in
    by_member
    (λ m. none_initial (map (leaf_of []) (m ∷ ls)) ≡ map (λ (n : Y.Leaf). n.initial) (m ∷ ls))
    (ap (λ xs. [] ∷ xs) rest) (ap (λ xs. [] ∷ xs) rest) l b.0

pub based_bare : (ms : List Y.Member) (ls : List Y.Leaf) → are_some_members ls ≡ true →
    IsBare (structure_declared ms ls)
based_bare ms ls h = (ap if_any (members_begin ls 0 (some_members ls h)), members_none ls (some_members ls h))

-- ---- in the table

members_shaped :
    (ls : List Y.Leaf) → are_members ls ≡ true →
    whole_leaves (leaves_of false (map table_leaf ls)) ≡ Some (map (leaf_of []) ls)
members_shaped [] h = refl
members_shaped (l ∷ []) h =
    by_member (λ m. whole_leaves (leaves_of false (map table_leaf (m ∷ []))) ≡ Some (map (leaf_of []) (m ∷ []))) refl
    refl l (both l [] h).0
members_shaped (l ∷ n ∷ ls) h =
    let b = both l (n ∷ ls) h in
    let rest = members_shaped (n ∷ ls) b.1 in
    by_member
    (λ m. whole_leaves (leaves_of false (map table_leaf (m ∷ n ∷ ls))) ≡ Some (map (leaf_of []) (m ∷ n ∷ ls)))
    (ap (λ o. put_before (Some (leaf_of [] (scalar_leaf (Y.FixedLeaf 31) []))) o) rest)
    (ap (λ o. put_before (Some (leaf_of [] (scalar_leaf Y.PointerLeaf []))) o) rest) l b.0

pub based_shaped :
    (ms : List Y.Member) (ls : List Y.Leaf) → are_some_members ls ≡ true →
    shape_at (template_of (signature_of (structure_declared ms ls)) ∷ []) 0
    ≡ Some (shape_of [] (structure_declared ms ls))
based_shaped ms ls h = ap (λ o. shape_with PlainClass None o) (members_shaped ls (some_members ls h))

-- it keeps the rules of tables
number_stands :
    (count place : ℕ) → stands count 0 place (table_shape (table_leaf (scalar_leaf (Y.FixedLeaf 31) []))) ≡ true
number_stands count place = ap (λ q. (not q || true) && true) (eqb-other 0 (suc place) (λ e. omega (arith, e)))

pointer_stands :
    (count place : ℕ) → stands count 0 place (table_shape (table_leaf (scalar_leaf Y.PointerLeaf []))) ≡ true
pointer_stands count place = ap (λ q. (not q || false) && true) (eqb-other 0 (suc place) (λ e. omega (arith, e)))

members_fit :
    (ls : List Y.Leaf) (count place : ℕ) → are_members ls ≡ true → LeavesFit count 0 place (map table_leaf ls)
members_fit [] count place h = tt
members_fit (l ∷ ls) count place h =
    let b = both l ls h in
    let rest = members_fit ls count (suc place) b.1 in
    by_member (λ m. LeavesFit count 0 place (map table_leaf (m ∷ ls)))
    (record { sized = refl; few = omega arith; bounded = tt; placed = number_stands count place }, rest)
    (record { sized = refl; few = omega arith; bounded = tt; placed = pointer_stands count place }, rest) l b.0

members_unbounded : (ls : List Y.Leaf) → are_members ls ≡ true → AreLeaves (map table_leaf ls)
members_unbounded [] h = tt
members_unbounded (l ∷ ls) h =
    let b = both l ls h in
    by_member (λ m. AreLeaves (map table_leaf (m ∷ ls))) (tt, members_unbounded ls b.1) (tt, members_unbounded ls b.1) l
    b.0

some_headed :
    (ls : List Y.Leaf) → are_some_members ls ≡ true → head_fits 0 (length (map table_leaf ls)) 0 ≡ true
some_headed [] h = absurd (cc h)
some_headed (l ∷ ls) h =
    let count = length (map table_leaf (l ∷ ls)) in
    ap (λ q. q && true) (le-leb 1 count (omega arith))

pub based_ruled : (ms : List Y.Member) (ls : List Y.Leaf) → are_some_members ls ≡ true →
    IsRuled (structure_declared ms ls)
based_ruled ms ls h = (
  record {
    headed = some_headed ls h;
    leaved = members_fit ls (length (map table_leaf ls)) 0 (some_members ls h);
  },
  members_unbounded ls (some_members ls h),
)

-- ---- one of them by its number

record IsLeafAt (test : Y.LeafType → Bool) (o : Option Y.Leaf) : Type 0 where
  leaf : Y.Leaf
  is : o ≡ Some leaf
  passes : test leaf.type ≡ true

leaf_found : (test : Y.LeafType → Bool) (o : Option Y.Leaf) → passes test o ≡ true → IsLeafAt test o
leaf_found test None h = absurd (cc h)
leaf_found test (Some l) h = record { leaf = l; is = refl; passes = h }

leaf_at :
    (ls : List Y.Leaf) (n : ℕ) (l : Y.Leaf) → are_members ls ≡ true → slice_get ls n ≡ Some l →
    l ≡ scalar_leaf l.type []
leaf_at [] n l h is = absurd (cc is)
leaf_at (u ∷ ls) zero l h is =
    let same : u ≡ l = cc is in
    subst (λ (m : Y.Leaf). m ≡ scalar_leaf m.type []) same
    (by_member (λ (m : Y.Leaf). m ≡ scalar_leaf m.type []) refl refl u (both u ls h).0)
leaf_at (u ∷ ls) (suc n) l h is = leaf_at ls n l (both u ls h).1 is

pub member_is :
    (test : Y.LeafType → Bool) (type : Y.LeafType) → ((t : Y.LeafType) → test t ≡ true → t ≡ type) → (n : ℕ)
    (d : Y.DeclaredVariable) → has_member test n d ≡ true → (is_based d ≡ true) × (IsMember d.leaves n type)
member_is test type tests n d h =
    let a = and_parts (is_based d) (nat_lt n (2 ^ 31) && passes test (slice_get d.leaves n)) h in
    let b = and_parts (nat_lt n (2 ^ 31)) (passes test (slice_get d.leaves n)) a.1 in
    let f = leaf_found test (slice_get d.leaves n) b.1 in
    let fit = some_members d.leaves (based_declared_is d a.0).1 in (
      a.0,
      record {
        initial = [];
        there =
            f.is ∙ ap (λ l. Some l) (leaf_at d.leaves n f.leaf fit f.is)
            ∙ ap (λ t. Some (scalar_leaf t [])) (tests f.leaf.type f.passes);
        few = ltb-true n (2 ^ 31) b.0;
      },
    )
