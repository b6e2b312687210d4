-- Services 40 and 41: the part that they find is the storage machine's, and has all its elements; equal bounds.
use Rattle.std.proofs.Common.{◌≡◌, ℕ, zero, suc, ◌+◌, ◌≤◌, List, [], ◌∷◌, ◌++◌, take, drop, map, length, Some, None}
use Rattle.std.proofs.Common.{Bool, true, refl, sym, ap, ◌∙◌, subst, arith}
use Rattle.std.proofs.lemmas.Bool.{eqb-true}
use Rattle.std.proofs.lemmas.Bool.Decides.{nat_tests}
use Rattle.std.specs.List.{list_all, flat_map, range_with_len}
use Rattle.std.specs.Prelude.{ℤ, int_le, cond, ◌&&◌, nat_le}
use Rattle.pli_typing.specs.Signatures.{LeafKind, Fixed, Character, Varying, Bit, Pointer, Offset, Area, Bounds, Leaf}
use Rattle.pli_typing.specs.TypedTree as Y
use Rattle.pli_meaning.specs.BasicValues.{BasicValue, BasicNumber, BasicText, BasicBit, BasicPointer, BasicOffset}
use Rattle.pli_meaning.specs.Contents.{Shape, Generation, is_within, same_bounds, same_int, leaves_with}
use Rattle.pli_meaning.specs.Evaluating.{Designated, leaf_at}
use Rattle.pli_meaning.specs.Placing.{all_same_bounds, bounds_left, part_bounds}
use Rattle.pli_meaning.specs.StreamOrder.{Element}
use Rattle.pli_meaning.specs.Streaming.{kind_holds, element_holds}
use Rattle.pli_serving.specs.AggregateServices.{goes_into, taken_leaf}
use Rattle.pli_serving.specs.Aggregates.{Aggregate, PartFound, designated_in, is_there, bounds_left_in, leaf_elements}
use Rattle.pli_serving.specs.Aggregates.{leaf_numbers, has_part, part_found}
use Rattle.pli_serving.specs.Finding.{FoundAt}
use Rattle.pli_serving.specs.ServiceState.{TakenLeaf}
use Rattle.pli_serving.specs.Values.{all_subscripts}
use Rattle.storage_relation.proofs.Aggregates.{all_within, within_split}
use Rattle.storage_relation.proofs.Elements.{leaf_of, first_true, second_true, and_true}
use Rattle.storage_relation.proofs.Taking.{kind_now}
use Rattle.storage_relation.proofs.Kept.{as_many_leaves, within_allocated}
use Rattle.storage_relation.proofs.Numbering.{number_is}
use Rattle.storage_relation.specs.Keeping.{IsSound, IsNow, IsStorable, StoresText, StoresVarying, StoresNumber}
use Rattle.storage_relation.specs.Keeping.{StoresBit, StoresName, StoresOffset, NowText, NowVarying, NowSame}
use Rattle.storage_relation.specs.Keeping.{NarrowText, NarrowSame, IsNarrow}
use Rattle.storage_relation.specs.Parts.{AllOf, given_fits, IsPartOf, IsInside, SameFrom, IsDesignated, IsAggregate}
use Rattle.storage_relation.specs.Served.{Now, call, FoundFor}

-- ---- equal bounds

bounds_are : (a b : List Bounds) → same_bounds a b ≡ true → a ≡ b
bounds_are [] [] e = refl
bounds_are [] (b ∷ bs) e = absurd (cc e)
bounds_are (a ∷ as') [] e = absurd (cc e)
bounds_are (a ∷ as') (b ∷ bs) e =
    let more = second_true (same_int a.lower b.lower) (same_int a.upper b.upper && same_bounds as' bs) e in
    let low = number_is a.lower b.lower (first_true (same_int a.lower b.lower)
    (same_int a.upper b.upper && same_bounds as' bs) e) in
    let high = number_is a.upper b.upper (first_true (same_int a.upper b.upper) (same_bounds as' bs) more) in
    let rest = bounds_are as' bs (second_true (same_int a.upper b.upper) (same_bounds as' bs) more) in
    ap (λ l. record { lower = l; upper = a.upper } ∷ as') low
    ∙ ap (λ u. record { lower = b.lower; upper = u } ∷ as') high
    ∙ ap (λ xs. b ∷ xs) rest

-- where the test holds, the lists are the same
pub all_bounds_are : (as' bs : List (List Bounds)) → all_same_bounds as' bs ≡ true → as' ≡ bs
all_bounds_are [] [] e = refl
all_bounds_are [] (b ∷ bs) e = absurd (cc e)
all_bounds_are (a ∷ as') [] e = absurd (cc e)
all_bounds_are (a ∷ as') (b ∷ bs) e =
    ap (λ x. x ∷ as') (bounds_are a b (first_true (same_bounds a b) (all_same_bounds as' bs) e))
    ∙ ap (λ xs. b ∷ xs) (all_bounds_are as' bs (second_true (same_bounds a b) (all_same_bounds as' bs) e))

-- the numbers of so many leaves, from one on
abbrev pub up : (n count : ℕ) → List ℕ
up n zero = []
up n (suc count) = n ∷ up (suc n) count

pub up_is : (n count : ℕ) → range_with_len n count ≡ up n count
up_is n zero = refl
up_is n (suc count) =
    let e : n + 1 ≡ suc n = omega arith in
    ap (λ k. n ∷ range_with_len k count) e ∙ ap (λ u. n ∷ u) (up_is (suc n) count)

-- the bounds left of leaves from one on
abbrev bounds_from : List Leaf → (dropped first count : ℕ) → List (List Bounds)
bounds_from ls k first zero = []
bounds_from ls k first (suc count) = drop k (leaf_of ls first).bounds ∷ bounds_from ls k (suc first) count

bounds_next :
    (l : Leaf) (ls : List Leaf) (k first count : ℕ) → bounds_from (l ∷ ls) k (suc first) count
    ≡ bounds_from ls k first count
bounds_next l ls k first zero = refl
bounds_next l ls k first (suc count) = ap (λ u. drop k (leaf_of ls first).bounds ∷ u)
    (bounds_next l ls k (suc first) count)

left_from :
    (k : ℕ) (ls : List Leaf) (first count : ℕ) → first + count ≤ length ls →
    bounds_left k (take count (drop first ls)) ≡ bounds_from ls k first count
left_from k ls first zero h = refl
left_from k [] zero (suc count) h = absurd (omega (arith, h))
left_from k [] (suc first) (suc count) h = absurd (omega (arith, h))
left_from k (l ∷ ls) zero (suc count) h =
    ap (λ u. drop k l.bounds ∷ u) (left_from k ls 0 count (omega (arith, h)) ∙ sym (bounds_next l ls k 0 count))
left_from k (l ∷ ls) (suc first) (suc count) h =
    left_from k ls first (suc count) (omega (arith, h)) ∙ sym (bounds_next l ls k first (suc count))

numbered_from :
    (d : Designated) (n count : ℕ) →
    map (bounds_left_in d) (up n count)
    ≡ bounds_from (leaves_with d.extent d.generation.shape) (length d.subscripts) (d.part.first + n) count
numbered_from d n zero = refl
numbered_from d n (suc count) =
    let e : d.part.first + suc n ≡ suc (d.part.first + n) = omega arith in
    ap (λ u. bounds_left_in d n ∷ u)
    (numbered_from d (suc n) count
    ∙ ap (λ f. bounds_from (leaves_with d.extent d.generation.shape) (length d.subscripts) f count) e)

-- the meaning's bounds of a part, leaf by leaf
pub part_bounds_are : (d : Designated) → IsInside d → part_bounds d ≡ map (bounds_left_in d) (leaf_numbers d)
part_bounds_are d inside =
    let many = as_many_leaves d.generation.shape d.extent in
    let z : d.part.first + 0 ≡ d.part.first = omega arith in
    left_from (length d.subscripts) (leaves_with d.extent d.generation.shape) d.part.first d.part.count
    (omega (arith, many, inside))
    ∙ ap (λ f. bounds_from (leaves_with d.extent d.generation.shape) (length d.subscripts) f d.part.count) (sym z)
    ∙ sym (numbered_from d 0 d.part.count)
    ∙ ap (map (bounds_left_in d)) (sym (up_is 0 d.part.count))

-- so the bounds that service 40 keeps of what it took are the meaning's
pub taken_bounds : (d : Designated) → IsInside d →
    map (λ (t : TakenLeaf). t.bounds) (map (taken_leaf d) (leaf_numbers d)) ≡ part_bounds d
taken_bounds d inside = twice (leaf_numbers d) ∙ sym (part_bounds_are d inside)
  where
    twice : (ns : List ℕ) → map (λ (t : TakenLeaf). t.bounds) (map (taken_leaf d) ns) ≡ map (bounds_left_in d) ns
    twice [] = refl
    twice (n ∷ ns) = ap (λ u. bounds_left_in d n ∷ u) (twice ns)

same_from :
    (d e : Designated) (n count other : ℕ) →
    map (bounds_left_in d) (up n count) ≡ map (bounds_left_in e) (up n other) →
    (count ≡ other) × SameFrom d e n count
same_from d e n zero zero h = (refl, tt)
same_from d e n zero (suc other) h = absurd (cc h)
same_from d e n (suc count) zero h = absurd (cc h)
same_from d e n (suc count) (suc other) h =
    let first : bounds_left_in d n ≡ bounds_left_in e n = cc h in
    let rest : map (bounds_left_in d) (up (suc n) count) ≡ map (bounds_left_in e) (up (suc n) other) = tail h in
    let more = same_from d e (suc n) count other rest in
    (ap (λ k. suc k) more.0, (first, more.1))
  where
    tail : {A : Type 0} {x y : A} {xs ys : List A} → x ∷ xs ≡ y ∷ ys → xs ≡ ys
    tail e = cc e

-- where the meaning finds equal bounds, the parts have as many leaves, and each leaf has the same bounds left
pub same_parts :
    (d e : Designated) → IsInside d → IsInside e → all_same_bounds (part_bounds d) (part_bounds e) ≡ true →
    (d.part.count ≡ e.part.count) × SameFrom d e 0 d.part.count
same_parts d e inside within same =
    same_from d e 0 d.part.count e.part.count
    (ap (map (bounds_left_in d)) (sym (up_is 0 d.part.count))
    ∙ sym (part_bounds_are d inside)
    ∙ all_bounds_are (part_bounds d) (part_bounds e) same
    ∙ part_bounds_are e within
    ∙ ap (map (bounds_left_in e)) (up_is 0 e.part.count))

-- ---- a part has all its elements

kind_there : (now allocated : LeafKind) → IsNow now allocated → kind_holds allocated now ≡ true
kind_there now allocated (NowText n more) = by n more
  where
    by : (n more : ℕ) → nat_le n (n + more) ≡ true
    by n more = grind (arith, nat_tests)
kind_there now allocated (NowVarying n m) = refl
kind_there now allocated (NowSame kind) = by kind
  where
    less : (n : ℕ) → nat_le n n ≡ true
    less n = grind (arith, nat_tests)

    by : (kind : LeafKind) → kind_holds kind kind ≡ true
    by (Character n) = less n
    by (Fixed n) = refl
    by (Varying n) = refl
    by Bit = refl
    by Pointer = refl
    by Offset = refl
    by (Area n) = refl

-- an element in the extent in force is there in full
pub element_there :
    (g : Generation) (d : Designated) (leaf : ℕ) (js : List ℤ) → g.shape ≡ d.generation.shape →
    int_le d.extent g.extent ≡ true →
    is_within (leaf_at d.generation.shape d.extent leaf).bounds js ≡ true → element_holds g d (leaf, js) ≡ true
element_there g d leaf js same less within =
    let now = kind_now g.shape d.extent g.extent leaf less in
    let w : is_within (leaf_at g.shape d.extent leaf).bounds js ≡ true =
    ap (λ s. is_within (leaf_at s d.extent leaf).bounds js) same ∙ within
    in
    let k : kind_holds (leaf_at g.shape g.extent leaf).kind (leaf_at d.generation.shape d.extent leaf).kind ≡ true =
    ap (λ s. kind_holds (leaf_at g.shape g.extent leaf).kind (leaf_at s d.extent leaf).kind) (sym same)
    ∙ kind_there (leaf_at g.shape d.extent leaf).kind (leaf_at g.shape g.extent leaf).kind now
    in
    and_true (kind_holds (leaf_at g.shape g.extent leaf).kind (leaf_at d.generation.shape d.extent leaf).kind)
    (is_within (leaf_at g.shape g.extent leaf).bounds js) k (within_allocated g.shape d.extent g.extent leaf js less w)

all_two : (test : Element → Bool) (xs ys : List Element) → list_all test xs ≡ true → list_all test ys ≡ true →
    list_all test (xs ++ ys) ≡ true
all_two test [] ys e f = f
all_two test (x ∷ xs) ys e f =
    and_true (test x) (list_all test (xs ++ ys)) (first_true (test x) (list_all test xs) e)
    (all_two test xs ys (second_true (test x) (list_all test xs) e) f)

leaf_there :
    (d : Designated) (n : ℕ) → int_le d.extent d.generation.extent ≡ true →
    is_within (take (length d.subscripts) (leaf_at d.generation.shape d.extent (d.part.first + n)).bounds)
    d.subscripts ≡ true →
    list_all (is_there d) (leaf_elements d n) ≡ true
leaf_there d n less given = by (all_subscripts (bounds_left_in d n)) (all_within (bounds_left_in d n))
  where
    leaf : ℕ
    leaf = d.part.first + n

    by :
        (xs : List (List ℤ)) → AllOf (λ x. is_within (bounds_left_in d n) x ≡ true) xs →
        list_all (is_there d) (map (λ is. (d.part.first + n, d.subscripts ++ is)) xs) ≡ true
    by [] h = refl
    by (x ∷ xs) h =
        let within = within_split (leaf_at d.generation.shape d.extent leaf).bounds d.subscripts x given ∙ h.0 in
        and_true (is_there d (leaf, d.subscripts ++ x))
        (list_all (is_there d) (map (λ is. (d.part.first + n, d.subscripts ++ is)) xs))
        (element_there d.generation d leaf (d.subscripts ++ x) refl less within) (by xs h.1)

leaves_there :
    (d : Designated) (n count : ℕ) → int_le d.extent d.generation.extent ≡ true → given_fits d n count →
    list_all (is_there d) (flat_map (leaf_elements d) (up n count)) ≡ true
leaves_there d n zero less given = refl
leaves_there d n (suc count) less given =
    all_two (is_there d) (leaf_elements d n) (flat_map (leaf_elements d) (up (suc n) count))
    (leaf_there d n less given.0) (leaves_there d (suc n) count less given.1)

pub part_there : (d : Designated) → IsDesignated d → has_part d ≡ true
part_there d is =
    and_true (nat_le (d.part.first + d.part.count) (length d.generation.shape.signature.leaves))
    (list_all (is_there d) (flat_map (leaf_elements d) (leaf_numbers d)))
    (small (d.part.first + d.part.count) (length d.generation.shape.signature.leaves) is.inside)
    (ap (λ ns. list_all (is_there d) (flat_map (leaf_elements d) ns)) (up_is 0 d.part.count)
    ∙ leaves_there d 0 d.part.count is.less is.given)
  where
    small : (m n : ℕ) → m ≤ n → nat_le m n ≡ true
    small m n h = grind (arith, nat_tests)

-- and no part is taken that isn't there
pub part_has : (d : Designated) → has_part d ≡ true → IsInside d
part_has d e =
    by (d.part.first + d.part.count) (length d.generation.shape.signature.leaves)
    (first_true (nat_le (d.part.first + d.part.count) (length d.generation.shape.signature.leaves))
    (list_all (is_there d) (flat_map (leaf_elements d) (leaf_numbers d))) e)
  where
    by : (m n : ℕ) → nat_le m n ≡ true → m ≤ n
    by m n h = grind (arith, nat_tests)

pub same_designated :
    (d e : Designated) → d.generation.shape ≡ e.generation.shape → d.generation.extent ≡ e.generation.extent →
    d.extent ≡ e.extent →
    (d.part ≡ e.part) × (d.subscripts ≡ e.subscripts) → IsDesignated d → IsDesignated e
same_designated d e shape extent now more is =
    record {
      less = subst (λ z. int_le z e.generation.extent ≡ true) now
          (subst (λ z. int_le d.extent z ≡ true) extent is.less);
      inside =
          subst (λ (p : Y.Part). p.first + p.count ≤ length e.generation.shape.signature.leaves) more.0
          (subst (λ (s : Shape). d.part.first + d.part.count ≤ length s.signature.leaves) shape is.inside);
      given = fits;
    }
  where
    one : (n count : ℕ) → given_fits d n count → given_fits e n count
    one n zero h = tt
    one n (suc count) h = (
      subst (λ js. is_within (take (length js) (leaf_at e.generation.shape e.extent (e.part.first + n)).bounds) js
          ≡ true) more.1
          (subst (λ (p : Y.Part). is_within
          (take (length d.subscripts) (leaf_at e.generation.shape e.extent (p.first + n)).bounds) d.subscripts ≡ true)
          more.0
          (subst (λ z. is_within (take (length d.subscripts) (leaf_at e.generation.shape z (d.part.first + n)).bounds)
          d.subscripts ≡ true) now
          (subst (λ s. is_within (take (length d.subscripts) (leaf_at s d.extent (d.part.first + n)).bounds)
          d.subscripts ≡ true) shape h.0))),
      one (suc n) count h.1,
    )

    fits : given_fits e 0 e.part.count
    fits = subst (λ (p : Y.Part). given_fits e 0 p.count) more.0 (one 0 d.part.count is.given)

-- the part that services 40 and 41 find is there, and is the one of the generation that the name names
pub part_found_is :
    (w : Now) (a : Aggregate) (g : Generation) (part : Y.Part) (is : List ℤ) → IsAggregate w a g part is →
    (i : FoundFor w a.name g) →
    (p : PartFound) × (part_found (call w) a part is (FoundAt i.found) ≡ Some p)
    × (p ≡ record { found = i.found; part = designated_in (call w) a i.found part is })
    × IsPartOf w.keeper w.places w.state w.memory a.name g p
part_found_is w a g part is ag i =
    let found = i.found in
    let d = designated_in (call w) a found part is in
    let p : PartFound = record { found = found; part = d } in
    let there = same_designated (record {
      name = a.name;
      generation = g;
      extent = a.extent;
      part = part;
      subscripts =
          is;
    }) d
    (sym ag.shape_same) (sym i.extent) refl (refl, refl) ag.designated
    in (
      p,
      ap (λ q. cond q (Some p) None) (part_there d there),
      refl,
      record {
        at = i.at;
        is =
            ap (λ s. record { shape = s; extent = found.extent; values = g.values }) ag.shape_same
            ∙ ap (λ z. record { shape = g.shape; extent = z; values = g.values }) i.extent;
        given = there.given;
      },
    )

-- ---- the stores

-- a value of a kind that goes into an element, in the kind in force
pub goes_stored :
    (source other now allocated : LeafKind) (v : BasicValue) → IsStorable source other v → goes_into source now ≡ true →
    IsNarrow now allocated → IsSound allocated → IsStorable now allocated v
goes_stored source other now allocated v (StoresText n more t) e (NarrowText m less) sound = StoresText m less t
goes_stored source other now allocated v (StoresText n more t) e (NarrowSame kind) sound = text kind e
  where
    text : (kind : LeafKind) → goes_into (Character n) kind ≡ true → IsStorable kind kind (BasicText t)
    text (Character m) e =
        let z : m + 0 ≡ m = omega arith in
        subst (λ k. IsStorable (Character m) (Character k) (BasicText t)) z (StoresText m 0 t)
    text _ e = absurd (cc e)
goes_stored source other now allocated v (StoresVarying n more t small) e (NarrowText m less) sound = absurd (cc e)
goes_stored source other now allocated v (StoresVarying n more t small) e (NarrowSame kind) sound = text kind e sound
  where
    text : (kind : LeafKind) → goes_into (Varying n) kind ≡ true → IsSound kind → IsStorable kind kind (BasicText t)
    text (Varying m) e sound =
        let z : m + 0 ≡ m = omega arith in
        subst (λ k. IsStorable (Varying m) (Varying k) (BasicText t)) z (StoresVarying m 0 t (omega (arith, sound)))
    text _ e sound = absurd (cc e)
goes_stored source other now allocated v (StoresNumber p z h i) e (NarrowText m less) sound = absurd (cc e)
goes_stored source other now allocated v (StoresNumber p z h i) e (NarrowSame kind) sound = number kind e
  where
    number : (kind : LeafKind) → goes_into (Fixed p) kind ≡ true → IsStorable kind kind (BasicNumber z)
    number (Fixed q) e = subst (λ r. IsStorable (Fixed r) (Fixed r) (BasicNumber z)) (eqb-true p q e)
        (StoresNumber p z h i)
    number _ e = absurd (cc e)
goes_stored source other now allocated v (StoresBit b) e (NarrowText m less) sound = absurd (cc e)
goes_stored source other now allocated v (StoresBit b) e (NarrowSame kind) sound = bit kind e
  where
    bit : (kind : LeafKind) → goes_into Bit kind ≡ true → IsStorable kind kind (BasicBit b)
    bit Bit e = StoresBit b
    bit _ e = absurd (cc e)
goes_stored source other now allocated v (StoresName n h) e (NarrowText m less) sound = absurd (cc e)
goes_stored source other now allocated v (StoresName n h) e (NarrowSame kind) sound = name kind e
  where
    name : (kind : LeafKind) → goes_into Pointer kind ≡ true → IsStorable kind kind (BasicPointer n)
    name Pointer e = StoresName n h
    name _ e = absurd (cc e)
goes_stored source other now allocated v (StoresOffset o h) e (NarrowText m less) sound = absurd (cc e)
goes_stored source other now allocated v (StoresOffset o h) e (NarrowSame kind) sound = offset kind e
  where
    offset : (kind : LeafKind) → goes_into Offset kind ≡ true → IsStorable kind kind (BasicOffset o)
    offset Offset e = StoresOffset o h
    offset _ e = absurd (cc e)
