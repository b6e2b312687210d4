-- The leaves that are kept of an aggregate, and elements by their leaves among these.
use Rattle.std.proofs.Common.{◌≡◌, ℕ, zero, suc, ◌+◌, ◌≤◌, ◌<◌, ℤ, Bool, true, false, List, [], ◌∷◌, ◌++◌, length, map, Option, Some, None, refl, sym, ap, subst, ◌∙◌, arith}
use Rattle.std.specs.Prelude.{IfOk, MatchOption, Result, Ok, Err, Vec, nat_le, slice_get, if◌then◌else◌}
use Rattle.std.specs.declared.alloc.Global.{Global}
use Rattle.std.specs.List.{flat_map}
use Rattle.std.proofs.lemmas.Bool.Decides.{nat_tests}
use Rattle.pli_typing.specs.Signatures.{Bounds, Leaf}
use Rattle.pli_meaning.specs.Contents.{Shape, leaves_with}
use Rattle.pli_meaning.specs.StreamOrder.{Element, Nest, NoNest, NestOf, bounds_of_leaf, elements_inside, leaves_inside, nest_of, with_more}
use Rattle.pli_serving.specs.Aggregates.{Aggregate, subscripts_given}
use Rattle.pli_serving.specs.ElementService.{elements_by}
use Rattle.pli_serving.specs.Finding.{Call}
use Rattle.pli_serving.specs.Outcomes.{then_found}
use Rattle.pli_shapes.specs.Members.{members_of}
use Rattle.pli_shapes.specs.Nests.{nest_in}
use Rattle.pli_shapes.specs.declared.part.Part.{Part}
use Rattle.pli_order.specs.Orders.{IsOrder}
use Rattle.pli_order.proofs.Finding.{leaves_of_parts}
use Rattle.pli_order.proofs.RowLists.{flat_same}
use Rattle.pli_signatures.specs.View.{leaf_in_force}
use Rattle.pli_signatures.specs.Whole.{leaf_in}
use Rattle.pli_signatures.specs.declared.element.LeafInForce.{LeafInForce}
use Rattle.pli_aggregates.proofs.Parting.{as_many, got_past}
use Rattle.pli_elements.specs.Items.{AreLeaves, IsItem, IsLeavesIf, IsMissing, behind_leaf}
use Rattle.pli_elements.specs.declared.item.Item.{Item}

-- ---- leaves

pub one_more : (shape : Option Shape) (z : ℤ) (first : ℕ) (ls : List LeafInForce) (l : LeafInForce) → AreLeaves shape z first ls → Some (leaf_in_force l) ≡ leaf_in shape (first + length ls) z → AreLeaves shape z first (ls ++ l ∷ [])
one_more shape z first [] l a e =
    let none : first + 0 ≡ first = omega arith in
    (e ∙ ap (λ n. leaf_in shape n z) none, tt)
one_more shape z first (k ∷ ls) l a e =
    let next : first + suc (length ls) ≡ suc first + length ls = omega arith in
    (a.0, one_more shape z (suc first) ls l a.1 (e ∙ ap (λ n. leaf_in shape n z) next))

pub got_bounds : (ls : List Leaf) (n : ℕ) (l : Leaf) → Some l ≡ slice_get ls n → bounds_of_leaf ls n ≡ l.bounds
got_bounds [] n l e = absurd (cc)
got_bounds (k ∷ ls) zero l e = let same : k ≡ l = cc in ap (λ (m : Leaf). m.bounds) same
got_bounds (k ∷ ls) (suc n) l e = got_bounds ls n l e

pub got_low : (ls : List Leaf) (n : ℕ) (l : Leaf) → Some l ≡ slice_get ls n → n < length ls
got_low [] n l e = absurd (cc)
got_low (k ∷ ls) zero l e = omega arith
got_low (k ∷ ls) (suc n) l e = let r = got_low ls n l e in omega (arith, r)

-- the bounds of those that are kept
kept_bounds : (s : Shape) (z : ℤ) (first n : ℕ) (ls : List LeafInForce) → AreLeaves (Some s) z first ls → n < length ls → bounds_of_leaf (leaves_with z s) (first + n) ≡ bounds_of_leaf (map leaf_in_force ls) n
kept_bounds s z first n [] a h = absurd (omega (arith, h))
kept_bounds s z first zero (l ∷ ls) a h =
    let none : first + 0 ≡ first = omega arith in
    ap (bounds_of_leaf (leaves_with z s)) none ∙ got_bounds (leaves_with z s) first (leaf_in_force l) a.0
kept_bounds s z first (suc n) (l ∷ ls) a h =
    let next : first + suc n ≡ suc first + n = omega arith in
    ap (bounds_of_leaf (leaves_with z s)) next ∙ kept_bounds s z (suc first) n ls a.1 (omega (arith, h))

-- all are there
kept_low : (s : Shape) (z : ℤ) (first : ℕ) (ls : List LeafInForce) → 0 < length ls → AreLeaves (Some s) z first ls → first + length ls ≤ length (leaves_with z s)
kept_low s z first [] h a = absurd (omega (arith, h))
kept_low s z first (l ∷ []) h a = let r = got_low (leaves_with z s) first (leaf_in_force l) a.0 in omega (arith, r)
kept_low s z first (l ∷ m ∷ ls) h a = let r = kept_low s z (suc first) (m ∷ ls) (omega arith) a.1 in omega (arith, r)

-- ---- elements by leaves from another one on

abbrev Alike : (all mine : List Leaf) → (first count : ℕ) → Type 0
Alike all mine first count = (n : ℕ) → n < count → bounds_of_leaf all (first + n) ≡ bounds_of_leaf mine n

map_flat : {A B C : Type 0} (g : B → C) (f : A → List B) (xs : List A) → flat_map (λ x. map g (f x)) xs ≡ map g (flat_map f xs)
map_flat g f [] = refl
map_flat g f (x ∷ xs) = ap (λ l. map g (f x) ++ l) (map_flat g f xs) ∙ sym (map_both g (f x) (flat_map f xs))
  where
    map_both : {B C : Type 0} (g : B → C) (xs ys : List B) → map g (xs ++ ys) ≡ map g xs ++ map g ys
    map_both g [] ys = refl
    map_both g (y ∷ ys) zs = ap (λ l. g y ∷ l) (map_both g ys zs)

map_join : {B C : Type 0} (g : B → C) (xs ys : List B) → map g (xs ++ ys) ≡ map g xs ++ map g ys
map_join g [] ys = refl
map_join g (y ∷ ys) zs = ap (λ l. g y ∷ l) (map_join g ys zs)

map_again : {A B C : Type 0} (g : B → C) (f : A → B) (xs : List A) → map (λ x. g (f x)) xs ≡ map g (map f xs)
map_again g f [] = refl
map_again g f (x ∷ xs) = ap (λ l. g (f x) ∷ l) (map_again g f xs)

shifted : (nest : Nest) (all mine : List Leaf) (first leaf count : ℕ) (is : List ℤ) → leaf + leaves_inside nest ≤ count → Alike all mine first count
    → elements_inside nest (first + leaf) all is ≡ map (behind_leaf first) (elements_inside nest leaf mine is)
shifted NoNest all mine first leaf count is low h = refl
shifted (NestOf d n NoNest behind) all mine first leaf count is low h =
    let rows = with_more n (bounds_of_leaf mine leaf) is in
    let next : 1 + (first + leaf) ≡ first + (1 + leaf) = omega arith in
    ap {A = List Bounds} (λ bs. map {B = Element} (λ js. (first + leaf, js)) (with_more n bs is) ++ elements_inside behind (1 + (first + leaf)) all is) (h leaf (omega (arith, low)))
    ∙ ap (λ l. l ++ elements_inside behind (1 + (first + leaf)) all is) (map_again {C = Element} (behind_leaf first) (λ js. (leaf, js)) rows)
    ∙ ap (λ k. map (behind_leaf first) (map {B = Element} (λ js. (leaf, js)) rows) ++ elements_inside behind k all is) next
    ∙ ap (λ l. map (behind_leaf first) (map {B = Element} (λ js. (leaf, js)) rows) ++ l) (shifted behind all mine first (1 + leaf) count is (omega (arith, low)) h)
    ∙ sym (map_join (behind_leaf first) (map {B = Element} (λ js. (leaf, js)) rows) (elements_inside behind (1 + leaf) mine is))
shifted (NestOf d n (NestOf e m i b) behind) all mine first leaf count is low h =
    let nest = NestOf e m i b in
    let rows = with_more n (bounds_of_leaf mine leaf) is in
    let some = some_leaf e m i b in
    let next : leaves_inside nest + (first + leaf) ≡ first + (leaves_inside nest + leaf) = omega arith in
    ap {A = List Bounds} (λ bs. flat_map (λ js. elements_inside nest (first + leaf) all js) (with_more n bs is) ++ elements_inside behind (leaves_inside nest + (first + leaf)) all is) (h leaf (omega (arith, low, some)))
    ∙ ap (λ l. l ++ elements_inside behind (leaves_inside nest + (first + leaf)) all is)
    (flat_same (λ js. elements_inside nest (first + leaf) all js) (λ js. map (behind_leaf first) (elements_inside nest leaf mine js)) rows (λ js. shifted (NestOf e m i b) all mine first leaf count js (omega (arith, low)) h)
    ∙ map_flat (behind_leaf first) (λ js. elements_inside nest leaf mine js) rows)
    ∙ ap (λ k. map (behind_leaf first) (flat_map (λ js. elements_inside nest leaf mine js) rows) ++ elements_inside behind k all is) next
    ∙ ap (λ l. map (behind_leaf first) (flat_map (λ js. elements_inside nest leaf mine js) rows) ++ l) (shifted behind all mine first (leaves_inside nest + leaf) count is (omega (arith, low)) h)
    ∙ sym (map_join (behind_leaf first) (flat_map (λ js. elements_inside nest leaf mine js) rows) (elements_inside behind (leaves_inside nest + leaf) mine is))
  where
    some_leaf : (e m : ℕ) (i b : Nest) → 0 < leaves_inside (NestOf e m i b)
    some_leaf e m NoNest b = omega arith
    some_leaf e m (NestOf f n j k) b = let r = some_leaf f n j k in omega (arith, r)

-- ---- the elements of a shape

abbrev elements_if : Bool → Option (List ℤ) → (first : ℕ) → Nest → List Leaf → Option (List Element)
elements_if holds o first nest leaves = if holds then then_found o (λ is. Some (elements_inside nest first leaves is)) else None

by_parts : (c : Call) (a : Aggregate) (given first : ℕ) (parts : List Part) → nest_of (members_of parts) ≡ nest_in parts → elements_by c a (record { given = given; first = first; members = members_of parts })
    ≡ elements_if (nat_le (first + leaves_inside (nest_in parts)) (length a.shape.signature.leaves)) (subscripts_given a first given) first (nest_in parts) (leaves_with a.extent a.shape)
by_parts c a given first parts e =
    ap (λ nest. elements_if (nat_le (first + leaves_inside nest) (length a.shape.signature.leaves)) (subscripts_given a first given) first nest (leaves_with a.extent a.shape)) e

pub no_leaves : (c : Call) (a : Aggregate) (given first count : ℕ) (parts : List Part) (shape : Option Shape) → nest_of (members_of parts) ≡ nest_in parts → shape ≡ Some a.shape → count ≡ leaves_inside (nest_in parts) → IsMissing shape a.extent first count
    → elements_by c a (record { given = given; first = first; members = members_of parts }) ≡ None
no_leaves c a given first count parts shape e s n m =
    let many = as_many a.extent a.shape in
    let past = got_past (leaves_with a.extent a.shape) (first + m.0) (ap (λ o. leaf_in o (first + m.0) a.extent) (sym s) ∙ m.2) in
    let low = m.1 in
    let outside : nat_le (first + leaves_inside (nest_in parts)) (length a.shape.signature.leaves) ≡ false = out (first + leaves_inside (nest_in parts)) (length a.shape.signature.leaves) (omega (arith, past, many, low, n)) in
    by_parts c a given first parts e
    ∙ ap (λ b. elements_if b (subscripts_given a first given) first (nest_in parts) (leaves_with a.extent a.shape)) outside
  where
    out : (k l : ℕ) → l < k → nat_le k l ≡ false
    out k l h = grind (arith, nat_tests)

there : (c : Call) (a : Aggregate) (given first : ℕ) (parts : List Part) (ls : List LeafInForce) → nest_of (members_of parts) ≡ nest_in parts → 0 < length ls → length ls ≡ leaves_inside (nest_in parts) → AreLeaves (Some a.shape) a.extent first ls
    → elements_by c a (record { given = given; first = first; members = members_of parts }) ≡ then_found (subscripts_given a first given) (λ is. Some (elements_inside (nest_in parts) first (leaves_with a.extent a.shape) is))
there c a given first parts ls e some n k =
    let many = as_many a.extent a.shape in
    let low = kept_low a.shape a.extent first ls some k in
    let inside : nat_le (first + leaves_inside (nest_in parts)) (length a.shape.signature.leaves) ≡ true = within (first + leaves_inside (nest_in parts)) (length a.shape.signature.leaves) (omega (arith, low, many, n)) in
    by_parts c a given first parts e
    ∙ ap (λ b. elements_if b (subscripts_given a first given) first (nest_in parts) (leaves_with a.extent a.shape)) inside
  where
    within : (k l : ℕ) → k ≤ l → nat_le k l ≡ true
    within k l h = grind (arith, nat_tests)

pub not_given : (c : Call) (a : Aggregate) (given first : ℕ) (parts : List Part) → None ≡ subscripts_given a first given → elements_by c a (record { given = given; first = first; members = members_of parts }) ≡ None
not_given c a given first parts g =
    let nest = nest_of (members_of parts) in
    ap (λ o. elements_if (nat_le (first + leaves_inside nest) (length a.shape.signature.leaves)) o first nest (leaves_with a.extent a.shape)) (sym g)
    ∙ either (nat_le (first + leaves_inside nest) (length a.shape.signature.leaves))
  where
    either : (b : Bool) → elements_if b None first (nest_of (members_of parts)) (leaves_with a.extent a.shape) ≡ None
    either true = refl
    either false = refl

pub is_item : (c : Call) (a : Aggregate) (given : ℕ) (parts : List Part) (i : Item) (shape : Option Shape) → nest_of (members_of parts) ≡ nest_in parts → shape ≡ Some a.shape → 0 < length i.leaves.items → length i.leaves.items ≡ i.order.leaves → AreLeaves shape a.extent i.first i.leaves.items
    → Some i.given.items ≡ subscripts_given a i.first given → IsOrder parts (length i.given.items) i.order → IsItem (elements_by c a (record { given = given; first = i.first; members = members_of parts })) parts i
is_item c a given parts i shape e s some n k g o =
    let leaves = leaves_of_parts parts (length i.given.items) i.order o in
    let count : length i.leaves.items ≡ leaves_inside (nest_in parts) = n ∙ leaves in
    let kept : AreLeaves (Some a.shape) a.extent i.first i.leaves.items = subst (λ p. AreLeaves p a.extent i.first i.leaves.items) s k in
    let none : i.first ≡ i.first + 0 = omega arith in
    record {
      are =
          there c a given i.first parts i.leaves.items e some count kept
          ∙ ap (λ p. then_found p (λ is. Some (elements_inside (nest_in parts) i.first (leaves_with a.extent a.shape) is))) (sym g)
          ∙ ap (λ m. Some (elements_inside (nest_in parts) m (leaves_with a.extent a.shape) i.given.items)) none
          ∙ ap (λ l. Some l) (shifted (nest_in parts) (leaves_with a.extent a.shape) (map leaf_in_force i.leaves.items) i.first 0 (length i.leaves.items) i.given.items (omega (arith, count)) (λ m h. kept_bounds a.shape a.extent i.first m i.leaves.items kept h));
      order = o;
    }

pub leaves_if : {E : Type 0} (shape : Option Shape) (z : ℤ) (first count n : ℕ) (r : Result (Option (Vec LeafInForce Global)) E) → 0 < count → n ≡ count
    → IfOk r (λ o. MatchOption o (IsMissing shape z first n) (λ leaves. AreLeaves shape z first leaves.items)) → IfOk r (λ o. MatchOption o (0 ≤ n) (λ leaves. length leaves.items ≡ n)) → IfOk r (λ o. IsLeavesIf shape z first count o)
leaves_if shape z first count n (Ok None) some e h l = subst (λ k. IsMissing shape z first k) e h
leaves_if shape z first count n (Ok (Some v)) some e h l = (some, h, l ∙ e)
leaves_if shape z first count n (Err x) some e h l = tt
