-- What a whole signature comes to, and its leaves with an extent.
use Rattle.std.proofs.Common.{◌≡◌, ◌≢◌, ℕ, zero, suc, ◌+◌, ◌<◌, ◌≤◌, List, [], ◌∷◌, length, map, take, get_or, Bool, true, false, cond, Option, Some, None, refl, ap, sym, ◌∙◌, arith, eqb, is_some}
use Rattle.std.specs.Prelude.{ℤ, ◌&&◌, slice_get, nat_lt}
use Rattle.std.proofs.lemmas.Bool.Decides.{nat_tests}
use Rattle.std.proofs.lemmas.List.{length-map, get_or-map}
use Rattle.pli_typing.specs.Signatures as S
use Rattle.pli_typing.specs.Signatures.{capped, leaves_size}
use Rattle.pli_types.specs.Templates.{OpenKind, OpenFixed, OpenCharacter, OpenVarying, OpenArea, OpenBit, OpenPointer, OpenOffset, OpenLeaf, Template, kind_so_far, bounds_so_far, leaf_so_far}
use Rattle.pli_types.specs.declared.signature.Leaf.{Leaf}
use Rattle.pli_types.specs.View.{leaf_of}
use Rattle.pli_meaning.specs.Contents.{last_refers, leaves_refer}
use Rattle.pli_serving.specs.Templates.{whole_kind, whole_bounds, whole_leaves, leaf_with, put_before, shape_with, shape_in}
use Rattle.pli_serving.specs.Arguments.{capacity_of_kind, capacity_of_leaves}
use Rattle.pli_signatures.specs.Whole.{is_known_kind, are_known, is_known_leaf, are_known_leaves, shape_so_far, leaf_told, extent_told, place_in}

kind_is : (k : OpenKind) → whole_kind k ≡ cond (is_known_kind k) (Some (kind_so_far k)) None
kind_is (OpenFixed p) = refl
kind_is (OpenCharacter None) = refl
kind_is (OpenCharacter (Some n)) = refl
kind_is (OpenVarying None) = refl
kind_is (OpenVarying (Some n)) = refl
kind_is (OpenArea None) = refl
kind_is (OpenArea (Some n)) = refl
kind_is OpenBit = refl
kind_is OpenPointer = refl
kind_is OpenOffset = refl

put_if : {A : Type 0} (t : Bool) (a : A) (as' : List A) → put_before (Some a) (cond t (Some as') None) ≡ cond t (Some (a ∷ as')) None
put_if true a as' = refl
put_if false a as' = refl

bounds_are : (bs : List (Option S.Bounds)) → whole_bounds bs ≡ cond (are_known bs) (Some (map bounds_so_far bs)) None
bounds_are [] = refl
bounds_are (None ∷ bs) = refl
bounds_are (Some b ∷ bs) = ap (λ l. put_before (Some b) l) (bounds_are bs) ∙ put_if (are_known bs) b (map bounds_so_far bs)

leaf_if : (s t : Bool) (k : S.LeafKind) (bs : List S.Bounds) → leaf_with (cond s (Some k) None) (cond t (Some bs) None) ≡ cond (s && t) (Some (record { kind = k; bounds = bs })) None
leaf_if true true k bs = refl
leaf_if true false k bs = refl
leaf_if false true k bs = refl
leaf_if false false k bs = refl

leaf_is : (l : OpenLeaf) → leaf_with (whole_kind l.kind) (whole_bounds l.bounds) ≡ cond (is_known_leaf l) (Some (leaf_so_far l)) None
leaf_is l =
    ap (λ k. leaf_with k (whole_bounds l.bounds)) (kind_is l.kind)
    ∙ ap (λ bs. leaf_with (cond (is_known_kind l.kind) (Some (kind_so_far l.kind)) None) bs) (bounds_are l.bounds)
    ∙ leaf_if (is_known_kind l.kind) (are_known l.bounds) (kind_so_far l.kind) (map bounds_so_far l.bounds)

put_both : {A : Type 0} (s t : Bool) (a : A) (as' : List A) → put_before (cond s (Some a) None) (cond t (Some as') None) ≡ cond (s && t) (Some (a ∷ as')) None
put_both true true a as' = refl
put_both true false a as' = refl
put_both false true a as' = refl
put_both false false a as' = refl

leaves_are : (ls : List OpenLeaf) → whole_leaves ls ≡ cond (are_known_leaves ls) (Some (map leaf_so_far ls)) None
leaves_are [] = refl
leaves_are (l ∷ ls) =
    ap (λ x. put_before x (whole_leaves ls)) (leaf_is l)
    ∙ ap (λ x. put_before (cond (is_known_leaf l) (Some (leaf_so_far l)) None) x) (leaves_are ls)
    ∙ put_both (is_known_leaf l) (are_known_leaves ls) (leaf_so_far l) (map leaf_so_far ls)

pub is_shape : (t : Template) (o : Option Template) → Some t ≡ o → true ≡ are_known_leaves t.leaves → shape_in o ≡ Some (shape_so_far t)
is_shape t o e known =
    ap shape_in (sym e)
    ∙ ap (λ ls. shape_with t.class t.refer ls) (leaves_are t.leaves ∙ ap (λ b. cond b (Some (map leaf_so_far t.leaves)) None) (sym known))

pub is_open : (t : Template) (o : Option Template) → Some t ≡ o → false ≡ are_known_leaves t.leaves → shape_in o ≡ None
is_open t o e known =
    ap shape_in (sym e)
    ∙ ap (λ ls. shape_with t.class t.refer ls) (leaves_are t.leaves ∙ ap (λ b. cond b (Some (map leaf_so_far t.leaves)) None) (sym known))

-- ---- leaves with an extent

more_behind : (n : ℕ) → eqb (0 + 1) (suc (suc n)) ≡ false
more_behind n = grind (arith, nat_tests)

same_test : (m n : ℕ) → eqb (suc m + 1) (suc n) ≡ eqb (m + 1) n
same_test m n = grind (arith, nat_tests)

last_at : (z : ℤ) (ls : List S.Leaf) (leaf : ℕ) (blank : S.Leaf) → leaf < length ls
    → slice_get (last_refers z ls) leaf ≡ Some (leaf_told (extent_told true leaf (length ls) z) (get_or ls leaf blank))
last_at z [] leaf blank h = absurd (omega arith)
last_at z (l ∷ []) zero blank h = refl
last_at z (l ∷ []) (suc n) blank h = absurd (omega arith)
last_at z (l ∷ m ∷ ls) zero blank h = ap (λ b. Some (leaf_told (cond b (Some z) None) l)) (sym (more_behind (length ls)))
last_at z (l ∷ m ∷ ls) (suc n) blank h =
    last_at z (m ∷ ls) n blank (omega arith) ∙ ap (λ b. Some (leaf_told (cond b (Some z) None) (get_or (m ∷ ls) n blank))) (sym (same_test n (length (m ∷ ls))))

plain_at : (ls : List S.Leaf) (leaf : ℕ) (blank : S.Leaf) → leaf < length ls → slice_get ls leaf ≡ Some (get_or ls leaf blank)
plain_at [] leaf blank h = absurd (omega arith)
plain_at (l ∷ ls) zero blank h = refl
plain_at (l ∷ ls) (suc n) blank h = plain_at ls n blank (omega arith)

refer_at : (z : ℤ) (refer : Option ℕ) (ls : List S.Leaf) (leaf : ℕ) (blank : S.Leaf) → leaf < length ls
    → slice_get (leaves_refer z refer ls) leaf ≡ Some (leaf_told (extent_told (is_some refer) leaf (length ls) z) (get_or ls leaf blank))
refer_at z None ls leaf blank h = plain_at ls leaf blank h
refer_at z (Some m) ls leaf blank h = last_at z ls leaf blank h

last_length : (z : ℤ) (ls : List S.Leaf) → length (last_refers z ls) ≡ length ls
last_length z [] = refl
last_length z (l ∷ []) = refl
last_length z (l ∷ m ∷ ls) = ap suc (last_length z (m ∷ ls))

out_of : (ls : List S.Leaf) (leaf : ℕ) → length ls ≤ leaf → slice_get ls leaf ≡ None
out_of [] leaf h = refl
out_of (l ∷ ls) zero h = absurd (omega arith)
out_of (l ∷ ls) (suc n) h = out_of ls n (omega arith)

refer_out : (z : ℤ) (refer : Option ℕ) (ls : List S.Leaf) (leaf : ℕ) → length ls ≤ leaf → slice_get (leaves_refer z refer ls) leaf ≡ None
refer_out z None ls leaf h = out_of ls leaf h
refer_out z (Some m) ls leaf h = let n = last_length z ls in out_of (last_refers z ls) leaf (omega (arith, n, h))

abbrev pub so_far_of : Leaf → S.Leaf
so_far_of l = leaf_so_far (leaf_of l)

abbrev pub all_so_far : List Leaf → List S.Leaf
all_so_far ls = map leaf_so_far (map leaf_of ls)

so_far_length : (ls : List Leaf) → length (all_so_far ls) ≡ length ls
so_far_length ls = length-map (map leaf_of ls) leaf_so_far ∙ length-map ls leaf_of

so_far_at : (ls : List Leaf) (leaf : ℕ) (x : Leaf) → leaf < length ls → get_or (all_so_far ls) leaf (so_far_of x) ≡ so_far_of (get_or ls leaf x)
so_far_at ls leaf x h =
    let n = length-map ls leaf_of in
    get_or-map leaf_so_far (map leaf_of ls) leaf (leaf_of x) (so_far_of x) (omega (arith, n, h)) ∙ ap leaf_so_far (get_or-map leaf_of ls leaf x (leaf_of x) h)

pub leaf_there : (z : ℤ) (refer : Option ℕ) (ls : List Leaf) (leaf : ℕ) (x : Leaf) (told : Option ℤ) → leaf < length ls → x ≡ get_or ls leaf x
    → told ≡ extent_told (is_some refer) leaf (length ls) z → slice_get (leaves_refer z refer (all_so_far ls)) leaf ≡ Some (leaf_told told (so_far_of x))
leaf_there z refer ls leaf x told h item t =
    let n = so_far_length ls in
    refer_at z refer (all_so_far ls) leaf (so_far_of x) (omega (arith, n, h))
    ∙ ap (λ k. Some (leaf_told (extent_told (is_some refer) leaf k z) (get_or (all_so_far ls) leaf (so_far_of x)))) n
    ∙ ap (λ y. Some (leaf_told (extent_told (is_some refer) leaf (length ls) z) y)) (so_far_at ls leaf x h ∙ ap so_far_of (sym item))
    ∙ ap (λ o. Some (leaf_told o (so_far_of x))) (sym t)

pub leaf_missing : (z : ℤ) (refer : Option ℕ) (ls : List Leaf) (leaf : ℕ) → length ls ≤ leaf → slice_get (leaves_refer z refer (all_so_far ls)) leaf ≡ None
leaf_missing z refer ls leaf h = let n = so_far_length ls in refer_out z refer (all_so_far ls) leaf (omega (arith, n, h))

-- ---- where a leaf begins

last_before : (z : ℤ) (ls : List S.Leaf) (leaf : ℕ) → leaf < length ls → take leaf (last_refers z ls) ≡ take leaf ls
last_before z [] leaf h = absurd (omega arith)
last_before z (l ∷ []) zero h = refl
last_before z (l ∷ []) (suc n) h = absurd (omega arith)
last_before z (l ∷ m ∷ ls) zero h = refl
last_before z (l ∷ m ∷ ls) (suc n) h = ap (λ xs. l ∷ xs) (last_before z (m ∷ ls) n (omega arith))

refer_before : (z : ℤ) (refer : Option ℕ) (ls : List S.Leaf) (leaf : ℕ) → leaf < length ls → take leaf (leaves_refer z refer ls) ≡ take leaf ls
refer_before z None ls leaf h = refl
refer_before z (Some m) ls leaf h = last_before z ls leaf h

take_so_far : (n : ℕ) (ls : List Leaf) → take n (all_so_far ls) ≡ all_so_far (take n ls)
take_so_far zero ls = refl
take_so_far (suc n) [] = refl
take_so_far (suc n) (l ∷ ls) = ap (λ xs. so_far_of l ∷ xs) (take_so_far n ls)

pub place_there : (z : ℤ) (t : Template) (ls : List Leaf) (leaf r : ℕ) → t.leaves ≡ map leaf_of ls → leaf < length ls → r ≡ capped (leaves_size (all_so_far (take leaf ls)))
    → Some r ≡ place_in (Some (shape_so_far t)) leaf z
place_there z t ls leaf r e h s =
    let n = so_far_length ls in
    let inside : leaf < length (all_so_far ls) = omega (arith, n, h) in
    let test : nat_lt leaf (length (all_so_far ls)) ≡ true = grind (arith, nat_tests) in
    let before : take leaf (leaves_refer z t.refer (all_so_far ls)) ≡ all_so_far (take leaf ls) = refer_before z t.refer (all_so_far ls) leaf inside ∙ take_so_far leaf ls in
    rw e (rw (test, before) (ap (λ k. Some k) s))

pub place_missing : (z : ℤ) (t : Template) (ls : List Leaf) (leaf : ℕ) → t.leaves ≡ map leaf_of ls → length ls ≤ leaf → None ≡ place_in (Some (shape_so_far t)) leaf z
place_missing z t ls leaf e h =
    let n = so_far_length ls in
    let outside : length (all_so_far ls) ≤ leaf = omega (arith, n, h) in
    let test : nat_lt leaf (length (all_so_far ls)) ≡ false = grind (arith, nat_tests) in
    rw e (rw test refl)

-- ---- capacities

pub capacity_one : (ls : List Leaf) (x : Leaf) → length ls ≡ 1 → x ≡ get_or ls 0 x → capacity_of_leaves (all_so_far ls) ≡ capacity_of_kind (so_far_of x).kind
capacity_one [] x h e = absurd (omega (arith, h))
capacity_one (l ∷ []) x h e = ap (λ (y : Leaf). capacity_of_kind (so_far_of y).kind) (sym e)
capacity_one (l ∷ m ∷ ls) x h e = absurd (omega (arith, h))

pub capacity_many : (ls : List Leaf) → length ls ≢ 1 → capacity_of_leaves (all_so_far ls) ≡ None
capacity_many [] h = refl
capacity_many (l ∷ []) h = absurd (h refl)
capacity_many (l ∷ m ∷ ls) h = refl
