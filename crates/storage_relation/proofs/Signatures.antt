-- Signatures by number: where templates differ pairwise, numbers are those of one shape each; more templates.
use Rattle.std.proofs.Common.{◌≡◌, ℕ, zero, suc, List, [], ◌∷◌, ◌++◌, map, length, Option, Some, None, Bool, true}
use Rattle.std.proofs.Common.{false, refl, sym, ap, ◌∙◌, subst}
use Rattle.std.specs.Prelude.{cond, ◌==◌, ◌&&◌, slice_get}
use Rattle.pli_typing.specs.Signatures.{LeafKind, Fixed, Character, Varying, Bit, Pointer, Offset, Area, Bounds, Leaf}
use Rattle.pli_meaning.specs.Contents.{Shape, same_int, same_kind, same_bounds, same_leaves, same_class, same_offset}
use Rattle.pli_meaning.specs.Contents.{same_shape}
use Rattle.pli_types.specs.Templates.{OpenKind, OpenFixed, OpenCharacter, OpenVarying, OpenArea, OpenBit, OpenPointer}
use Rattle.pli_types.specs.Templates.{OpenOffset, OpenLeaf, Template, known}
use Rattle.pli_serving.specs.SignatureService.{same_open_kind, same_pairs, same_open_leaves, same_template, number_of}
use Rattle.pli_serving.specs.SignatureService.{with_template}
use Rattle.pli_serving.specs.Templates.{whole_kind, whole_bounds, leaf_with, whole_leaves, put_before, shape_with}
use Rattle.pli_serving.specs.Templates.{shape_of, shape_in, shape_at}
use Rattle.storage_relation.specs.Served.{AreDistinct, AllDiffer}
use Rattle.storage_relation.specs.Stored.{Extends, KeepNumbers}

-- ---- what is whole

kind_known : (k : OpenKind) (x : LeafKind) → whole_kind k ≡ Some x → k ≡ known x
kind_known (OpenFixed p) x e = let f : Fixed p ≡ x = cc e in ap known f
kind_known (OpenCharacter None) x e = absurd (cc e)
kind_known (OpenCharacter (Some n)) x e = let f : Character n ≡ x = cc e in ap known f
kind_known (OpenVarying None) x e = absurd (cc e)
kind_known (OpenVarying (Some n)) x e = let f : Varying n ≡ x = cc e in ap known f
kind_known (OpenArea None) x e = absurd (cc e)
kind_known (OpenArea (Some n)) x e = let f : Area n ≡ x = cc e in ap known f
kind_known OpenBit x e = let f : Bit ≡ x = cc e in ap known f
kind_known OpenPointer x e = let f : Pointer ≡ x = cc e in ap known f
kind_known OpenOffset x e = let f : Offset ≡ x = cc e in ap known f

known_same : (x y : LeafKind) → same_open_kind (known x) (known y) ≡ same_kind x y
known_same (Fixed p) (Fixed q) = refl
known_same (Character p) (Character q) = refl
known_same (Varying p) (Varying q) = refl
known_same Bit Bit = refl
known_same Pointer Pointer = refl
known_same Offset Offset = refl
known_same (Area p) (Area q) = refl
known_same _ _ = refl

both_first : (p q r : Bool) → (p && q) && r ≡ p && (q && r)
both_first true q r = refl
both_first false q r = refl

bounds_same :
    (as' bs : List (Option Bounds)) (xs ys : List Bounds) → whole_bounds as' ≡ Some xs → whole_bounds bs ≡ Some ys →
    same_pairs as' bs ≡ same_bounds xs ys
bounds_same as' bs xs ys e f =
    ap (λ u. same_pairs u bs) (all_some as' xs e) ∙ ap (same_pairs (map Some xs)) (all_some bs ys f) ∙ by xs ys
  where
    all_some : (as' : List (Option Bounds)) (xs : List Bounds) → whole_bounds as' ≡ Some xs → as' ≡ map Some xs
    all_some [] xs e = let f : [] ≡ xs = cc e in ap (map Some) f
    all_some (None ∷ as') xs e = absurd (cc e)
    all_some (Some a ∷ as') xs e = rest (whole_bounds as') refl e (λ ys f. all_some as' ys f)
      where
        rest : (o : Option (List Bounds)) → whole_bounds as' ≡ o → put_before (Some a) o ≡ Some xs →
            ((ys : List Bounds) → whole_bounds as' ≡ Some ys → as' ≡ map Some ys) → Some a ∷ as' ≡ map Some xs
        rest None f e more = absurd (cc e)
        rest (Some ys) f e more = let g : a ∷ ys ≡ xs = cc e in ap (λ u. Some a ∷ u) (more ys f) ∙ ap (map Some) g

    by : (xs ys : List Bounds) → same_pairs (map Some xs) (map Some ys) ≡ same_bounds xs ys
    by [] [] = refl
    by [] (y ∷ ys) = refl
    by (x ∷ xs) [] = refl
    by (x ∷ xs) (y ∷ ys) =
        both_first (same_int x.lower y.lower) (same_int x.upper y.upper) (same_pairs (map Some xs) (map Some ys))
        ∙ ap (λ q. same_int x.lower y.lower && (same_int x.upper y.upper && q)) (by xs ys)

abbrev IsWhole : OpenLeaf → Leaf → Type 0
IsWhole l x = (l.kind ≡ known x.kind) × (whole_bounds l.bounds ≡ Some x.bounds)

abbrev AreWhole : List OpenLeaf → List Leaf → Type 0
AreWhole [] [] = Unit {0}
AreWhole (l ∷ ls) (x ∷ xs) = IsWhole l x × AreWhole ls xs
AreWhole _ _ = ⊥

are_whole : (ls : List OpenLeaf) (xs : List Leaf) → whole_leaves ls ≡ Some xs → AreWhole ls xs
are_whole [] xs e = let f : [] ≡ xs = cc e in subst (AreWhole []) f tt
are_whole (l ∷ ls) xs e =
    rest (whole_kind l.kind) (whole_bounds l.bounds) (whole_leaves ls) refl refl refl e (λ ys f. are_whole ls ys f)
  where
    rest :
        (k : Option LeafKind) (b : Option (List Bounds)) (o : Option (List Leaf)) → whole_kind l.kind ≡ k →
        whole_bounds l.bounds ≡ b → whole_leaves ls ≡ o → put_before (leaf_with k b) o ≡ Some xs →
        ((ys : List Leaf) → whole_leaves ls ≡ Some ys → AreWhole ls ys) → AreWhole (l ∷ ls) xs
    rest None b o f g h e more = absurd (cc e)
    rest (Some k) None o f g h e more = absurd (cc e)
    rest (Some k) (Some b) None f g h e more = absurd (cc e)
    rest (Some k) (Some b) (Some ys) f g h e more =
        let x : record { kind = k; bounds = b } ∷ ys ≡ xs = cc e in
        subst (AreWhole (l ∷ ls)) x ((kind_known l.kind k f, g), more ys h)

leaves_same :
    (as' bs : List OpenLeaf) (xs ys : List Leaf) → AreWhole as' xs → AreWhole bs ys →
    same_open_leaves as' bs ≡ same_leaves xs ys
leaves_same [] [] [] [] a b = refl
leaves_same [] (m ∷ bs) [] (y ∷ ys) a b = refl
leaves_same (l ∷ as') [] (x ∷ xs) [] a b = refl
leaves_same (l ∷ as') (m ∷ bs) (x ∷ xs) (y ∷ ys) a b =
    ap (λ k. same_open_kind k m.kind && (same_pairs l.bounds m.bounds && same_open_leaves as' bs)) a.0.0
    ∙ ap (λ k. same_open_kind (known x.kind) k && (same_pairs l.bounds m.bounds && same_open_leaves as' bs)) b.0.0
    ∙ ap (λ q. q && (same_pairs l.bounds m.bounds && same_open_leaves as' bs)) (known_same x.kind y.kind)
    ∙ ap (λ q. same_kind x.kind y.kind && (q && same_open_leaves as' bs))
    (bounds_same l.bounds m.bounds x.bounds y.bounds a.0.1 b.0.1)
    ∙ ap (λ q. same_kind x.kind y.kind && (same_bounds x.bounds y.bounds && q)) (leaves_same as' bs xs ys a.1 b.1)
leaves_same [] bs (x ∷ xs) ys a b = absurd a
leaves_same (l ∷ as') bs [] ys a b = absurd a
leaves_same as' [] xs (y ∷ ys) a b = absurd b
leaves_same as' (m ∷ bs) xs [] a b = absurd b

-- ---- templates and their shapes

swapped : (p q r : Bool) → p && (q && r) ≡ p && (r && q)
swapped true true true = refl
swapped true true false = refl
swapped true false true = refl
swapped true false false = refl
swapped false q r = refl

whole_shape :
    (t : Template) (s : Shape) → shape_of t ≡ Some s → (s.signature.class ≡ t.class) × (s.refer ≡ t.refer)
    × (whole_leaves t.leaves ≡ Some s.signature.leaves)
whole_shape t s e = by (whole_leaves t.leaves) refl e
  where
    by :
        (o : Option (List Leaf)) → whole_leaves t.leaves ≡ o → shape_with t.class t.refer o ≡ Some s →
        (s.signature.class ≡ t.class) × (s.refer ≡ t.refer) × (whole_leaves t.leaves ≡ Some s.signature.leaves)
    by None f e = absurd (cc e)
    by (Some ls) f e =
        let g : record { signature = record { class = t.class; leaves = ls }; refer = t.refer } ≡ s = cc e in (
          ap (λ (x : Shape). x.signature.class) (sym g),
          ap (λ (x : Shape). x.refer) (sym g),
          f
              ∙ ap (λ (x : Shape). Some x.signature.leaves) g,
        )

pub template_same :
    (t u : Template) (a b : Shape) → shape_of t ≡ Some a → shape_of u ≡ Some b → same_shape a b ≡ same_template t u
template_same t u a b e f =
    let x = whole_shape t a e in
    let y = whole_shape u b f in
    let ls = leaves_same t.leaves u.leaves a.signature.leaves b.signature.leaves
    (are_whole t.leaves a.signature.leaves x.2) (are_whole u.leaves b.signature.leaves y.2) in
    ap (λ c. same_class c b.signature.class && (same_leaves a.signature.leaves b.signature.leaves
    && same_offset a.refer b.refer)) x.0
    ∙ ap (λ c. same_class t.class c && (same_leaves a.signature.leaves b.signature.leaves
    && same_offset a.refer b.refer)) y.0
    ∙ ap (λ q. same_class t.class u.class && (q && same_offset a.refer b.refer)) (sym ls)
    ∙ ap (λ r. same_class t.class u.class && (same_open_leaves t.leaves u.leaves && same_offset r b.refer)) x.1
    ∙ ap (λ r. same_class t.class u.class && (same_open_leaves t.leaves u.leaves && same_offset t.refer r)) y.1
    ∙ swapped (same_class t.class u.class) (same_open_leaves t.leaves u.leaves) (same_offset t.refer u.refer)

pub are_distinct : (t : List Template) → AllDiffer t → AreDistinct t
are_distinct t differ i j a b e f = by (slice_get t i) (slice_get t j) refl refl e f
  where
    by :
        (x y : Option Template) → slice_get t i ≡ x → slice_get t j ≡ y → shape_in x ≡ Some a → shape_in y ≡ Some b →
        same_shape a b ≡ (i == j)
    by None y g h e f = absurd (cc e)
    by (Some x) None g h e f = absurd (cc f)
    by (Some x) (Some y) g h e f = template_same x y a b e f ∙ differ i j x y g h

-- ---- more templates

pub get_left : (xs ys : List Template) (n : ℕ) (x : Template) → slice_get xs n ≡ Some x → slice_get (xs ++ ys) n ≡ Some x
get_left [] ys n x e = absurd (cc e)
get_left (z ∷ xs) ys zero x e = e
get_left (z ∷ xs) ys (suc n) x e = get_left xs ys n x e

pub extends_kept : (old new : List Template) → KeepNumbers old new → Extends old new
extends_kept old new keep n s e = by (slice_get old n) refl e
  where
    by : (x : Option Template) → slice_get old n ≡ x → shape_in x ≡ Some s → shape_in (slice_get new n) ≡ Some s
    by None f e = absurd (cc e)
    by (Some x) f e = ap shape_in (keep n x f) ∙ e

pub kept_template : (u : Template) (t : List Template) → KeepNumbers t (with_template u t)
kept_template u t n x e = by (number_of u t == length t)
  where
    by : (q : Bool) → slice_get (cond q (t ++ u ∷ []) t) n ≡ Some x
    by true = get_left t (u ∷ []) n x e
    by false = e
