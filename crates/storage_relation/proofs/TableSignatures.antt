-- Signatures of an image's table: their words differ, so their templates do, where each keeps the rules of tables.
use Rattle.std.proofs.Common.{◌≡◌, ℕ, zero, suc, ◌+◌, ◌≤◌, ◌<◌, ◌^◌, List, [], ◌∷◌, length}
use Rattle.std.proofs.Common.{map}
use Rattle.std.proofs.Common.{Option, Some, None, Bool, true, false, refl, sym, ap, ◌∙◌, subst, arith}
use Rattle.std.specs.Prelude.{cond, not, ◌==◌, ◌&&◌, ◌||◌, slice_get, is_some, nat_le, ⊤}
use Rattle.std.specs.Int.{w32}
use Rattle.std.proofs.lemmas.Bool.{eqb-true}
use Rattle.std.proofs.lemmas.Bool.Decides.{nat_tests}
use Rattle.std.proofs.lemmas.Int.{of_z-to_z}
use Rattle.rv_meaning.specs.declared.image.TableKind.{TableKind}
use Rattle.rv_meaning.specs.declared.image.TableKind.TheVariants as K
use Rattle.rv_meaning.specs.Tables as R
use Rattle.rv_meaning.specs.Tables.{Pair, TableLeaf, TableSignature, IsSignature, LeavesFit, IsLeaf, run_time_size}
use Rattle.rv_meaning.specs.Tables.{is_run_time}
use Rattle.rv_meaning.specs.Words.{signed, word}
use Rattle.pli_language.specs.Keywords.{same_bytes}
use Rattle.pli_typing.specs.Signatures.{Bounds}
use Rattle.pli_types.specs.Templates.{OpenFixed, OpenCharacter, OpenVarying, OpenArea, OpenLeaf, Template}
use Rattle.pli_serving.specs.SignatureService.{same_template}
use Rattle.pli_serving.specs.Templates as T
use Rattle.pli_serving.specs.Templates.{template_of}
use Rattle.storage_relation.specs.Served.{AllDiffer}
use Rattle.storage_relation.specs.Tables.{ArePairs, AreLeaves, AreRuled, AllOnce}
use Rattle.pli_typing.specs.TypedTree as Y
use Rattle.std.specs.List.{flat_map}
use Rattle.pli_coding.specs.SignatureTable.{same_signature, signature_of, with_signature, with_signatures, table_of}
use Rattle.storage_relation.proofs.Elements.{first_true, second_true, and_true}
use Rattle.storage_relation.proofs.Holders.{eqb-refl, eqb-other}
use Rattle.storage_relation.proofs.Numbering.{template_is, template_itself}
use Rattle.storage_relation.proofs.Turning.{some_same}

-- ---- bounds

signed_back : (a b : ℕ) → a < 2 ^ 32 → b < 2 ^ 32 → signed a ≡ signed b → a ≡ b
signed_back a b h i e = sym (of_z-to_z w32 a h) ∙ ap word e ∙ of_z-to_z w32 b i

run_time_is : (p : Pair) → is_run_time p.lower p.upper ≡ true → p ≡ record { lower = 1; upper = 0 }
run_time_is p e =
    let l = eqb-true p.lower 1 (first_true (p.lower == 1) (p.upper == 0) e) in
    let u = eqb-true p.upper 0 (second_true (p.lower == 1) (p.upper == 0) e) in
    ap (λ x. record { lower = x; upper = p.upper }) l ∙ ap (λ x. record { lower = 1; upper = x }) u

abbrev whole_pair : Pair → Option Bounds
whole_pair p = Some (record { lower = signed p.lower; upper = signed p.upper })

pair_back :
    (r : Bool) (p q : Pair) → (p.lower < 2 ^ 32) × (p.upper < 2 ^ 32) → (q.lower < 2 ^ 32) × (q.upper < 2 ^ 32) →
    T.pair_of r p ≡ T.pair_of r q → p ≡ q
pair_back r p q small few e =
    by (is_run_time p.lower p.upper && not r) (is_run_time q.lower q.upper && not r) refl refl e
  where
    by :
        (s t : Bool) → (is_run_time p.lower p.upper && not r) ≡ s → (is_run_time q.lower q.upper && not r) ≡ t →
        cond s None (whole_pair p) ≡ cond t None (whole_pair q) → p ≡ q
    by true true f g e =
        run_time_is p (first_true (is_run_time p.lower p.upper) (not r) f)
        ∙ sym (run_time_is q (first_true (is_run_time q.lower q.upper) (not r) g))
    by true false f g e = absurd (cc e)
    by false true f g e = absurd (cc e)
    by false false f g e =
        let b = some_same e in
        let l = signed_back p.lower q.lower small.0 few.0 (ap (λ (x : Bounds). x.lower) b) in
        let u = signed_back p.upper q.upper small.1 few.1 (ap (λ (x : Bounds). x.upper) b) in
        ap (λ x. record { lower = x; upper = p.upper }) l ∙ ap (λ x. record { lower = q.lower; upper = x }) u

first_of : {A : Type 0} {x y : A} {xs ys : List A} → x ∷ xs ≡ y ∷ ys → x ≡ y
first_of e = cc e

rest_of : {A : Type 0} {x y : A} {xs ys : List A} → x ∷ xs ≡ y ∷ ys → xs ≡ ys
rest_of e = cc e

pairs_back :
    (r : Bool) (ps qs : List Pair) → ArePairs ps → ArePairs qs → map (T.pair_of r) ps ≡ map (T.pair_of r) qs → ps ≡ qs
pairs_back r [] [] a b e = refl
pairs_back r [] (q ∷ qs) a b e = absurd (cc e)
pairs_back r (p ∷ ps) [] a b e = absurd (cc e)
pairs_back r (p ∷ ps) (q ∷ qs) a b e =
    ap (λ x. x ∷ ps) (pair_back r p q (a.0, a.1) (b.0, b.1) (first_of e))
    ∙ ap (λ xs. q ∷ xs) (pairs_back r ps qs a.2 b.2 (rest_of e))

-- ---- kinds

-- a size that isn't known before the run, where REFER doesn't tell it, or where both are told or neither
size_back :
    (r : Bool) (n m : ℕ) → ((r ≡ true) → (n == run_time_size) ≡ (m == run_time_size)) → T.size_of r n ≡ T.size_of r m →
    n ≡ m
size_back r n m same e = by r (n == run_time_size) (m == run_time_size) refl refl refl e
  where
    by :
        (q s t : Bool) → r ≡ q → (n == run_time_size) ≡ s → (m == run_time_size) ≡ t →
        cond s (cond q (Some 0) None) (Some n) ≡ cond t (cond q (Some 0) None) (Some m) → n ≡ m
    by q true true d f g e = eqb-true n run_time_size f ∙ sym (eqb-true m run_time_size g)
    by q false false d f g e = some_same e
    by false true false d f g e = absurd (cc e)
    by false false true d f g e = absurd (cc e)
    by true true false d f g e = absurd (cc (sym f ∙ same d ∙ g))
    by true false true d f g e = absurd (cc (sym f ∙ same d ∙ g))

-- what a leaf without a size has is 0
none_sized : (n m : ℕ) → (n == 0) ≡ true → (m == 0) ≡ true → n ≡ m
none_sized n m e f = eqb-true n 0 e ∙ sym (eqb-true m 0 f)

kind_back :
    (r : Bool) (a b : TableKind) (n m : ℕ) → R.size_fits a n ≡ true → R.size_fits b m ≡ true →
    ((r ≡ true) → (n == run_time_size) ≡ (m == run_time_size)) → T.kind_of r a n ≡ T.kind_of r b m →
    (a ≡ b) × (n ≡ m)
kind_back r K.Fixed K.Fixed n m f g same e = (refl, number e)
  where
    number : {x y : ℕ} → OpenFixed x ≡ OpenFixed y → x ≡ y
    number e = cc e
kind_back r K.Character K.Character n m f g same e = (refl, size_back r n m same (size e))
  where
    size : {x y : Option ℕ} → OpenCharacter x ≡ OpenCharacter y → x ≡ y
    size e = cc e
kind_back r K.Varying K.Varying n m f g same e = (refl, size_back r n m same (size e))
  where
    size : {x y : Option ℕ} → OpenVarying x ≡ OpenVarying y → x ≡ y
    size e = cc e
kind_back r K.Area K.Area n m f g same e = (refl, size_back r n m same (size e))
  where
    size : {x y : Option ℕ} → OpenArea x ≡ OpenArea y → x ≡ y
    size e = cc e
kind_back r K.Bit K.Bit n m f g same e = (refl, none_sized n m f g)
kind_back r K.Pointer K.Pointer n m f g same e = (refl, none_sized n m f g)
kind_back r K.Offset K.Offset n m f g same e = (refl, none_sized n m f g)
kind_back r _ _ n m f g same e = absurd (cc e)

-- ---- leaves

-- where REFER tells an extent of the leaf, it has just one
leaf_back :
    (r : Bool) (l m : TableLeaf) → ArePairs l.pairs → ArePairs m.pairs → R.size_fits l.kind l.size ≡ true →
    R.size_fits m.kind m.size ≡ true →
    ((r ≡ true) → (R.has_one_extent (R.shape_of l) ≡ true) × (R.has_one_extent (R.shape_of m) ≡ true)) →
    T.leaf_of r l ≡ T.leaf_of r m → l ≡ m
leaf_back r l m a b f g one e =
    ap (λ k. record { kind = k; size = l.size; pairs = l.pairs }) kind.0
    ∙ ap (λ n. record { kind = m.kind; size = n; pairs = l.pairs }) kind.1
    ∙ ap (λ ps. record { kind = m.kind; size = m.size; pairs = ps }) pairs
  where
    pairs : l.pairs ≡ m.pairs
    pairs = pairs_back r l.pairs m.pairs a b (ap (λ (o : OpenLeaf). o.bounds) e)

    sized :
        (s t : Bool) (d : ℕ) (n k : ℕ) → cond s (d == 0) ((d == 1) && (n == 1)) ≡ true →
        cond t (d == 0) ((d == 1) && (k == 1)) ≡ true → s ≡ t
    sized true true d n k x y = refl
    sized false false d n k x y = refl
    sized true false d n k x y =
        let z = eqb-true d 0 x in
        let o = eqb-true d 1 (first_true (d == 1) (k == 1) y) in
        absurd (omega (arith, z, o))
    sized false true d n k x y =
        let z = eqb-true d 0 y in
        let o = eqb-true d 1 (first_true (d == 1) (n == 1) x) in
        absurd (omega (arith, z, o))

    same : r ≡ true → (l.size == run_time_size) ≡ (m.size == run_time_size)
    same h =
        let both = one h in
        sized (l.size == run_time_size) (m.size == run_time_size) (length l.pairs) (R.run_time_pairs l.pairs)
        (R.run_time_pairs m.pairs) both.0
        (subst (λ (ps : List Pair). cond (m.size == run_time_size) (length ps == 0) ((length ps == 1)
        && (R.run_time_pairs m.pairs == 1)) ≡ true) (sym pairs) both.1)

    kind : (l.kind ≡ m.kind) × (l.size ≡ m.size)
    kind = kind_back r l.kind m.kind l.size m.size f g same (ap (λ (o : OpenLeaf). o.kind) e)

-- the last of so many leaves has one extent, where REFER tells one
last_extent :
    (count refer place : ℕ) (l : TableLeaf) → IsLeaf count refer place l → (refer == 0) ≡ false → count ≡ suc place →
    R.has_one_extent (R.shape_of l) ≡ true
last_extent count refer place l is some last =
    by (refer == 0) (count == suc place) some (subst (λ n. (count == n) ≡ true) last (eqb-refl count))
    (second_true ((not (R.is_area l.kind) || ((count == 1) && (length l.pairs == 0)))
    && (not (refer == suc place) || (R.is_fixed l.kind && (length l.pairs == 0))))
    (((refer == 0) || not (count == suc place)) || R.has_one_extent (R.shape_of l)) is.placed)
  where
    by :
        (z q : Bool) → z ≡ false → q ≡ true → ((z || not q) || R.has_one_extent (R.shape_of l)) ≡ true →
        R.has_one_extent (R.shape_of l) ≡ true
    by false true e f h = h
    by true q e f h = absurd (cc e)
    by false false e f h = absurd (cc f)

leaves_back :
    (count refer place : ℕ) (r : Bool) (ls ms : List TableLeaf) → ((r ≡ true) → (refer == 0) ≡ false) →
    (count ≡ place + length ls) × (count ≡ place + length ms) →
    LeavesFit count refer place ls × LeavesFit count refer place ms → AreLeaves ls × AreLeaves ms →
    T.leaves_of r ls ≡ T.leaves_of r ms → ls ≡ ms
leaves_back count refer place r [] [] some counts fit words e = refl
leaves_back count refer place r [] (m ∷ ms) some counts fit words e =
    let a = counts.0 in let b = counts.1 in absurd (omega (arith, a, b))
leaves_back count refer place r (l ∷ ls) [] some counts fit words e =
    let a = counts.0 in let b = counts.1 in absurd (omega (arith, a, b))
leaves_back count refer place r (l ∷ []) (m ∷ []) some counts fit words e =
    ap (λ x. x ∷ [])
    (leaf_back r l m words.0.0 words.1.0 fit.0.0.sized fit.1.0.sized
    (λ h. let a = counts.0 in
    let last : count ≡ suc place = omega (arith, a) in
    (last_extent count refer place l fit.0.0 (some h) last, last_extent count refer place m fit.1.0 (some h) last))
    (first_of e))
leaves_back count refer place r (l ∷ []) (m ∷ n ∷ ms) some counts fit words e =
    let a = counts.0 in let b = counts.1 in absurd (omega (arith, a, b))
leaves_back count refer place r (l ∷ k ∷ ls) (m ∷ []) some counts fit words e =
    let a = counts.0 in let b = counts.1 in absurd (omega (arith, a, b))
leaves_back count refer place r (l ∷ k ∷ ls) (m ∷ n ∷ ms) some counts fit words e =
    let a = counts.0 in
    let b = counts.1 in
    ap (λ x. x ∷ k ∷ ls)
    (leaf_back false l m words.0.0 words.1.0 fit.0.0.sized fit.1.0.sized (λ h. absurd (cc h)) (first_of e))
    ∙ ap (λ xs. m ∷ xs)
    (leaves_back count refer (suc place) r (k ∷ ls) (n ∷ ms) some (omega (arith, a), omega (arith, b))
    (fit.0.1, fit.1.1) (words.0.1, words.1.1) (rest_of e))

leaves_counted : (r : Bool) (ls : List TableLeaf) → length (T.leaves_of r ls) ≡ length ls
leaves_counted r [] = refl
leaves_counted r (l ∷ []) = refl
leaves_counted r (l ∷ m ∷ ls) = ap (λ n. suc n) (leaves_counted r (m ∷ ls))

-- ---- signatures

class_small : (n : ℕ) → nat_le n 1 ≡ true → n ≤ 1
class_small n e = grind (arith, nat_tests)

class_back : (a b : ℕ) → nat_le a 1 ≡ true → nat_le b 1 ≡ true → T.class_of a ≡ T.class_of b → a ≡ b
class_back zero zero f g e = refl
class_back (suc zero) (suc zero) f g e = refl
class_back zero (suc zero) f g e = absurd (cc e)
class_back (suc zero) zero f g e = absurd (cc e)
class_back zero (suc (suc b)) f g e = let h = class_small (suc (suc b)) g in absurd (omega (arith, h))
class_back (suc (suc a)) b f g e = let h = class_small (suc (suc a)) f in absurd (omega (arith, h))
class_back (suc zero) (suc (suc b)) f g e = let h = class_small (suc (suc b)) g in absurd (omega (arith, h))

refer_back : (a b : ℕ) → T.refer_of a ≡ T.refer_of b → a ≡ b
refer_back zero zero e = refl
refer_back zero (suc b) e = absurd (cc e)
refer_back (suc a) zero e = absurd (cc e)
refer_back (suc a) (suc b) e = ap (λ n. suc n) (some_same e)

some_refer : (a : ℕ) → is_some (T.refer_of a) ≡ true → (a == 0) ≡ false
some_refer zero e = absurd (cc e)
some_refer (suc a) e = eqb-other (suc a) 0 (omega arith)

-- where the rules hold, the template tells the signature
signature_back :
    (g h : TableSignature) → IsSignature g × AreLeaves g.leaves → IsSignature h × AreLeaves h.leaves →
    template_of g ≡ template_of h → g ≡ h
signature_back g h is as' e =
    ap (λ c. record { class = c; refer = g.refer; leaves = g.leaves }) class
    ∙ ap (λ n. record { class = h.class; refer = n; leaves = g.leaves }) refer
    ∙ ap (λ ls. record { class = h.class; refer = h.refer; leaves = ls }) leaves
  where
    head : (s : TableSignature) → IsSignature s → nat_le s.class 1 ≡ true
    head s i =
        first_true (nat_le s.class 1) (nat_le 1 (length s.leaves))
        (first_true (nat_le s.class 1 && nat_le 1 (length s.leaves))
        ((s.refer == 0) || ((s.class == 0) && nat_le (suc s.refer) (length s.leaves))) i.headed)

    class : g.class ≡ h.class
    class = class_back g.class h.class (head g is.0) (head h as'.0) (ap (λ (t : Template). t.class) e)

    refer : g.refer ≡ h.refer
    refer = refer_back g.refer h.refer (ap (λ (t : Template). t.refer) e)

    same : T.leaves_of (is_some (T.refer_of g.refer)) g.leaves ≡ T.leaves_of (is_some (T.refer_of g.refer)) h.leaves
    same =
        ap (λ (t : Template). t.leaves) e
        ∙ ap (λ n. T.leaves_of (is_some (T.refer_of n)) h.leaves) (sym refer)

    count : length g.leaves ≡ length h.leaves
    count =
        sym (leaves_counted (is_some (T.refer_of g.refer)) g.leaves)
        ∙ ap length same
        ∙ leaves_counted (is_some (T.refer_of g.refer)) h.leaves

    leaves : g.leaves ≡ h.leaves
    leaves =
        leaves_back (length g.leaves) g.refer 0 (is_some (T.refer_of g.refer)) g.leaves h.leaves
        (λ s. some_refer g.refer s) (omega arith, omega (arith, count)) (
          is.0.leaved,
          subst (λ n. LeavesFit n g.refer 0 h.leaves) (sym count)
              (subst (λ n. LeavesFit (length h.leaves) n 0 h.leaves) (sym refer) as'.0.leaved),
        )
        (is.1, as'.1) same

-- ---- tables

ruled_at : (t : List TableSignature) (i : ℕ) (g : TableSignature) → AreRuled t → slice_get t i ≡ Some g →
    IsSignature g × AreLeaves g.leaves
ruled_at [] i g r e = absurd (cc e)
ruled_at (h ∷ t) zero g r e =
    let f : h ≡ g = some_same e in subst (λ x. IsSignature x × AreLeaves x.leaves) f (r.0, r.1)
ruled_at (h ∷ t) (suc i) g r e = ruled_at t i g r.2 e

mapped_at : (t : List TableSignature) (i : ℕ) (a : Template) → slice_get (map template_of t) i ≡ Some a →
    (g : TableSignature) × (slice_get t i ≡ Some g) × (template_of g ≡ a)
mapped_at [] i a e = absurd (cc e)
mapped_at (g ∷ t) zero a e = (g, refl, some_same e)
mapped_at (g ∷ t) (suc i) a e = mapped_at t i a e

words_itself : (ws : List ℕ) → same_bytes ws ws ≡ true
words_itself [] = refl
words_itself (w ∷ ws) = and_true (w == w) (same_bytes ws ws) (eqb-refl w) (words_itself ws)

pub table_differs : (t : List TableSignature) → AllOnce t → AreRuled t → AllDiffer (map template_of t)
table_differs t once ruled i j a b e f =
    ap (λ z. same_template z b) (sym x.2)
    ∙ ap (same_template (template_of x.0)) (sym y.2)
    ∙ cases (same_template (template_of x.0) (template_of y.0)) (i == j) refl refl
  where
    x : (g : TableSignature) × (slice_get t i ≡ Some g) × (template_of g ≡ a)
    x = mapped_at t i a e

    y : (g : TableSignature) × (slice_get t j ≡ Some g) × (template_of g ≡ b)
    y = mapped_at t j b f

    cases :
        (s u : Bool) → same_template (template_of x.0) (template_of y.0) ≡ s → (i == j) ≡ u →
        same_template (template_of x.0) (template_of y.0) ≡ (i == j)
    cases true true k l = k ∙ sym l
    cases false false k l = k ∙ sym l
    cases true false k l =
        let m = signature_back x.0 y.0 (ruled_at t i x.0 ruled x.1) (ruled_at t j y.0 ruled y.1)
        (template_is (template_of x.0) (template_of y.0) k) in
        absurd (cc (sym (once i j x.0 y.0 x.1 y.1 ∙ l) ∙ ap (same_signature x.0) (sym m)
        ∙ words_itself (R.signature_words x.0)))
    cases false true k l =
        let same : x.0 ≡ y.0 =
        some_same (sym x.1 ∙ ap (slice_get t) (eqb-true i j l) ∙ y.1) in
        absurd (cc (sym k ∙ ap (λ z. same_template (template_of x.0) (template_of z)) (sym same)
        ∙ template_itself (template_of x.0)))

-- ---- each once

abbrev NoneOf : TableSignature → List TableSignature → Type 0
NoneOf g [] = ⊤
NoneOf g (h ∷ hs) = (same_signature g h ≡ false) × NoneOf g hs

abbrev OnceIn : List TableSignature → Type 0
OnceIn [] = ⊤
OnceIn (g ∷ gs) = NoneOf g gs × OnceIn gs

words_turned : (a b : List ℕ) → same_bytes a b ≡ same_bytes b a
words_turned [] [] = refl
words_turned [] (y ∷ ys) = refl
words_turned (x ∷ xs) [] = refl
words_turned (x ∷ xs) (y ∷ ys) =
    ap (λ q. q && same_bytes xs ys) (turned x y) ∙ ap (λ q. (y == x) && q) (words_turned xs ys)
  where
    turned : (x y : ℕ) → (x == y) ≡ (y == x)
    turned x y = grind (arith, nat_tests)

none_with : (x g : TableSignature) (t : List TableSignature) → NoneOf x t → same_signature x g ≡ false →
    NoneOf x (with_signature g t)
none_with x g [] none e = (e, tt)
none_with x g (h ∷ t) none e = by (same_signature g h) (none_with x g t none.1 e)
  where
    by : (q : Bool) → NoneOf x (with_signature g t) → NoneOf x (cond q (h ∷ t) (h ∷ with_signature g t))
    by true rest = none
    by false rest = (none.0, rest)

once_with : (g : TableSignature) (t : List TableSignature) → OnceIn t → OnceIn (with_signature g t)
once_with g [] once = (tt, tt)
once_with g (h ∷ t) once = by (same_signature g h) refl (once_with g t once.1)
  where
    by :
        (q : Bool) → same_signature g h ≡ q → OnceIn (with_signature g t) →
        OnceIn (cond q (h ∷ t) (h ∷ with_signature g t))
    by true e rest = once
    by false e rest =
        (none_with h g t once.0 (words_turned (R.signature_words h) (R.signature_words g) ∙ e), rest)

all_once : (ds : List Y.DeclaredVariable) (t : List TableSignature) → OnceIn t → OnceIn (with_signatures ds t)
all_once [] t once = once
all_once (d ∷ ds) t once = all_once ds (with_signature (signature_of d) t) (once_with (signature_of d) t once)

none_at : (g h : TableSignature) (t : List TableSignature) (i : ℕ) → NoneOf g t → slice_get t i ≡ Some h →
    same_signature g h ≡ false
none_at g h [] i none e = absurd (cc e)
none_at g h (x ∷ t) zero none e = subst (λ y. same_signature g y ≡ false) (some_same e) none.0
none_at g h (x ∷ t) (suc i) none e = none_at g h t i none.1 e

numbers_once : (t : List TableSignature) → OnceIn t → AllOnce t
numbers_once [] once i j g h e f = absurd (cc e)
numbers_once (x ∷ t) once zero zero g h e f =
    ap (same_signature g) (sym (some_same f) ∙ some_same e) ∙ words_itself (R.signature_words g)
numbers_once (x ∷ t) once zero (suc j) g h e f =
    subst (λ y. same_signature y h ≡ false) (some_same e) (none_at x h t j once.0 f)
    ∙ sym (eqb-other 0 (suc j) (omega arith))
numbers_once (x ∷ t) once (suc i) zero g h e f =
    words_turned (R.signature_words g) (R.signature_words h)
    ∙ subst (λ y. same_signature y g ≡ false) (some_same f) (none_at x g t i once.0 e)
    ∙ sym (eqb-other (suc i) 0 (omega arith))
numbers_once (x ∷ t) once (suc i) (suc j) g h e f = numbers_once t once.1 i j g h e f ∙ sym (less i j)
  where
    less : (i j : ℕ) → (suc i == suc j) ≡ (i == j)
    less i j = grind (arith, nat_tests)

-- the table of a program
pub table_once : (program : Y.Program) → AllOnce (table_of program)
table_once program = numbers_once (table_of program) (all_once (flat_map (λ ds. ds) program.variables) [] tt)
