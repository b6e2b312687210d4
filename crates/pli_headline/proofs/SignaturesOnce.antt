-- Signatures in the table, whatever they are: equal words are those of one signature, so the number of a variable's signature leads back
-- to it, and the table is no longer than there are variables.
use Rattle.std.proofs.Common.{◌≡◌, ◌⊎◌, inl, inr, ℕ, zero, suc, ◌+◌, ◌≤◌, List, [], ◌∷◌, ◌++◌, length, Some, Bool, true, false, refl, sym, ap, ◌∙◌, arith, true≢false}
use Rattle.std.specs.Prelude.{slice_get, cond}
use Rattle.rv_meaning.specs.declared.image.TableKind.{TableKind}
use Rattle.rv_meaning.specs.declared.image.TableKind.TheVariants as K
use Rattle.rv_meaning.specs.Tables.{Pair, TableLeaf, TableSignature, kind_number, pairs_words, leaves_words, signature_words}
use Rattle.pli_typing.specs.TypedTree as Y
use Rattle.pli_coding.specs.SignatureTable.{signature_of, same_signature, with_signature, with_signatures, number_in_table}
use Rattle.code_marks.proofs.DataOnce.{same_bytes-equal, same_bytes-same}
use Rattle.pli_headline.proofs.PlainSignatures.{HasSignature, HasAll, all_keep}

-- ---- equal words, equal signatures

abbrev kind_from : ℕ → TableKind
kind_from (suc zero) = K.Fixed
kind_from (suc (suc zero)) = K.Character
kind_from (suc (suc (suc zero))) = K.Varying
kind_from (suc (suc (suc (suc zero)))) = K.Bit
kind_from (suc (suc (suc (suc (suc zero))))) = K.Pointer
kind_from (suc (suc (suc (suc (suc (suc zero)))))) = K.Offset
kind_from _ = K.Area

kind_back : (k : TableKind) → kind_from (kind_number k) ≡ k
kind_back K.Fixed = refl
kind_back K.Character = refl
kind_back K.Varying = refl
kind_back K.Bit = refl
kind_back K.Pointer = refl
kind_back K.Offset = refl
kind_back K.Area = refl

-- what stands in a list of words, and what stands behind
abbrev word_in : ℕ → List ℕ → ℕ
word_in n [] = 0
word_in zero (w ∷ ws) = w
word_in (suc n) (w ∷ ws) = word_in n ws

abbrev behind : ℕ → List ℕ → List ℕ
behind zero ws = ws
behind (suc n) [] = []
behind (suc n) (w ∷ ws) = behind n ws

pair_by : (p q : Pair) → p.lower ≡ q.lower → p.upper ≡ q.upper → p ≡ q
pair_by p q e f =
    ap (λ n. record { lower = n; upper = p.upper }) e ∙ ap (λ n. record { lower = q.lower; upper = n }) f

pairs_once : (ps qs : List Pair) (us vs : List ℕ) → length ps ≡ length qs → pairs_words ps ++ us ≡ pairs_words qs ++ vs → (ps ≡ qs) × (us ≡ vs)
pairs_once [] [] us vs many e = (refl, e)
pairs_once [] (q ∷ qs) us vs many e = absurd (omega (arith, many))
pairs_once (p ∷ ps) [] us vs many e = absurd (omega (arith, many))
pairs_once (p ∷ ps) (q ∷ qs) us vs many e =
    let rest = pairs_once ps qs us vs (omega (arith, many)) (ap (behind 2) e) in
    (ap (λ u. u ∷ ps) (pair_by p q (ap (word_in 0) e) (ap (word_in 1) e)) ∙ ap (λ u. q ∷ u) rest.0, rest.1)

leaf_by : (l m : TableLeaf) → kind_number l.kind ≡ kind_number m.kind → l.size ≡ m.size → l.pairs ≡ m.pairs → l ≡ m
leaf_by l m e f g =
    let kind : l.kind ≡ m.kind = sym (kind_back l.kind) ∙ ap kind_from e ∙ kind_back m.kind in
    ap (λ k. record { kind = k; size = l.size; pairs = l.pairs }) kind
    ∙ ap (λ n. record { kind = m.kind; size = n; pairs = l.pairs }) f
    ∙ ap (λ ps. record { kind = m.kind; size = m.size; pairs = ps }) g

leaves_once : (ls ms : List TableLeaf) → length ls ≡ length ms → leaves_words ls ≡ leaves_words ms → ls ≡ ms
leaves_once [] [] many e = refl
leaves_once [] (m ∷ ms) many e = absurd (omega (arith, many))
leaves_once (l ∷ ls) [] many e = absurd (omega (arith, many))
leaves_once (l ∷ ls) (m ∷ ms) many e =
    let pairs = pairs_once l.pairs m.pairs (leaves_words ls) (leaves_words ms) (ap (word_in 2) e) (ap (behind 3) e) in
    ap (λ u. u ∷ ls) (leaf_by l m (ap (word_in 0) e) (ap (word_in 1) e) pairs.0)
    ∙ ap (λ u. m ∷ u) (leaves_once ls ms (omega (arith, many)) pairs.1)

signature_by : (g h : TableSignature) → g.class ≡ h.class → g.refer ≡ h.refer → g.leaves ≡ h.leaves → g ≡ h
signature_by g h e f k =
    ap (λ n. record { class = n; refer = g.refer; leaves = g.leaves }) e
    ∙ ap (λ n. record { class = h.class; refer = n; leaves = g.leaves }) f
    ∙ ap (λ ls. record { class = h.class; refer = h.refer; leaves = ls }) k

pub signature_once : (g h : TableSignature) → same_signature g h ≡ true → g ≡ h
signature_once g h e =
    let words = same_bytes-equal (signature_words g) (signature_words h) e in
    signature_by g h (ap (word_in 0) words) (ap (word_in 2) words) (leaves_once g.leaves h.leaves (ap (word_in 1) words) (ap (behind 3) words))

-- ---- in the table

with_has : (g : TableSignature) (table : List TableSignature) → HasSignature g (with_signature g table)
with_has g [] = inl refl
with_has g (h ∷ hs) = by_test (same_signature g h) refl (with_has g hs)
  where
    by_test : (t : Bool) → same_signature g h ≡ t → HasSignature g (with_signature g hs) → HasSignature g (cond t (h ∷ hs) (h ∷ with_signature g hs))
    by_test true e more = inl (signature_once g h e)
    by_test false e more = inr more

-- it has those of all variables
pub has_every : (ds : List Y.DeclaredVariable) (table : List TableSignature) → HasAll ds (with_signatures ds table)
has_every [] table = tt
has_every (d ∷ ds) table =
    let more = with_signature (signature_of d) table in
    (all_keep ds (signature_of d) more (with_has (signature_of d) table), has_every ds more)

-- a number leads back to its signature
pub found_any : (g : TableSignature) (table : List TableSignature) → HasSignature g table → slice_get table (number_in_table g table) ≡ Some g
found_any g [] has = absurd has
found_any g (h ∷ hs) has = by_test (same_signature g h) refl has (found_any g hs)
  where
    by_test : (t : Bool) → same_signature g h ≡ t → (g ≡ h) ⊎ HasSignature g hs → (HasSignature g hs → slice_get hs (number_in_table g hs) ≡ Some g) → slice_get (h ∷ hs) (cond t 0 (suc (number_in_table g hs))) ≡ Some g
    by_test true e has' later = ap Some (sym (signature_once g h e))
    by_test false e (inl k) later =
        absurd (true≢false (sym (same_bytes-same (signature_words g)) ∙ ap (same_signature g) k ∙ e))
    by_test false e (inr k) later = later k

-- ---- how many there are

one_more : (g : TableSignature) (table : List TableSignature) → length (with_signature g table) ≤ suc (length table)
one_more g [] = omega arith
one_more g (h ∷ hs) = by_test (same_signature g h) (one_more g hs)
  where
    by_test : (t : Bool) → length (with_signature g hs) ≤ suc (length hs) → length (cond t (h ∷ hs) (h ∷ with_signature g hs)) ≤ suc (suc (length hs))
    by_test true m = omega arith
    by_test false m = omega (arith, m)

pub signatures_few : (ds : List Y.DeclaredVariable) (table : List TableSignature) → length (with_signatures ds table) ≤ length table + length ds
signatures_few [] table = omega arith
signatures_few (d ∷ ds) table =
    let one = one_more (signature_of d) table in
    let rest = signatures_few ds (with_signature (signature_of d) table) in
    omega (arith, one, rest)
