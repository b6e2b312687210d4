-- Names differ where one of their words does: what the code of a comparison has when all four are compared.
use Rattle.std.proofs.Common.{◌≡◌, ℕ, zero, suc, ◌^◌, ◌<◌, Bool, true, false, refl, sym, ap, ◌∙◌}
use Rattle.std.proofs.Common.{arith}
use Rattle.std.proofs.lemmas.Bool.{eqb-true}
use Rattle.std.proofs.lemmas.Bool.Decides.{nat_tests}
use Rattle.std.proofs.lemmas.Nat.{le_or_l, le_or_r, or_of_32}
use Rattle.std.specs.Prelude.{bit_or, bit_xor, nat_lt, not, pos, cond, ◌==◌, ◌&&◌}
use lib.Bits.{xor_lt, xor_self}
use Rattle.rv_meaning.specs.Words.{flag, word}
use Rattle.pli_typing.specs.TypedTree as Y
use Rattle.pli_meaning.specs.BasicValues.{BasedName, Name, NullName, VariableName}
use Rattle.pli_meaning.specs.Contents.{same_name}
use Rattle.storage_relation.specs.Telling.{IsName}
use Rattle.storage_relation.proofs.NameWords.{same_words}
use Rattle.pli_headline.proofs.WordComparisons.{compared_word}
use Rattle.pli_headline.proofs.WordQuotients.{xor_positive}
use Rattle.locator_runs.proofs.NameWrites.{word_of}

-- the bits of the first n
abbrev pub any_of : (ℕ → ℕ) → ℕ → ℕ
any_of d zero = 0
any_of d (suc n) = bit_or (any_of d n) (d n)

pub any_small : (d : ℕ → ℕ) (n : ℕ) → ((j : ℕ) → d j < 2 ^ 32) → any_of d n < 2 ^ 32
any_small d zero small = omega arith
any_small d (suc n) small = or_of_32 (any_of d n) (d n) (any_small d n small) (small n)

or_none : (a b : ℕ) (p q : Bool) → (a == 0) ≡ p → (b == 0) ≡ q → (bit_or a b == 0) ≡ p && q
or_none a b true true e f =
    let x : a ≡ 0 = eqb-true a 0 e in
    let y : b ≡ 0 = eqb-true b 0 f in
    ap (λ u. bit_or u b == 0) x ∙ ap (λ u. bit_or 0 u == 0) y
or_none a b true false e f = let r = le_or_r a b in grind (arith, r, f, nat_tests)
or_none a b false q e f = let l = le_or_l a b in grind (arith, l, e, nat_tests)

all_none :
    (d : ℕ → ℕ) (p q r s : Bool) → (d 0 == 0) ≡ p → (d 1 == 0) ≡ q → (d 2 == 0) ≡ r → (d 3 == 0) ≡ s →
    (any_of d 4 == 0) ≡ p && (q && (r && s))
all_none d p q r s a b c e =
    or_none (any_of d 3) (d 3) ((p && q) && r) s
    (or_none (any_of d 2) (d 2) (p && q) r (or_none (any_of d 1) (d 1) p q (or_none 0 (d 0) true p refl a) b) c) e
    ∙ joined p q r s
  where
    joined : (p q r s : Bool) → ((p && q) && r) && s ≡ p && (q && (r && s))
    joined true true r s = refl
    joined true false r s = refl
    joined false q r s = refl

-- ---- where the words differ

abbrev pub differing : (a b : Name) → ℕ → ℕ
differing a b n = bit_xor (word_of a n) (word_of b n)

pub word_small : (a : Name) → IsName a → (n : ℕ) → word_of a n < 2 ^ 32
word_small NullName h zero = omega arith
word_small (VariableName s) h zero = omega arith
word_small (BasedName s o) h zero = omega arith
word_small NullName h (suc zero) = omega arith
word_small (VariableName s) h (suc zero) = omega arith
word_small (BasedName s o) h (suc zero) = h.1
word_small a h (suc (suc zero)) = omega arith
word_small NullName h (suc (suc (suc n))) = omega arith
word_small (VariableName s) h (suc (suc (suc n))) = omega (arith, h)
word_small (BasedName s o) h (suc (suc (suc n))) = let x = h.0 in omega (arith, x)

pub null_small : (a : Name) → IsName a → (n : ℕ) → word_of a n < 2 ^ 32
null_small a h n = word_small a h n

pub differing_small : (a b : Name) → IsName a → IsName b → (n : ℕ) → differing a b n < 2 ^ 32
differing_small a b h g n = xor_lt 32 (word_of a n) (word_of b n) (word_small a h n) (word_small b g n)

xor_none : (a b : ℕ) → (bit_xor a b == 0) ≡ (a == b)
xor_none a b = by (a == b) refl
  where
    by : (q : Bool) → (a == b) ≡ q → (bit_xor a b == 0) ≡ q
    by true e = ap (λ u. bit_xor u b == 0) (eqb-true a b e) ∙ ap (λ u. u == 0) (xor_self b)
    by false e = let h = xor_positive a b e in grind (arith, h, nat_tests)

pub both_told : (a b : Name) → (any_of (differing a b) 4 == 0) ≡ same_name a b
both_told a b =
    all_none (differing a b) _ _ _ _ (xor_none (word_of a 0) (word_of b 0)) (xor_none (word_of a 1) (word_of b 1))
    (xor_none (word_of a 2) (word_of b 2)) (xor_none (word_of a 3) (word_of b 3))
    ∙ sym (same_words a b)

pub null_told : (a : Name) → (any_of (word_of a) 4 == 0) ≡ same_name a NullName
null_told a = all_none (word_of a) _ _ _ _ refl refl refl refl ∙ sym (same_words a NullName)

-- ---- the word that the comparison leaves

abbrev pub comparison_of : (equal : Bool) → Y.Comparison
comparison_of equal = cond equal Y.IsEqual Y.IsNotEqual

abbrev pub result_of : (equal same : Bool) → Bool
result_of equal same = cond equal same (not same)

pub compared_is :
    (equal : Bool) (u : ℕ) (same : Bool) → (u == 0) ≡ same →
    compared_word (comparison_of equal) 0 u ≡ flag (result_of equal same)
compared_is true u same e = ap flag (by same e)
  where
    by : (q : Bool) → (u == 0) ≡ q → nat_lt (bit_xor 0 u) (word (pos 1)) ≡ q
    by true e = ap (λ v. nat_lt (bit_xor 0 v) (word (pos 1))) (eqb-true u 0 e)
    by false e = grind (arith, e, nat_tests)
compared_is false u same e = ap flag (by same e)
  where
    by : (q : Bool) → (u == 0) ≡ q → nat_lt 0 (bit_xor 0 u) ≡ not q
    by true e = ap (λ v. nat_lt 0 (bit_xor 0 v)) (eqb-true u 0 e)
    by false e = grind (arith, e, nat_tests)
