-- Comparisons of words that hold numbers or bits.
use Rattle.std.proofs.Common.{◌≡◌, ℕ, Bool, true, false, refl, sym, ap, ◌∙◌, arith}
use Rattle.std.specs.Prelude.{ℤ, pos, negsuc, not, ◌&&◌, ◌||◌, int_lt, nat_lt, bit_xor, ◌==◌, cond}
use Rattle.std.specs.Ordering.{int_cmp}
use Rattle.std.specs.declared.cmp.Ordering.TheVariants.{Less, Equal, Greater}
use Rattle.std.proofs.lemmas.Bool.Decides.{nat_tests}
use lib.Bits.{xor_self}
use Rattle.rv_meaning.specs.declared.instr.RegisterOp.TheVariants as Op
use Rattle.rv_meaning.specs.Words.{word, signed, flag, operated}
use Rattle.pli_typing.specs.TypedTree as Y
use Rattle.pli_meaning.specs.Texts.{holds, bit_order}
use Rattle.run_steps.specs.Numbers.{IsWide}
use Rattle.pli_headline.proofs.WordProducts.{signed_word}
use Rattle.pli_headline.proofs.WordQuotients.{xor_positive}

-- what the code of a comparison leaves, by the word on the left and the one on the right
abbrev pub compared_word : Y.Comparison → (left right : ℕ) → ℕ
compared_word Y.IsEqual l r = flag (nat_lt (bit_xor l r) (word (pos 1)))
compared_word Y.IsNotEqual l r = flag (nat_lt 0 (bit_xor l r))
compared_word Y.IsLess l r = operated Op.SetLess l r
compared_word Y.IsGreater l r = operated Op.SetLess r l
compared_word Y.IsLessOrEqual l r = bit_xor (operated Op.SetLess r l) (word (pos 1))
compared_word Y.IsGreaterOrEqual l r = bit_xor (operated Op.SetLess l r) (word (pos 1))

-- ---- flags

pub negated_flag : (b : Bool) → bit_xor (flag b) (word (pos 1)) ≡ flag (not b)
negated_flag true = refl
negated_flag false = refl

pub and_flags : (a b : Bool) → operated Op.And (flag a) (flag b) ≡ flag (a && b)
and_flags true true = refl
and_flags true false = refl
and_flags false true = refl
and_flags false false = refl

pub or_flags : (a b : Bool) → operated Op.Or (flag a) (flag b) ≡ flag (a || b)
or_flags true true = refl
or_flags true false = refl
or_flags false true = refl
or_flags false false = refl

-- ---- numbers

signed_less : (x y : ℤ) → IsWide x → IsWide y → operated Op.SetLess (word x) (word y) ≡ flag (int_lt x y)
signed_less x y wx wy =
    ap (λ u. flag (int_lt u (signed (word y)))) (signed_word x wx) ∙ ap (λ u. flag (int_lt x u)) (signed_word y wy)

not_both : (x y : ℤ) → int_lt x y ≡ true → int_lt y x ≡ true → ⊥
not_both (pos a) (pos b) h i = grind (arith, nat_tests)
not_both (pos a) (negsuc b) h i = cc h
not_both (negsuc a) (pos b) h i = cc i
not_both (negsuc a) (negsuc b) h i = grind (arith, nat_tests)

same_words : (x y : ℤ) → int_lt x y ≡ false → int_lt y x ≡ false → word x ≡ word y
same_words (pos a) (pos b) h i = grind (arith, nat_tests)
same_words (pos a) (negsuc b) h i = absurd (cc i)
same_words (negsuc a) (pos b) h i = absurd (cc h)
same_words (negsuc a) (negsuc b) h i = grind (arith, nat_tests)

other_words : (x y : ℤ) → IsWide x → IsWide y → int_lt x y ≡ true → (word x == word y) ≡ false
other_words (pos a) (pos b) wx wy h = grind (arith, nat_tests)
other_words (pos a) (negsuc b) wx wy h = absurd (cc h)
other_words (negsuc a) (pos b) wx wy h = grind (arith, nat_tests)
other_words (negsuc a) (negsuc b) wx wy h = grind (arith, nat_tests)

turned : (a b : ℕ) → (a == b) ≡ false → (b == a) ≡ false
turned a b h = grind (arith, nat_tests)

-- the exclusive or of two words is 0 just where neither number is less
differ_by : (p q : Bool) (x y : ℤ) → IsWide x → IsWide y → int_lt x y ≡ p → int_lt y x ≡ q → nat_lt 0 (bit_xor (word x) (word y)) ≡ p || q
differ_by true q x y wx wy e f =
    let d = xor_positive (word x) (word y) (other_words x y wx wy e) in grind (arith, nat_tests)
differ_by false true x y wx wy e f =
    let d = xor_positive (word x) (word y) (turned (word y) (word x) (other_words y x wy wx f)) in grind (arith, nat_tests)
differ_by false false x y wx wy e f =
    ap (λ u. nat_lt 0 (bit_xor u (word y))) (same_words x y e f) ∙ ap (nat_lt 0) (xor_self (word y))

none_below : (n : ℕ) → nat_lt n 1 ≡ not (nat_lt 0 n)
none_below n = by_test (nat_lt 0 n) refl
  where
    by_test : (q : Bool) → nat_lt 0 n ≡ q → nat_lt n 1 ≡ not q
    by_test true e = grind (arith, nat_tests)
    by_test false e = grind (arith, nat_tests)

-- each comparison by the two tests
abbrev tested : Y.Comparison → (less greater : Bool) → Bool
tested Y.IsEqual p q = not (p || q)
tested Y.IsNotEqual p q = p || q
tested Y.IsLess p q = p
tested Y.IsGreater p q = q
tested Y.IsLessOrEqual p q = not q
tested Y.IsGreaterOrEqual p q = not p

tests_compared : (c : Y.Comparison) (p q : Bool) → (p ≡ true → q ≡ true → ⊥) → holds c (cond p Less (cond q Greater Equal)) ≡ tested c p q
tests_compared c true true one = absurd (one refl refl)
tests_compared Y.IsEqual true false one = refl
tests_compared Y.IsEqual false true one = refl
tests_compared Y.IsEqual false false one = refl
tests_compared Y.IsNotEqual true false one = refl
tests_compared Y.IsNotEqual false true one = refl
tests_compared Y.IsNotEqual false false one = refl
tests_compared Y.IsLess true false one = refl
tests_compared Y.IsLess false true one = refl
tests_compared Y.IsLess false false one = refl
tests_compared Y.IsGreater true false one = refl
tests_compared Y.IsGreater false true one = refl
tests_compared Y.IsGreater false false one = refl
tests_compared Y.IsLessOrEqual true false one = refl
tests_compared Y.IsLessOrEqual false true one = refl
tests_compared Y.IsLessOrEqual false false one = refl
tests_compared Y.IsGreaterOrEqual true false one = refl
tests_compared Y.IsGreaterOrEqual false true one = refl
tests_compared Y.IsGreaterOrEqual false false one = refl

words_tested : (c : Y.Comparison) (x y : ℤ) → IsWide x → IsWide y → compared_word c (word x) (word y) ≡ flag (tested c (int_lt x y) (int_lt y x))
words_tested Y.IsEqual x y wx wy =
    ap flag (none_below (bit_xor (word x) (word y)) ∙ ap not (differ_by (int_lt x y) (int_lt y x) x y wx wy refl refl))
words_tested Y.IsNotEqual x y wx wy = ap flag (differ_by (int_lt x y) (int_lt y x) x y wx wy refl refl)
words_tested Y.IsLess x y wx wy = signed_less x y wx wy
words_tested Y.IsGreater x y wx wy = signed_less y x wy wx
words_tested Y.IsLessOrEqual x y wx wy = ap (λ u. bit_xor u (word (pos 1))) (signed_less y x wy wx) ∙ negated_flag (int_lt y x)
words_tested Y.IsGreaterOrEqual x y wx wy = ap (λ u. bit_xor u (word (pos 1))) (signed_less x y wx wy) ∙ negated_flag (int_lt x y)

pub numbers_compared : (c : Y.Comparison) (x y : ℤ) → IsWide x → IsWide y → compared_word c (word x) (word y) ≡ flag (holds c (int_cmp x y))
numbers_compared c x y wx wy =
    words_tested c x y wx wy ∙ ap flag (sym (tests_compared c (int_lt x y) (int_lt y x) (not_both x y)))

-- ---- bits

pub bits_compared : (c : Y.Comparison) (a b : Bool) → compared_word c (flag a) (flag b) ≡ flag (holds c (bit_order a b))
bits_compared Y.IsEqual true true = refl
bits_compared Y.IsEqual true false = refl
bits_compared Y.IsEqual false true = refl
bits_compared Y.IsEqual false false = refl
bits_compared Y.IsNotEqual true true = refl
bits_compared Y.IsNotEqual true false = refl
bits_compared Y.IsNotEqual false true = refl
bits_compared Y.IsNotEqual false false = refl
bits_compared Y.IsLess true true = refl
bits_compared Y.IsLess true false = refl
bits_compared Y.IsLess false true = refl
bits_compared Y.IsLess false false = refl
bits_compared Y.IsGreater true true = refl
bits_compared Y.IsGreater true false = refl
bits_compared Y.IsGreater false true = refl
bits_compared Y.IsGreater false false = refl
bits_compared Y.IsLessOrEqual true true = refl
bits_compared Y.IsLessOrEqual true false = refl
bits_compared Y.IsLessOrEqual false true = refl
bits_compared Y.IsLessOrEqual false false = refl
bits_compared Y.IsGreaterOrEqual true true = refl
bits_compared Y.IsGreaterOrEqual true false = refl
bits_compared Y.IsGreaterOrEqual false true = refl
bits_compared Y.IsGreaterOrEqual false false = refl
