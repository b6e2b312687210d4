-- Comparisons of offsets: the left one waits in a register while the right one is evaluated.
use Rattle.std.proofs.Common.{◌≡◌, ℕ, suc, Option, Some, None, Bool, true, false, refl, ap, ◌∙◌, arith}
use Rattle.std.proofs.lemmas.Bool.Decides.{nat_tests}
use Rattle.std.specs.Prelude.{bit_xor, max, nat_lt, not, ◌==◌, if◌then◌else◌}
use lib.Bits.{xor_self}
use Rattle.rv_meaning.specs.Words.{flag}
use Rattle.pli_typing.specs.TypedTree as Y
use Rattle.pli_meaning.specs.Contents.{same_offset}
use Rattle.pli_meaning.specs.Evaluating as V
use Rattle.pli_serving.specs.Bytes.{offset_word}
use Rattle.pli_coding.specs.Arithmetic.{compared_code, equal_code}
use Rattle.pli_coding.specs.Expressions.{offset_code}
use Rattle.storage_relation.specs.Telling.{IsOffset}
use Rattle.run_steps.proofs.Reach.{onward}
use Rattle.pli_headline.proofs.WordComparisons.{compared_word}
use Rattle.pli_headline.proofs.WordQuotients.{xor_positive}
use Rattle.expression_runs.specs.Values.{Setting, behind}
use Rattle.test_runs.specs.Tests.{Tests}
use Rattle.test_runs.proofs.Bits.{compared_reach}
use Rattle.test_runs.proofs.Operands.{Compares, bit_closed, both_decide, leaves_bit}
use Rattle.offset_runs.specs.Offsets.{Gives}
use Rattle.offset_runs.proofs.OffsetValues.{word_small}

-- ---- words

-- two words are one just where the offsets are
same_word : (a b : Option ℕ) → IsOffset a → IsOffset b → (offset_word a == offset_word b) ≡ same_offset a b
same_word None None h i = refl
same_word None (Some b) h i = grind (arith, nat_tests)
same_word (Some a) None h i = grind (arith, nat_tests)
same_word (Some a) (Some b) h i = refl

-- the exclusive or of two words is 0 just where they are one
differ_is : (a b : ℕ) → nat_lt 0 (bit_xor a b) ≡ not (a == b)
differ_is a b = by (a == b) refl
  where
    by : (q : Bool) → (a == b) ≡ q → nat_lt 0 (bit_xor a b) ≡ not q
    by true e =
        let same : a ≡ b = grind (arith, nat_tests) in
        ap (λ u. nat_lt 0 (bit_xor u b)) same ∙ ap (nat_lt 0) (xor_self b)
    by false e = let d = xor_positive a b e in grind (arith, nat_tests)

none_below : (n : ℕ) → nat_lt n 1 ≡ not (nat_lt 0 n)
none_below n = by (nat_lt 0 n) refl
  where
    by : (q : Bool) → nat_lt 0 n ≡ q → nat_lt n 1 ≡ not q
    by true e = grind (arith, nat_tests)
    by false e = grind (arith, nat_tests)

twice_not : (q : Bool) → not (not q) ≡ q
twice_not true = refl
twice_not false = refl

abbrev compared_by : Bool → Y.Comparison
compared_by equal = if equal then Y.IsEqual else Y.IsNotEqual

abbrev result : Bool → Option ℕ → Option ℕ → Bool
result equal a b = if equal then same_offset a b else not (same_offset a b)

words_compared :
    (equal : Bool) (a b : Option ℕ) → IsOffset a → IsOffset b →
    compared_word (compared_by equal) (offset_word a) (offset_word b) ≡ flag (result equal a b)
words_compared true a b h i =
    ap flag (none_below (bit_xor (offset_word a) (offset_word b))
    ∙ ap not (differ_is (offset_word a) (offset_word b))
    ∙ twice_not (offset_word a == offset_word b)
    ∙ same_word a b h i)
words_compared false a b h i =
    ap flag (differ_is (offset_word a) (offset_word b) ∙ ap not (same_word a b h i))

-- ---- the test

offsets_compare :
    (k : Setting) (equal : Bool) → Compares offset_word IsOffset k (compared_code (compared_by equal)) (result equal)
offsets_compare k equal p numbers taken c index f x y h o fx fy l at =
    let part = compared_code (compared_by equal) in
    let z = result equal x y in
    onward (bit_closed k.block k.labels (behind p numbers taken c index part))
    (compared_reach k p numbers c index f h (compared_by equal) (offset_word x) (offset_word y) z
    (words_compared equal x y fx fy) l at)
    (λ g at'. leaves_bit k p numbers taken c index g z part h o at')

pub offsets_test :
    (k : Setting) (equal : Bool) (left right : Y.Offset) (m n : ℕ) → Gives k m left → Gives k n right →
    Tests k (max m (suc n)) (Y.OffsetsCompared equal left right)
unfolding V.bit
offsets_test k true left right m n el er =
    both_decide offset_word IsOffset word_small k m n (λ t. offset_code k.block.environment t left)
    (λ t. offset_code k.block.environment t right) (equal_code true) (V.offset k.around left)
    (V.offset k.around right) (result true) el er (offsets_compare k true)
offsets_test k false left right m n el er =
    both_decide offset_word IsOffset word_small k m n (λ t. offset_code k.block.environment t left)
    (λ t. offset_code k.block.environment t right) (equal_code false) (V.offset k.around left)
    (V.offset k.around right) (result false) el er (offsets_compare k false)
