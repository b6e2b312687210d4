-- Arithmetic of words: displacements, and the tests of overflow.
use Rattle.std.specs.Prelude.{◌≡◌, ℕ, ◌*◌, ◌^◌, Bool, true, ℤ, pos, int_lt, ◌==◌}
use Rattle.rv_meaning.specs.Words.{word, signed, sum, flag, operated}
use Rattle.pli_meaning.specs.Numbers.{is_of_precision}
use Rattle.rv_meaning.specs.declared.instr.RegisterOp.TheVariants as Op

-- ---- overflow

-- a number of 31 bits and a sign
abbrev pub IsWide : ℤ → Type 0
IsWide z = is_of_precision 31 z ≡ true

-- the two tests of a sum's overflow
abbrev pub sum_test : ℕ → ℕ → Bool
sum_test a b = flag (int_lt (signed (sum a b)) (signed a)) == flag (int_lt (signed b) (signed (word (pos 0))))

abbrev pub difference_test : ℕ → ℕ → Bool
difference_test a b = flag (int_lt (signed a) (signed (operated Op.Subtract a b))) == flag
    (int_lt (signed b) (signed (word (pos 0))))

-- the word with the highest bit alone has no other sign
abbrev pub least_word : ℕ
least_word = 2 ^ 19 * 2 ^ 12
