-- One more number that waits, and what two forms take.
use Rattle.std.proofs.Common.{◌≡◌, ℕ, ◌+◌, ◌-◌, ◌≤◌, Bool, true, false, refl, ltb-true, ltb-false, arith}
use Rattle.std.specs.Prelude.{◌<◌, cond, nat_lt}
use Rattle.pli_coding.specs.Registers.{held_registers}
use Rattle.temporary_bounds.specs.Spare.{spare}
use Rattle.pli_coding.specs.Environments.{Taken, with_words, with_number, most_taken, is_register_left}

-- no more registers and words are taken
pub record Fewer (t u : Taken) : Type 0 where
  pub registers : t.registers ≤ u.registers
  pub words : t.words ≤ u.words

-- ---- one more number

-- a number more, where a register is left or none is
abbrev more_by : Bool → Taken → Taken
more_by q t = cond q (record t { registers = t.registers + 1 }) (record t { words = t.words + 1 })

least_by : (q : Bool) (t : Taken) → t.words ≤ (more_by q t).words
least_by true t = omega arith
least_by false t = omega arith

most_by : (q : Bool) (t : Taken) → (more_by q t).words ≤ t.words + 1
most_by true t = omega arith
most_by false t = omega arith

-- it takes no word or one
pub number_least : (t : Taken) → t.words ≤ (with_number t).words
number_least t = least_by (is_register_left t) t

pub number_most : (t : Taken) → (with_number t).words ≤ t.words + 1
number_most t = most_by (is_register_left t) t

counts_by : (q : Bool) (t : Taken) → nat_lt t.registers held_registers ≡ q
    → t.words + 1 + spare (more_by q t) ≡ (more_by q t).words + spare t
counts_by true t is = let a = ltb-true t.registers held_registers is in omega (arith, a)
counts_by false t is = let a = ltb-false t.registers held_registers is in omega (arith, a)

-- or a register that was spare
pub number_counts : (t : Taken) → t.words + 1 + spare (with_number t) ≡ (with_number t).words + spare t
number_counts t = counts_by (is_register_left t) t refl

none_spare_by : (q : Bool) (t : Taken) → nat_lt t.registers held_registers ≡ q → q ≡ false → spare t ≡ 0
none_spare_by true t is none = absurd (cc none)
none_spare_by false t is none = let a = ltb-false t.registers held_registers is in omega (arith, a)

pub none_spare : (t : Taken) → is_register_left t ≡ false → spare t ≡ 0
none_spare t none = none_spare_by (is_register_left t) t refl none

room_by : (q : Bool) (t : Taken) (n : ℕ) → (more_by q t).words ≤ n → q ≡ false → t.words < n
room_by true t n few is = absurd (cc is)
room_by false t n few is = omega (arith, few)

-- a word where no register is left
pub room_for_number : (t : Taken) (n : ℕ) → (with_number t).words ≤ n → is_register_left t ≡ false → t.words < n
room_for_number t n few is = room_by (is_register_left t) t n few is

fewer_by : (p q : Bool) (t u : Taken) → nat_lt t.registers held_registers ≡ p → nat_lt u.registers held_registers ≡ q
    → Fewer t u → Fewer (more_by p t) (more_by q u)
fewer_by true true t u is are less =
    let r = less.registers in record { registers = omega (arith, r); words = less.words }
fewer_by true false t u is are less =
    let r = less.registers in
    let w = less.words in
    let a = ltb-true t.registers held_registers is in
    let b = ltb-false u.registers held_registers are in
    record { registers = omega (arith, a, b); words = omega (arith, w) }
fewer_by false true t u is are less =
    let r = less.registers in
    let a = ltb-false t.registers held_registers is in
    let b = ltb-true u.registers held_registers are in
    record { registers = omega (arith, r, a, b); words = omega (arith, r, a, b) }
fewer_by false false t u is are less =
    let w = less.words in record { registers = less.registers; words = omega (arith, w) }

-- behind more a number takes more
pub number_fewer : (t u : Taken) → Fewer t u → Fewer (with_number t) (with_number u)
number_fewer t u less = fewer_by (is_register_left t) (is_register_left u) t u refl refl less

pub words_fewer : (n : ℕ) (t u : Taken) → Fewer t u → Fewer (with_words n t) (with_words n u)
words_fewer n t u less = let w = less.words in record { registers = less.registers; words = omega (arith, w) }

pub most_fewer : (a b c d : Taken) → Fewer a c → Fewer b d → Fewer (most_taken a b) (most_taken c d)
most_fewer a b c d first second =
    let r = first.registers in let q = second.registers in let w = first.words in let x = second.words in
    record { registers = omega (arith, r, q); words = omega (arith, w, x) }
