-- Operators on numbers and bits: a right operand in a0 and a left one in u1 come to a result in a0. A raise saves what
-- is there as a temporary, since its on-unit may return.
use Rattle.std.specs.Prelude.{ℕ, ◌-◌, ℤ, pos, Bool, true, false, nat_lt, int_lt, [], ◌∷◌, ◌++◌, if◌then◌else◌}
use Rattle.rv_meaning.specs.declared.instr.RegisterOp.TheVariants as Op
use Rattle.rv_meaning.specs.declared.instr.ImmediateOp.TheVariants as Imm
use Rattle.rv_meaning.specs.declared.instr.ShiftOp.TheVariants as Shift
use Rattle.rv_meaning.specs.declared.instr.BranchTest.{BranchTest}
use Rattle.rv_meaning.specs.declared.instr.BranchTest.TheVariants as Test
use Rattle.pli_language.specs.declared.condition.Condition.{Condition}
use Rattle.pli_language.specs.declared.condition.Condition.TheVariants as C
use Rattle.pli_typing.specs.TypedTree as Y
use Rattle.pli_meaning.specs.Codes.{fixed_overflow_code, zero_divide_code}
use Rattle.pli_meaning.specs.Numbers.{operator_precision}
use Rattle.pli_coding.specs.Registers.{zero_register, a0, a1, u1, u2, u3, u4}
use Rattle.pli_coding.specs.Assembly.{Item, CallTo, RaiseCondition, Code}
use Rattle.pli_coding.specs.Instructions.{immediate, shift, registers, add, subtract, move, small, plus}
use Rattle.pli_coding.specs.Instructions.{lowest_number, skip_where, choice}
use Rattle.pli_coding.specs.Environments.{Taken, save, fetch}

-- ---- raises

abbrev pub condition_number : Condition → ℕ
condition_number C.Area = 1
condition_number C.FixedOverflow = 2
condition_number C.ZeroDivide = 3
condition_number C.Endfile = 4
condition_number C.Error = 5

-- a condition other than ERROR; the program goes on behind this where its unit returns
abbrev pub raised : Condition → (code : ℕ) → Code
raised c code = small a0 (condition_number c) ∷ small a1 code ∷ CallTo RaiseCondition ∷ []

-- FIXEDOVERFLOW, with the value in a0 with which the program goes on
abbrev pub overflow_raised : Taken → Code
overflow_raised t = save a0 t ++ (raised C.FixedOverflow fixed_overflow_code ++ fetch a0 t)

abbrev pub zero_divide_raised : Code
zero_divide_raised = raised C.ZeroDivide zero_divide_code ++ small a0 0 ∷ []

-- ---- overflow

-- a sum below its left operand where the right one isn't negative, or the other way round
abbrev pub sum_code : Taken → Code
sum_code t =
    add u2 u1 a0
    ∷ registers Op.SetLess u3 u2 u1
    ∷ immediate Imm.SetLess u4 a0 (pos 0)
    ∷ move a0 u2
    ∷ skip_where Test.Equal u3 u4 (overflow_raised t)

-- how a sum with a constant stands to its left operand unless it overflows
abbrev pub order_of_sum : (constant : ℤ) → BranchTest
order_of_sum z = if int_lt z (pos 0) then Test.Less else Test.GreaterOrEqual

-- a constant added to the value in a0
abbrev pub constant_added : Taken → ℤ → Code
constant_added t z = move u1 a0 ∷ (plus a0 u1 z ++ skip_where (order_of_sum z) a0 u1 (overflow_raised t))

-- a left operand below the difference where the right one isn't negative, or the other way round
abbrev pub difference_code : Taken → Code
difference_code t =
    subtract u2 u1 a0
    ∷ registers Op.SetLess u3 u1 u2
    ∷ immediate Imm.SetLess u4 a0 (pos 0)
    ∷ move a0 u2
    ∷ skip_where Test.Equal u3 u4 (overflow_raised t)

-- an upper half that isn't the sign of the lower one
abbrev pub product_code : Taken → Code
product_code t =
    registers Op.Multiply u2 u1 a0
    ∷ registers Op.MultiplyHigh u3 u1 a0
    ∷ shift Shift.RightArithmetic u4 u2 31
    ∷ move a0 u2
    ∷ skip_where Test.Equal u3 u4 (overflow_raised t)

-- the one quotient that is too large: divisor -1 and quotient -2^31
abbrev pub quotient_checked : Taken → Code
quotient_checked t =
    immediate Imm.Add u3 a0 (pos 1)
    ∷ lowest_number u4
    ∷ registers Op.Xor u4 u4 u2
    ∷ registers Op.Or u3 u3 u4
    ∷ move a0 u2
    ∷ skip_where Test.NotEqual u3 zero_register (overflow_raised t)

-- what a divisor other than 0 gives; a zero divisor gives 0 where the unit of ZERODIVIDE returns
abbrev pub unless_zero : Code → Code
unless_zero code = choice Test.NotEqual a0 zero_register code zero_divide_raised

abbrev pub quotient_code : Taken → Code
quotient_code t = unless_zero (registers Op.Divide u2 u1 a0 ∷ quotient_checked t)

abbrev pub calculated_code : Taken → Y.ArithmeticOperator → Code
calculated_code t Y.Sum = sum_code t
calculated_code t Y.Difference = difference_code t
calculated_code t Y.Product = product_code t
calculated_code t Y.Quotient = quotient_code t

-- ---- precisions

-- a number where fewer than 31 bits are due: its lowest bits, with their sign, must be the number
abbrev pub narrowed_code : Taken → (precision : ℕ) → Code
narrowed_code t precision =
    shift Shift.Left u1 a0 (31 - precision)
    ∷ shift Shift.RightArithmetic u1 u1 (31 - precision)
    ∷ skip_where Test.Equal u1 a0 (move a0 u1 ∷ overflow_raised t)

abbrev pub fitted_code : Taken → (precision : ℕ) → Code
fitted_code t precision = if nat_lt precision operator_precision then narrowed_code t precision else []

-- DIVIDE; a quotient that is cut to fewer bits needs no other check
abbrev pub divided_code : Taken → (precision : ℕ) → Code
divided_code t precision =
    unless_zero
    (if nat_lt precision operator_precision
    then registers Op.Divide a0 u1 a0 ∷ narrowed_code t precision
    else registers Op.Divide u2 u1 a0 ∷ quotient_checked t)

-- ---- one operand, in a0

-- the least number has no other sign
abbrev pub lowest_checked : Taken → Code
lowest_checked t = lowest_number u1 ∷ skip_where Test.NotEqual a0 u1 (overflow_raised t)

abbrev pub signed_code : Taken → Y.Sign → Code
signed_code t Y.Positive = []
signed_code t Y.Negative = subtract a0 zero_register a0 ∷ lowest_checked t

abbrev pub absolute_bits : Code
absolute_bits = shift Shift.RightArithmetic u1 a0 31 ∷ registers Op.Xor a0 a0 u1 ∷ subtract a0 a0 u1 ∷ []

abbrev pub absolute_code : Taken → Code
absolute_code t = absolute_bits ++ lowest_checked t

abbrev pub sign_code : Code
sign_code =
    immediate Imm.SetLess u1 a0 (pos 0) ∷ registers Op.SetLess u2 zero_register a0 ∷ subtract a0 u2 u1 ∷ []

-- a count of 2^31 or more isn't above 0 as a number
abbrev pub count_checked : Taken → Code
count_checked t = skip_where Test.Less zero_register a0 (overflow_raised t)

-- ---- MOD, MAX, MIN

-- a negative remainder gets the absolute divisor added
abbrev pub remainder_code : Code
remainder_code =
    registers Op.Remainder u2 u1 a0
    ∷ (skip_where Test.GreaterOrEqual u2 zero_register (absolute_bits ++ add u2 u2 a0 ∷ []) ++ move a0 u2 ∷ [])

abbrev pub modulo_code : Code
modulo_code = unless_zero remainder_code

-- the left value stays unless the right one is further
abbrev pub extreme_code : Y.Extremum → Code
extreme_code Y.Greatest = skip_where Test.Less u1 a0 (move a0 u1 ∷ [])
extreme_code Y.Least = skip_where Test.Less a0 u1 (move a0 u1 ∷ [])

-- ---- bits and comparisons

abbrev pub negated_code : Item
negated_code = immediate Imm.Xor a0 a0 (pos 1)

abbrev pub combined_code : Y.BitOperator → Item
combined_code Y.Conjunction = registers Op.And a0 u1 a0
combined_code Y.Disjunction = registers Op.Or a0 u1 a0

abbrev pub equal_code : (equal : Bool) → Code
equal_code true = registers Op.Xor a0 u1 a0 ∷ immediate Imm.SetLessUnsigned a0 a0 (pos 1) ∷ []
equal_code false = registers Op.Xor a0 u1 a0 ∷ registers Op.SetLessUnsigned a0 zero_register a0 ∷ []

abbrev pub compared_code : Y.Comparison → Code
compared_code Y.IsEqual = equal_code true
compared_code Y.IsNotEqual = equal_code false
compared_code Y.IsLess = registers Op.SetLess a0 u1 a0 ∷ []
compared_code Y.IsGreater = registers Op.SetLess a0 a0 u1 ∷ []
compared_code Y.IsLessOrEqual = registers Op.SetLess a0 a0 u1 ∷ negated_code ∷ []
compared_code Y.IsGreaterOrEqual = registers Op.SetLess a0 u1 a0 ∷ negated_code ∷ []
