-- Short pieces of code mark nothing.
use Rattle.std.proofs.Common.{◌≡◌, ℕ, zero, suc, List, [], ◌∷◌, ◌++◌, Bool, true, false, refl, ap, ◌∙◌}
use Rattle.std.specs.Prelude.{ℤ, pos, nat_lt, nat_le, Option, None, Some, if◌then◌else◌}
use Rattle.rv_meaning.specs.declared.instr.Register.{Register}
use Rattle.rv_meaning.specs.declared.instr.RegisterOp.TheVariants as Op
use Rattle.pli_typing.specs.TypedTree as Y
use Rattle.pli_meaning.specs.Numbers.{operator_precision}
use Rattle.pli_coding.specs.Registers.{a0, u1, u2}
use Rattle.pli_coding.specs.Assembly.{Symbol, Item, Plain, BaseIn, OffsetOf, OffsetAhead, JumpTo, CallTo, JumpAhead}
use Rattle.pli_coding.specs.Assembly.{JumpBack, Mark, Code}
use Rattle.pli_coding.specs.Instructions.{is_immediate, constant, number, plus, load_word, store_word, registers}
use Rattle.pli_coding.specs.Environments.{Taken, is_register_left, save, fetch}
use Rattle.pli_coding.specs.Arithmetic.{overflow_raised, calculated_code, narrowed_code, fitted_code, divided_code}
use Rattle.pli_coding.specs.Arithmetic.{signed_code, absolute_code, extreme_code, combined_code, equal_code}
use Rattle.pli_coding.specs.Arithmetic.{compared_code, sum_code, constant_added, count_checked, quotient_checked}
use Rattle.pli_coding.specs.Arithmetic.{order_of_sum}
use Rattle.code_marks.specs.CodeMarks.{symbols_marked, Unmarked}
use Rattle.pli_coding.specs.Registers.{frame_register}
use Rattle.pli_coding.specs.Frames.{words_place}

-- ---- one behind the other

pub marked_append : (xs ys : Code) → symbols_marked (xs ++ ys) ≡ symbols_marked xs ++ symbols_marked ys
marked_append [] ys = refl
marked_append (Plain i ∷ xs) ys = marked_append xs ys
marked_append (BaseIn r ∷ xs) ys = marked_append xs ys
marked_append (OffsetOf r s ∷ xs) ys = marked_append xs ys
marked_append (OffsetAhead r words ∷ xs) ys = marked_append xs ys
marked_append (JumpTo s ∷ xs) ys = marked_append xs ys
marked_append (CallTo s ∷ xs) ys = marked_append xs ys
marked_append (JumpAhead words ∷ xs) ys = marked_append xs ys
marked_append (JumpBack words ∷ xs) ys = marked_append xs ys
marked_append (Mark s ∷ xs) ys = ap (λ ss. s ∷ ss) (marked_append xs ys)

pub clear : {code : Code} → symbols_marked code ≡ [] → Unmarked code
clear h = record { nothing = h }

pub also : {xs ys : Code} → Unmarked xs → Unmarked ys → Unmarked (xs ++ ys)
also {xs} {ys} h k =
    record { nothing = marked_append xs ys ∙ (ap (λ u. u ++ symbols_marked ys) h.nothing ∙ k.nothing) }

-- an instruction, or another item that is no mark, and what stands behind it
pub next : {i : Item} {xs : Code} → symbols_marked (i ∷ []) ≡ [] → Unmarked xs → Unmarked (i ∷ xs)
next {i} {xs} h k =
    record { nothing = marked_append (i ∷ []) xs ∙ (ap (λ u. u ++ symbols_marked xs) h ∙ k.nothing) }

pub one_of : (q : Bool) {x y : Code} → Unmarked x → Unmarked y → Unmarked (if q then x else y)
one_of true h k = h
one_of false h k = k

-- by a test that isn't told, and nothing in either branch
pub far : (q : Bool) (x y : Code) → symbols_marked x ≡ [] → symbols_marked y ≡ [] → Unmarked (if q then x else y)
far q x y h k = one_of q (clear h) (clear k)

pub none : Unmarked []
none = clear refl

-- ---- constants, loads and stores

pub constant_none : (r : Register) (z : ℤ) → Unmarked (constant r z)
constant_none r z = one_of (is_immediate z) (clear refl) (clear refl)

pub number_none : (r : Register) (n : ℕ) → Unmarked (number r n)
number_none r n = constant_none r (pos n)

pub load_none : (rd rs : Register) (z : ℤ) → Unmarked (load_word rd rs z)
load_none rd rs z = one_of (is_immediate z) (clear refl) (clear refl)

pub store_none : (rs value : Register) (z : ℤ) → Unmarked (store_word rs value z)
store_none rs value z = one_of (is_immediate z) (clear refl) (clear refl)

pub plus_none : (rd rs : Register) (z : ℤ) → Unmarked (plus rd rs z)
plus_none rd rs z = one_of (is_immediate z) (clear refl) (clear refl)

pub save_none : (r : Register) (t : Taken) → Unmarked (save r t)
save_none r t = one_of (is_register_left t) (clear refl) (store_none frame_register r (words_place t.words 1))

pub fetch_none : (r : Register) (t : Taken) → Unmarked (fetch r t)
fetch_none r t = one_of (is_register_left t) (clear refl) (load_none r frame_register (words_place t.words 1))

-- ---- arithmetic

pub overflow_none : (t : Taken) → Unmarked (overflow_raised t)
overflow_none t = also (save_none a0 t) (next refl (next refl (next refl (fetch_none a0 t))))

pub sum_none : (t : Taken) → Unmarked (sum_code t)
sum_none t = next refl (next refl (next refl (next refl (next refl (overflow_none t)))))

pub constant_added_none : (t : Taken) (z : ℤ) → Unmarked (constant_added t z)
constant_added_none t z = next refl (also (plus_none a0 u1 z) (next refl (overflow_none t)))

quotient_none : (t : Taken) → Unmarked (quotient_checked t)
quotient_none t = next refl (next refl (next refl (next refl (next refl (next refl (overflow_none t))))))

pub calculated_none : (t : Taken) (operator : Y.ArithmeticOperator) → Unmarked (calculated_code t operator)
calculated_none t Y.Sum = sum_none t
calculated_none t Y.Difference = next refl (next refl (next refl (next refl (next refl (overflow_none t)))))
calculated_none t Y.Product = next refl (next refl (next refl (next refl (next refl (overflow_none t)))))
calculated_none t Y.Quotient =
    next refl (next refl (next refl (next refl (next refl (next refl (next refl (quotient_none t)))))))

narrowed_none : (t : Taken) (precision : ℕ) → Unmarked (narrowed_code t precision)
narrowed_none t precision = next refl (next refl (next refl (next refl (overflow_none t))))

pub fitted_none : (t : Taken) (precision : ℕ) → Unmarked (fitted_code t precision)
fitted_none t precision = one_of (nat_lt precision operator_precision) (narrowed_none t precision) none

pub divided_none : (t : Taken) (precision : ℕ) → Unmarked (divided_code t precision)
divided_none t precision =
    next refl (next refl (next refl (next refl (next refl (next refl
    (one_of (nat_lt precision operator_precision)
    (next refl (narrowed_none t precision)) (next refl (quotient_none t))))))))

pub signed_none : (t : Taken) (sign : Y.Sign) → Unmarked (signed_code t sign)
signed_none t Y.Positive = none
signed_none t Y.Negative = next refl (next refl (next refl (overflow_none t)))

pub absolute_none : (t : Taken) → Unmarked (absolute_code t)
absolute_none t = next refl (next refl (next refl (next refl (next refl (overflow_none t)))))

pub count_none : (t : Taken) → Unmarked (count_checked t)
count_none t = next refl (overflow_none t)

pub extreme_none : (extremum : Y.Extremum) → Unmarked (extreme_code extremum)
extreme_none Y.Greatest = clear refl
extreme_none Y.Least = clear refl

pub combined_none : (operator : Y.BitOperator) → Unmarked (combined_code operator ∷ [])
combined_none Y.Conjunction = clear refl
combined_none Y.Disjunction = clear refl

pub equal_none : (equal : Bool) → Unmarked (equal_code equal)
equal_none true = clear refl
equal_none false = clear refl

pub compared_none : (comparison : Y.Comparison) → Unmarked (compared_code comparison)
compared_none Y.IsEqual = clear refl
compared_none Y.IsNotEqual = clear refl
compared_none Y.IsLess = clear refl
compared_none Y.IsGreater = clear refl
compared_none Y.IsLessOrEqual = clear refl
compared_none Y.IsGreaterOrEqual = clear refl
