-- The symbols that code marks.
use Rattle.std.proofs.Common.{◌≡◌, ℕ, List, [], ◌∷◌, ◌++◌, Bool, true, false, refl, ap, ◌∙◌, append-nil}
use Rattle.std.specs.Prelude.{ℤ, pos, cond, nat_lt}
use Rattle.rv_meaning.specs.declared.instr.Register.{Register}
use Rattle.rv_meaning.specs.declared.instr.RegisterOp.TheVariants as Op
use Rattle.pli_language.specs.declared.condition.Condition.TheVariants as C
use Rattle.pli_typing.specs.TypedTree as Y
use Rattle.pli_meaning.specs.Codes.{fixed_overflow_code}
use Rattle.pli_meaning.specs.Numbers.{operator_precision}
use Rattle.pli_coding.specs.Registers.{frame_register, a0, a1, u1, u2}
use Rattle.pli_coding.specs.Assembly.{Symbol, Plain, BaseIn, OffsetOf, OffsetAhead, JumpTo, CallTo, JumpAhead, JumpBack, Mark, Code}
use Rattle.pli_coding.specs.Instructions.{registers, is_immediate, small, constant, number, plus, load_word, store_word, service}
use Rattle.pli_coding.specs.Frames.{words_place}
use Rattle.pli_coding.specs.Environments.{Taken, is_register_left, save, fetch}
use Rattle.pli_coding.specs.Arithmetic.{raised, overflow_raised, calculated_code, quotient_checked, narrowed_code, fitted_code, divided_code, signed_code, extreme_code, combined_code, compared_code}
use Rattle.pli_coding.specs.Allocating.{act_code}

abbrev pub symbols_marked : Code → List Symbol
symbols_marked [] = []
symbols_marked (Mark s ∷ xs) = s ∷ symbols_marked xs
symbols_marked (x ∷ xs) = symbols_marked xs

pub marked_append : (xs ys : Code) → symbols_marked (xs ++ ys) ≡ symbols_marked xs ++ symbols_marked ys
marked_append [] ys = refl
marked_append (Plain i ∷ xs) ys = marked_append xs ys
marked_append (BaseIn r ∷ xs) ys = marked_append xs ys
marked_append (OffsetOf r s ∷ xs) ys = marked_append xs ys
marked_append (OffsetAhead r words ∷ xs) ys = marked_append xs ys
marked_append (JumpTo s ∷ xs) ys = marked_append xs ys
marked_append (CallTo s ∷ xs) ys = marked_append xs ys
marked_append (JumpAhead words ∷ xs) ys = marked_append xs ys
marked_append (JumpBack words ∷ xs) ys = marked_append xs ys
marked_append (Mark s ∷ xs) ys = ap (λ ss. s ∷ ss) (marked_append xs ys)

-- code that marks these symbols
abbrev pub Marks : Code → List Symbol → Type 0
Marks code ss = symbols_marked code ≡ ss

-- ---- sequences

pub both_mark : (xs ys : Code) (ss us : List Symbol) → Marks xs ss → Marks ys us → Marks (xs ++ ys) (ss ++ us)
both_mark xs ys ss us h k = marked_append xs ys ∙ ap (λ u. u ++ symbols_marked ys) h ∙ ap (λ u. ss ++ u) k

-- code that marks nothing, before other code and behind it
pub behind : (xs ys : Code) (ss : List Symbol) → Marks xs [] → Marks ys ss → Marks (xs ++ ys) ss
behind xs ys ss h k = both_mark xs ys [] ss h k

pub before : (xs ys : Code) (ss : List Symbol) → Marks xs ss → Marks ys [] → Marks (xs ++ ys) ss
before xs ys ss h k = both_mark xs ys ss [] h k ∙ append-nil ss

pub either : (q : Bool) (x y : Code) → Marks x [] → Marks y [] → Marks (cond q x y) []
either true x y h k = h
either false x y h k = k

pub constant_none : (r : Register) (z : ℤ) → Marks (constant r z) []
constant_none r z = either (is_immediate z) _ _ refl refl

pub load_none : (rd rs : Register) (z : ℤ) → Marks (load_word rd rs z) []
load_none rd rs z = either (is_immediate z) _ _ refl refl

pub store_none : (rs value : Register) (z : ℤ) → Marks (store_word rs value z) []
store_none rs value z = either (is_immediate z) _ _ refl refl

pub plus_none : (rd rs : Register) (z : ℤ) → Marks (plus rd rs z) []
plus_none rd rs z = either (is_immediate z) _ _ refl refl

pub saved_none : (r : Register) (t : Taken) → Marks (save r t) []
saved_none r t = either (is_register_left t) _ _ refl (store_none frame_register r (words_place t.words 1))

pub fetched_none : (r : Register) (t : Taken) → Marks (fetch r t) []
fetched_none r t = either (is_register_left t) _ _ refl (load_none r frame_register (words_place t.words 1))

pub overflow_none : (t : Taken) → Marks (overflow_raised t) []
overflow_none t = behind (save a0 t) (raised C.FixedOverflow fixed_overflow_code ++ fetch a0 t) [] (saved_none a0 t) (fetched_none a0 t)

pub act_none : (line : ℕ) → Marks (act_code line) []
act_none line = behind (number a0 line) (small a1 0 ∷ service 1) [] (constant_none a0 (pos line)) refl

-- ---- operators

pub calculated_none : (t : Taken) (operator : Y.ArithmeticOperator) → Marks (calculated_code t operator) []
calculated_none t Y.Sum = overflow_none t
calculated_none t Y.Difference = overflow_none t
calculated_none t Y.Product = overflow_none t
calculated_none t Y.Quotient = overflow_none t

pub fitted_none : (t : Taken) (precision : ℕ) → Marks (fitted_code t precision) []
fitted_none t precision = either (nat_lt precision operator_precision) (narrowed_code t precision) [] (overflow_none t) refl

pub divided_none : (t : Taken) (precision : ℕ) → Marks (divided_code t precision) []
divided_none t precision =
    either (nat_lt precision operator_precision) (registers Op.Divide a0 u1 a0 ∷ narrowed_code t precision) (registers Op.Divide u2 u1 a0 ∷ quotient_checked t) (overflow_none t) (overflow_none t)

pub sign_none : (t : Taken) (sign : Y.Sign) → Marks (signed_code t sign) []
sign_none t Y.Positive = refl
sign_none t Y.Negative = overflow_none t

pub extreme_none : (extremum : Y.Extremum) → Marks (extreme_code extremum) []
extreme_none Y.Greatest = refl
extreme_none Y.Least = refl

pub combined_none : (operator : Y.BitOperator) → Marks (combined_code operator ∷ []) []
combined_none Y.Conjunction = refl
combined_none Y.Disjunction = refl

pub compared_none : (comparison : Y.Comparison) → Marks (compared_code comparison) []
compared_none Y.IsEqual = refl
compared_none Y.IsNotEqual = refl
compared_none Y.IsLess = refl
compared_none Y.IsGreater = refl
compared_none Y.IsLessOrEqual = refl
compared_none Y.IsGreaterOrEqual = refl

-- ---- expressions
