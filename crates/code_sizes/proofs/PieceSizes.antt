-- How many words pieces of code have at most.
use Rattle.std.proofs.Common.{◌≡◌, ℕ, ◌+◌, ◌==◌, ◌≤◌, [], ◌∷◌, ◌++◌, Bool, true, false, sym, subst}
use Rattle.std.proofs.Common.{◌*◌, arith, if◌then◌else◌, ℤ, pos}
use Rattle.std.specs.Prelude.{nat_lt}
use Rattle.std.proofs.lemmas.Bool.Decides.{nat_tests}
use Rattle.rv_meaning.specs.declared.instr.Register.{Register}
use Rattle.pli_language.specs.declared.condition.Condition.TheVariants as C
use Rattle.pli_meaning.specs.Codes.{fixed_overflow_code}
use Rattle.pli_typing.specs.TypedTree as Y
use Rattle.pli_coding.specs.Registers.{frame_register, a0, u1}
use Rattle.pli_coding.specs.Assembly.{Code, size_of}
use Rattle.pli_coding.specs.Instructions.{is_immediate, constant, number, plus, load_word, store_word}
use Rattle.pli_coding.specs.Frames.{words_place, own_offset, list_offset, list_place, display}
use Rattle.pli_coding.specs.Environments.{Environment, Taken, is_register_left, save, fetch}
use Rattle.pli_coding.specs.Arithmetic.{raised, overflow_raised, calculated_code, narrowed_code, fitted_code}
use Rattle.pli_coding.specs.Arithmetic.{divided_code, signed_code, absolute_code, extreme_code, compared_code}
use Rattle.pli_coding.specs.Arithmetic.{equal_code, count_checked, unless_zero, combined_code}
use Rattle.pli_meaning.specs.Numbers.{operator_precision}
use Rattle.pli_coding.specs.Locating.{frame_found, frame_in, frame_offset, own_place, place_behind, NamePlace}
use Rattle.pli_coding.specs.Locating.{FrameName, ListName, DataName, NameInData, NumberPlace, KnownNumber}
use Rattle.pli_coding.specs.Locating.{FrameNumber, ListNumber, DataNumber}
use Rattle.pli_coding.specs.Locating.{name_offset, number_loaded, loaded, Address, word_copied, name_copied}

-- ---- one behind the other

pub size_append : (xs ys : Code) → size_of (xs ++ ys) ≡ size_of xs + size_of ys
size_append [] ys = omega arith
size_append (x ∷ xs) ys = let e = size_append xs ys in omega (arith, e)

pub both : (a b : Code) {m : ℕ} → size_of a ≤ m → {n : ℕ} → size_of b ≤ n → size_of (a ++ b) ≤ m + n
both a b h k = let e = size_append a b in omega (arith, h, k, e)

pub one_of : (q : Bool) (x y : Code) {n : ℕ} → size_of x ≤ n → size_of y ≤ n → size_of (if q then x else y) ≤ n
one_of true x y h k = h
one_of false x y h k = k

pub none : {n : ℕ} → size_of [] ≤ n
none = omega arith

-- ---- constants, loads and stores

pub constant_most : (r : Register) (z : ℤ) → size_of (constant r z) ≤ 2
constant_most r z = one_of (is_immediate z) _ _ (omega arith) (omega arith)

pub number_most : (r : Register) (n : ℕ) → size_of (number r n) ≤ 2
number_most r n = constant_most r (pos n)

pub load_most : (rd rs : Register) (z : ℤ) → size_of (load_word rd rs z) ≤ 3
load_most rd rs z = one_of (is_immediate z) _ _ (omega arith) (omega arith)

pub store_most : (rs value : Register) (z : ℤ) → size_of (store_word rs value z) ≤ 3
store_most rs value z = one_of (is_immediate z) _ _ (omega arith) (omega arith)

pub plus_most : (rd rs : Register) (z : ℤ) → size_of (plus rd rs z) ≤ 3
plus_most rd rs z = one_of (is_immediate z) _ _ (omega arith) (omega arith)

pub save_most : (r : Register) (t : Taken) → size_of (save r t) ≤ 3
save_most r t =
    one_of (is_register_left t) _ _ (omega arith) (store_most frame_register r (words_place t.words 1))

pub fetch_most : (r : Register) (t : Taken) → size_of (fetch r t) ≤ 3
fetch_most r t = one_of (is_register_left t) _ _ (omega arith) (load_most r frame_register (words_place t.words 1))

pub loaded_most : (type : Y.LeafType) (r : Register) (a : Address) → size_of (loaded type r a) ≤ 3
loaded_most (Y.FixedLeaf p) r a = one_of (is_immediate a.displacement) _ _ (omega arith) (omega arith)
loaded_most Y.BitLeaf r a = one_of (is_immediate a.displacement) _ _ (omega arith) (omega arith)
loaded_most (Y.CharacterLeaf n) r a = load_most r a.register a.displacement
loaded_most (Y.VaryingLeaf n) r a = load_most r a.register a.displacement
loaded_most Y.PointerLeaf r a = load_most r a.register a.displacement
loaded_most (Y.OffsetLeaf area) r a = load_most r a.register a.displacement
loaded_most (Y.AreaLeaf n) r a = load_most r a.register a.displacement

-- ---- arithmetic

pub overflow_most : (t : Taken) → size_of (overflow_raised t) ≤ 10
overflow_most t =
    both (save a0 t) _ (save_most a0 t)
    (both (raised C.FixedOverflow fixed_overflow_code) (fetch a0 t) {m = 4} (omega arith) (fetch_most a0 t))

pub calculated_most : (t : Taken) (operator : Y.ArithmeticOperator) → size_of (calculated_code t operator) ≤ 25
calculated_most t Y.Sum = let o = overflow_most t in omega (arith, o)
calculated_most t Y.Difference = let o = overflow_most t in omega (arith, o)
calculated_most t Y.Product = let o = overflow_most t in omega (arith, o)
calculated_most t Y.Quotient = let o = overflow_most t in omega (arith, o)

narrowed_most : (t : Taken) (precision : ℕ) → size_of (narrowed_code t precision) ≤ 14
narrowed_most t precision = let o = overflow_most t in omega (arith, o)

pub fitted_most : (t : Taken) (precision : ℕ) → size_of (fitted_code t precision) ≤ 14
fitted_most t precision = one_of (nat_lt precision operator_precision) _ _ (narrowed_most t precision) none

unless_most : (code : Code) (n : ℕ) → size_of code ≤ n → size_of (unless_zero code) ≤ 8 + n
unless_most code n h = omega (arith, h)

pub divided_most : (t : Taken) (precision : ℕ) → size_of (divided_code t precision) ≤ 25
divided_most t precision =
    let o = overflow_most t in
    let m = narrowed_most t precision in
    unless_most _ 17 (one_of (nat_lt precision operator_precision) _ _ (omega (arith, m)) (omega (arith, o)))

pub signed_most : (t : Taken) (sign : Y.Sign) → size_of (signed_code t sign) ≤ 13
signed_most t Y.Positive = none
signed_most t Y.Negative = let o = overflow_most t in omega (arith, o)

pub absolute_most : (t : Taken) → size_of (absolute_code t) ≤ 15
absolute_most t = let o = overflow_most t in omega (arith, o)

pub count_most : (t : Taken) → size_of (count_checked t) ≤ 11
count_most t = let o = overflow_most t in omega (arith, o)

pub extreme_most : (extremum : Y.Extremum) → size_of (extreme_code extremum) ≤ 2
extreme_most Y.Greatest = omega arith
extreme_most Y.Least = omega arith

pub equal_most : (equal : Bool) → size_of (equal_code equal) ≤ 2
equal_most true = omega arith
equal_most false = omega arith

pub combined_most : (operator : Y.BitOperator) → size_of (combined_code operator ∷ []) ≤ 1
combined_most Y.Conjunction = omega arith
combined_most Y.Disjunction = omega arith

pub compared_most : (comparison : Y.Comparison) → size_of (compared_code comparison) ≤ 2
compared_most Y.IsEqual = omega arith
compared_most Y.IsNotEqual = omega arith
compared_most Y.IsLess = omega arith
compared_most Y.IsGreater = omega arith
compared_most Y.IsLessOrEqual = omega arith
compared_most Y.IsGreaterOrEqual = omega arith

-- ---- frames and names

pub frame_found_most : (e : Environment) (level : ℕ) (r : Register) → size_of (frame_found e level r) ≤ 3
frame_found_most e level r = one_of (level == e.level) _ _ none (load_most r frame_register (display level))

pub frame_most : (e : Environment) (level : ℕ) (r : Register) (place : ℤ) → size_of (frame_offset e level r place) ≤ 7
frame_most e level r place =
    both (frame_found e level r) _ (frame_found_most e level r)
    (both (load_word r (frame_in e level r) own_offset) (plus r r place) {m = 1} (omega arith) (plus_most r r place))

same : (n : ℕ) → (n == n) ≡ true
same n = grind (arith, nat_tests)

pub own_found : (e : Environment) (r : Register) → size_of (frame_found e e.level r) ≤ 0
own_found e r =
    subst (λ b. size_of (if b then [] else load_word r frame_register (display e.level)) ≤ 0) (sym (same e.level)) none

pub own_most : (e : Environment) (r : Register) (place : ℤ) → size_of (own_place e r place) ≤ 4
own_most e r place =
    both (frame_found e e.level r) _ (own_found e r)
    (both (load_word r (frame_in e e.level r) own_offset) (plus r r place) {m = 1} (omega arith) (plus_most r r place))

pub name_most : (e : Environment) (r : Register) (n : NamePlace) → size_of (name_offset e r n) ≤ 7
name_most e r (FrameName level place) = frame_most e level r place
name_most e r (ListName level place) =
    both (frame_found e level r) _ (frame_found_most e level r)
    (both (load_word r (frame_in e level r) list_offset) (plus r r place) {m = 1} (omega arith) (plus_most r r place))
name_most e r (DataName d) = omega arith
name_most e r (NameInData d place) = let p = plus_most r r (pos place) in omega (arith, p)

-- what a parameter's number takes more: where the list of arguments is has to be loaded first
abbrev pub number_more : NumberPlace → ℕ
number_more (ListNumber level place) = 3
number_more _ = 0

pub number_more_most : (n : NumberPlace) → number_more n ≤ 3
number_more_most (KnownNumber n) = omega arith
number_more_most (FrameNumber level place) = omega arith
number_more_most (ListNumber level place) = omega arith
number_more_most (DataNumber d) = omega arith

pub number_loaded_most : (e : Environment) (r : Register) (n : NumberPlace)
    → size_of (number_loaded e r n) ≤ 6 + number_more n
number_loaded_most e r (KnownNumber n) = let m = number_most r n in omega (arith, m)
number_loaded_most e r (FrameNumber level place) =
    both (frame_found e level r) _ (frame_found_most e level r) (load_most r (frame_in e level r) place)
number_loaded_most e r (ListNumber level place) =
    both (frame_found e level r) _ (frame_found_most e level r)
    (both (load_word r (frame_in e level r) (pos (list_place level))) (load_word r r place)
    (load_most r (frame_in e level r) (pos (list_place level))) (load_most r r place))
number_loaded_most e r (DataNumber d) = omega arith

word_most : (from to : Address) (n : ℕ) → size_of (word_copied from to n) ≤ 6
word_most from to n =
    both (load_word u1 from.register (place_behind (4 * n) from.displacement))
    (store_word to.register u1 (place_behind (4 * n) to.displacement))
    (load_most u1 from.register (place_behind (4 * n) from.displacement))
    (store_most to.register u1 (place_behind (4 * n) to.displacement))

pub copied_most : (from to : Address) → size_of (name_copied from to) ≤ 24
copied_most from to =
    both (word_copied from to 0) _ (word_most from to 0)
    (both (word_copied from to 1) _ (word_most from to 1)
    (both (word_copied from to 2) (word_copied from to 3) (word_most from to 2) (word_most from to 3)))

-- from where a register says
near_word_most : (r : Register) (to : Address) → (n : ℕ) → size_of (load_word u1 r (place_behind (4 * n) (pos 0))) ≤ 1
    → size_of (word_copied (record { register = r; displacement = pos 0 }) to n) ≤ 4
near_word_most r to n h =
    both (load_word u1 r (place_behind (4 * n) (pos 0)))
    (store_word to.register u1 (place_behind (4 * n) to.displacement)) h
    (store_most to.register u1 (place_behind (4 * n) to.displacement))

pub near_copied_most : (r : Register) (to : Address)
    → size_of (name_copied (record { register = r; displacement = pos 0 }) to) ≤ 16
near_copied_most r to =
    let from : Address = record { register = r; displacement = pos 0 } in
    both (word_copied from to 0) _ (near_word_most r to 0 (omega arith))
    (both (word_copied from to 1) _ (near_word_most r to 1 (omega arith))
    (both (word_copied from to 2) (word_copied from to 3) (near_word_most r to 2 (omega arith))
    (near_word_most r to 3 (omega arith))))
