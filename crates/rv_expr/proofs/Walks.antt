-- The code of each form by that of its parts.
use Rattle.std.proofs.Common.{◌≡◌, ℕ, suc, ◌+◌, negsuc, true, false, [], ◌∷◌, ◌++◌, refl, sym, ap, ◌∙◌, append_assoc}
use Rattle.std.proofs.Common.{append-nil, add-one, ℤ, Bool, Option, Some, None, unwrap_or, if◌then◌else◌}
use Rattle.std.specs.Prelude.{◌&&◌, is_some, if◌then◌else◌}
use Rattle.pli_typing.specs.declared.typed.Number as N
use Rattle.pli_typing.specs.declared.typed.Numbers as Q
use Rattle.pli_typing.specs.declared.typed.Text as T
use Rattle.pli_typing.specs.declared.typed.Bit as B
use Rattle.pli_typing.specs.declared.typed.Pointer as P
use Rattle.pli_typing.specs.declared.typed.Offset as O
use Rattle.pli_typing.specs.declared.typed.Reference as R
use Rattle.pli_typing.specs.declared.typed.Argument as F
use Rattle.pli_typing.specs.declared.typed.Arguments as J
use Rattle.pli_typing.specs.declared.typed.Stored as S
use Rattle.pli_typing.specs.TypedTree as Y
use Rattle.pli_typing.specs.TypedView.{variable_of, part_of, sign_of, arithmetic_of, bit_operator_of, comparison_of, extremum_of, number_of, numbers_of, text_of, bit_of, pointer_of, offset_of, reference_of, argument_of, arguments_of, stored_of}
use Rattle.pli_coding.specs.Registers.{a0, u1}
use Rattle.pli_coding.specs.Assembly.{Code}
use Rattle.pli_coding.specs.Instructions.{constant, number, service, tested_service}
use Rattle.pli_coding.specs.Environments.{Environment, Taken, with_words, with_number, save, fetch}
use Rattle.pli_coding.specs.Arithmetic.{calculated_code, fitted_code, divided_code, signed_code, absolute_code, sign_code, modulo_code, extreme_code, negated_code, combined_code, compared_code}
use Rattle.pli_coding.specs.Locating.{behind_locator, is_simple, are_simple, waiting_name, NamePlace, FrameName}
use Rattle.pli_coding.specs.Locating.{based_located, based_reached, is_referred, reached, where_standing}
use Rattle.pli_coding.specs.Expressions.{ArgumentList, BoundAsked, LowerAsked, UpperAsked, ElementsAsked, list_words}
use Rattle.pli_coding.specs.Expressions.{list_at, is_copy, name_to_argument, value_to_argument, constant_pushed}
use Rattle.pli_coding.specs.Expressions.{number_code, extremes_code, text_code, bit_code, pointer_code, offset_code}
use Rattle.pli_coding.specs.Expressions.{reference_code, subscripts_code, asked_code, call_code, arguments_code}
use Rattle.pli_coding.specs.Expressions.{argument_code, stored_code, is_null, left_standing, name_checked}
use Rattle.pli_coding.specs.Expressions.{name_to_offset as found_to_offset, name_written, own_standing}
use Rattle.pli_coding.specs.Expressions.{standing_behind, standing_locator, standing_name, where_waiting, pointer_to}
use Rattle.pli_coding.specs.Expressions.{locator_code}
use Rattle.rv_operation.specs.Pieces.{arguments_entered, bit_constant, bit_pushed, bound_told, element_reached}
use Rattle.rv_operation.specs.Pieces.{end_cut, extreme_kept, generations_counted, index_found, name_kept}
use Rattle.rv_operation.specs.Pieces.{name_to_offset, null_kept, number_pushed, offset_to_name, offsets_compared}
use Rattle.rv_operation.specs.Pieces.{part_given, part_named, result_kept, substring_cut, text_loaded, text_measured}
use Rattle.rv_operation.specs.Pieces.{text_to_bit, text_to_number, texts_compared, value_loaded, verified}
use Rattle.rv_operation.specs.Pieces.{null_compared, places_compared, standing_named, standing_reached}
use Rattle.rv_expr.specs.Forms.{address_kept, behind, both_bits, both_numbers, locator_of, names_told, null_told}
use Rattle.rv_expr.specs.Forms.{offset_told, operand_kept, pointers_compared, reached_by, standing_at}
use Rattle.rv_expr.specs.Forms.{standing_before, subscripted, waiting_at, waiting_locator}
use Rattle.rv_operation.specs.Standing.{locator_in}

regroup : (a b c d e : Code) → a ++ (b ++ (c ++ (d ++ e))) ≡ (a ++ (b ++ (c ++ d))) ++ e
regroup a b c d e = sym (append_assoc a (b ++ (c ++ d)) e ∙ ap (λ u. a ++ u) (append_assoc b (c ++ d) e) ∙ ap (λ u. a ++ (b ++ u)) (append_assoc c d e))

kept_is : (e : Environment) (t : Taken) (p : Y.Pointer) (o : Option ℤ) → where_waiting o (pointer_code e t p)
    ≡ operand_kept e t p o
unfolding operand_kept
kept_is e t p (Some place) = refl
kept_is e t p None = refl

compared_by : (e : Environment) (t : Taken) (q : Bool) (l r : Y.Pointer) (b : Bool)
    → (if b then where_waiting (own_standing e l) (pointer_code e t l)
    ++ null_compared q (unwrap_or (own_standing e l) (waiting_name t)) else where_waiting (left_standing e l r)
    (pointer_code e t l) ++ (where_waiting (own_standing e r) (pointer_code e (with_words 4 t) r)
    ++ places_compared q (unwrap_or (left_standing e l r) (waiting_name t))
    (unwrap_or (own_standing e r) (waiting_name (with_words 4 t)))))
    ≡ (if b then null_told e t q l (own_standing e l) else names_told e t q l r (left_standing e l r)
    (own_standing e r))
unfolding null_told names_told
compared_by e t q l r true = ap (λ u. u ++ null_compared q (unwrap_or (own_standing e l) (waiting_name t)))
    (kept_is e t l (own_standing e l))
compared_by e t q l r false =
    let places = places_compared q (unwrap_or (left_standing e l r) (waiting_name t))
    (unwrap_or (own_standing e r) (waiting_name (with_words 4 t))) in
    ap (λ u. u ++ (where_waiting (own_standing e r) (pointer_code e (with_words 4 t) r) ++ places))
    (kept_is e t l (left_standing e l r))
    ∙ ap (λ u. operand_kept e t l (left_standing e l r) ++ (u ++ places))
    (kept_is e (with_words 4 t) r (own_standing e r))

compared_is : (e : Environment) (t : Taken) (q : Bool) (l r : Y.Pointer) → bit_code e t (Y.PointersCompared q l r)
    ≡ pointers_compared e t q l r
unfolding pointers_compared null_compared places_compared
compared_is e t q l r = compared_by e t q l r (is_null r)

at_locator : (e : Environment) (t : Taken) (place : ℤ) (v : Y.Variable) (part : Y.Part) (locator :
    Y.Locator) (subscripts : Y.Numbers) (o : Option NamePlace)
    → where_standing o (λ name. name_checked e (based_located e v name) place (is_referred e v part))
    (locator_code e t locator ++ name_written e t v part place)
    ≡ address_kept e t place (Y.Referring v locator part subscripts) o
unfolding address_kept locator_of part_named standing_named
at_locator e t place v part locator subscripts (Some name) = refl
at_locator e t place v part locator subscripts None = refl

address_is : (e : Environment) (t : Taken) (place : ℤ) (r : Y.Reference) → pointer_to e t place (Y.AddressOf r)
    ≡ address_kept e t place r (locator_in e r)
unfolding locator_in
address_is e t place (Y.Referring v locator part subscripts) =
    at_locator e t place v part locator subscripts (standing_locator e locator)

at_name : (e : Environment) (t : Taken) (p : Y.Pointer) (area : Y.Variable) (o : Option NamePlace)
    → where_standing o (λ name. found_to_offset e t name area) (pointer_code e t p
    ++ found_to_offset e t (FrameName e.level (waiting_name t)) area) ≡ offset_told e t p area o
unfolding offset_told name_to_offset
at_name e t p area (Some name) = refl
at_name e t p area None = refl

at_pointer : (e : Environment) (t : Taken) (p : Y.Pointer) (v : Y.Variable) (part : Y.Part) (subscripts :
    Y.Numbers) (o : Option NamePlace)
    → where_standing o (λ name. subscripts_code e t subscripts ++ based_reached e name t v part subscripts)
    (pointer_code e t p
    ++ (subscripts_code e (behind_locator v t) subscripts ++ reached e t (behind_locator v t) v part subscripts))
    ≡ (if is_some o then [] else pointer_code e t p)
    ++ reached_by e t (Y.Referring v (Y.LocatedBy p) part subscripts) o
unfolding reached_by standing_at waiting_at subscripted element_reached standing_reached
at_pointer e t p v part subscripts (Some name) = refl
at_pointer e t p v part subscripts None = refl

asked_is : (e : Environment) (t : Taken) (r : Y.Reference) (k : BoundAsked) (n : ℕ) → asked_code e t r k n ≡ locator_of e t r ++ bound_told e t r k n
unfolding locator_of bound_told
asked_is e t (Y.Referring v locator part subscripts) k n = refl

referring_is : (e : Environment) (t : Taken) (m : ArgumentList) (i : ℕ) (r : Y.Reference) → argument_code e t m i (Y.ByReference r) ≡ locator_of e t r ++ part_given e t m i r
unfolding locator_of part_given
referring_is e t m i (Y.Referring v locator part subscripts) = refl

pub number-Constant : (e : _) (t : _) (n : _) → number_code e t (number_of (N.Constant n)) ≡ number a0 n
unfolding number_of
number-Constant e t n = refl

pub number-In : (e : _) (t : _) (a : _) (r : _) → number_code e t (number_of (N.In' a r)) ≡ reference_code e t (reference_of r) ++ value_loaded e (reference_of r)
unfolding number_of value_loaded
number-In e t a r = refl

pub number-From : (e : _) (t : _) (c : _) (a : _) (xs : _) → number_code e t (number_of (N.From' c a xs)) ≡ call_code e t (Y.Calling c.procedure c.level (arguments_of xs))
unfolding number_of
number-From e t c a xs = refl

pub number-OfText : (e : _) (t : _) (a : _) (x : _) → number_code e t (number_of (N.OfText' a x)) ≡ text_code e t (text_of x) ++ text_to_number
unfolding number_of text_to_number
number-OfText e t a x = refl

pub number-OfBit : (e : _) (t : _) (a : _) (b : _) → number_code e t (number_of (N.OfBit' a b)) ≡ bit_code e t (bit_of b)
unfolding number_of
number-OfBit e t a b = refl

pub number-Signed : (e : _) (t : _) (s : _) (a : _) (n : _) → number_code e t (number_of (N.Signed' s a n)) ≡ number_code e t (number_of n) ++ signed_code t (sign_of s)
unfolding number_of
number-Signed e t s a n = refl

pub number-Calculated : (e : _) (t : _) (op : _) (a : _) (l : _) (b : _) (r : _) → number_code e t (number_of (N.Calculated' op a l b r)) ≡ both_numbers e t (number_of l) (number_of r) ++ calculated_code t (arithmetic_of op)
unfolding number_of both_numbers
number-Calculated e t op a l b r = regroup (number_code e t (number_of l)) (save a0 t) (number_code e (with_number t) (number_of r)) (fetch u1 t) (calculated_code t (arithmetic_of op))

pub number-Absolute : (e : _) (t : _) (a : _) (n : _) → number_code e t (number_of (N.Absolute' a n)) ≡ number_code e t (number_of n) ++ absolute_code t
unfolding number_of
number-Absolute e t a n = refl

pub number-SignOf : (e : _) (t : _) (a : _) (n : _) → number_code e t (number_of (N.SignOf' a n)) ≡ number_code e t (number_of n) ++ sign_code
unfolding number_of
number-SignOf e t a n = refl

pub number-Extreme : (e : _) (t : _) (w : _) (a : _) (n : _) (more : _) → number_code e t (number_of (N.Extreme' w a n more)) ≡ number_code e t (number_of n) ++ extremes_code e t (extremum_of w) (numbers_of more)
unfolding number_of
number-Extreme e t w a n more = refl

pub number-Modulo : (e : _) (t : _) (a : _) (l : _) (b : _) (r : _) → number_code e t (number_of (N.Modulo' a l b r)) ≡ both_numbers e t (number_of l) (number_of r) ++ modulo_code
unfolding number_of both_numbers
number-Modulo e t a l b r = regroup (number_code e t (number_of l)) (save a0 t) (number_code e (with_number t) (number_of r)) (fetch u1 t) modulo_code

pub number-Divided : (e : _) (t : _) (p : _) (a : _) (l : _) (b : _) (r : _) → number_code e t (number_of (N.Divided' p a l b r)) ≡ both_numbers e t (number_of l) (number_of r) ++ divided_code t p
unfolding number_of both_numbers
number-Divided e t p a l b r = regroup (number_code e t (number_of l)) (save a0 t) (number_code e (with_number t) (number_of r)) (fetch u1 t) (divided_code t p)

pub number-LengthOf : (e : _) (t : _) (a : _) (x : _) → number_code e t (number_of (N.LengthOf' a x)) ≡ text_code e t (text_of x) ++ text_measured
unfolding number_of text_measured
number-LengthOf e t a x = refl

pub number-IndexOf : (e : _) (t : _) (a : _) (x : _) (b : _) (y : _) → number_code e t (number_of (N.IndexOf' a x b y)) ≡ text_code e t (text_of x) ++ (text_code e t (text_of y) ++ index_found)
unfolding number_of index_found
number-IndexOf e t a x b y = refl

pub number-VerifyOf : (e : _) (t : _) (a : _) (x : _) (b : _) (y : _) → number_code e t (number_of (N.VerifyOf' a x b y)) ≡ text_code e t (text_of x) ++ (text_code e t (text_of y) ++ verified)
unfolding number_of verified
number-VerifyOf e t a x b y = refl

pub number-LowerBound : (e : _) (t : _) (a : _) (r : _) (n : _) → number_code e t (number_of (N.LowerBound' a r n)) ≡ locator_of e t (reference_of r) ++ bound_told e t (reference_of r) LowerAsked n
unfolding number_of
number-LowerBound e t a r n = asked_is e t (reference_of r) LowerAsked n

pub number-UpperBound : (e : _) (t : _) (a : _) (r : _) (n : _) → number_code e t (number_of (N.UpperBound' a r n)) ≡ locator_of e t (reference_of r) ++ bound_told e t (reference_of r) UpperAsked n
unfolding number_of
number-UpperBound e t a r n = asked_is e t (reference_of r) UpperAsked n

pub number-ElementsOf : (e : _) (t : _) (a : _) (r : _) (n : _) → number_code e t (number_of (N.ElementsOf' a r n)) ≡ locator_of e t (reference_of r) ++ bound_told e t (reference_of r) ElementsAsked n
unfolding number_of
number-ElementsOf e t a r n = asked_is e t (reference_of r) ElementsAsked n

pub number-AllocationsOf : (e : _) (t : _) (v : _) → number_code e t (number_of (N.AllocationsOf v)) ≡ generations_counted e (variable_of v)
unfolding number_of generations_counted
number-AllocationsOf e t v = refl

pub number-OnCode : (e : _) (t : _) → number_code e t (number_of (N.OnCode)) ≡ service 33
unfolding number_of
number-OnCode e t = refl

pub ruleset numbers = (number-Constant, number-In, number-From, number-OfText, number-OfBit, number-Signed, number-Calculated, number-Absolute, number-SignOf, number-Extreme, number-Modulo, number-Divided, number-LengthOf, number-IndexOf, number-VerifyOf, number-LowerBound, number-UpperBound, number-ElementsOf, number-AllocationsOf, number-OnCode, append_assoc, append-nil)

pub both_numbers-are : (e : _) (t : _) (l : _) (r : _) → both_numbers e t l r ≡ number_code e t l ++ (save a0 t ++ (number_code e (with_number t) r ++ fetch u1 t))
unfolding both_numbers
both_numbers-are e t l r = refl

pub both_bits-are : (e : _) (t : _) (l : _) (r : _) → both_bits e t l r ≡ bit_code e t l ++ (save a0 t ++ (bit_code e (with_number t) r ++ fetch u1 t))
unfolding both_bits
both_bits-are e t l r = refl

pub ruleset operands = (both_numbers-are, both_bits-are, append_assoc, append-nil)

pub extremes-End : (e : _) (t : _) (w : _) → extremes_code e t w (numbers_of Q.End) ≡ []
unfolding numbers_of
extremes-End e t w = refl

pub extremes-More : (e : _) (t : _) (w : _) (a : _) (n : _) (b : _) (ns : _) → extremes_code e t w (numbers_of (Q.More' a n b ns)) ≡ save a0 t ++ (number_code e (with_number t) (number_of n) ++ (extreme_kept t w ++ extremes_code e t w (numbers_of ns)))
unfolding numbers_of extreme_kept
extremes-More e t w a n b ns = ap (λ u. save a0 t ++ (number_code e (with_number t) (number_of n) ++ u)) (sym (append_assoc (fetch u1 t) (extreme_code w) (extremes_code e t w (numbers_of ns))))

pub ruleset extremes = (extremes-End, extremes-More, append_assoc, append-nil)

pub text-Constant : (e : _) (t : _) (x : _) → text_code e t (text_of (T.Constant x)) ≡ constant_pushed x.now
unfolding text_of
text-Constant e t x = refl

pub text-In : (e : _) (t : _) (a : _) (r : _) → text_code e t (text_of (T.In' a r)) ≡ reference_code e t (reference_of r) ++ text_loaded e (reference_of r)
unfolding text_of text_loaded
text-In e t a r = refl

pub text-From : (e : _) (t : _) (c : _) (a : _) (xs : _) → text_code e t (text_of (T.From' c a xs)) ≡ call_code e t (Y.Calling c.procedure c.level (arguments_of xs))
unfolding text_of
text-From e t c a xs = refl

pub text-OfNumber : (e : _) (t : _) (p : _) (a : _) (n : _) → text_code e t (text_of (T.OfNumber' p a n)) ≡ number_code e t (number_of n) ++ number_pushed p
unfolding text_of number_pushed
text-OfNumber e t p a n = refl

pub text-OfBit : (e : _) (t : _) (a : _) (b : _) → text_code e t (text_of (T.OfBit' a b)) ≡ bit_code e t (bit_of b) ++ bit_pushed
unfolding text_of bit_pushed
text-OfBit e t a b = refl

pub text-Joined : (e : _) (t : _) (a : _) (x : _) (b : _) (y : _) → text_code e t (text_of (T.Joined' a x b y)) ≡ text_code e t (text_of x) ++ (text_code e t (text_of y) ++ tested_service 22)
unfolding text_of
text-Joined e t a x b y = refl

pub text-SubstringFrom : (e : _) (t : _) (a : _) (x : _) (b : _) (i : _) → text_code e t (text_of (T.SubstringFrom' a x b i)) ≡ text_code e t (text_of x) ++ (number_code e t (number_of i) ++ end_cut)
unfolding text_of end_cut
text-SubstringFrom e t a x b i = refl

pub text-Substring : (e : _) (t : _) (a : _) (x : _) (b : _) (i : _) (c : _) (j : _) → text_code e t (text_of (T.Substring' a x b i c j)) ≡ text_code e t (text_of x) ++ (number_code e t (number_of i) ++ (save a0 t ++ (number_code e (with_number t) (number_of j) ++ substring_cut t)))
unfolding text_of substring_cut
text-Substring e t a x b i c j = refl

pub ruleset texts = (text-Constant, text-In, text-From, text-OfNumber, text-OfBit, text-Joined, text-SubstringFrom, text-Substring, append_assoc, append-nil)

pub bit-Constant : (e : _) (t : _) (b : _) → bit_code e t (bit_of (B.Constant b)) ≡ bit_constant b
unfolding bit_of
bit-Constant e t true = refl
bit-Constant e t false = refl

pub bit-In : (e : _) (t : _) (a : _) (r : _) → bit_code e t (bit_of (B.In' a r)) ≡ reference_code e t (reference_of r) ++ value_loaded e (reference_of r)
unfolding bit_of value_loaded
bit-In e t a r = refl

pub bit-From : (e : _) (t : _) (c : _) (a : _) (xs : _) → bit_code e t (bit_of (B.From' c a xs)) ≡ call_code e t (Y.Calling c.procedure c.level (arguments_of xs))
unfolding bit_of
bit-From e t c a xs = refl

pub bit-OfText : (e : _) (t : _) (a : _) (x : _) → bit_code e t (bit_of (B.OfText' a x)) ≡ text_code e t (text_of x) ++ text_to_bit
unfolding bit_of text_to_bit
bit-OfText e t a x = refl

pub bit-Negated : (e : _) (t : _) (a : _) (b : _) → bit_code e t (bit_of (B.Negated' a b)) ≡ bit_code e t (bit_of b) ++ negated_code ∷ []
unfolding bit_of
bit-Negated e t a b = refl

pub bit-Combined : (e : _) (t : _) (op : _) (a : _) (l : _) (b : _) (r : _) → bit_code e t (bit_of (B.Combined' op a l b r)) ≡ both_bits e t (bit_of l) (bit_of r) ++ combined_code (bit_operator_of op) ∷ []
unfolding bit_of both_bits
bit-Combined e t op a l b r = regroup (bit_code e t (bit_of l)) (save a0 t) (bit_code e (with_number t) (bit_of r)) (fetch u1 t) (combined_code (bit_operator_of op) ∷ [])

pub bit-NumbersCompared : (e : _) (t : _) (op : _) (a : _) (l : _) (b : _) (r : _) → bit_code e t (bit_of (B.NumbersCompared' op a l b r)) ≡ both_numbers e t (number_of l) (number_of r) ++ compared_code (comparison_of op)
unfolding bit_of both_numbers
bit-NumbersCompared e t op a l b r = regroup (number_code e t (number_of l)) (save a0 t) (number_code e (with_number t) (number_of r)) (fetch u1 t) (compared_code (comparison_of op))

pub bit-TextsCompared : (e : _) (t : _) (op : _) (a : _) (x : _) (b : _) (y : _) → bit_code e t (bit_of (B.TextsCompared' op a x b y)) ≡ text_code e t (text_of x) ++ (text_code e t (text_of y) ++ texts_compared (comparison_of op))
unfolding bit_of texts_compared
bit-TextsCompared e t op a x b y = refl

pub bit-BitsCompared : (e : _) (t : _) (op : _) (a : _) (l : _) (b : _) (r : _) → bit_code e t (bit_of (B.BitsCompared' op a l b r)) ≡ both_bits e t (bit_of l) (bit_of r) ++ compared_code (comparison_of op)
unfolding bit_of both_bits
bit-BitsCompared e t op a l b r = regroup (bit_code e t (bit_of l)) (save a0 t) (bit_code e (with_number t) (bit_of r)) (fetch u1 t) (compared_code (comparison_of op))

pub bit-PointersCompared : (e : _) (t : _) (q : _) (a : _) (l : _) (b : _) (r : _)
    → bit_code e t (bit_of (B.PointersCompared' q a l b r)) ≡ pointers_compared e t q (pointer_of l) (pointer_of r)
unfolding bit_of
bit-PointersCompared e t q a l b r = compared_is e t q (pointer_of l) (pointer_of r)

pub bit-OffsetsCompared : (e : _) (t : _) (q : _) (a : _) (l : _) (b : _) (r : _) → bit_code e t (bit_of (B.OffsetsCompared' q a l b r)) ≡ offset_code e t (offset_of l) ++ (save a0 t ++ (offset_code e (with_number t) (offset_of r) ++ offsets_compared t q))
unfolding bit_of offsets_compared
bit-OffsetsCompared e t q a l b r = refl

pub ruleset bits = (bit-Constant, bit-In, bit-From, bit-OfText, bit-Negated, bit-Combined, bit-NumbersCompared, bit-TextsCompared, bit-BitsCompared, bit-PointersCompared, bit-OffsetsCompared, append_assoc, append-nil)

pub locator-Plain : (e : _) (t : _) (v : _) (p : _) (ns : _) → locator_of e t (reference_of (R.Plain v p ns)) ≡ []
unfolding reference_of locator_of
locator-Plain e t v p ns = refl

pub locator-Located : (e : _) (t : _) (a : _) (l : _) (v : _) (p : _) (ns : _) → locator_of e t (reference_of (R.Located' a l v p ns)) ≡ pointer_code e t (pointer_of l)
unfolding reference_of locator_of
locator-Located e t a l v p ns = refl

pub ruleset locators = (locator-Plain, locator-Located, append_assoc, append-nil)

pub pointer-Null : (e : _) (t : _) (z : _) → pointer_to e t z (pointer_of (P.Null)) ≡ null_kept z
unfolding pointer_of null_kept
pointer-Null e t z = refl

pub pointer-In : (e : _) (t : _) (z : _) (a : _) (r : _) → pointer_to e t z (pointer_of (P.In' a r))
    ≡ reference_code e t (reference_of r) ++ name_kept e z (reference_of r)
unfolding pointer_of name_kept
pointer-In e t z a r = refl

pub pointer-From : (e : _) (t : _) (z : _) (c : _) (a : _) (xs : _) → pointer_to e t z (pointer_of (P.From' c a xs))
    ≡ call_code e t (Y.Calling c.procedure c.level (arguments_of xs)) ++ result_kept z
unfolding pointer_of result_kept
pointer-From e t z c a xs = refl

pub pointer-AddressOf : (e : _) (t : _) (z : _) (a : _) (r : _) → pointer_to e t z (pointer_of (P.AddressOf' a r))
    ≡ address_kept e t z (reference_of r) (locator_in e (reference_of r))
unfolding pointer_of
pointer-AddressOf e t z a r = address_is e t z (reference_of r)

pub pointer-Into : (e : _) (t : _) (z : _) (a : _) (o : _) (area : _)
    → pointer_to e t z (pointer_of (P.Into' a o area)) ≡ offset_code e t (offset_of o)
    ++ offset_to_name e t z (variable_of area)
unfolding pointer_of offset_to_name
pointer-Into e t z a o area = refl

pub ruleset pointers = (pointer-Null, pointer-In, pointer-From, pointer-AddressOf, pointer-Into, append_assoc, append-nil)

pub offset-Null : (e : _) (t : _) → offset_code e t (offset_of (O.Null)) ≡ constant a0 (negsuc 0)
unfolding offset_of
offset-Null e t = refl

pub offset-In : (e : _) (t : _) (a : _) (r : _) → offset_code e t (offset_of (O.In' a r)) ≡ reference_code e t (reference_of r) ++ value_loaded e (reference_of r)
unfolding offset_of value_loaded
offset-In e t a r = refl

pub offset-From : (e : _) (t : _) (c : _) (a : _) (xs : _) → offset_code e t (offset_of (O.From' c a xs)) ≡ call_code e t (Y.Calling c.procedure c.level (arguments_of xs))
unfolding offset_of
offset-From e t c a xs = refl

pub offset-Into : (e : _) (t : _) (a : _) (p : _) (area : _) → offset_code e t (offset_of (O.Into' a p area))
    ≡ offset_told e t (pointer_of p) (variable_of area) (standing_name e (pointer_of p))
unfolding offset_of
offset-Into e t a p area = at_name e t (pointer_of p) (variable_of area) (standing_name e (pointer_of p))

pub ruleset offsets = (offset-Null, offset-In, offset-From, offset-Into, append_assoc, append-nil)

pub reference-is : (e : _) (t : _) (r : _) → reference_code e t r ≡ waiting_locator e t r ++ behind e t r
unfolding behind reached_by standing_before waiting_locator locator_of waiting_at subscripted element_reached
reference-is e t (Y.Referring v Y.NotLocated part subscripts) = refl
reference-is e t (Y.Referring v (Y.LocatedBy p) part subscripts) =
    at_pointer e t p v part subscripts (standing_behind e p subscripts)

pub ruleset references = (reference-is, append_assoc, append-nil)

pub before-Plain : (e : _) (v : _) (p : _) (ns : _) → standing_before e (reference_of (R.Plain v p ns)) ≡ None
unfolding reference_of standing_before
before-Plain e v p ns = refl

pub before-Located : (e : _) (a : _) (l : _) (v : _) (p : _) (ns : _)
    → standing_before e (reference_of (R.Located' a l v p ns)) ≡ standing_behind e (pointer_of l) (numbers_of ns)
unfolding reference_of standing_before
before-Located e a l v p ns = refl

pub ruleset before = (before-Plain, before-Located)

pub at-Plain : (e : _) (t : _) (v : _) (p : _) (ns : _) (n : _) → standing_at e t (reference_of (R.Plain v p ns)) n
    ≡ subscripts_code e t (numbers_of ns) ++ standing_reached e n t (variable_of v) (part_of p) (numbers_of ns)
unfolding reference_of standing_at
at-Plain e t v p ns n = refl

pub at-Located : (e : _) (t : _) (a : _) (l : _) (v : _) (p : _) (ns : _) (n : _)
    → standing_at e t (reference_of (R.Located' a l v p ns)) n
    ≡ subscripts_code e t (numbers_of ns) ++ standing_reached e n t (variable_of v) (part_of p) (numbers_of ns)
unfolding reference_of standing_at
at-Located e t a l v p ns n = refl

pub waiting-Plain : (e : _) (t : _) (v : _) (p : _) (ns : _) → waiting_at e t (reference_of (R.Plain v p ns))
    ≡ subscripted e t (variable_of v) (part_of p) (numbers_of ns)
unfolding reference_of waiting_at
waiting-Plain e t v p ns = refl

pub waiting-Located : (e : _) (t : _) (a : _) (l : _) (v : _) (p : _) (ns : _)
    → waiting_at e t (reference_of (R.Located' a l v p ns))
    ≡ subscripted e t (variable_of v) (part_of p) (numbers_of ns)
unfolding reference_of waiting_at
waiting-Located e t a l v p ns = refl

pub ruleset elements = (at-Plain, at-Located, waiting-Plain, waiting-Located, append_assoc, append-nil)

pub waiting_locator-is : (e : _) (t : _) (r : _)
    → waiting_locator e t r ≡ (if is_some (standing_before e r) then [] else locator_of e t r)
unfolding waiting_locator
waiting_locator-is e t r = refl

pub behind-is : (e : _) (t : _) (r : _) → behind e t r ≡ reached_by e t r (standing_before e r)
unfolding behind
behind-is e t r = refl

pub ruleset behind_locators = (waiting_locator-is, behind-is, append_assoc, append-nil)

pub ruleset parts = (append_assoc, append-nil)

pub reached-Some : (e : _) (t : _) (r : _) (n : _) → reached_by e t r (Some n) ≡ standing_at e t r n
unfolding reached_by
reached-Some e t r n = refl

pub reached-None : (e : _) (t : _) (r : _) → reached_by e t r None ≡ waiting_at e t r
unfolding reached_by
reached-None e t r = refl

pub kept-Some : (e : _) (t : _) (z : _) (r : _) (n : _) → address_kept e t z r (Some n) ≡ standing_named e n z r
unfolding address_kept
kept-Some e t z r n = refl

pub kept-None : (e : _) (t : _) (z : _) (r : _) → address_kept e t z r None ≡ locator_of e t r ++ part_named e t z r
unfolding address_kept
kept-None e t z r = refl

pub told-Some : (e : _) (t : _) (p : _) (area : _) (n : _) → offset_told e t p area (Some n) ≡ name_to_offset e t n area
unfolding offset_told
told-Some e t p area n = refl

pub told-None : (e : _) (t : _) (p : _) (area : _) → offset_told e t p area None ≡ pointer_code e t p
    ++ name_to_offset e t (FrameName e.level (waiting_name t)) area
unfolding offset_told
told-None e t p area = refl

pub null_told-is : (e : _) (t : _) (q : _) (p : _) (z : _) → null_told e t q p z ≡ operand_kept e t p z
    ++ null_compared q (unwrap_or z (waiting_name t))
unfolding null_told
null_told-is e t q p z = refl

pub names_told-is : (e : _) (t : _) (q : _) (l : _) (r : _) (y : _) (z : _) → names_told e t q l r y z
    ≡ operand_kept e t l y
    ++ (operand_kept e (with_words 4 t) r z ++ places_compared q (unwrap_or y (waiting_name t))
    (unwrap_or z (waiting_name (with_words 4 t))))
unfolding names_told
names_told-is e t q l r y z = refl

pub operand-Some : (e : _) (t : _) (p : _) (z : _) → operand_kept e t p (Some z) ≡ []
unfolding operand_kept
operand-Some e t p z = refl

pub operand-None : (e : _) (t : _) (p : _) → operand_kept e t p None ≡ pointer_code e t p
unfolding operand_kept
operand-None e t p = refl

pub ruleset compared = (null_told-is, names_told-is, operand-Some, operand-None, append_assoc, append-nil)

pub ruleset standing = (
  reached-Some,
  reached-None,
  kept-Some,
  kept-None,
  told-Some,
  told-None,
  append_assoc,
  append-nil,
)

pub subscripted-is : (e : _) (t : _) (v : _) (p : _) (ns : _) → subscripted e t v p ns ≡ subscripts_code e (behind_locator v t) ns ++ element_reached e t (behind_locator v t) v p ns
unfolding subscripted
subscripted-is e t v p ns = refl

pub subscripts-End : (e : _) (t : _) → subscripts_code e t (numbers_of Q.End) ≡ []
unfolding numbers_of
subscripts-End e t = refl

pub subscripts-More : (e : _) (t : _) (a : _) (n : _) (b : _) (ns : _)
    → subscripts_code e t (numbers_of (Q.More' a n b ns))
    ≡ (if is_simple e (number_of n) && are_simple e (numbers_of ns) then [] else number_code e t (number_of n)
    ++ (save a0 t ++ subscripts_code e (with_number t) (numbers_of ns)))
unfolding numbers_of
subscripts-More e t a n b ns = refl

pub ruleset subscripts = (subscripted-is, subscripts-End, subscripts-More, append_assoc, append-nil)

pub call-is : (e : _) (t : _) (procedure : _) (level : _) (xs : _) → call_code e t (Y.Calling procedure level xs) ≡ arguments_code e (with_words (list_words xs) t) (list_at t xs) 0 xs ++ arguments_entered e (list_at t xs) procedure level xs
unfolding arguments_entered
call-is e t procedure level xs = refl

pub ruleset calls = (call-is, append_assoc, append-nil)

pub arguments-End : (e : _) (t : _) (m : _) (i : _) → arguments_code e t m i (arguments_of J.End) ≡ []
unfolding arguments_of
arguments-End e t m i = refl

pub arguments-More : (e : _) (t : _) (m : _) (i : _) (a : _) (x : _) (b : _) (xs : _) → arguments_code e t m i (arguments_of (J.More' a x b xs)) ≡ argument_code e t m i (argument_of x) ++ arguments_code e t m (i + 1) (arguments_of xs)
unfolding arguments_of
arguments-More e t m i a x b xs = ap (λ k. argument_code e t m i (argument_of x) ++ arguments_code e t m k (arguments_of xs)) (sym (add-one i))

pub ruleset arguments = (arguments-End, arguments-More, append_assoc, append-nil)

pub argument-ByReference : (e : _) (t : _) (m : _) (i : _) (r : _) → argument_code e t m i (argument_of (F.ByReference r)) ≡ locator_of e t (reference_of r) ++ part_given e t m i (reference_of r)
unfolding argument_of
argument-ByReference e t m i r = referring_is e t m i (reference_of r)

pub argument-ByCopy : (e : _) (t : _) (m : _) (i : _) (k : _) (s : _) → argument_code e t m i (argument_of (F.ByCopy k s)) ≡ stored_code e t (stored_of s) ++ (value_to_argument t m i (stored_of s) ++ is_copy m i)
unfolding argument_of
argument-ByCopy e t m i k s = refl

pub argument-ByOffsetInParameter : (e : _) (t : _) (m : _) (i : _) (p : _) (n : _) → argument_code e t m i (argument_of (F.ByOffsetInParameter p n)) ≡ pointer_code e t (pointer_of p) ++ (name_to_argument t m i ++ is_copy m i)
unfolding argument_of
argument-ByOffsetInParameter e t m i p n = refl

pub argument-ByOffsetInAutomatic : (e : _) (t : _) (m : _) (i : _) (p : _) → argument_code e t m i (argument_of (F.ByOffsetInAutomatic p)) ≡ pointer_code e t (pointer_of p) ++ (name_to_argument t m i ++ is_copy m i)
unfolding argument_of
argument-ByOffsetInAutomatic e t m i p = refl

pub ruleset given = (argument-ByReference, argument-ByCopy, argument-ByOffsetInParameter, argument-ByOffsetInAutomatic, append_assoc, append-nil)

pub stored-Number : (e : _) (t : _) (p : _) (n : _) → stored_code e t (stored_of (S.Number p n)) ≡ number_code e t (number_of n) ++ fitted_code t p
unfolding stored_of
stored-Number e t p n = refl

pub stored-Text : (e : _) (t : _) (x : _) → stored_code e t (stored_of (S.Text x)) ≡ text_code e t (text_of x)
unfolding stored_of
stored-Text e t x = refl

pub stored-Bit : (e : _) (t : _) (x : _) → stored_code e t (stored_of (S.Bit x)) ≡ bit_code e t (bit_of x)
unfolding stored_of
stored-Bit e t x = refl

pub stored-Pointer : (e : _) (t : _) (x : _) → stored_code e t (stored_of (S.Pointer x)) ≡ pointer_code e t (pointer_of x)
unfolding stored_of
stored-Pointer e t x = refl

pub stored-Offset : (e : _) (t : _) (x : _) → stored_code e t (stored_of (S.Offset x)) ≡ offset_code e t (offset_of x)
unfolding stored_of
stored-Offset e t x = refl

pub ruleset stored = (stored-Number, stored-Text, stored-Bit, stored-Pointer, stored-Offset, append_assoc, append-nil)
