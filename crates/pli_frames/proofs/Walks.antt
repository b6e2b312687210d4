-- What each form takes by what its parts take.
use Rattle.std.proofs.Common.{◌≡◌, ℕ, suc, ◌+◌, ◌*◌, refl, ap, ◌∙◌, arith}
use Rattle.pli_typing.specs.declared.typed.Number as N
use Rattle.pli_typing.specs.declared.typed.Numbers as Q
use Rattle.pli_typing.specs.declared.typed.Text as T
use Rattle.pli_typing.specs.declared.typed.Bit as B
use Rattle.pli_typing.specs.declared.typed.Pointer as P
use Rattle.pli_typing.specs.declared.typed.Offset as O
use Rattle.pli_typing.specs.declared.typed.Reference as R
use Rattle.pli_typing.specs.declared.typed.Argument as F
use Rattle.pli_typing.specs.declared.typed.Arguments as J
use Rattle.pli_typing.specs.declared.typed.Stored as S
use Rattle.pli_typing.specs.TypedView.{variable_of, number_of, numbers_of, text_of, bit_of, pointer_of, offset_of, reference_of, argument_of, arguments_of, stored_of}
use Rattle.pli_coding.specs.Expressions.{argument_count, list_words}
use Rattle.pli_coding.specs.Environments.{with_words, with_number, most_taken, none_taken}
use Rattle.pli_frames.specs.Beside.{beside}
use Rattle.pli_frames.proofs.Most.{most_more, most_turned, none_first}
use Rattle.pli_coding.specs.Locating.{behind_locator}
use Rattle.pli_coding.specs.Temporaries.{number_takes, numbers_take, text_takes, bit_takes, pointer_takes, offset_takes}
use Rattle.pli_coding.specs.Temporaries.{reference_takes, subscripts_take, arguments_take, argument_takes, stored_takes}

pub beside-none : (k : _) → beside none_taken k ≡ k
unfolding beside
beside-none k = none_first k

pub number-Constant : (k : _) (n : _) → number_takes k (number_of (N.Constant n)) ≡ k
unfolding number_of
number-Constant k n = refl

pub number-In : (k : _) (a : _) (r : _) → number_takes k (number_of (N.In' a r)) ≡ reference_takes k (reference_of r)
unfolding number_of
number-In k a r = refl

pub number-From : (k : _) (c : _) (a : _) (xs : _) → number_takes k (number_of (N.From' c a xs))
    ≡ arguments_take (with_words (list_words (arguments_of xs)) k) (arguments_of xs)
unfolding number_of
number-From k c a xs = refl

pub number-OfText : (k : _) (a : _) (t : _) → number_takes k (number_of (N.OfText' a t)) ≡ text_takes k (text_of t)
unfolding number_of
number-OfText k a t = refl

pub number-OfBit : (k : _) (a : _) (b : _) → number_takes k (number_of (N.OfBit' a b)) ≡ bit_takes k (bit_of b)
unfolding number_of
number-OfBit k a b = refl

pub number-Signed : (m : _) (k : _) (s : _) (a : _) (n : _)
    → beside m (number_takes k (number_of (N.Signed' s a n)))
    ≡ beside (beside m (with_number k)) (number_takes k (number_of n))
unfolding number_of beside
number-Signed m k s a n = most_more m (with_number k) (number_takes k (number_of n))

pub number-Calculated : (m : _) (k : _) (op : _) (a : _) (l : _) (b : _) (r : _)
    → beside m (number_takes k (number_of (N.Calculated' op a l b r)))
    ≡ beside (beside m (number_takes (with_number k) (number_of r))) (number_takes k (number_of l))
unfolding number_of beside
number-Calculated m k op a l b r =
    most_turned m (number_takes k (number_of l)) (number_takes (with_number k) (number_of r))

pub number-Absolute : (m : _) (k : _) (a : _) (n : _)
    → beside m (number_takes k (number_of (N.Absolute' a n)))
    ≡ beside (beside m (with_number k)) (number_takes k (number_of n))
unfolding number_of beside
number-Absolute m k a n = most_more m (with_number k) (number_takes k (number_of n))

pub number-SignOf : (k : _) (a : _) (n : _) → number_takes k (number_of (N.SignOf' a n)) ≡ number_takes k (number_of n)
unfolding number_of
number-SignOf k a n = refl

pub number-Extreme : (m : _) (k : _) (w : _) (a : _) (n : _) (more : _)
    → beside m (number_takes k (number_of (N.Extreme' w a n more)))
    ≡ beside (beside m (numbers_take (with_number k) (numbers_of more))) (number_takes k (number_of n))
unfolding number_of beside
number-Extreme m k w a n more =
    most_turned m (number_takes k (number_of n)) (numbers_take (with_number k) (numbers_of more))

pub number-Modulo : (m : _) (k : _) (a : _) (l : _) (b : _) (r : _)
    → beside m (number_takes k (number_of (N.Modulo' a l b r)))
    ≡ beside (beside m (number_takes (with_number k) (number_of r))) (number_takes k (number_of l))
unfolding number_of beside
number-Modulo m k a l b r = most_turned m (number_takes k (number_of l)) (number_takes (with_number k) (number_of r))

pub number-Divided : (m : _) (k : _) (p : _) (a : _) (l : _) (b : _) (r : _)
    → beside m (number_takes k (number_of (N.Divided' p a l b r)))
    ≡ beside (beside m (number_takes (with_number k) (number_of r))) (number_takes k (number_of l))
unfolding number_of beside
number-Divided m k p a l b r =
    most_turned m (number_takes k (number_of l)) (number_takes (with_number k) (number_of r))

pub number-LengthOf : (k : _) (a : _) (t : _) → number_takes k (number_of (N.LengthOf' a t)) ≡ text_takes k (text_of t)
unfolding number_of
number-LengthOf k a t = refl

pub number-IndexOf : (m : _) (k : _) (a : _) (s : _) (b : _) (t : _)
    → beside m (number_takes k (number_of (N.IndexOf' a s b t)))
    ≡ beside (beside m (text_takes k (text_of t))) (text_takes k (text_of s))
unfolding number_of beside
number-IndexOf m k a s b t = most_turned m (text_takes k (text_of s)) (text_takes k (text_of t))

pub number-VerifyOf : (m : _) (k : _) (a : _) (s : _) (b : _) (t : _)
    → beside m (number_takes k (number_of (N.VerifyOf' a s b t)))
    ≡ beside (beside m (text_takes k (text_of t))) (text_takes k (text_of s))
unfolding number_of beside
number-VerifyOf m k a s b t = most_turned m (text_takes k (text_of s)) (text_takes k (text_of t))

pub number-LowerBound : (k : _) (a : _) (r : _) (n : _) → number_takes k (number_of (N.LowerBound' a r n))
    ≡ reference_takes k (reference_of r)
unfolding number_of
number-LowerBound k a r n = refl

pub number-UpperBound : (k : _) (a : _) (r : _) (n : _) → number_takes k (number_of (N.UpperBound' a r n))
    ≡ reference_takes k (reference_of r)
unfolding number_of
number-UpperBound k a r n = refl

pub number-ElementsOf : (m : _) (k : _) (a : _) (r : _) (n : _)
    → beside m (number_takes k (number_of (N.ElementsOf' a r n)))
    ≡ beside (beside m (with_number k)) (reference_takes k (reference_of r))
unfolding number_of beside
number-ElementsOf m k a r n = most_more m (with_number k) (reference_takes k (reference_of r))

pub number-AllocationsOf : (k : _) (v : _) → number_takes k (number_of (N.AllocationsOf v)) ≡ k
unfolding number_of
number-AllocationsOf k v = refl

pub number-OnCode : (k : _) → number_takes k (number_of N.OnCode) ≡ k
unfolding number_of
number-OnCode k = refl

pub numbers-End : (k : _) → numbers_take k (numbers_of Q.End) ≡ k
unfolding numbers_of
numbers-End k = refl

pub numbers-More : (m : _) (k : _) (a : _) (n : _) (b : _) (ns : _)
    → beside m (numbers_take k (numbers_of (Q.More' a n b ns)))
    ≡ beside (beside m (numbers_take k (numbers_of ns))) (number_takes k (number_of n))
unfolding numbers_of beside
numbers-More m k a n b ns = most_turned m (number_takes k (number_of n)) (numbers_take k (numbers_of ns))

pub subscripts-End : (k : _) → subscripts_take k (numbers_of Q.End) ≡ k
unfolding numbers_of
subscripts-End k = refl

pub subscripts-More : (m : _) (k : _) (a : _) (n : _) (b : _) (ns : _)
    → beside m (subscripts_take k (numbers_of (Q.More' a n b ns)))
    ≡ beside (beside m (subscripts_take (with_number k) (numbers_of ns))) (number_takes k (number_of n))
unfolding numbers_of beside
subscripts-More m k a n b ns =
    most_turned m (number_takes k (number_of n)) (subscripts_take (with_number k) (numbers_of ns))

pub text-Constant : (k : _) (t : _) → text_takes k (text_of (T.Constant t)) ≡ k
unfolding text_of
text-Constant k t = refl

pub text-In : (k : _) (a : _) (r : _) → text_takes k (text_of (T.In' a r)) ≡ reference_takes k (reference_of r)
unfolding text_of
text-In k a r = refl

pub text-From : (k : _) (c : _) (a : _) (xs : _) → text_takes k (text_of (T.From' c a xs))
    ≡ arguments_take (with_words (list_words (arguments_of xs)) k) (arguments_of xs)
unfolding text_of
text-From k c a xs = refl

pub text-OfNumber : (k : _) (p : _) (a : _) (n : _) → text_takes k (text_of (T.OfNumber' p a n))
    ≡ number_takes k (number_of n)
unfolding text_of
text-OfNumber k p a n = refl

pub text-OfBit : (k : _) (a : _) (b : _) → text_takes k (text_of (T.OfBit' a b)) ≡ bit_takes k (bit_of b)
unfolding text_of
text-OfBit k a b = refl

pub text-Joined : (m : _) (k : _) (a : _) (l : _) (b : _) (r : _)
    → beside m (text_takes k (text_of (T.Joined' a l b r)))
    ≡ beside (beside m (text_takes k (text_of r))) (text_takes k (text_of l))
unfolding text_of beside
text-Joined m k a l b r = most_turned m (text_takes k (text_of l)) (text_takes k (text_of r))

pub text-SubstringFrom : (m : _) (k : _) (a : _) (t : _) (b : _) (i : _)
    → beside m (text_takes k (text_of (T.SubstringFrom' a t b i)))
    ≡ beside (beside m (number_takes k (number_of i))) (text_takes k (text_of t))
unfolding text_of beside
text-SubstringFrom m k a t b i = most_turned m (text_takes k (text_of t)) (number_takes k (number_of i))

pub text-Substring : (m : _) (k : _) (a : _) (t : _) (b : _) (i : _) (c : _) (j : _)
    → beside m (text_takes k (text_of (T.Substring' a t b i c j)))
    ≡ beside (beside (beside m (number_takes (with_number k) (number_of j))) (number_takes k
    (number_of i))) (text_takes k (text_of t))
unfolding text_of beside
text-Substring m k a t b i c j =
    most_turned m (text_takes k (text_of t)) (most_taken (number_takes k (number_of i)) (number_takes
    (with_number k) (number_of j)))
    ∙ ap (λ u. most_taken u (text_takes k (text_of t))) (most_turned m (number_takes k (number_of i))
    (number_takes (with_number k) (number_of j)))

pub bit-Constant : (k : _) (b : _) → bit_takes k (bit_of (B.Constant b)) ≡ k
unfolding bit_of
bit-Constant k b = refl

pub bit-In : (k : _) (a : _) (r : _) → bit_takes k (bit_of (B.In' a r)) ≡ reference_takes k (reference_of r)
unfolding bit_of
bit-In k a r = refl

pub bit-From : (k : _) (c : _) (a : _) (xs : _) → bit_takes k (bit_of (B.From' c a xs))
    ≡ arguments_take (with_words (list_words (arguments_of xs)) k) (arguments_of xs)
unfolding bit_of
bit-From k c a xs = refl

pub bit-OfText : (k : _) (a : _) (t : _) → bit_takes k (bit_of (B.OfText' a t)) ≡ text_takes k (text_of t)
unfolding bit_of
bit-OfText k a t = refl

pub bit-Negated : (k : _) (a : _) (b : _) → bit_takes k (bit_of (B.Negated' a b)) ≡ bit_takes k (bit_of b)
unfolding bit_of
bit-Negated k a b = refl

pub bit-Combined : (m : _) (k : _) (op : _) (a : _) (l : _) (b : _) (r : _)
    → beside m (bit_takes k (bit_of (B.Combined' op a l b r)))
    ≡ beside (beside m (bit_takes (with_number k) (bit_of r))) (bit_takes k (bit_of l))
unfolding bit_of beside
bit-Combined m k op a l b r = most_turned m (bit_takes k (bit_of l)) (bit_takes (with_number k) (bit_of r))

pub bit-NumbersCompared : (m : _) (k : _) (op : _) (a : _) (l : _) (b : _) (r : _)
    → beside m (bit_takes k (bit_of (B.NumbersCompared' op a l b r)))
    ≡ beside (beside m (number_takes (with_number k) (number_of r))) (number_takes k (number_of l))
unfolding bit_of beside
bit-NumbersCompared m k op a l b r =
    most_turned m (number_takes k (number_of l)) (number_takes (with_number k) (number_of r))

pub bit-TextsCompared : (m : _) (k : _) (op : _) (a : _) (l : _) (b : _) (r : _)
    → beside m (bit_takes k (bit_of (B.TextsCompared' op a l b r)))
    ≡ beside (beside m (text_takes k (text_of r))) (text_takes k (text_of l))
unfolding bit_of beside
bit-TextsCompared m k op a l b r = most_turned m (text_takes k (text_of l)) (text_takes k (text_of r))

pub bit-BitsCompared : (m : _) (k : _) (op : _) (a : _) (l : _) (b : _) (r : _)
    → beside m (bit_takes k (bit_of (B.BitsCompared' op a l b r)))
    ≡ beside (beside m (bit_takes (with_number k) (bit_of r))) (bit_takes k (bit_of l))
unfolding bit_of beside
bit-BitsCompared m k op a l b r = most_turned m (bit_takes k (bit_of l)) (bit_takes (with_number k) (bit_of r))

pub bit-PointersCompared : (m : _) (k : _) (e : _) (a : _) (l : _) (b : _) (r : _)
    → beside m (bit_takes k (bit_of (B.PointersCompared' e a l b r)))
    ≡ beside (beside m (pointer_takes (with_words 4 k) (pointer_of r))) (pointer_takes k (pointer_of l))
unfolding bit_of beside
bit-PointersCompared m k e a l b r =
    most_turned m (pointer_takes k (pointer_of l)) (pointer_takes (with_words 4 k) (pointer_of r))

pub bit-OffsetsCompared : (m : _) (k : _) (e : _) (a : _) (l : _) (b : _) (r : _)
    → beside m (bit_takes k (bit_of (B.OffsetsCompared' e a l b r)))
    ≡ beside (beside m (offset_takes (with_number k) (offset_of r))) (offset_takes k (offset_of l))
unfolding bit_of beside
bit-OffsetsCompared m k e a l b r =
    most_turned m (offset_takes k (offset_of l)) (offset_takes (with_number k) (offset_of r))

pub pointer-Null : (k : _) → pointer_takes k (pointer_of P.Null) ≡ with_words 4 k
unfolding pointer_of
pointer-Null k = refl

pub pointer-In : (m : _) (k : _) (a : _) (r : _)
    → beside m (pointer_takes k (pointer_of (P.In' a r)))
    ≡ beside (beside m (with_words 4 k)) (reference_takes k (reference_of r))
unfolding pointer_of beside
pointer-In m k a r = most_more m (with_words 4 k) (reference_takes k (reference_of r))

pub pointer-From : (m : _) (k : _) (c : _) (a : _) (xs : _)
    → beside m (pointer_takes k (pointer_of (P.From' c a xs)))
    ≡ beside (beside m (with_words 4 k)) (arguments_take (with_words (list_words (arguments_of xs)) k)
    (arguments_of xs))
unfolding pointer_of beside
pointer-From m k c a xs =
    most_more m (with_words 4 k) (arguments_take (with_words (list_words (arguments_of xs)) k) (arguments_of xs))

pub pointer-AddressOf : (m : _) (k : _) (a : _) (r : _)
    → beside m (pointer_takes k (pointer_of (P.AddressOf' a r)))
    ≡ beside (beside m (with_words 4 k)) (reference_takes k (reference_of r))
unfolding pointer_of beside
pointer-AddressOf m k a r = most_more m (with_words 4 k) (reference_takes k (reference_of r))

pub pointer-Into : (m : _) (k : _) (a : _) (o : _) (area : _)
    → beside m (pointer_takes k (pointer_of (P.Into' a o area)))
    ≡ beside (beside m (with_words 4 k)) (offset_takes k (offset_of o))
unfolding pointer_of beside
pointer-Into m k a o area = most_more m (with_words 4 k) (offset_takes k (offset_of o))

pub offset-Null : (k : _) → offset_takes k (offset_of O.Null) ≡ k
unfolding offset_of
offset-Null k = refl

pub offset-In : (k : _) (a : _) (r : _) → offset_takes k (offset_of (O.In' a r)) ≡ reference_takes k (reference_of r)
unfolding offset_of
offset-In k a r = refl

pub offset-From : (k : _) (c : _) (a : _) (xs : _) → offset_takes k (offset_of (O.From' c a xs))
    ≡ arguments_take (with_words (list_words (arguments_of xs)) k) (arguments_of xs)
unfolding offset_of
offset-From k c a xs = refl

pub offset-Into : (k : _) (a : _) (p : _) (area : _) → offset_takes k (offset_of (O.Into' a p area))
    ≡ pointer_takes k (pointer_of p)
unfolding offset_of
offset-Into k a p area = refl

pub reference-Plain : (m : _) (k : _) (v : _) (p : _) (ns : _)
    → beside m (reference_takes k (reference_of (R.Plain v p ns)))
    ≡ beside (beside m (subscripts_take (behind_locator (variable_of v) k) (numbers_of ns))) k
unfolding reference_of beside
reference-Plain m k v p ns = most_turned m k (subscripts_take (behind_locator (variable_of v) k) (numbers_of ns))

pub reference-Located : (m : _) (k : _) (a : _) (l : _) (v : _) (p : _) (ns : _)
    → beside m (reference_takes k (reference_of (R.Located' a l v p ns)))
    ≡ beside (beside m (subscripts_take (behind_locator (variable_of v) k) (numbers_of ns)))
    (pointer_takes k (pointer_of l))
unfolding reference_of beside
reference-Located m k a l v p ns =
    most_turned m (pointer_takes k (pointer_of l)) (subscripts_take (behind_locator (variable_of v) k)
    (numbers_of ns))

pub argument-ByReference : (k : _) (r : _) → argument_takes k (argument_of (F.ByReference r))
    ≡ reference_takes k (reference_of r)
unfolding argument_of
argument-ByReference k r = refl

pub argument-ByCopy : (k : _) (t : _) (s : _) → argument_takes k (argument_of (F.ByCopy t s))
    ≡ stored_takes k (stored_of s)
unfolding argument_of
argument-ByCopy k t s = refl

pub argument-ByOffsetInParameter : (k : _) (p : _) (n : _) → argument_takes k (argument_of (F.ByOffsetInParameter p n))
    ≡ pointer_takes k (pointer_of p)
unfolding argument_of
argument-ByOffsetInParameter k p n = refl

pub argument-ByOffsetInAutomatic : (k : _) (p : _) → argument_takes k (argument_of (F.ByOffsetInAutomatic p))
    ≡ pointer_takes k (pointer_of p)
unfolding argument_of
argument-ByOffsetInAutomatic k p = refl

pub arguments-End : (k : _) → arguments_take k (arguments_of J.End) ≡ k
unfolding arguments_of
arguments-End k = refl

pub arguments-More : (m : _) (k : _) (a : _) (x : _) (b : _) (xs : _)
    → beside m (arguments_take k (arguments_of (J.More' a x b xs)))
    ≡ beside (beside m (arguments_take k (arguments_of xs))) (argument_takes k (argument_of x))
unfolding arguments_of beside
arguments-More m k a x b xs = most_turned m (argument_takes k (argument_of x)) (arguments_take k (arguments_of xs))

six_more : (n : ℕ) → 6 * suc n ≡ 6 + 6 * n
six_more n = omega arith

pub list-End : list_words (arguments_of J.End) ≡ 0
unfolding arguments_of
list-End = refl

pub list-More : (a : _) (x : _) (b : _) (xs : _) → list_words (arguments_of (J.More' a x b xs)) ≡ 6 + list_words (arguments_of xs)
unfolding arguments_of
list-More a x b xs = six_more (argument_count (arguments_of xs))

pub stored-Number : (m : _) (k : _) (p : _) (n : _)
    → beside m (stored_takes k (stored_of (S.Number p n)))
    ≡ beside (beside m (with_number k)) (number_takes k (number_of n))
unfolding stored_of beside
stored-Number m k p n = most_more m (with_number k) (number_takes k (number_of n))

pub stored-Text : (k : _) (t : _) → stored_takes k (stored_of (S.Text t)) ≡ text_takes k (text_of t)
unfolding stored_of
stored-Text k t = refl

pub stored-Bit : (k : _) (b : _) → stored_takes k (stored_of (S.Bit b)) ≡ bit_takes k (bit_of b)
unfolding stored_of
stored-Bit k b = refl

pub stored-Pointer : (k : _) (p : _) → stored_takes k (stored_of (S.Pointer p)) ≡ pointer_takes k (pointer_of p)
unfolding stored_of
stored-Pointer k p = refl

pub stored-Offset : (k : _) (o : _) → stored_takes k (stored_of (S.Offset o)) ≡ offset_takes k (offset_of o)
unfolding stored_of
stored-Offset k o = refl

pub ruleset walks = (beside-none, number-Constant, number-In, number-From, number-OfText, number-OfBit, number-Signed, number-Calculated, number-Absolute, number-SignOf, number-Extreme, number-Modulo, number-Divided, number-LengthOf, number-IndexOf, number-VerifyOf, number-LowerBound, number-UpperBound, number-ElementsOf, number-AllocationsOf, number-OnCode, numbers-End, numbers-More, subscripts-End, subscripts-More, text-Constant, text-In, text-From, text-OfNumber, text-OfBit, text-Joined, text-SubstringFrom, text-Substring, bit-Constant, bit-In, bit-From, bit-OfText, bit-Negated, bit-Combined, bit-NumbersCompared, bit-TextsCompared, bit-BitsCompared, bit-PointersCompared, bit-OffsetsCompared, pointer-Null, pointer-In, pointer-From, pointer-AddressOf, pointer-Into, offset-Null, offset-In, offset-From, offset-Into, reference-Plain, reference-Located, argument-ByReference, argument-ByCopy, argument-ByOffsetInParameter, argument-ByOffsetInAutomatic, arguments-End, arguments-More, list-End, list-More, stored-Number, stored-Text, stored-Bit, stored-Pointer, stored-Offset)
