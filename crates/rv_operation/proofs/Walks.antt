-- What is known of references, and lists of arguments, by their parts.
use Rattle.std.proofs.Common.{◌≡◌, ℕ, suc, ◌+◌, ◌*◌, [], ◌∷◌, ◌++◌, refl, sym, ap, append_assoc, append-nil, add-one, arith}
use Rattle.pli_typing.specs.declared.typed.Numbers as Q
use Rattle.pli_typing.specs.declared.typed.Reference as R
use Rattle.pli_typing.specs.declared.typed.Arguments as J
use Rattle.pli_typing.specs.TypedView.{variable_of, part_of, numbers_of, reference_of, argument_of, arguments_of}
use Rattle.pli_coding.specs.Locating.{leaf_number, address_of}
use Rattle.pli_coding.specs.Expressions.{given_in, type_in, address_in, name_written, dimension_code, argument_count, list_words, by_reference, converted_last, all_converted_last, text_count}
use Rattle.rv_operation.specs.Pieces.{based_named, bound_told, part_given, part_named, standing_named, text_copies}

six_more : (n : ℕ) → 6 * suc n ≡ 6 * n + 6
six_more n = omega arith

turned : (a b : ℕ) → a + b ≡ b + a
turned a b = omega arith

pub type-Plain : (e : _) (v : _) (p : _) (ns : _) → type_in e (reference_of (R.Plain v p ns)) ≡ (leaf_number e (variable_of v) (part_of p).first).type
unfolding reference_of
type-Plain e v p ns = refl

pub type-Located : (e : _) (a : _) (l : _) (v : _) (p : _) (ns : _) → type_in e (reference_of (R.Located' a l v p ns)) ≡ (leaf_number e (variable_of v) (part_of p).first).type
unfolding reference_of
type-Located e a l v p ns = refl

pub place-Plain : (e : _) (v : _) (p : _) (ns : _) → address_in e (reference_of (R.Plain v p ns)) ≡ address_of e (variable_of v) (part_of p) (given_in (numbers_of ns))
unfolding reference_of
place-Plain e v p ns = refl

pub place-Located : (e : _) (a : _) (l : _) (v : _) (p : _) (ns : _) → address_in e (reference_of (R.Located' a l v p ns)) ≡ address_of e (variable_of v) (part_of p) (given_in (numbers_of ns))
unfolding reference_of
place-Located e a l v p ns = refl

pub given-End : given_in (numbers_of Q.End) ≡ 0
unfolding numbers_of
given-End = refl

pub given-More : (a : _) (n : _) (b : _) (ns : _) → given_in (numbers_of (Q.More' a n b ns)) ≡ given_in (numbers_of ns) + 1
unfolding numbers_of
given-More a n b ns = sym (add-one (given_in (numbers_of ns)))

pub named-Plain : (e : _) (t : _) (z : _) (v : _) (p : _) (ns : _) → part_named e t z (reference_of (R.Plain v p ns))
    ≡ name_written e t (variable_of v) (part_of p) z
unfolding reference_of part_named
named-Plain e t z v p ns = refl

pub named-Located : (e : _) (t : _) (z : _) (a : _) (l : _) (v : _) (p : _) (ns : _)
    → part_named e t z (reference_of (R.Located' a l v p ns)) ≡ name_written e t (variable_of v) (part_of p) z
unfolding reference_of part_named
named-Located e t z a l v p ns = refl

pub standing-Plain : (e : _) (n : _) (z : _) (v : _) (p : _) (ns : _)
    → standing_named e n z (reference_of (R.Plain v p ns)) ≡ based_named e n z (variable_of v) (part_of p)
unfolding reference_of standing_named
standing-Plain e n z v p ns = refl

pub standing-Located : (e : _) (n : _) (z : _) (a : _) (l : _) (v : _) (p : _) (ns : _)
    → standing_named e n z (reference_of (R.Located' a l v p ns)) ≡ based_named e n z (variable_of v) (part_of p)
unfolding reference_of standing_named
standing-Located e n z a l v p ns = refl

pub told-Plain : (e : _) (t : _) (v : _) (p : _) (ns : _) (k : _) (n : _) → bound_told e t (reference_of (R.Plain v p ns)) k n ≡ dimension_code e t (variable_of v) (part_of p) k n
unfolding reference_of bound_told
told-Plain e t v p ns k n = refl

pub told-Located : (e : _) (t : _) (a : _) (l : _) (v : _) (p : _) (ns : _) (k : _) (n : _) → bound_told e t (reference_of (R.Located' a l v p ns)) k n ≡ dimension_code e t (variable_of v) (part_of p) k n
unfolding reference_of bound_told
told-Located e t a l v p ns k n = refl

pub part_given-Plain : (e : _) (t : _) (m : _) (i : _) (v : _) (p : _) (ns : _) → part_given e t m i (reference_of (R.Plain v p ns)) ≡ by_reference e t m i (variable_of v) (part_of p)
unfolding reference_of part_given
part_given-Plain e t m i v p ns = refl

pub part_given-Located : (e : _) (t : _) (m : _) (i : _) (a : _) (l : _) (v : _) (p : _) (ns : _) → part_given e t m i (reference_of (R.Located' a l v p ns)) ≡ by_reference e t m i (variable_of v) (part_of p)
unfolding reference_of part_given
part_given-Located e t m i a l v p ns = refl

pub last-End : (e : _) (m : _) (i : _) → all_converted_last e m i (arguments_of J.End) ≡ []
unfolding arguments_of
last-End e m i = refl

pub last-More : (e : _) (m : _) (i : _) (a : _) (x : _) (b : _) (xs : _) → all_converted_last e m i (arguments_of (J.More' a x b xs)) ≡ converted_last e m i (argument_of x) ++ all_converted_last e m (i + 1) (arguments_of xs)
unfolding arguments_of
last-More e m i a x b xs = ap (λ k. converted_last e m i (argument_of x) ++ all_converted_last e m k (arguments_of xs)) (sym (add-one i))

pub list-End : list_words (arguments_of J.End) ≡ 0
unfolding arguments_of
list-End = refl

pub list-More : (a : _) (x : _) (b : _) (xs : _) → list_words (arguments_of (J.More' a x b xs)) ≡ list_words (arguments_of xs) + 6
unfolding arguments_of
list-More a x b xs = six_more (argument_count (arguments_of xs))

pub texts-End : text_count (arguments_of J.End) ≡ 0
unfolding arguments_of
texts-End = refl

pub texts-More : (a : _) (x : _) (b : _) (xs : _) → text_count (arguments_of (J.More' a x b xs)) ≡ text_count (arguments_of xs) + text_copies (argument_of x)
unfolding arguments_of
texts-More a x b xs = turned (text_copies (argument_of x)) (text_count (arguments_of xs))

pub ruleset parts = (
  type-Plain,
  type-Located,
  place-Plain,
  place-Located,
  given-End,
  given-More,
  named-Plain,
  named-Located,
  standing-Plain,
  standing-Located,
  told-Plain,
  told-Located,
  part_given-Plain,
  part_given-Located,
)

pub ruleset lists = (last-End, last-More, list-End, list-More, texts-End, texts-More, append_assoc, append-nil)
