-- Numbers and references of the tree by their forms, as simple ones or not.
use Rattle.std.proofs.Common.{◌≡◌, ℕ, suc, true, false, [], ◌∷◌, ◌++◌, refl, append_assoc, append-nil}
use Rattle.std.specs.Prelude.{pos, ◌&&◌}
use Rattle.pli_typing.specs.declared.typed.Number as N
use Rattle.pli_typing.specs.declared.typed.Numbers.{Numbers}
use Rattle.pli_typing.specs.declared.typed.Numbers as Q
use Rattle.pli_typing.specs.declared.typed.Reference as R
use Rattle.pli_typing.specs.TypedTree as Y
use Rattle.pli_typing.specs.TypedView.{variable_of, part_of, number_of, numbers_of, reference_of}
use Rattle.pli_coding.specs.Registers.{u3, u4}
use Rattle.pli_coding.specs.Instructions.{constant, add}
use Rattle.pli_coding.specs.Locating.{is_direct, is_simple, are_simple, simple_loaded, variable_loaded, times_stride}
use Rattle.pli_coding.specs.Locating.{element_added}

-- by which walks over lists of numbers end
abbrev pub count_of : Numbers → ℕ
count_of Q.End = 0
count_of (Q.More' a n b ns) = suc (count_of ns)

-- ---- references

pub simple-whole : (e : _) (v : _) (p : _) → is_simple e (Y.NumberIn (reference_of (R.Plain v p Q.End)))
    ≡ is_direct e (variable_of v)
unfolding reference_of numbers_of
simple-whole e v p = refl

pub simple-element : (e : _) (v : _) (p : _) (a : _) (n : _) (b : _) (ns : _)
    → is_simple e (Y.NumberIn (reference_of (R.Plain v p (Q.More' a n b ns)))) ≡ false
unfolding reference_of numbers_of
simple-element e v p a n b ns = refl

pub simple-Located : (e : _) (a : _) (l : _) (v : _) (p : _) (ns : _)
    → is_simple e (Y.NumberIn (reference_of (R.Located' a l v p ns))) ≡ false
unfolding reference_of
simple-Located e a l v p ns = refl

pub loaded-Plain : (e : _) (r : _) (v : _) (p : _) (ns : _)
    → simple_loaded e r (Y.NumberIn (reference_of (R.Plain v p ns))) ≡ variable_loaded e r (variable_of v) (part_of p)
unfolding reference_of
loaded-Plain e r v p ns = refl

pub loaded-Located : (e : _) (r : _) (a : _) (l : _) (v : _) (p : _) (ns : _)
    → simple_loaded e r (Y.NumberIn (reference_of (R.Located' a l v p ns)))
    ≡ variable_loaded e r (variable_of v) (part_of p)
unfolding reference_of
loaded-Located e r a l v p ns = refl

pub ruleset references = (simple-whole, simple-element, simple-Located, loaded-Plain, loaded-Located)

-- ---- lists of numbers

pub all-End : (e : _) → are_simple e (numbers_of Q.End) ≡ true
unfolding numbers_of
all-End e = refl

pub all-More : (e : _) (a : _) (n : _) (b : _) (ns : _) → are_simple e (numbers_of (Q.More' a n b ns))
    ≡ (is_simple e (number_of n) && are_simple e (numbers_of ns))
unfolding numbers_of
all-More e a n b ns = refl

pub added-End : (r : _) (k : _) → element_added r k (numbers_of Q.End) ≡ []
unfolding numbers_of
added-End r k = refl

pub added-More : (r : _) (k : _) (a : _) (n : _) (b : _) (ns : _) → element_added r k (numbers_of (Q.More' a n b ns))
    ≡ times_stride k ++ add u3 r u4 ∷ []
unfolding numbers_of
added-More r k a n b ns = refl

pub ruleset numbers = (all-End, all-More, added-End, added-More, append_assoc, append-nil)

-- ---- numbers

pub form-Constant : (e : _) (n : _) → is_simple e (number_of (N.Constant n)) ≡ true
unfolding number_of
form-Constant e n = refl

pub code-Constant : (e : _) (r : _) (n : _) → simple_loaded e r (number_of (N.Constant n)) ≡ constant r (pos n)
unfolding number_of
code-Constant e r n = refl

pub form-In : (e : _) (a : _) (r : _) → is_simple e (number_of (N.In' a r)) ≡ is_simple e (Y.NumberIn (reference_of r))
unfolding number_of
form-In e a r = refl

pub code-In : (e : _) (r : _) (a : _) (u : _) → simple_loaded e r (number_of (N.In' a u))
    ≡ simple_loaded e r (Y.NumberIn (reference_of u))
unfolding number_of
code-In e r a u = refl

pub form-From : (e : _) (c : _) (a : _) (xs : _) → is_simple e (number_of (N.From' c a xs)) ≡ false
unfolding number_of
form-From e c a xs = refl

pub code-From : (e : _) (r : _) (c : _) (a : _) (xs : _) → simple_loaded e r (number_of (N.From' c a xs)) ≡ []
unfolding number_of
code-From e r c a xs = refl

pub form-OfText : (e : _) (a : _) (t : _) → is_simple e (number_of (N.OfText' a t)) ≡ false
unfolding number_of
form-OfText e a t = refl

pub code-OfText : (e : _) (r : _) (a : _) (t : _) → simple_loaded e r (number_of (N.OfText' a t)) ≡ []
unfolding number_of
code-OfText e r a t = refl

pub form-OfBit : (e : _) (a : _) (b : _) → is_simple e (number_of (N.OfBit' a b)) ≡ false
unfolding number_of
form-OfBit e a b = refl

pub code-OfBit : (e : _) (r : _) (a : _) (b : _) → simple_loaded e r (number_of (N.OfBit' a b)) ≡ []
unfolding number_of
code-OfBit e r a b = refl

pub form-Signed : (e : _) (s : _) (a : _) (n : _) → is_simple e (number_of (N.Signed' s a n)) ≡ false
unfolding number_of
form-Signed e s a n = refl

pub code-Signed : (e : _) (r : _) (s : _) (a : _) (n : _) → simple_loaded e r (number_of (N.Signed' s a n)) ≡ []
unfolding number_of
code-Signed e r s a n = refl

pub form-Calculated : (e : _) (op : _) (a : _) (l : _) (b : _) (r : _)
    → is_simple e (number_of (N.Calculated' op a l b r)) ≡ false
unfolding number_of
form-Calculated e op a l b r = refl

pub code-Calculated : (e : _) (r : _) (op : _) (a : _) (l : _) (b : _) (u : _)
    → simple_loaded e r (number_of (N.Calculated' op a l b u)) ≡ []
unfolding number_of
code-Calculated e r op a l b u = refl

pub form-Absolute : (e : _) (a : _) (n : _) → is_simple e (number_of (N.Absolute' a n)) ≡ false
unfolding number_of
form-Absolute e a n = refl

pub code-Absolute : (e : _) (r : _) (a : _) (n : _) → simple_loaded e r (number_of (N.Absolute' a n)) ≡ []
unfolding number_of
code-Absolute e r a n = refl

pub form-SignOf : (e : _) (a : _) (n : _) → is_simple e (number_of (N.SignOf' a n)) ≡ false
unfolding number_of
form-SignOf e a n = refl

pub code-SignOf : (e : _) (r : _) (a : _) (n : _) → simple_loaded e r (number_of (N.SignOf' a n)) ≡ []
unfolding number_of
code-SignOf e r a n = refl

pub form-Extreme : (e : _) (w : _) (a : _) (n : _) (more : _) → is_simple e (number_of (N.Extreme' w a n more)) ≡ false
unfolding number_of
form-Extreme e w a n more = refl

pub code-Extreme : (e : _) (r : _) (w : _) (a : _) (n : _) (more : _)
    → simple_loaded e r (number_of (N.Extreme' w a n more)) ≡ []
unfolding number_of
code-Extreme e r w a n more = refl

pub form-Modulo : (e : _) (a : _) (l : _) (b : _) (r : _) → is_simple e (number_of (N.Modulo' a l b r)) ≡ false
unfolding number_of
form-Modulo e a l b r = refl

pub code-Modulo : (e : _) (r : _) (a : _) (l : _) (b : _) (u : _) → simple_loaded e r (number_of (N.Modulo' a l b u))
    ≡ []
unfolding number_of
code-Modulo e r a l b u = refl

pub form-Divided : (e : _) (p : _) (a : _) (l : _) (b : _) (r : _) → is_simple e (number_of (N.Divided' p a l b r))
    ≡ false
unfolding number_of
form-Divided e p a l b r = refl

pub code-Divided : (e : _) (r : _) (p : _) (a : _) (l : _) (b : _) (u : _)
    → simple_loaded e r (number_of (N.Divided' p a l b u)) ≡ []
unfolding number_of
code-Divided e r p a l b u = refl

pub form-LengthOf : (e : _) (a : _) (t : _) → is_simple e (number_of (N.LengthOf' a t)) ≡ false
unfolding number_of
form-LengthOf e a t = refl

pub code-LengthOf : (e : _) (r : _) (a : _) (t : _) → simple_loaded e r (number_of (N.LengthOf' a t)) ≡ []
unfolding number_of
code-LengthOf e r a t = refl

pub form-IndexOf : (e : _) (a : _) (s : _) (b : _) (t : _) → is_simple e (number_of (N.IndexOf' a s b t)) ≡ false
unfolding number_of
form-IndexOf e a s b t = refl

pub code-IndexOf : (e : _) (r : _) (a : _) (s : _) (b : _) (t : _)
    → simple_loaded e r (number_of (N.IndexOf' a s b t)) ≡ []
unfolding number_of
code-IndexOf e r a s b t = refl

pub form-VerifyOf : (e : _) (a : _) (s : _) (b : _) (t : _) → is_simple e (number_of (N.VerifyOf' a s b t)) ≡ false
unfolding number_of
form-VerifyOf e a s b t = refl

pub code-VerifyOf : (e : _) (r : _) (a : _) (s : _) (b : _) (t : _)
    → simple_loaded e r (number_of (N.VerifyOf' a s b t)) ≡ []
unfolding number_of
code-VerifyOf e r a s b t = refl

pub form-LowerBound : (e : _) (a : _) (r : _) (n : _) → is_simple e (number_of (N.LowerBound' a r n)) ≡ false
unfolding number_of
form-LowerBound e a r n = refl

pub code-LowerBound : (e : _) (r : _) (a : _) (u : _) (n : _) → simple_loaded e r (number_of (N.LowerBound' a u n)) ≡ []
unfolding number_of
code-LowerBound e r a u n = refl

pub form-UpperBound : (e : _) (a : _) (r : _) (n : _) → is_simple e (number_of (N.UpperBound' a r n)) ≡ false
unfolding number_of
form-UpperBound e a r n = refl

pub code-UpperBound : (e : _) (r : _) (a : _) (u : _) (n : _) → simple_loaded e r (number_of (N.UpperBound' a u n)) ≡ []
unfolding number_of
code-UpperBound e r a u n = refl

pub form-ElementsOf : (e : _) (a : _) (r : _) (n : _) → is_simple e (number_of (N.ElementsOf' a r n)) ≡ false
unfolding number_of
form-ElementsOf e a r n = refl

pub code-ElementsOf : (e : _) (r : _) (a : _) (u : _) (n : _) → simple_loaded e r (number_of (N.ElementsOf' a u n)) ≡ []
unfolding number_of
code-ElementsOf e r a u n = refl

pub form-AllocationsOf : (e : _) (v : _) → is_simple e (number_of (N.AllocationsOf v)) ≡ false
unfolding number_of
form-AllocationsOf e v = refl

pub code-AllocationsOf : (e : _) (r : _) (v : _) → simple_loaded e r (number_of (N.AllocationsOf v)) ≡ []
unfolding number_of
code-AllocationsOf e r v = refl

pub form-OnCode : (e : _) → is_simple e (number_of N.OnCode) ≡ false
unfolding number_of
form-OnCode e = refl

pub code-OnCode : (e : _) (r : _) → simple_loaded e r (number_of N.OnCode) ≡ []
unfolding number_of
code-OnCode e r = refl

pub ruleset forms = (
  form-Constant,
  code-Constant,
  form-In,
  code-In,
  form-From,
  code-From,
  form-OfText,
  code-OfText,
  form-OfBit,
  code-OfBit,
  form-Signed,
  code-Signed,
  form-Calculated,
  code-Calculated,
  form-Absolute,
  code-Absolute,
  form-SignOf,
  code-SignOf,
  form-Extreme,
  code-Extreme,
  form-Modulo,
  code-Modulo,
  form-Divided,
  code-Divided,
  form-LengthOf,
  code-LengthOf,
  form-IndexOf,
  code-IndexOf,
  form-VerifyOf,
  code-VerifyOf,
  form-LowerBound,
  code-LowerBound,
  form-UpperBound,
  code-UpperBound,
  form-ElementsOf,
  code-ElementsOf,
  form-AllocationsOf,
  code-AllocationsOf,
  form-OnCode,
  code-OnCode,
  append_assoc,
  append-nil,
)
