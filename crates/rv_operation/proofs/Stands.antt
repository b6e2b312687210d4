-- Where names in POINTER variables stand, by the forms of what is looked at.
use Rattle.std.proofs.Common.{◌≡◌, true, false, None, refl}
use Rattle.pli_typing.specs.declared.typed.Numbers as Q
use Rattle.pli_typing.specs.declared.typed.Pointer as P
use Rattle.pli_typing.specs.declared.typed.Reference as R
use Rattle.pli_typing.specs.TypedView.{numbers_of, part_of, pointer_of, reference_of, variable_of}
use Rattle.pli_coding.specs.Expressions.{is_null, standing_in, standing_name}
use Rattle.rv_operation.specs.Standing.{leaf_standing, locator_in}

-- ---- references

pub in-Plain : (e : _) (v : _) (p : _) → standing_in e (reference_of (R.Plain v p Q.End))
    ≡ leaf_standing e (variable_of v) (part_of p).first
unfolding reference_of numbers_of
in-Plain e v p = refl

pub in-Element : (e : _) (v : _) (p : _) (a : _) (n : _) (b : _) (ns : _)
    → standing_in e (reference_of (R.Plain v p (Q.More' a n b ns))) ≡ None
unfolding reference_of numbers_of
in-Element e v p a n b ns = refl

pub in-Located : (e : _) (a : _) (l : _) (v : _) (p : _) (ns : _)
    → standing_in e (reference_of (R.Located' a l v p ns)) ≡ None
unfolding reference_of
in-Located e a l v p ns = refl

pub locator-Plain : (e : _) (v : _) (p : _) (ns : _) → locator_in e (reference_of (R.Plain v p ns)) ≡ None
unfolding reference_of locator_in
locator-Plain e v p ns = refl

pub locator-Located : (e : _) (a : _) (l : _) (v : _) (p : _) (ns : _)
    → locator_in e (reference_of (R.Located' a l v p ns)) ≡ standing_name e (pointer_of l)
unfolding reference_of locator_in
locator-Located e a l v p ns = refl

pub ruleset references = (in-Plain, in-Element, in-Located, locator-Plain, locator-Located)

-- ---- POINTER expressions

pub name-Null : (e : _) → standing_name e (pointer_of P.Null) ≡ None
unfolding pointer_of
name-Null e = refl

pub name-In : (e : _) (a : _) (r : _) → standing_name e (pointer_of (P.In' a r)) ≡ standing_in e (reference_of r)
unfolding pointer_of
name-In e a r = refl

pub name-From : (e : _) (c : _) (a : _) (xs : _) → standing_name e (pointer_of (P.From' c a xs)) ≡ None
unfolding pointer_of
name-From e c a xs = refl

pub name-AddressOf : (e : _) (a : _) (r : _) → standing_name e (pointer_of (P.AddressOf' a r)) ≡ None
unfolding pointer_of
name-AddressOf e a r = refl

pub name-Into : (e : _) (a : _) (o : _) (area : _) → standing_name e (pointer_of (P.Into' a o area)) ≡ None
unfolding pointer_of
name-Into e a o area = refl

pub ruleset pointers = (name-Null, name-In, name-From, name-AddressOf, name-Into)

pub null-Null : is_null (pointer_of P.Null) ≡ true
unfolding pointer_of
null-Null = refl

pub null-In : (a : _) (r : _) → is_null (pointer_of (P.In' a r)) ≡ false
unfolding pointer_of
null-In a r = refl

pub null-From : (c : _) (a : _) (xs : _) → is_null (pointer_of (P.From' c a xs)) ≡ false
unfolding pointer_of
null-From c a xs = refl

pub null-AddressOf : (a : _) (r : _) → is_null (pointer_of (P.AddressOf' a r)) ≡ false
unfolding pointer_of
null-AddressOf a r = refl

pub null-Into : (a : _) (o : _) (area : _) → is_null (pointer_of (P.Into' a o area)) ≡ false
unfolding pointer_of
null-Into a o area = refl

pub ruleset nulls = (null-Null, null-In, null-From, null-AddressOf, null-Into)
