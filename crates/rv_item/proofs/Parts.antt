-- What an aggregate names.
use Rattle.std.proofs.Common.{◌≡◌, refl}
use Rattle.pli_typing.specs.declared.typed.Reference as R
use Rattle.pli_typing.specs.TypedTree as Y
use Rattle.pli_typing.specs.TypedView.{numbers_of, part_of, reference_of, variable_of}
use Rattle.pli_coding.specs.Environments.{Environment}
use Rattle.pli_coding.specs.Expressions.{given_in}
use Rattle.pli_coding.specs.Storing.{subscript_count}
use Rattle.pli_coding.specs.Streams.{shape_in}
use Rattle.rv_item.specs.Elements.{part_in, shape_named, variable_in}

pub variable-Plain : (v : _) (p : _) (ns : _) → variable_in (reference_of (R.Plain v p ns)) ≡ variable_of v
unfolding reference_of
variable-Plain v p ns = refl

pub variable-Located : (a : _) (l : _) (v : _) (p : _) (ns : _) → variable_in (reference_of (R.Located' a l v p ns)) ≡ variable_of v
unfolding reference_of
variable-Located a l v p ns = refl

pub part-Plain : (v : _) (p : _) (ns : _) → part_in (reference_of (R.Plain v p ns)) ≡ part_of p
unfolding reference_of
part-Plain v p ns = refl

pub part-Located : (a : _) (l : _) (v : _) (p : _) (ns : _) → part_in (reference_of (R.Located' a l v p ns)) ≡ part_of p
unfolding reference_of
part-Located a l v p ns = refl

pub given-Plain : (v : _) (p : _) (ns : _) → subscript_count (reference_of (R.Plain v p ns)) ≡ given_in (numbers_of ns)
unfolding reference_of
given-Plain v p ns = refl

pub given-Located : (a : _) (l : _) (v : _) (p : _) (ns : _) → subscript_count (reference_of (R.Located' a l v p ns)) ≡ given_in (numbers_of ns)
unfolding reference_of
given-Located a l v p ns = refl

pub ruleset parts = (variable-Plain, variable-Located, part-Plain, part-Located, given-Plain, given-Located)

pub shape_is : (e : Environment) (r : Y.Reference) → shape_in e r ≡ shape_named e (variable_in r) (part_in r) (subscript_count r)
shape_is e (Y.Referring v locator part subscripts) = refl
