-- The first of names.
use Rattle.std.specs.Prelude.{List, [], ◌∷◌, Option, Some, None}
use Rattle.pli_language.specs.Tree.{Name}
use Rattle.pli_typing.specs.References.{Named}

abbrev pub first_name : List Named → Option Name
first_name [] = None
first_name (n ∷ ns) = Some n.name
