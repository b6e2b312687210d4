-- The leaves of a signature, as far as they are known.
use Rattle.std.specs.Prelude.{List, map}
use Rattle.pli_typing.specs.Signatures as S
use Rattle.pli_types.specs.Templates.{leaf_so_far}
use Rattle.pli_types.specs.View.{leaf_of}
use Rattle.pli_types.specs.declared.signature.Leaf.{Leaf}

abbrev pub leaves_of : List Leaf → List S.Leaf
leaves_of leaves = map leaf_so_far (map leaf_of leaves)
