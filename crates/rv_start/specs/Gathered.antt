-- The blocks of a program before they are put in the order of their numbers.
use Rattle.std.specs.Prelude.{List, [], ◌∷◌, ◌++◌}
use Rattle.pli_typing.specs.TypedTree as Y
use Rattle.pli_coding.specs.Environments.{BlockPlace}
use Rattle.pli_coding.specs.Images.{blocks_of_procedure}

-- of the last procedure first
abbrev pub gathered : List Y.Procedure → List BlockPlace
gathered [] = []
gathered (p ∷ ps) = gathered ps ++ blocks_of_procedure p.block
