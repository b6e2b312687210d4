-- Places of an extent as the words that stand for them.
use Rattle.std.specs.Prelude.{ℕ, List, [], ◌∷◌}
use Rattle.std.specs.List.{flat_map}
use Rattle.rv_data.specs.declared.places.ExtentPlace.{ExtentPlace}

abbrev pub pair_of : ExtentPlace → List ℕ
pair_of p = p.leaf ∷ p.dimension ∷ []

abbrev pub words_of : List ExtentPlace → List ℕ
words_of ps = flat_map pair_of ps
