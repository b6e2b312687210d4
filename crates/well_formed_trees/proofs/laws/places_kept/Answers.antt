use Rattle.well_formed_trees.proofs.PlacesRise.{places_kept}
use Rattle.well_formed_trees.proofs.laws.places_kept.Goals as goal

pub returns : goal.returns
returns c = places_kept
