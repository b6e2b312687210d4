use Rattle.pli_compile.proofs.FramePlaces.{places_apart}
use Rattle.pli_compile.proofs.laws.places_apart.Goals as goal

pub returns : goal.returns
returns c = places_apart
