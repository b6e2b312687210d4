use Rattle.area_freeings.proofs.Freeing.{free_does}
use Rattle.area_freeings.proofs.laws.based_freed.Goals as goal

pub returns : goal.returns
returns c = free_does
