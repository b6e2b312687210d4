use Rattle.member_freeings.proofs.Freeing.{free_does}
use Rattle.member_freeings.proofs.laws.structure_freed.Goals as goal

pub returns : goal.returns
returns c = free_does
