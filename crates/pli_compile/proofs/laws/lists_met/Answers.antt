use Rattle.pli_compile.proofs.FramePlaces.{lists_met}
use Rattle.pli_compile.proofs.laws.lists_met.Goals as goal

pub returns : goal.returns
returns c = lists_met
