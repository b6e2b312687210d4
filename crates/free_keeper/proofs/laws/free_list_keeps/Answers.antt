use Rattle.free_keeper.proofs.FreeKeeps.{free_list_keeps}
use Rattle.free_keeper.proofs.laws.free_list_keeps.Goals as goal

pub returns : goal.returns
returns c = free_list_keeps
