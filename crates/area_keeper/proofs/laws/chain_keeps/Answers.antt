use Rattle.area_keeper.proofs.ChainKeeps.{chain_keeps}
use Rattle.area_keeper.proofs.laws.chain_keeps.Goals as goal

pub returns : goal.returns
returns c = chain_keeps
