use Rattle.offset_runs.proofs.Addresses.{address_gives}
use Rattle.offset_runs.proofs.laws.address_given.Goals as goal

pub returns : goal.returns
returns c = address_gives
