use Rattle.pli_making.proofs.Growing.{still_counted}
use Rattle.pli_making.proofs.laws.signatures_are_added.Goals as goal

pub returns : goal.returns
returns c = still_counted
