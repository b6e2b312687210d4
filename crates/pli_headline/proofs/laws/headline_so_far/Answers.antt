use Rattle.pli_headline.proofs.Whole.{headline}
use Rattle.pli_headline.proofs.laws.headline_so_far.Goals as goal

pub returns : goal.returns
returns c = headline (record { stays = c.storage_stays.ensures; allowed = c.storage_acts_allowed.ensures })
