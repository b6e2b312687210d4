use Rattle.controlled_headlines.proofs.Headlines.{kept}
use Rattle.controlled_headlines.proofs.laws.listed_headlines_kept.Goals as goal

pub returns : goal.returns
returns c = kept (record { stays = c.storage_stays.ensures; allowed = c.storage_acts_allowed.ensures })
    c.run_keeper_keeps.ensures
