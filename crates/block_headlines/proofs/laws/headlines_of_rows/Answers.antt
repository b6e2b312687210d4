use Rattle.block_headlines.proofs.Headlines.{rows_kept}
use Rattle.block_headlines.proofs.laws.headlines_of_rows.Goals as goal

pub returns : goal.returns
returns c = rows_kept (record { stays = c.storage_stays.ensures; allowed = c.storage_acts_allowed.ensures })
    c.run_keeper_keeps.ensures c.marked_once.ensures c.table_differs.ensures
