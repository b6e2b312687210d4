use Rattle.number_headlines.proofs.Kept.{headline_kept}
use Rattle.number_headlines.proofs.laws.number_headlines_kept.Goals as goal

pub returns : goal.returns
returns c = headline_kept c.marked_once.ensures c.table_differs.ensures c.headlines_kept.ensures
