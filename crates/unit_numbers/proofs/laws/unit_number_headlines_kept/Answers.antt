use Rattle.unit_numbers.proofs.Kept.{unit_headline_kept}
use Rattle.unit_numbers.proofs.laws.unit_number_headlines_kept.Goals as goal

pub returns : goal.returns
returns c =
    unit_headline_kept c.marked_once.ensures c.table_differs.ensures c.unit_headlines_kept.ensures
