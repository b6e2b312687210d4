use Rattle.edit_headlines.proofs.Formats.{list_known, list_placed}
use Rattle.edit_headlines.proofs.laws.formats_known.Goals as goal

pub returns : goal.returns
returns c = record { known = list_known; placed = list_placed }
