use Rattle.edit_headlines.proofs.Formats.{list_found}
use Rattle.edit_headlines.proofs.laws.formats_found.Goals as goal

pub returns : goal.returns
returns c = list_found
