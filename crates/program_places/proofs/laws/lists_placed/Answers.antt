use Rattle.program_places.proofs.Labels.{label_of, marked_with}
use Rattle.program_places.proofs.laws.lists_placed.Goals as goal

pub returns : goal.returns
returns c = record { marked = marked_with; labels = label_of }
