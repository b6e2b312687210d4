use Rattle.std.proofs.Common.{◌≡◌, length, map}
use Rattle.pli_language.specs.View.{name_of}
use Rattle.pli_parse.specs.Reading.{labels_from}
use Rattle.pli_parse.proofs.LabelLaws.{after_labels}
use Rattle.pli_parse.proofs.labels.labels.Given as goal

abbrev pub invariant-labels : goal.invariant-labels
invariant-labels l = after_labels (map name_of l.labels.items) (labels_from l.source l.rest) ≡ labels_from l.source l.tokens

abbrev pub decreases-labels : goal.decreases-labels
decreases-labels l = length l.rest
