use Rattle.std.proofs.Common.{◌≡◌, ◌+◌}
use Rattle.pli_language.specs.View.{formats_of}
use Rattle.pli_coding.specs.StaticForms.{formats_length}
use Rattle.rv_data.proofs.formats.length_of.Given as goal

abbrev pub invariant-loop-left : goal.invariant-loop-left
invariant-loop-left l = l.length + formats_length (formats_of l.left) ≡ formats_length (formats_of l.formats)

abbrev pub decreases-loop-left : goal.decreases-loop-left
decreases-loop-left l = formats_length (formats_of l.left)
