use Rattle.std.proofs.Common.{◌≡◌, ◌++◌}
use Rattle.rv_meaning.specs.Memory.{bytes_of_words}
use Rattle.pli_language.specs.View.{formats_of}
use Rattle.pli_coding.specs.StaticForms.{formats_words}
use Rattle.rv_data.specs.Waiting.{waiting_weight, waiting_words}
use Rattle.rv_data.proofs.formats.put_formats.Given as goal

abbrev pub invariant-loop-next : goal.invariant-loop-next
invariant-loop-next l = l.bytes.items ++ bytes_of_words (waiting_words l.waiting.items) ≡ l.initial.bytes.items ++ bytes_of_words (formats_words (formats_of l.formats))

abbrev pub decreases-loop-next : goal.decreases-loop-next
decreases-loop-next l = waiting_weight l.waiting.items
