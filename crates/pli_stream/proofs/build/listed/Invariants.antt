use Rattle.std.proofs.Common.{◌≡◌, vec_len}
use Rattle.pli_language.specs.View.{formats_of}
use Rattle.pli_phrase.specs.View.{newest}
use Rattle.pli_stream.specs.Reading as R
use Rattle.pli_stream.specs.View.{item_of}
use Rattle.pli_stream.proofs.build.listed.Given as goal

abbrev pub invariant-loop-item : goal.invariant-loop-item
invariant-loop-item l = R.formats_with (newest item_of l.items.items) (formats_of l.list) ≡ R.listed (newest item_of l.initial.items.items)

abbrev pub decreases-loop-item : goal.decreases-loop-item
decreases-loop-item l = vec_len l.items
