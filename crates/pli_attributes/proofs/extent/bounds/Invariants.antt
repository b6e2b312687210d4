use Rattle.std.proofs.Common.{length, map}
use Rattle.pli_language.specs.View.{bound_of}
use Rattle.pli_phrase.specs.View.{cursor_of}
use Rattle.pli_attributes.specs.Reading.{one_bound, bounds_from}
use Rattle.pli_attributes.proofs.Loops.{OnList}
use Rattle.pli_attributes.proofs.extent.bounds.Given as goal

abbrev pub invariant-further : goal.invariant-further
invariant-further l = OnList (one_bound l.source) (map bound_of l.bounds.items) (cursor_of l.rest) (bounds_from l.source (cursor_of l.fn.cursor))

abbrev pub decreases-further : goal.decreases-further
decreases-further l = length (cursor_of l.rest).tokens
