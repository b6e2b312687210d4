use Rattle.std.proofs.Common.{length, map}
use Rattle.pli_language.specs.View.{edit_pair_of}
use Rattle.pli_phrase.specs.View.{cursor_of}
use Rattle.pli_stream.specs.Reading.{pairs_from}
use Rattle.pli_stream.specs.View.{direction_of}
use Rattle.pli_stream.proofs.Loops.{OnPairs}
use Rattle.pli_stream.proofs.pair.pairs.Given as goal

abbrev pub invariant-further : goal.invariant-further
invariant-further l = OnPairs l.source (direction_of l.direction) (map edit_pair_of l.pairs.items) (cursor_of l.rest) (pairs_from l.source (direction_of l.direction) (cursor_of l.fn.cursor))

abbrev pub decreases-further : goal.decreases-further
decreases-further l = length (cursor_of l.rest).tokens
