use Rattle.std.proofs.Common.{length}
use Rattle.pli_phrase.specs.View.{cursor_of}
use Rattle.pli_stream.specs.Reading.{formats_from}
use Rattle.pli_stream.specs.View.{direction_of, state_of}
use Rattle.pli_stream.proofs.Loops.{OnTurns}
use Rattle.pli_stream.proofs.format.formats.Given as goal

abbrev pub invariant-turns : goal.invariant-turns
invariant-turns l = OnTurns (direction_of l.direction) (state_of l.state) (cursor_of l.rest) (formats_from (direction_of l.direction) (cursor_of l.fn.cursor))

abbrev pub decreases-turns : goal.decreases-turns
decreases-turns l = length (cursor_of l.rest).tokens
