use Rattle.std.proofs.Common.{length, ◌-◌}
use Rattle.pli_lex.proofs.Reading.{Progress}
use Rattle.pli_lex.proofs.read.Given as goal

abbrev pub invariant-loop-place : goal.invariant-loop-place
invariant-loop-place l = Progress l.source l.tokens.items l.place.offset l.place.line l.place.column

abbrev pub decreases-loop-place : goal.decreases-loop-place
decreases-loop-place l = length l.source - l.place.offset
