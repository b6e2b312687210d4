use Rattle.std.proofs.Common.{◌≡◌, ◌-◌, ◌++◌, map}
use Rattle.pli_types.specs.View.{bounds_of}
use Rattle.pli_signatures.specs.Reading.{pairs_read}
use Rattle.pli_signatures.proofs.reading.pairs_of.Given as goal

abbrev pub invariant-loop : goal.invariant-loop
invariant-loop l = map bounds_of l.pairs.items ++ pairs_read l.is_referred (l.count - l.counter) l.rest ≡ pairs_read l.is_referred l.count l.words
