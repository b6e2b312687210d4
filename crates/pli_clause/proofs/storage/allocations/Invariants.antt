use Rattle.std.proofs.Common.{length, map}
use Rattle.pli_language.specs.View.{allocation_of}
use Rattle.pli_phrase.specs.View.{cursor_of}
use Rattle.pli_clause.specs.Reading.{allocation_from, allocations_from}
use Rattle.pli_attributes.proofs.Loops.{OnList}
use Rattle.pli_clause.proofs.storage.allocations.Given as goal

abbrev pub invariant-further : goal.invariant-further
invariant-further l = OnList (λ before. allocation_from l.source) (map allocation_of l.allocations.items) (cursor_of l.rest) (allocations_from l.source (cursor_of l.fn.cursor))

abbrev pub decreases-further : goal.decreases-further
decreases-further l = length (cursor_of l.rest).tokens
