use Rattle.std.proofs.Common.{length, map}
use Rattle.pli_language.specs.View.{freeing_of}
use Rattle.pli_phrase.specs.View.{cursor_of}
use Rattle.pli_clause.specs.Reading.{freeing_from, freeings_from}
use Rattle.pli_attributes.proofs.Loops.{OnList}
use Rattle.pli_clause.proofs.storage.freeings.Given as goal

abbrev pub invariant-further : goal.invariant-further
invariant-further l = OnList (λ before. freeing_from l.source) (map freeing_of l.freeings.items) (cursor_of l.rest) (freeings_from l.source (cursor_of l.fn.cursor))

abbrev pub decreases-further : goal.decreases-further
decreases-further l = length (cursor_of l.rest).tokens
