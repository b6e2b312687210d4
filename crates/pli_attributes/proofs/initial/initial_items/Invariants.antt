use Rattle.std.proofs.Common.{length, map}
use Rattle.pli_language.specs.View.{initial_item_of}
use Rattle.pli_phrase.specs.View.{cursor_of}
use Rattle.pli_attributes.specs.Reading.{initial_item_from, initial_items_from}
use Rattle.pli_attributes.proofs.Loops.{OnList}
use Rattle.pli_attributes.proofs.initial.initial_items.Given as goal

abbrev pub invariant-further : goal.invariant-further
invariant-further l = OnList (λ before. initial_item_from l.source) (map initial_item_of l.items.items) (cursor_of l.rest) (initial_items_from l.source (cursor_of l.fn.cursor))

abbrev pub decreases-further : goal.decreases-further
decreases-further l = length (cursor_of l.rest).tokens
