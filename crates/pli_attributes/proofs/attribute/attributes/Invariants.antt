use Rattle.std.proofs.Common.{length, map}
use Rattle.pli_language.specs.View.{attribute_of}
use Rattle.pli_phrase.specs.View.{cursor_of}
use Rattle.pli_attributes.specs.Reading.{attributes_from}
use Rattle.pli_attributes.proofs.Loops.{OnAttributes}
use Rattle.pli_attributes.proofs.attribute.attributes.Given as goal

abbrev pub invariant-further : goal.invariant-further
invariant-further l = OnAttributes l.source (map attribute_of l.attributes.items) (cursor_of l.rest) (attributes_from l.source (cursor_of l.fn.cursor))

abbrev pub decreases-further : goal.decreases-further
decreases-further l = length (cursor_of l.rest).tokens
