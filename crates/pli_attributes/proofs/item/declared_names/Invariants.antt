use Rattle.std.proofs.Common.{length, map}
use Rattle.pli_language.specs.View.{declared_name_of}
use Rattle.pli_phrase.specs.View.{cursor_of}
use Rattle.pli_attributes.specs.Reading.{declared_name_from, declared_names_from}
use Rattle.pli_attributes.proofs.Loops.{OnList}
use Rattle.pli_attributes.proofs.item.declared_names.Given as goal

abbrev pub invariant-further : goal.invariant-further
invariant-further l = OnList (λ before. declared_name_from l.source) (map declared_name_of l.names.items) (cursor_of l.rest) (declared_names_from l.source (cursor_of l.fn.cursor))

abbrev pub decreases-further : goal.decreases-further
decreases-further l = length (cursor_of l.rest).tokens
