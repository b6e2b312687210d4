use Rattle.std.proofs.Common.{length, map}
use Rattle.pli_language.specs.View.{name_of}
use Rattle.pli_phrase.specs.View.{cursor_of}
use Rattle.pli_clause.specs.Reading.{one_parameter, names_from}
use Rattle.pli_attributes.proofs.Loops.{OnList}
use Rattle.pli_clause.proofs.procedure.names.Given as goal

abbrev pub invariant-further : goal.invariant-further
invariant-further l = OnList (one_parameter l.source) (map name_of l.names.items) (cursor_of l.rest) (names_from l.source (cursor_of l.fn.cursor))

abbrev pub decreases-further : goal.decreases-further
decreases-further l = length (cursor_of l.rest).tokens
