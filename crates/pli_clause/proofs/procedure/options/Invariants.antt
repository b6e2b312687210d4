use Rattle.std.proofs.Common.{length, map}
use Rattle.pli_language.specs.View.{procedure_option_of}
use Rattle.pli_phrase.specs.View.{cursor_of}
use Rattle.pli_clause.specs.Reading.{options_from}
use Rattle.pli_clause.proofs.Loops.{OnOptions}
use Rattle.pli_clause.proofs.procedure.options.Given as goal

abbrev pub invariant-further : goal.invariant-further
invariant-further l = OnOptions l.source (map procedure_option_of l.options.items) (cursor_of l.rest) (options_from l.source (cursor_of l.fn.cursor))

abbrev pub decreases-further : goal.decreases-further
decreases-further l = length (cursor_of l.rest).tokens
