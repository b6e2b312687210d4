use Rattle.std.proofs.Common.{None, length}
use Rattle.pli_language.specs.Nesting.{outermost}
use Rattle.pli_nest.specs.View.{nest_of}
use Rattle.pli_parse.specs.Answers.{answer}
use Rattle.pli_parse.specs.Reading.{parsed}
use Rattle.pli_parse.proofs.Found.{OnSource}
use Rattle.pli_parse.proofs.source.tree.Given as goal

abbrev pub invariant-heads : goal.invariant-heads
invariant-heads l = OnSource l.source l.found (nest_of l.nest) l.rest (answer None (parsed l.source outermost l.tokens))

abbrev pub decreases-heads : goal.decreases-heads
decreases-heads l = length l.rest
