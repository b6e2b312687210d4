use Rattle.std.proofs.Common.{◌≡◌, vec_len}
use Rattle.pli_language.specs.View.{qualified_of}
use Rattle.pli_phrase.specs.Reading.{qualified}
use Rattle.pli_phrase.specs.View.{newest, qualifier_of}
use Rattle.pli_phrase.proofs.build.qualified.Given as goal

abbrev pub invariant-loop-qualifier : goal.invariant-loop-qualifier
invariant-loop-qualifier l = qualified (newest qualifier_of l.qualifiers.items) (qualified_of l.target) ≡ qualified (newest qualifier_of l.initial.qualifiers.items) (qualified_of l.initial.target)

abbrev pub decreases-loop-qualifier : goal.decreases-loop-qualifier
decreases-loop-qualifier l = vec_len l.qualifiers
