use Rattle.std.proofs.Common.{◌+◌, ◌≤◌}
use Rattle.pli_language.specs.Weights.{weight_of_items}
use Rattle.pli_language.proofs.stmt.Items.onto.Given as goal

abbrev pub invariant-loop-self : goal.invariant-loop-self
invariant-loop-self l =
    weight_of_items l.self + weight_of_items l.rest ≤ weight_of_items l.fn.self + weight_of_items l.fn.rest
