use Rattle.std.proofs.Common.{◌≤◌, ◌+◌, length, map}
use Rattle.pli_signatures.specs.View.{leaf_in_force}
use Rattle.pli_order.proofs.Finding.{Leads}
use Rattle.pli_order.proofs.find.element_at.Given as goal

abbrev pub invariant-parts : goal.invariant-parts
invariant-parts l = record {
  within : l.walk.place + l.walk.left ≤ length l.notes;
  leads : Leads l.notes (map leaf_in_force l.leaves) l.fn.given l.fn.number l.walk;
}

abbrev pub decreases-parts : goal.decreases-parts
decreases-parts l = l.walk.left
