use Rattle.std.proofs.Common.{◌≡◌, ◌≤◌, length}
use Rattle.pli_serving.specs.Templates.{shape_at}
use Rattle.pli_elements.specs.Items.{AreLeaves}
use Rattle.pli_elements.proofs.leaves.leaves_from.Given as goal

abbrev pub invariant-loop-number : goal.invariant-loop-number
invariant-loop-number l = record {
  found : AreLeaves (shape_at l.held.signatures l.aggregate.signature) l.aggregate.extent l.first l.leaves.items;
  many : length l.leaves.items ≡ l.number;
  low : l.number ≤ l.count;
}
