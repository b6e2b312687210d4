use Rattle.std.proofs.Common.{◌≡◌, ◌+◌, length, map}
use Rattle.pli_typing.specs.TypedStatementView.{member_of}
use Rattle.rv_data.specs.Shapes.{AreNodes}
use Rattle.rv_data.proofs.shape.nodes_of.Given as goal

abbrev pub invariant-loop-left : goal.invariant-loop-left
invariant-loop-left l = record {
  told : AreNodes (map member_of l.members) l.nodes.items;
  count : length l.nodes.items + l.left ≡ length l.members;
}

abbrev pub decreases-loop-left : goal.decreases-loop-left
decreases-loop-left l = l.left
