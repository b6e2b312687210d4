use Rattle.std.proofs.Common.{◌-◌, length, map}
use Rattle.pli_typing.specs.TypedStatementView.{member_of}
use Rattle.rv_data.specs.Shapes.{AreWalked}
use Rattle.rv_data.proofs.shape.siblings.Given as goal

abbrev pub invariant-loop-member : goal.invariant-loop-member
invariant-loop-member l = AreWalked (map member_of l.members) l.depth l.start l.node

abbrev pub decreases-loop-member : goal.decreases-loop-member
decreases-loop-member l = length l.members - l.node.behind
