use Rattle.std.proofs.Common.{length}
use Rattle.pli_parts.proofs.Takes.{readable_at}
use Rattle.pli_parts.proofs.taking.take_leaves.Goals as goal

pub take_leaf-requires : goal.take_leaf-requires
take_leaf-requires c = readable_at (length c.args.memory.now) c.args.leaves.now c.loop-leaf.leaf-index c.leaf-item.result c.requires c.loop-leaf-test.true c.leaf-item.is
