use Rattle.pli_shapes.proofs.Within.{within_behind}
use Rattle.pli_shapes.proofs.sizes.put_sizes.Goals as goal

pub parts_in-inside-requires-clause-within : goal.parts_in-inside-requires-clause-within
parts_in-inside-requires-clause-within c = within_behind c.loop-left.left c.loop-left.parts c.args.parts.now c.loop-left-test.true c.loop-left.invariant.done
