use Rattle.pli_formats.proofs.Within.{within_behind}
use Rattle.pli_formats.proofs.sizes.put_sizes.Goals as goal

pub nodes_in-inner-requires-clause-within : goal.nodes_in-inner-requires-clause-within
nodes_in-inner-requires-clause-within c = within_behind c.loop-left.left c.loop-left.nodes c.args.nodes.now c.loop-left-test.true c.loop-left.invariant.done
