use Rattle.rv_entry.proofs.Frames.{next_displayed, outer_displayed}
use Rattle.rv_entry.proofs.frame.display_copied.Goals as goal

pub loop-n-preserved : goal.loop-n-preserved
loop-n-preserved c = next_displayed c.loop-n.n c.args.outer _ _ _ c.loop-n-test.true c.in_ok-display_kept.ensures c.loop-n.invariant

pub returns : goal.returns
returns c = outer_displayed c.loop-n.n c.args.outer _ _ _ c.loop-n.auto.n-end c.loop-n-test.false c.in_ok-display_ended.ensures c.loop-n.invariant
