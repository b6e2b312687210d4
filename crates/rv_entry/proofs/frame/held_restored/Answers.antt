use Rattle.rv_entry.proofs.Frames.{next_restored}
use Rattle.rv_entry.proofs.frame.held_restored.Goals as goal

pub loop-n-preserved : goal.loop-n-preserved
loop-n-preserved c = next_restored c.loop-n.n c.args.count _ _ _ c.loop-n-test.true c.in_ok-register_restored.ensures
    c.loop-n.invariant
