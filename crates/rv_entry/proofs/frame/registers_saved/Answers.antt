use Rattle.rv_entry.proofs.Frames.{next_saved}
use Rattle.rv_entry.proofs.frame.registers_saved.Goals as goal

pub loop-n-preserved : goal.loop-n-preserved
loop-n-preserved c = next_saved c.args.frame c.loop-n.n c.args.count _ _ _ c.loop-n-test.true
    c.in_ok-register_saved.ensures c.loop-n.invariant
