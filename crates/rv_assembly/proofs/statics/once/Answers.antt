use Rattle.rv_assembly.specs.contracts.statics.DatumRefPartialEq.TheImpl as borrowed
use Rattle.rv_assembly.proofs.Same.{same_is}
use Rattle.rv_assembly.proofs.Naming.{next_once}
use Rattle.rv_assembly.proofs.statics.once.Goals as goal

pub loop-datum-preserved : goal.loop-datum-preserved
loop-datum-preserved c =
    next_once borrowed.ghosts.eq same_is _ c.loop-datum.seen.keys c.insert.new.self.keys c.args.list.now c.loop-datum.datum-index c.datum-item.result c.loop-datum-test.true c.datum-item.is c.in_ok-insert.ensures.keys c.loop-datum.invariant
