use Rattle.pli_edit.proofs.LongLines.{drained}
use Rattle.pli_edit.proofs.drain_output.DrainOutput.into_inner.Goals as goal

pub returns-clause-drained : goal.returns-clause-drained
returns-clause-drained g c =
    let o = c.args.self in
    drained g.B.Before.before (g.D.Drain.history o.drain) o.left.numbers o.has_failed
    o.grown o.told o.none_left o.some_left
