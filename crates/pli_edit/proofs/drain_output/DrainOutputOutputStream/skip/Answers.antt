use Rattle.std.proofs.Common.{arith}
use Rattle.pli_edit.specs.Drained.{output_of, most_line}
use Rattle.pli_edit.proofs.LongLines.{line_fed}
use Rattle.pli_edit.proofs.drain_output.DrainOutputOutputStream.skip.Goals as goal

pub send-requires-clause-counted : goal.send-requires-clause-counted
send-requires-clause-counted g c =
    let s = c.args.self.now in
    line_fed (output_of g.B.Before.before (g.D.Drain.history s.drain) s.left.numbers) c.args.count most_line
    (omega (arith, c.if-count-eq0.false))
