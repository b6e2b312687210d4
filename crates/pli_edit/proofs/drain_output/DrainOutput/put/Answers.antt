use Rattle.std.proofs.Common.{◌+◌, min, ap, ◌∙◌}
use Rattle.pli_edit.specs.Drained.{output_of, most_line}
use Rattle.pli_edit.proofs.LongLines.{line_sent}
use Rattle.pli_edit.proofs.drain_output.DrainOutput.put.Goals as goal

pub send-requires-clause-counted : goal.send-requires-clause-counted
send-requires-clause-counted g c =
    let s = c.args.self.now in
    c.min.ensures
    ∙ (ap (λ n. min (n + c.args.behind) most_line) c.line_behind.ensures.length
    ∙ line_sent (output_of g.B.Before.before (g.D.Drain.history s.drain) s.left.numbers) c.args.text.now s.line
    c.args.before c.args.behind most_line s.counted)
