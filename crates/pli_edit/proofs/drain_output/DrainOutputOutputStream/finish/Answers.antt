use Rattle.std.proofs.Common.{List, ℕ, subst, arith}
use Rattle.pli_edit.specs.Drained.{output_of, most_line}
use Rattle.pli_edit.specs.OutputStreams.{IsWrittenOn}
use Rattle.pli_edit.proofs.LongLines.{line_done, line_open}
use Rattle.pli_edit.proofs.drain_output.DrainOutputOutputStream.finish.Goals as goal

pub returns-then-self-eq0-clause-written : goal.returns-then-self-eq0-clause-written
returns-then-self-eq0-clause-written g c =
    let s = c.args.self.now in
    let o : List ℕ = output_of g.B.Before.before (g.D.Drain.history s.drain) s.left.numbers in
    let end = c.put.new.self in
    let new : List ℕ = output_of g.B.Before.before (g.D.Drain.history end.drain) end.left.numbers in
    subst (λ l. IsWrittenOn l o c.put.result new)
    (line_done o s.line most_line s.counted (omega arith) c.if-self-eq0.true)
    c.put.ensures.written

pub returns-clause-written : goal.returns-clause-written
returns-clause-written g c =
    let s = c.args.self.now in
    let o : List ℕ = output_of g.B.Before.before (g.D.Drain.history s.drain) s.left.numbers in
    let end = c.put-2.new.self in
    let new : List ℕ = output_of g.B.Before.before (g.D.Drain.history end.drain) end.left.numbers in
    subst (λ l. IsWrittenOn l o c.put-2.result new)
    (line_open o s.line most_line s.counted (omega (arith, c.if-self-eq0.false)))
    c.put-2.ensures.written
