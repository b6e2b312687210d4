use Rattle.std.proofs.Common.{List, ℕ, ◌++◌, sym, subst, ap, ◌∙◌}
use Rattle.pli_edit.specs.Drained.{output_of}
use Rattle.pli_edit.specs.Fields.{text_field}
use Rattle.pli_edit.specs.OutputStreams.{IsWrittenOn}
use Rattle.pli_edit.proofs.LongLines.{text_sent}
use Rattle.pli_edit.proofs.drain_output.DrainOutputOutputStream.put_a.Goals as goal

pub returns-clause-written : goal.returns-clause-written
returns-clause-written g c =
    let s = c.args.self.now in
    let o : List ℕ = output_of g.B.Before.before (g.D.Drain.history s.drain) s.left.numbers in
    let end = c.put-2.new.self in
    let new : List ℕ = output_of g.B.Before.before (g.D.Drain.history end.drain) end.left.numbers in
    subst (λ l. IsWrittenOn l o c.put-2.result new)
    (ap (λ l. o ++ l)
    (text_sent c.args.text.now c.min-kept.result c.in-Some.width c.min-kept.ensures
    ∙ ap (λ w. text_field w c.args.text.now) (sym c.in-Some.is)))
    c.put-2.ensures.written
