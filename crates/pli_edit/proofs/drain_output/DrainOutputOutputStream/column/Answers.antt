use Rattle.std.proofs.Common.{List, ℕ, ◌-◌, ◌++◌, [], ◌∷◌, subst, ap, ◌∙◌, arith}
use Rattle.pli_meaning.specs.Stream.{blanks}
use Rattle.pli_edit.specs.Drained.{output_of, most_line}
use Rattle.pli_edit.specs.OutputStreams.{IsWrittenOn}
use Rattle.pli_edit.proofs.LongLines.{column_sent, column_passed}
use Rattle.pli_edit.proofs.drain_output.DrainOutputOutputStream.column.Goals as goal

pub returns-then-self-column-clause-written : goal.returns-then-self-column-clause-written
returns-then-self-column-clause-written g c =
    let s = c.args.self.now in
    let o : List ℕ = output_of g.B.Before.before (g.D.Drain.history s.drain) s.left.numbers in
    let end = c.put.new.self in
    let new : List ℕ = output_of g.B.Before.before (g.D.Drain.history end.drain) end.left.numbers in
    subst (λ l. IsWrittenOn l o c.put.result new)
    (ap (λ n. o ++ (blanks (n - s.line) ++ ([] ++ []))) c.saturating_sub-before.ensures
    ∙ column_sent o c.args.column s.line most_line s.counted (omega (arith, c.ranges.column)) c.if-self-column.true)
    c.put.ensures.written

pub returns-clause-written : goal.returns-clause-written
returns-clause-written g c =
    let s = c.args.self.now in
    let o : List ℕ = output_of g.B.Before.before (g.D.Drain.history s.drain) s.left.numbers in
    let end = c.put-2.new.self in
    let new : List ℕ = output_of g.B.Before.before (g.D.Drain.history end.drain) end.left.numbers in
    subst (λ l. IsWrittenOn l o c.put-2.result new)
    (ap (λ n. o ++ ([] ++ (10 ∷ [] ++ blanks n))) c.saturating_sub-before.ensures
    ∙ column_passed o c.args.column s.line most_line s.counted c.if-self-column.false)
    c.put-2.ensures.written
