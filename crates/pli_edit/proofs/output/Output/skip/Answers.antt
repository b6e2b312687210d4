use Rattle.std.proofs.Common.{◌≡◌, ◌∙◌, ap, ◌+◌, ◌++◌, replicate, vec_len, arith}
use Rattle.pli_meaning.specs.Stream.{column_of}
use Rattle.pli_edit.proofs.Columns.{column-skipped}
use Rattle.pli_edit.proofs.Growing.{grown}
use Rattle.pli_edit.proofs.output.Output.skip.Goals as goal

pub invariant_of-self-2 : goal.invariant_of-self-2
invariant_of-self-2 c =
    let old = c.self.inside.bytes in
    let fed : c.resize.new.self.items ≡ old.items ++ replicate c.args.count 10 =
    grown old.items c.resize.new.self.items (c.len-length.result + c.args.count) (vec_len old) c.args.count 10
    c.in_ok-resize.ensures.items (omega arith) (omega arith)
    in
    ap column_of fed
    ∙ column-skipped c.self.inside.bytes.items c.self.inside.line c.args.count c.self.invariant (omega (arith, c.if-count-eq0.false))
