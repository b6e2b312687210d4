use Rattle.std.proofs.Common.{◌+◌, ◌∙◌, sym, ap}
use Rattle.pli_meaning.specs.Stream.{column_of}
use Rattle.pli_edit.proofs.Columns.{column-written}
use Rattle.pli_edit.proofs.output.Output.write.Goals as goal

pub invariant_of-self-2 : goal.invariant_of-self-2
invariant_of-self-2 c =
    ap column_of c.in_ok-append.ensures
    ∙ (column-written c.self.inside.bytes.items c.args.text.now c.self.inside.line c.args.before c.args.behind c.self.invariant
    ∙ ap (λ n. (n + c.args.behind) + 1) (sym c.line_behind.ensures.length))
