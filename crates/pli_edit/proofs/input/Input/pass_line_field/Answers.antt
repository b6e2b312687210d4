use Rattle.std.proofs.Common.{sym, subst, arith}
use Rattle.pli_meaning.specs.InputLines.{Input}
use Rattle.pli_edit.specs.Marks.{IsInLine}
use Rattle.pli_edit.proofs.Lines.{fewer_left}
use Rattle.pli_edit.proofs.input.Input.pass_line_field.Goals as goal

pub overflow_add-self : goal.overflow_add-self
overflow_add-self c =
    let there : IsInLine c.args.width c.self.inside.marks = subst (λ (i : Input). IsInLine c.args.width i.marks) (sym c.self.view_is) c.requires in
    let fewer = fewer_left c.args.width c.self.inside.marks c.pass.new.self there c.pass.ensures in
    omega (arith, fewer, c.self.invariant, c.from.ensures)

pub invariant_of-self : goal.invariant_of-self
invariant_of-self c =
    let there : IsInLine c.args.width c.self.inside.marks = subst (λ (i : Input). IsInLine c.args.width i.marks) (sym c.self.view_is) c.requires in
    let fewer = fewer_left c.args.width c.self.inside.marks c.pass.new.self there c.pass.ensures in
    omega (arith, fewer, c.self.invariant, c.from.ensures)
