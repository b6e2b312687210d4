use Rattle.std.proofs.Common.{◌+◌, drop, true, sym, subst, ap, ◌∙◌, arith, length-drop}
use Rattle.std.proofs.lemmas.List.{drop-drop}
use Rattle.pli_meaning.specs.InputLines.{marks_of, place_behind}
use Rattle.pli_edit.specs.Marks.{IsInLine}
use Rattle.pli_edit.proofs.Lines.{behind_line}
use Rattle.pli_edit.proofs.mark.Marks.pass.Goals as goal

pub invariant_of-self : goal.invariant_of-self
invariant_of-self c =
    let m = c.self.inside in
    let n = c.args.count in
    let b = behind_line m.is_begun n (drop m.place m.bytes.items) (subst (IsInLine n) (sym c.self.view_is) c.requires) in
    let inside = b.0 in
    let first = c.self.invariant.0 in
    (omega (arith, inside, first, length-drop m.place m.bytes.items), c.self.invariant.1)

pub returns : goal.returns
returns c = λ column.
    let m = c.self.inside in
    let n = c.args.count in
    let b = behind_line m.is_begun n (drop m.place m.bytes.items) (subst (IsInLine n) (sym c.self.view_is) c.requires) in
    ap (λ s. record { marks = marks_of true s; column = column + n }) (sym (drop-drop n m.place m.bytes.items))
    ∙ (b.1 column ∙ ap (place_behind n column) c.self.view_is)
