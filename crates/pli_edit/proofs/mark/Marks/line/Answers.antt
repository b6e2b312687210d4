use Rattle.std.proofs.Common.{◌≡◌, ◌-◌, false, drop, take, length, sym, subst, ap, ◌∙◌, arith, length-drop}
use Rattle.std.proofs.lemmas.List.{take_all}
use Rattle.pli_meaning.specs.InputLines.{characters, marks_of}
use Rattle.pli_edit.specs.Marks.{has_line_end, IsInLine}
use Rattle.pli_edit.proofs.Lines.{line_so}
use Rattle.pli_edit.proofs.mark.Marks.line.Goals as goal

pub returns : goal.returns
returns c =
    let m = c.self.inside in
    let n = c.args.count in
    let d = c.deref.result.now in
    let rest = take (length d - m.place) (drop m.place d) in
    let same : rest ≡ drop m.place m.bytes.items =
    take_all (length d - m.place) (drop m.place d) (omega (arith, length-drop m.place d)) ∙ ap (drop m.place) c.deref.ensures.value
    in
    let none : has_line_end (take n rest) ≡ false = sym c.has_line_end.ensures ∙ c.if-has_line_end.false in
    subst (λ ms. IsInLine n ms × (take n rest ≡ characters n ms)) (ap (marks_of m.is_begun) same ∙ c.self.view_is)
    (line_so m.is_begun n rest (omega arith) (omega arith) none)
