use Rattle.std.proofs.Common.{Some, sym, subst, ap, ◌∙◌, arith}
use Rattle.std.proofs.lemmas.Result.{err_from_is_err_and}
use Rattle.pli_edit.specs.KnownMarks.{Marked}
use Rattle.pli_edit.specs.Streams.{LooksAt, TakesInLine}
use Rattle.pli_edit.proofs.Looking.{in_line_feed, in_line_none, in_line_some, taken_in_vain}
use Rattle.pli_edit.proofs.feed_marks.FeedMarks.take_in_line.Goals as goal

pub returns-in_err-mark : goal.returns-in_err-mark
returns-in_err-mark g c =
    let none = ap (λ (m : Marked). m.lines) c.self.view_is in
    let p = err_from_is_err_and c.from_residual.result c.from_residual.ensures.1 in
    rw (p.1, p.2) (
      c.in_err-mark.ensures.0,
      taken_in_vain c.args.self.now c.first.new.self (omega (arith, none)) c.in_err-mark.ensures.1,
    )

pub returns-in_default : goal.returns-in_default
returns-in_default g c =
    let none = ap (λ (m : Marked). m.lines) c.self.view_is in
    in_line_none c.args.self.now c.first.new.self (omega (arith, none))
    (subst (λ f. LooksAt f c.args.self.now c.first.new.self) c.in_default.is c.in_ok-mark.ensures)

pub returns-in-Character : goal.returns-in-Character
returns-in-Character g c =
    let none = ap (λ (m : Marked). m.lines) c.self.view_is in
    let n = c.in-Some.size in
    let found = c.in-Some.is ∙ ap (λ m. Some (m, n)) c.in-Character.is in
    subst (λ (m : Marked). TakesInLine (Some c.in-Character.byte) c.args.self.now m) (sym c.pass_mark.ensures)
    (in_line_some c.in-Character.byte n c.args.self.now c.first.new.self (omega (arith, none))
    (subst (λ f. LooksAt f c.args.self.now c.first.new.self) found c.in_ok-mark.ensures))

pub returns-in-LineEnd : goal.returns-in-LineEnd
returns-in-LineEnd g c =
    let none = ap (λ (m : Marked). m.lines) c.self.view_is in
    let n = c.in-Some.size in
    let found = c.in-Some.is ∙ ap (λ m. Some (m, n)) c.in-LineEnd.is in
    in_line_feed n c.args.self.now c.first.new.self (omega (arith, none))
    (subst (λ f. LooksAt f c.args.self.now c.first.new.self) found c.in_ok-mark.ensures)
