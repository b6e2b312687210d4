use Rattle.std.proofs.Common.{◌∷◌, ◌-◌, [], sym, subst, ap, ◌∙◌, arith}
use Rattle.std.proofs.lemmas.Result.{err_from_is_err_and}
use Rattle.pli_meaning.specs.InputLines.{LineEndMark}
use Rattle.pli_edit.specs.Feeding.{is_broken}
use Rattle.pli_edit.specs.KnownMarks.{Marked, wants_mark}
use Rattle.pli_edit.specs.Marks.{mark_of}
use Rattle.pli_edit.specs.Streams.{LooksAt, Moves}
use Rattle.pli_edit.proofs.Looking.{line_taken, taken_in_vain, taken_none, taken_some}
use Rattle.pli_edit.proofs.feed_marks.FeedMarks.take.Goals as goal

pub returns-then-self-gt0 : goal.returns-then-self-gt0
returns-then-self-gt0 g c =
    let s = c.self.inside in
    let b : Marked = record { fed = s.bytes.fed; lines = s.lines; is_begun = s.is_begun; pending = s.bytes.pending } in
    subst (λ (m : Marked). Moves wants_mark (LineEndMark ∷ []) m
    (record { fed = s.bytes.fed; lines = s.lines - 1; is_begun = s.is_begun; pending = s.bytes.pending }))
    c.self.view_is
    (line_taken b (omega arith) (ap (λ (m : Marked). is_broken m.fed.standing) c.self.view_is ∙ c.requires))

pub returns-in_err-mark : goal.returns-in_err-mark
returns-in_err-mark g c =
    let none = ap (λ (m : Marked). m.lines) c.self.view_is in
    let p = err_from_is_err_and c.from_residual.result c.from_residual.ensures.1 in
    rw (p.1, p.2) (
      c.in_err-mark.ensures.0,
      taken_in_vain c.args.self.now c.first.new.self (omega (arith, none)) c.in_err-mark.ensures.1,
    )

pub returns-in_default : goal.returns-in_default
returns-in_default g c =
    let none = ap (λ (m : Marked). m.lines) c.self.view_is in
    taken_none c.args.self.now c.first.new.self (omega (arith, none))
    (subst (λ f. LooksAt f c.args.self.now c.first.new.self) c.in_default.is c.in_ok-mark.ensures)

pub returns : goal.returns
returns g c =
    let none = ap (λ (m : Marked). m.lines) c.self.view_is in
    subst (λ (m : Marked). Moves wants_mark (mark_of c.in-Some.mark ∷ []) c.args.self.now m) (sym c.pass_mark.ensures)
    (taken_some c.in-Some.mark c.in-Some.size c.args.self.now c.first.new.self (omega (arith, none))
    (subst (λ f. LooksAt f c.args.self.now c.first.new.self) c.in-Some.is c.in_ok-mark.ensures))
