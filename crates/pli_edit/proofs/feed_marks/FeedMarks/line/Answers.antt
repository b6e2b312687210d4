use Rattle.std.proofs.Common.{◌≡◌, ℕ, List, take, sym, subst, ◌∙◌, arith}
use Rattle.pli_meaning.specs.InputLines.{characters}
use Rattle.pli_edit.specs.Feeding.{Agrees}
use Rattle.pli_edit.specs.KnownMarks.{Marked, marks_left}
use Rattle.pli_edit.specs.Marks.{IsInLine}
use Rattle.pli_edit.proofs.Looking.{line_there}
use Rattle.pli_edit.proofs.feed_marks.FeedMarks.line.Goals as goal

pub returns : goal.returns
returns g c =
    let s = c.self.inside in
    let n = c.args.count in
    let p = c.pending-rest.result.now in
    let b : Marked = record { fed = s.bytes.fed; lines = s.lines; is_begun = s.is_begun; pending = s.bytes.pending } in
    subst (λ (b : Marked). (all : List ℕ) → Agrees b.fed all → IsInLine n (marks_left b all) ×
    (take n p ≡ characters n (marks_left b all))) c.self.view_is
    (λ all _. line_there n p b all (omega arith) c.pending-rest.ensures (omega arith) (omega arith)
    (sym c.has_line_end.ensures ∙ c.if-has_line_end.false))
