use Rattle.std.proofs.Common.{◌≡◌, ◌<◌, ◌≤◌, ◌-◌, sym}
use Rattle.std.proofs.Common.{subst, ap, ◌∙◌, arith}
use Rattle.std.proofs.lemmas.Result.{err_from_is_err_and, MatchResult-weaker}
use Rattle.pli_meaning.specs.InputLines.{at_column, behind_lines, further_in}
use Rattle.pli_edit.specs.KnownMarks.{wants_column, wants_further, wants_next_line}
use Rattle.pli_edit.specs.Streams.{Breaks, Goes, Held, Reaches}
use Rattle.pli_edit.proofs.FeedCalls.{at_far, at_near, column_far, column_near, fails_at_once, reaches_at, reaches_gone}
use Rattle.pli_edit.proofs.Moving.{breaks_weaken}
use Rattle.pli_edit.proofs.Passing.{gone_further}
use Rattle.pli_edit.proofs.feed_input.FeedInput.column.Goals as goal

pub returns-in_err-check : goal.returns-in_err-check
returns-in_err-check g c =
    let p = err_from_is_err_and c.from_residual.result c.from_residual.ensures.1 in
    rw (p.1, p.2) (
      c.in_err-check.ensures.0,
      fails_at_once (wants_column c.args.column c.args.self.now.column) c.args.self.now c.in_err-check.ensures.1,
    )

pub returns-then-reached-from : goal.returns-then-reached-from
returns-then-reached-from g c =
    let n = c.args.column in
    let h = c.args.self.now in
    let k = c.next_column.new.self in
    let same = ap (λ (h : Held). h.column) c.self.view_is in
    let far : n < h.column = grind (arith, same) in
    MatchResult-weaker c.next_column.result c.next_column.ensures
    (λ _ r. reaches_at (wants_next_line (n - 1)) (wants_column n h.column)
    (λ i j. j ≡ further_in (n - 1) (behind_lines 1 i)) (λ i j. j ≡ at_column n i) h k r
    (λ ms t. column_far n h.column ms far t)
    (λ old new e. e ∙ sym (at_far n (record { marks = old; column = h.column }) far)))
    (λ _ r. (
      r.0,
      breaks_weaken (wants_next_line (n - 1)) (wants_column n h.column) h.marked k.marked r.1
          (λ ms t. column_far n h.column ms far t),
    ))

pub returns-in_err-self-inside : goal.returns-in_err-self-inside
returns-in_err-self-inside g c =
    let n = c.args.column in
    let s = c.self.inside in
    let near : s.column ≤ n = grind arith in
    let count : c.from-2.result - s.column ≡ n - s.column = grind arith in
    let p = err_from_is_err_and c.from_residual-in_err-self-inside.result
    c.from_residual-in_err-self-inside.ensures.1 in
    rw (p.1, p.2) (
      c.in_err-self-inside.ensures.reached.0,
      subst (λ (h : Held). Breaks (wants_column n h.column) h.marked c.pass_in_line.new.marks) c.self.view_is
          (breaks_weaken (wants_further (n - s.column)) (wants_column n s.column) s.marks c.pass_in_line.new.marks
          (subst (λ m. Breaks (wants_further m) s.marks c.pass_in_line.new.marks) count
          c.in_err-self-inside.ensures.reached.1)
          (λ ms t. column_near n s.column ms near t)),
    )

pub returns : goal.returns
returns g c =
    let n = c.args.column in
    let s = c.self.inside in
    let near : s.column ≤ n = grind arith in
    let count : c.from-2.result - s.column ≡ n - s.column = grind arith in
    let column = c.in_ok-self-inside.field-0 in
    let h : Held = record { marked = s.marks; column = s.column } in
    let k : Held = record { marked = c.pass_in_line.new.marks; column = column } in
    subst (λ (h : Held). Reaches (wants_column n h.column) (λ i j. j ≡ at_column n i) h k) c.self.view_is
    (reaches_at (wants_further (n - s.column)) (wants_column n s.column) (λ i j. j ≡ further_in (n - i.column) i)
    (λ i j. j ≡ at_column n i) h k
    (reaches_gone (wants_further (n - s.column)) (gone_further (n - s.column) s.column column)
    (λ i j. j ≡ further_in (n - i.column) i) h k
    (subst (λ m. Goes (wants_further m) (gone_further m s.column column) s.marks c.pass_in_line.new.marks) count
    c.in_ok-self-inside.ensures.reached)
    c.in_ok-self-inside.ensures.room.1 (λ old new e. e))
    (λ ms t. column_near n s.column ms near t)
    (λ old new e. e ∙ sym (at_near n (record { marks = old; column = s.column }) near)))
