use Rattle.std.proofs.Common.{◌≡◌, ◌-◌, subst}
use Rattle.std.proofs.Common.{arith}
use Rattle.std.proofs.lemmas.Result.{err_from_is_err_and}
use Rattle.pli_meaning.specs.InputLines.{behind_lines, further, further_in, next_line}
use Rattle.pli_edit.specs.KnownMarks.{wants_further, wants_lines, wants_next_line}
use Rattle.pli_edit.specs.Streams.{Breaks, Goes, Held, Reaches}
use Rattle.pli_edit.proofs.FeedCalls.{line_wanted, next_line_breaks, next_line_further, reaches_gone}
use Rattle.pli_edit.proofs.Moving.{breaks_weaken}
use Rattle.pli_edit.proofs.Passing.{gone_further}
use Rattle.pli_edit.proofs.feed_input.FeedInput.next_column.Goals as goal

pub returns-in_err-pass_line : goal.returns-in_err-pass_line
returns-in_err-pass_line g c =
    let n = c.args.column - 1 in
    let p = err_from_is_err_and c.from_residual.result c.from_residual.ensures.1 in
    rw (p.1, p.2) (
      c.in_err-pass_line.ensures.0,
      subst (λ (h : Held). Breaks (wants_next_line n) h.marked c.pass_line.new.marks) c.self.view_is
          (breaks_weaken (wants_lines 1) (wants_next_line n) c.self.inside.marks c.pass_line.new.marks
          c.in_err-pass_line.ensures.1 (λ ms t. line_wanted n ms t)),
    )

pub returns-in_err-self-inside : goal.returns-in_err-self-inside
returns-in_err-self-inside g c =
    let n = c.args.column - 1 in
    let count : c.from-count.result ≡ n = grind arith in
    let p = err_from_is_err_and c.from_residual-in_err-self-inside.result
    c.from_residual-in_err-self-inside.ensures.1 in
    rw (p.1, p.2) (
      c.in_err-self-inside.ensures.reached.0,
      subst (λ (h : Held). Breaks (wants_next_line n) h.marked c.pass_in_line.new.marks) c.self.view_is
          (next_line_breaks n c.self.inside.marks c.pass_line.new.marks c.pass_in_line.new.marks
          c.in_ok-pass_line.ensures
          (subst (λ k. Breaks (wants_further k) c.pass_line.new.marks c.pass_in_line.new.marks) count
          c.in_err-self-inside.ensures.reached.1)),
    )

pub returns : goal.returns
returns g c =
    let n = c.args.column - 1 in
    let count : c.from-count.result ≡ n = grind arith in
    let column = c.in_ok-self-inside.field-0 in
    let h : Held = record { marked = c.self.inside.marks; column = c.self.inside.column } in
    let k : Held = record { marked = c.pass_in_line.new.marks; column = column } in
    subst (λ (h : Held). Reaches (wants_next_line n) (λ i j. j ≡ further_in n (behind_lines 1 i)) h k) c.self.view_is
    (reaches_gone (wants_next_line n)
    (λ old new. record { marks = new; column = column } ≡ further n 1 (next_line old))
    (λ i j. j ≡ further_in n (behind_lines 1 i)) h k
    (next_line_further n column c.self.inside.marks c.pass_line.new.marks c.pass_in_line.new.marks
    c.in_ok-pass_line.ensures
    (subst (λ m. Goes (wants_further m) (gone_further m 1 column) c.pass_line.new.marks c.pass_in_line.new.marks)
    count c.in_ok-self-inside.ensures.reached))
    c.in_ok-self-inside.ensures.room.1 (λ old new e. e))
