use Rattle.std.proofs.Common.{◌≡◌, subst}
use Rattle.std.proofs.Common.{◌∙◌, arith}
use Rattle.std.proofs.lemmas.Result.{err_from_is_err_and}
use Rattle.pli_meaning.specs.InputLines.{behind_lines}
use Rattle.pli_edit.specs.KnownMarks.{wants_lines}
use Rattle.pli_edit.specs.Streams.{Held, Reaches}
use Rattle.pli_edit.proofs.FeedCalls.{fails_at_once, from_any_column, reaches_gone}
use Rattle.pli_edit.proofs.Passing.{gone_lines}
use Rattle.pli_edit.proofs.feed_input.FeedInput.skip.Goals as goal

pub returns-in_err-check : goal.returns-in_err-check
returns-in_err-check g c =
    let p = err_from_is_err_and c.from_residual.result c.from_residual.ensures.1 in
    rw (p.1, p.2) (
      c.in_err-check.ensures.0,
      fails_at_once (wants_lines c.args.count) c.args.self.now c.in_err-check.ensures.1,
    )

pub returns-in_ok-pass_lines : goal.returns-in_ok-pass_lines
returns-in_ok-pass_lines g c =
    let n = c.args.count in
    let h : Held = record { marked = c.self.inside.marks; column = c.self.inside.column } in
    let k : Held = record { marked = c.pass_lines.new.marks; column = 1 } in
    subst (λ (h : Held). Reaches (wants_lines n) (λ i j. j ≡ behind_lines n i) h k) c.self.view_is
    (reaches_gone (wants_lines n) (gone_lines n) (λ i j. j ≡ behind_lines n i) h k c.in_ok-pass_lines.ensures.reached
    c.in_ok-pass_lines.ensures.whole
    (λ old new e. e ∙ from_any_column n h.column old (omega arith)))
