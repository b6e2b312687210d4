use Rattle.std.proofs.lemmas.Result.{err_from_is_err_and}
use Rattle.pli_edit.specs.KnownMarks.{wants_characters}
use Rattle.pli_edit.proofs.FeedCalls.{fails_at_once}
use Rattle.pli_edit.proofs.feed_input.FeedInput.space.Goals as goal

pub returns-in_err-check : goal.returns-in_err-check
returns-in_err-check g c =
    let p = err_from_is_err_and c.from_residual.result c.from_residual.ensures.1 in
    rw (p.1, p.2) (
      c.in_err-check.ensures.0,
      fails_at_once (wants_characters c.args.count) c.args.self.now c.in_err-check.ensures.1,
    )
