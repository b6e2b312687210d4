use Rattle.std.proofs.Common.{◌∙◌, ap, subst, sym, take}
use Rattle.std.specs.Prelude.{filter, nat_le}
use Rattle.pli_making.specs.InUse.{IsCounted}
use Rattle.pli_making.proofs.Counts.{left_counted}
use Rattle.pli_making.proofs.in_use.InUse.leave_above.Goals as goal

pub returns-clause-left : goal.returns-clause-left
returns-clause-left c = c.truncate.ensures.items ∙ ap (take c.args.height) c.self.view_is

pub returns-clause-counted : goal.returns-clause-counted
returns-clause-counted c = λ templates ls counted.
    subst (IsCounted templates (filter (λ l. nat_le l.owner c.args.height) ls)) (sym (c.truncate.ensures.items ∙ ap (take c.args.height) c.self.view_is)) (left_counted templates ls c.args.self.now c.args.height counted)
