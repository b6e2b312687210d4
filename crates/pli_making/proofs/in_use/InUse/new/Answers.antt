use Rattle.std.proofs.Common.{[], subst, sym}
use Rattle.pli_making.specs.InUse.{IsCounted}
use Rattle.pli_making.proofs.Counts.{none_counted}
use Rattle.pli_making.proofs.in_use.InUse.new.Goals as goal

pub returns-clause-counted : goal.returns-clause-counted
returns-clause-counted c = λ templates. subst (λ totals. IsCounted templates [] totals) (sym c.new.ensures.items) (none_counted templates)
