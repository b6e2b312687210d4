use Rattle.std.proofs.Common.{◌-◌, ◌∙◌, ap, length}
use Rattle.pli_making.specs.InUse.{newest_total}
use Rattle.pli_making.proofs.Counts.{item_read, newest_is_all, none_read}
use Rattle.pli_making.proofs.in_use.InUse.all.Goals as goal

pub returns-in-Some-clause-newest : goal.returns-in-Some-clause-newest
returns-in-Some-clause-newest c =
    let xs = c.deref.result.now in
    item_read xs (length xs - 1) c.in-Some.total.now c.in-Some.ensures.value ∙ ap newest_total (c.deref.ensures.value ∙ c.self.view_is)

pub returns-in-Some-clause-counted : goal.returns-in-Some-clause-counted
returns-in-Some-clause-counted c = λ templates ls counted.
    let xs = c.deref.result.now in
    item_read xs (length xs - 1) c.in-Some.total.now c.in-Some.ensures.value ∙ ap newest_total (c.deref.ensures.value ∙ c.self.view_is) ∙ newest_is_all templates ls c.args.self.now counted

pub returns-in-None-clause-newest : goal.returns-in-None-clause-newest
returns-in-None-clause-newest c =
    let xs = c.deref.result.now in
    none_read xs (length xs - 1) c.in-None.ensures.value ∙ ap newest_total (c.deref.ensures.value ∙ c.self.view_is)

pub returns-in-None-clause-counted : goal.returns-in-None-clause-counted
returns-in-None-clause-counted c = λ templates ls counted.
    let xs = c.deref.result.now in
    none_read xs (length xs - 1) c.in-None.ensures.value ∙ ap newest_total (c.deref.ensures.value ∙ c.self.view_is) ∙ newest_is_all templates ls c.args.self.now counted
