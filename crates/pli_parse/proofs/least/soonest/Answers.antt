use Rattle.std.proofs.Common.{◌+◌, drop, sym, ap, ◌∙◌}
use Rattle.std.proofs.lemmas.List.{drop_all, at_drop_more}
use Rattle.pli_language.specs.Refusals.{soonest}
use Rattle.pli_parse.proofs.least.soonest.Goals as goal

pub loop-fault-preserved : goal.loop-fault-preserved
unfolding soonest
loop-fault-preserved c =
    let xs = c.args.faults.now in
    let i = c.loop-fault.fault-index in
    ap (λ o. soonest o (drop (i + 1) xs)) c.sooner.ensures ∙ sym (at_drop_more (soonest c.loop-fault.found) xs i _ c.loop-fault-test.true) ∙ c.loop-fault.invariant

pub returns : goal.returns
unfolding soonest
returns c =
    let xs = c.args.faults.now in
    ap (soonest c.loop-fault.found) (sym (drop_all c.loop-fault.fault-index xs c.loop-fault-test.false)) ∙ c.loop-fault.invariant
