use Rattle.std.proofs.Common.{◌-◌, ◌∙◌, ap, sym}
use Rattle.pli_services.specs.Flowing.{flow_seen}
use Rattle.pli_leaving.proofs.Ends.{newest_left}
use Rattle.pli_leaving.proofs.leaving.leave_block.Goals as goal

pub returns-clause-answers : goal.returns-clause-answers
returns-clause-answers g c = λ k m c' top.
    newest_left k (flow_seen g.O.OutputStream.output c.args.flow.now) c.args.held.now m c' c.args.block c.args.keep
    c.args.second (c.height-height.result - 1) c.end_above.new.activations c.end_above.new.variables c.requires
    (sym c.if-not-can_keep.false ∙ c.can_keep.ensures c'.services.entries top)
    (ap (λ n. n - 1) c.height-height.ensures) c.end_above.ensures.activations c.end_above.ensures.variables
