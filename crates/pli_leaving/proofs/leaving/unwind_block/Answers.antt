use Rattle.std.proofs.Common.{◌∙◌, sym}
use Rattle.pli_services.specs.Flowing.{flow_seen}
use Rattle.pli_leaving.proofs.Ends.{above_left}
use Rattle.pli_leaving.proofs.leaving.unwind_block.Goals as goal

pub returns-clause-answers : goal.returns-clause-answers
returns-clause-answers g c = λ k m c' top.
    above_left k (flow_seen g.O.OutputStream.output c.args.flow.now) c.args.held.now m c' c.args.block c.args.frame
    c.args.keep c.args.height c.end_above.new.activations c.end_above.new.variables c.requires.newest
    (sym c.if-not-can_keep.false ∙ c.can_keep.ensures c'.services.entries top) c.requires.inside c.requires.there
    c.end_above.ensures.activations c.end_above.ensures.variables
