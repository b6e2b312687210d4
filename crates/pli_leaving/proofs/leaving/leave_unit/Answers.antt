use Rattle.std.proofs.Common.{◌-◌, ◌∙◌, ap, sym}
use Rattle.pli_serving.specs.Answers.{Done}
use Rattle.pli_services.specs.Flowing.{flow_seen, flowing}
use Rattle.pli_storage.specs.Held.{holding}
use Rattle.pli_leaving.specs.Leaving.{back_to}
use Rattle.pli_leaving.proofs.Ends.{unit_returned}
use Rattle.pli_leaving.proofs.leaving.leave_unit.Goals as goal

pub returns-clause-answers : goal.returns-clause-answers
returns-clause-answers g c = λ k m c'.
    let f = flow_seen g.O.OutputStream.output c.args.flow.now in
    let h = c.args.held.now in
    unit_returned k f h m c' c.args.block c.args.code c.args.resume (c.height-height.result - 1) c.end_above.new.activations c.end_above.new.variables c.requires.newest c.requires.unit (ap (λ n. n - 1) c.height-height.ensures) c.end_above.ensures.activations c.end_above.ensures.variables
    ∙ ap (λ n. Done (back_to c.args.block.texts c.args.block.edits 0 (flowing (record f { line = c.args.block.line; activations = c.end_above.new.activations }) (holding (record h { variables = c.end_above.new.variables }) c'.services))) m c.args.resume n) (sym c.from.ensures)
