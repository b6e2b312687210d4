use Rattle.pli_services.specs.Entering.{entered_shown}
use Rattle.pli_services.specs.Flowing.{flow_seen, flowing}
use Rattle.pli_services.proofs.flow.Flow.enter_as.Goals as goal

pub returns-in-Some-clause-answers : goal.returns-in-Some-clause-answers
returns-in-Some-clause-answers g c = λ c' e d. c.enter_block.ensures.answers c' (entered_shown c.args.entered)
    c.args.texts (c.in-Some.ensures (flowing (flow_seen g.O.OutputStream.output c.args.self.now) c'.services) e d)
