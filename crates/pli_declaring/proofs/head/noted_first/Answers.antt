use Rattle.pli_language.specs.Refusals.{fault}
use Rattle.pli_language.specs.Declaring.{when}
use Rattle.pli_declaring.proofs.Faults.{none_at_first}
use Rattle.pli_declaring.proofs.head.noted_first.Goals as goal

pub returns-in-None : goal.returns-in-None
returns-in-None c = none_at_first c.args.found c.args.labels.now (λ p. when c.args.broken (fault p c.args.kind)) c.in-None.ensures.value
