use Rattle.std.proofs.Common.{List, None, ap₂}
use Rattle.pli_meaning.specs.World.{World}
use Rattle.pli_serving.specs.ServiceState.{Activation}
use Rattle.pli_services.proofs.flow.Flow.new.Goals as goal

pub returns-clause-unstarted : goal.returns-clause-unstarted
returns-clause-unstarted g c = λ c'. ap₂ (λ (world : World) (activations : List Activation). record c' {
  services =
      record c'.services { world = world; line = 0; activations = activations; waiting = None };
}) c.new.ensures.world
    c.new-2.ensures
