use Rattle.run_keeper.specs.RunKeeper.{run_keeper}
use Rattle.pli_environment.proofs.Placed.{laid_as}
use Rattle.pli_environment.proofs.environment.Environment.over.Goals as goal

pub invariant_of-result : goal.invariant_of-result
invariant_of-result g c = λ m sized.
    c.in_ok-runtime.ensures.standing run_keeper m (laid_as _ c.args.code_bytes m c.layout_of_image.ensures sized)
