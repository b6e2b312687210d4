use Rattle.pli_frames.specs.TakenView.{taken_of}
use Rattle.rv_address.specs.Around.{environment_of}
use Rattle.rv_procedure.proofs.Steps.{procedure_is}
use Rattle.rv_procedure.proofs.procedure.procedure_of_block.Goals as goal

pub returns : goal.returns
returns c =
    procedure_is _ _ (environment_of c.args.environment.now) (environment_of c.procedure_environment-inner.result)
    c.args.procedure.now (taken_of c.in_ok-own.own) c.in_ok-held.held
    c.procedure_environment-inner.ensures c.in_ok-own.ensures c.in_ok-held.ensures c.in_ok-procedure_with.ensures
