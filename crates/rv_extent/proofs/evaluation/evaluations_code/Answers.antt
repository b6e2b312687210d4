use Rattle.std.proofs.Common.{arith}
use Rattle.pli_typing.specs.TypedStatementView.{declared_variable_of}
use Rattle.pli_frames.specs.TakenView.{taken_of}
use Rattle.rv_address.specs.Around.{environment_of}
use Rattle.rv_extent.proofs.Steps.{next_evaluation}
use Rattle.rv_extent.proofs.evaluation.evaluations_code.Goals as goal

pub loop-place-preserved : goal.loop-place-preserved
loop-place-preserved c =
    next_evaluation (environment_of c.args.environment.now) (taken_of c.args.taken) (declared_variable_of c.args.variable.now) c.args.evaluations.now c.loop-place.place c.index-evaluations-place.result _ _ _
    (omega arith) c.index-evaluations-place.is c.in_ok-evaluation_code.ensures c.loop-place.invariant
