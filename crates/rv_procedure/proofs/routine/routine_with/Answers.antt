use Rattle.pli_typing.specs.TypedStatementView.{declared_variable_of}
use Rattle.rv_address.specs.Around.{environment_of}
use Rattle.rv_procedure.proofs.Steps.{routine_whole}
use Rattle.rv_procedure.proofs.routine.routine_with.Goals as goal

pub returns : goal.returns
returns c =
    routine_whole (environment_of c.args.environment.now) c.args.index c.args.words c.args.held
    (declared_variable_of c.args.declaration.now) _ _ _ _ _ _ c.in_ok-routine_marked.ensures
    c.in_ok-frame_begun.ensures
    c.in_ok-extents_at.ensures c.in_ok-amounts_given.ensures c.in_ok-frame_returned.ensures
