use Rattle.pli_typing.specs.TypedView.{variable_of}
use Rattle.pli_typing.specs.TypedStatementView.{declared_variable_of}
use Rattle.pli_frames.specs.TakenView.{taken_of}
use Rattle.rv_address.specs.Around.{environment_of}
use Rattle.rv_extent.proofs.Steps.{of_declaration}
use Rattle.rv_extent.proofs.evaluation.extents_code.Goals as goal

pub returns : goal.returns
returns c =
    of_declaration _ _ (environment_of c.args.environment.now) (taken_of c.args.taken) c.in_ok-number.number (declared_variable_of c.in_ok-declaration.declaration.now) (variable_of c.args.variable)
    c.in_ok-declaration.ensures c.in_ok-number.ensures c.in_ok-declared_extents.ensures
