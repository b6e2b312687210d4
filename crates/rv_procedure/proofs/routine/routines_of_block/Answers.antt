use Rattle.std.proofs.Common.{ap, length, sym, ◌∙◌, arith}
use Rattle.std.proofs.lemmas.List.{length-map}
use Rattle.pli_typing.specs.TypedStatementView.{declared_variable_of}
use Rattle.rv_address.specs.Around.{environment_of}
use Rattle.rv_procedure.proofs.Steps.{next_variable}
use Rattle.rv_procedure.proofs.routine.routines_of_block.Goals as goal

pub loop-index-preserved : goal.loop-index-preserved
loop-index-preserved c =
    let many = sym (length-map c.in_ok-variables.variables.now declared_variable_of) ∙ ap length c.in_ok-variables.ensures in
    next_variable (environment_of c.args.environment.now) c.loop-index.index _ _ _ (omega (arith, many, c.loop-index-test.true)) c.in_ok-routine_at.ensures c.loop-index.invariant
