use Rattle.rv_address.specs.Around.{environment_of}
use Rattle.rv_entry.proofs.Made.{next_made}
use Rattle.rv_entry.proofs.variable.variables_code.Goals as goal

pub loop-index-preserved : goal.loop-index-preserved
loop-index-preserved c =
    next_made (environment_of c.args.environment.now) c.args.line c.loop-index.index c.in_ok-variables.variables.now _ _ _ c.in_ok-variables.ensures c.loop-index-test.true c.in_ok-variable_made.ensures c.loop-index.invariant
