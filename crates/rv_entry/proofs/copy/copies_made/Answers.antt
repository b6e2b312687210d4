use Rattle.std.proofs.Common.{refl}
use Rattle.rv_address.specs.Around.{environment_of}
use Rattle.rv_entry.proofs.Copies.{next_copied}
use Rattle.rv_entry.proofs.copy.copies_made.Goals as goal

pub loop-n-preserved : goal.loop-n-preserved
loop-n-preserved c = next_copied (environment_of c.args.environment.now) c.loop-n.n _ _ c.args.parameters.now _ _ _ c.loop-n-test.true refl c.in_ok-parameter_copied.ensures c.loop-n.invariant
