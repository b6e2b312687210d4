use Rattle.std.proofs.Common.{ap}
use Rattle.controlled_gens.specs.Rooted.{Rooted}
use Rattle.pli_making.proofs.Makings.{serial_left}
use Rattle.pli_making.proofs.making.enter.Goals as goal

pub returns-in-Ok-clause-enters : goal.returns-in-Ok-clause-enters
returns-in-Ok-clause-enters c =
    let e = c.in-Ok.ensures in
    (serial_left c.args.held.now.variables.serials c.in-Ok.serial e.0 e.1, e.1, ap (λ (r : Rooted). record c.args.held.now { variables = r }) e.2)
