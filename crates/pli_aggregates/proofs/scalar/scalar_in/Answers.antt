use Rattle.pli_transmission.specs.Transmitting.{on_entries}
use Rattle.pli_aggregates.proofs.scalar.scalar_in.Goals as goal

pub returns-in-Ok : goal.returns-in-Ok
returns-in-Ok g c = λ c'. c.scalar_found.ensures c' (c.in-Ok.ensures (on_entries c.args.entries.now c'))
