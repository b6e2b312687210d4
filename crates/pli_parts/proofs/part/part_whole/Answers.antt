use Rattle.std.proofs.Common.{refl}
use Rattle.pli_storage.specs.Held.{with_held}
use Rattle.pli_parts.proofs.part.part_whole.Goals as goal

pub returns-in-Ok : goal.returns-in-Ok
returns-in-Ok g c = λ c' s e. c.part_if.ensures (with_held g.K.AreaKeeper.keeper c.args.held.now c.args.memory.now c') s refl e (c.in-Ok.ensures c')
