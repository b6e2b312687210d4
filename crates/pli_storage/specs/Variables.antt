-- Variables as the services see them.
use Rattle.std.specs.Prelude.{ℕ}
use Rattle.pli_serving.specs.ServiceState.{Living}
use Rattle.controlled_gens.specs.declared.roots.Root.{Root}
use Rattle.controlled_gens.specs.Rooted.{living}

abbrev pub living_root : (serial : ℕ) → Root → Living
living_root serial r = living (serial, r)
