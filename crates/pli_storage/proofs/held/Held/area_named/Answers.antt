use Rattle.std.proofs.Common.{◌∙◌}
use Rattle.pli_storage.specs.Held.{with_held}
use Rattle.pli_values.specs.View.{name_of}
use Rattle.pli_storage.proofs.Naming.{area_so, area_unnamed}
use Rattle.pli_storage.proofs.held.Held.area_named.Goals as goal

pub returns-in-Some : goal.returns-in-Some
returns-in-Some g c = λ c'. area_so (with_held g.K.AreaKeeper.keeper c.args.self.now c.args.memory.now c') c.args.at (name_of c.in-Some.name) (c.in-Some.ensures c') ∙ c.area_of_name.ensures g.K.AreaKeeper.keeper c.args.memory.now c'

pub returns-in-None : goal.returns-in-None
returns-in-None g c = λ c'. area_unnamed (with_held g.K.AreaKeeper.keeper c.args.self.now c.args.memory.now c') c.args.at (c.in-None.ensures c')
