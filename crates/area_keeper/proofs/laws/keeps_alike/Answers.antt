use Rattle.area_keeper.proofs.Alikeness.{keeps_alike}
use Rattle.area_keeper.proofs.laws.keeps_alike.Goals as goal

pub returns : goal.returns
returns c = keeps_alike
