-- What the answers of services show: nothing new, or one act more; an end is an act. One that makes an act gives no
-- serial number.
use Rattle.std.specs.Prelude.{◌≡◌, suc, ◌+◌, ◌≤◌, ◌⊎◌}
use Rattle.pli_serving.specs.ServiceState.{Services}
use Rattle.pli_serving.specs.Answers.{Answer, Done, Ends, Bad}

-- ---- what an answer shows beside the services before it

abbrev pub IsShown : Services → Answer → Type 0
IsShown v (Done v' m x y) =
    ((v'.world ≡ v.world) ⊎ (v'.world.acts ≡ suc v.world.acts))
    × (v'.serials ≤ suc v.serials)
    × (v'.serials + v'.world.acts ≤ suc (v.serials + v.world.acts))
IsShown v (Ends v') = v'.world.acts ≡ suc v.world.acts
IsShown v Bad = Unit {0}

pub record Shows (v : Services) (a : Answer) : Type 0 where
  pub is : IsShown v a
