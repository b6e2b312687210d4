-- Runs of a machine with the services of images: what is shown changes with an act alone, and acts only grow.
use Rattle.std.specs.Prelude.{◌≡◌, ℕ, suc, ◌+◌, ◌≤◌, ◌⊎◌}
use Rattle.image_runs.specs.Runs.{Whole, Run, Runs, Ended, Stopped}

-- what a run shows beside an earlier machine
abbrev pub After : Whole → Run → Type 0
After w (Runs w') = (w'.services.world ≡ w.services.world) ⊎ (w'.services.world.acts ≡ suc w.services.world.acts)
After w (Ended w') = w'.services.world.acts ≡ suc w.services.world.acts
After w (Stopped fault) = Unit {0}

-- ---- runs

-- acts only grow; with as many acts as before nothing new is shown; an end is one act more; an instruction makes one
-- act at most
abbrev pub Grows : ℕ → Whole → Run → Type 0
Grows n w (Runs w') = (w.services.world.acts ≤ w'.services.world.acts) ×
    (w'.services.world.acts ≡ w.services.world.acts → w'.services.world ≡ w.services.world) ×
    (w'.services.world.acts ≤ w.services.world.acts + n)
Grows n w (Ended w') = (suc w.services.world.acts ≤ w'.services.world.acts) ×
    (w'.services.world.acts ≤ w.services.world.acts + n)
Grows n w (Stopped fault) = Unit {0}
