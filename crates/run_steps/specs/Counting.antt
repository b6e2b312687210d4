-- How far calls of services count: one makes at most one act, and nothing else changes what is shown; or it gives at
-- most one serial, where the run goes on. So in a run of fewer than 2^64 instructions neither count passes 64 bits, nor
-- do both together.
use Rattle.std.specs.Prelude.{◌≡◌, ℕ, suc, ◌+◌, ◌≤◌, ◌⊎◌}
use Rattle.rv_meaning.specs.Machine.{Loaded}
use Rattle.pli_serving.specs.ServiceState.{Services}
use Rattle.pli_serving.specs.Answers.{Answer, Done, Ends, Bad}
use Rattle.pli_serving.specs.Finding.{Call}
use Rattle.pli_serving.specs.Serving.{serves}
use Rattle.image_runs.specs.Runs.{Whole, Run, Runs, Ended, Stopped, run_on}

-- an answer beside the services before it
abbrev pub CountsOnce : Services → Answer → Type 0
CountsOnce v (Done v' m x y) =
    ((v'.world ≡ v.world) ⊎ (v'.world.acts ≡ suc v.world.acts))
    × (v'.serials ≤ suc v.serials)
    × (v'.serials + v'.world.acts ≤ suc (v.serials + v.world.acts))
CountsOnce v (Ends v') = v'.world.acts ≡ suc v.world.acts
CountsOnce v Bad = Unit {0}

-- every call, whatever it is given, over any keeper of areas
abbrev pub CallsCountOnce : Type 0
CallsCountOnce = (c : Call) (registers : ℕ → ℕ) → CountsOnce c.services (serves c registers)

-- services behind others and so many instructions
abbrev pub CountsWithin : ℕ → Services → Services → Type 0
CountsWithin n v v' =
    (v'.world.acts ≤ v.world.acts + n)
    × (v'.serials ≤ v.serials + n)
    × (v'.serials + v'.world.acts ≤ v.serials + v.world.acts + n)

abbrev pub RunCountsWithin : ℕ → Services → Run → Type 0
RunCountsWithin n v (Runs w) = CountsWithin n v w.services
RunCountsWithin n v (Ended w) = w.services.world.acts ≤ v.world.acts + n
RunCountsWithin n v (Stopped fault) = Unit {0}

-- every run, whatever the code
abbrev pub RunsCountWithin : Type 0
RunsCountWithin = (n : ℕ) (p : Loaded) (w : Whole) → RunCountsWithin n w.services (run_on n p (Runs w))
