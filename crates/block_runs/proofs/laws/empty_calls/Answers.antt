use Rattle.block_runs.proofs.EmptyCalls.{empty_comes}
use Rattle.block_runs.proofs.EmptyMeaning.{empty_means, empty_coded}
use Rattle.block_runs.proofs.laws.empty_calls.Goals as goal

pub returns : goal.returns
returns c = record {
  comes = λ w code p numbers x credits wanted call entry f q stands fits there.
      empty_comes credits wanted call entry f (record { stands = q.0; image = q.1; is = q.2 }) stands fits there;
  means = empty_means;
  coded = empty_coded;
}
