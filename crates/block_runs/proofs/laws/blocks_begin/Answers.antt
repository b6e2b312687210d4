use Rattle.block_runs.proofs.BlockEntries.{begins, begun_stands}
use Rattle.block_runs.proofs.PointCalls.{calls}
use Rattle.block_runs.proofs.laws.blocks_begin.Goals as goal

pub returns : goal.returns
returns c = record {
  comes = λ w code p numbers x credits index f q l there.
      begins credits index f (record { stands = q.0; image = q.1; is = q.2 }) l there;
  called = λ w code p numbers x credits call entry f q s there gives.
      calls credits call entry f (record { stands = q.0; image = q.1; is = q.2 }) s there gives;
  stands = λ w code p numbers x q. begun_stands (record { stands = q.0; image = q.1; is = q.2 });
}
