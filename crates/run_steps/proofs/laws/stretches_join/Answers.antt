use Rattle.run_steps.proofs.Reach.{reach_then}
use Rattle.run_steps.proofs.Owing.{reach_counted, between_repaid}
use Rattle.run_steps.proofs.laws.stretches_join.Goals as goal

pub returns : goal.returns
returns c = record {
  then' = λ code i i' i'' f v v' v'' first second r q. reach_then r q;
  counted = λ code i i' f v v' test r same. reach_counted r same;
  repaid = λ code i i' debt wanted f f' v v' few from. between_repaid debt wanted few from;
}
