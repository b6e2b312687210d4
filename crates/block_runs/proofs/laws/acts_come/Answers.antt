use Rattle.block_runs.proofs.PointActs.{act_reaches, stands_acted}
use Rattle.block_runs.proofs.laws.acts_come.Goals as goal

pub returns : goal.returns
returns c = record {
  comes = act_reaches;
  stands = λ w code p line stands image few. stands_acted line stands image few;
}
