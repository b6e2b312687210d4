use Rattle.run_steps.specs.Laws.{at_places, at_bases}
use Rattle.run_steps.proofs.Engine.{passes}
use Rattle.run_steps.proofs.Items.{straight}
use Rattle.run_steps.proofs.laws.code_runs.Goals as goal

pub returns : goal.returns
returns c = record {
  instructions = λ code b i xs w test. passes code b i xs w (at_places test);
  items = λ links code i xs credits f v v' test l more at.
      straight credits f v v' (at_bases test) l more (λ b. (at b).0) (λ b. (at b).1);
}
