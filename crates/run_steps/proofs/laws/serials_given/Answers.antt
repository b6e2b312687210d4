use Rattle.run_steps.proofs.Giving.{give_later, together_within}
use Rattle.run_steps.proofs.laws.serials_given.Goals as goal

pub returns : goal.returns
returns c = record {
  counted = together_within;
  reached = λ code limits i i' f v v' test r few. give_later limits r few;
}
