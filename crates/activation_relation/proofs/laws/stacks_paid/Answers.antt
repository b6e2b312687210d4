use Rattle.activation_relation.proofs.Accounts.{paid_taken, paid_fits, paid_made, paid_ended}
use Rattle.activation_relation.proofs.laws.stacks_paid.Goals as goal

pub returns : goal.returns
returns c = record { taken = paid_taken; fits = paid_fits; made = paid_made; ended = paid_ended }
