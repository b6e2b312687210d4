use Rattle.activation_relation.proofs.Blocks.{act_answered, line_answered}
use Rattle.activation_relation.proofs.laws.acts_served.Goals as goal

pub returns : goal.returns
returns c = record { act = act_answered; line = line_answered }
