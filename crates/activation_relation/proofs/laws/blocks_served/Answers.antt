use Rattle.activation_relation.proofs.Blocks.{enter_answered, depth_answered, leave_answered, return_answered}
use Rattle.activation_relation.proofs.Unwinding.{unwind_answered}
use Rattle.activation_relation.proofs.laws.blocks_served.Goals as goal

pub returns : goal.returns
returns c = record {
  entered = enter_answered;
  too_deep = depth_answered;
  left = leave_answered;
  returned = return_answered;
  unwound = unwind_answered;
}
