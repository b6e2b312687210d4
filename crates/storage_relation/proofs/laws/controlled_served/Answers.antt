use Rattle.storage_relation.proofs.Stacks.{pushed_stack, popped_stack}
use Rattle.storage_relation.proofs.Controlled.{push_refused, pop_none, newest_answer, count_answer}
use Rattle.storage_relation.proofs.laws.controlled_served.Goals as goal

pub returns : goal.returns
returns c = record {
  pushed = pushed_stack;
  refused = push_refused;
  popped = popped_stack;
  none = pop_none;
  newest = newest_answer;
  counted = count_answer;
}
