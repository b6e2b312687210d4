use Rattle.activation_relation.proofs.WaitingWords.{words_stored, lower_stored, frame_changed, result_stored}
use Rattle.activation_relation.proofs.WaitingWords.{words_across}
use Rattle.activation_relation.proofs.ListWords.{list_stored, words_rewritten, words_rewritten_below}
use Rattle.activation_relation.proofs.laws.words_wait.Goals as goal

pub returns : goal.returns
returns c = record {
  stored = words_stored;
  lowered = lower_stored;
  rewritten = words_rewritten;
  rewritten_below = words_rewritten_below;
  listed = list_stored;
  returned = result_stored;
  changed = frame_changed;
  across = words_across;
}
