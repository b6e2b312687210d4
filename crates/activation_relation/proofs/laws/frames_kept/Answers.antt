use Rattle.activation_relation.proofs.FrameWords as W
use Rattle.activation_relation.proofs.laws.frames_kept.Goals as goal

pub returns : goal.returns
returns c = record {
  beside = W.frames_kept;
  above = W.beside_above;
  behind = W.frames_behind;
  laid = W.laid_behind;
  fall = W.frames_fall;
}
