use Rattle.activation_relation.proofs.Displays.{display_copied, parent_frame}
use Rattle.activation_relation.proofs.FrameWords.{frames_begun, made_beside}
use Rattle.activation_relation.proofs.laws.frames_begin.Goals as goal

pub returns : goal.returns
returns c = record {
  copied = display_copied;
  parent = parent_frame;
  begun = frames_begun;
  within = λ parts base m parent as' φ φs laid. made_beside parts base parent as' φ φs laid.0 m;
}
