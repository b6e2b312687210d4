use Rattle.activation_relation.proofs.Displays.{outer_found, own_found}
use Rattle.activation_relation.proofs.WaitingWords.{back_found, top_found, registers_back}
use Rattle.activation_relation.proofs.laws.frames_end.Goals as goal

pub returns : goal.returns
returns c = record {
  back = back_found;
  below = λ parts base m a as' φ φs h. h.0.below;
  top = top_found;
  registers = registers_back;
  outer = outer_found;
  own = own_found;
}
