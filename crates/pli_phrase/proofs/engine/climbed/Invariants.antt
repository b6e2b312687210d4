use Rattle.std.proofs.Common.{◌≡◌, vec_len}
use Rattle.pli_language.specs.View.{expr_of}
use Rattle.pli_phrase.specs.Reading as R
use Rattle.pli_phrase.specs.View.{frames_of}
use Rattle.pli_phrase.proofs.engine.climbed.Given as goal

abbrev pub invariant-loop-frame : goal.invariant-loop-frame
invariant-loop-frame l = R.climbed l.next (frames_of l.frames.items) (expr_of l.operand) ≡ R.climbed l.initial.next (frames_of l.initial.frames.items) (expr_of l.initial.operand)

abbrev pub decreases-loop-frame : goal.decreases-loop-frame
decreases-loop-frame l = vec_len l.frames
