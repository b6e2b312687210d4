use Rattle.std.proofs.Common.{◌≡◌, vec_len}
use Rattle.pli_language.specs.View.{stmt_of}
use Rattle.pli_nest.specs.Steps.{finished}
use Rattle.pli_nest.specs.View.{frames_of}
use Rattle.pli_nest.proofs.complete.finished.Given as goal

abbrev pub invariant-loop-frame : goal.invariant-loop-frame
invariant-loop-frame l = finished l.else_may (stmt_of l.statement) (frames_of l.frames.items) ≡ finished l.initial.else_may (stmt_of l.initial.statement) (frames_of l.initial.frames.items)

abbrev pub decreases-loop-frame : goal.decreases-loop-frame
decreases-loop-frame l = vec_len l.frames
