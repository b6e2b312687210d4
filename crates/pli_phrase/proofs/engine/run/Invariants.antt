use Rattle.std.proofs.Common.{◌≡◌, length}
use Rattle.pli_phrase.specs.Reading as R
use Rattle.pli_phrase.specs.View.{frames_of, marks_of, state_of}
use Rattle.pli_phrase.proofs.engine.run.Given as goal

abbrev pub invariant-loop-first : goal.invariant-loop-first
invariant-loop-first l = R.run l.source (state_of l.state) (frames_of l.frames.items) (marks_of l.marks) l.rest ≡ R.run l.source (state_of l.initial.state) (frames_of l.initial.frames.items) (marks_of l.initial.marks) l.initial.rest

abbrev pub decreases-loop-first : goal.decreases-loop-first
decreases-loop-first l = length l.rest
