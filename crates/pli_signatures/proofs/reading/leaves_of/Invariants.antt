use Rattle.std.proofs.Common.{◌≡◌, ◌-◌, ◌++◌, map}
use Rattle.pli_types.specs.View.{leaf_of}
use Rattle.pli_signatures.specs.Reading.{leaves_read, behind_leaves}
use Rattle.pli_signatures.proofs.reading.leaves_of.Given as goal

abbrev pub invariant-loop-place : goal.invariant-loop-place
invariant-loop-place l =
    (map leaf_of l.leaves.items ++ leaves_read l.has_refer (l.count - l.place) l.rest ≡ leaves_read l.has_refer l.count l.words)
    × (behind_leaves (l.count - l.place) l.rest ≡ behind_leaves l.count l.words)
