use Rattle.std.proofs.Common.{◌≡◌, ◌-◌}
use Rattle.rv_image.specs.Reading.{words_of, leaves_from}
use Rattle.rv_image.proofs.table.leaves_of.Given as goal

abbrev pub invariant-loop-place : goal.invariant-loop-place
invariant-loop-place l = leaves_from (l.count - l.place) l.count l.refer l.place (words_of l.rest) ≡ leaves_from l.count l.count l.refer 0 (words_of l.words)
