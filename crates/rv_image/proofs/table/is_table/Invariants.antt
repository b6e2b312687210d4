use Rattle.std.proofs.Common.{◌↔◌, length}
use Rattle.rv_meaning.specs.Tables.{IsTable}
use Rattle.rv_image.specs.Reading.{words_of}
use Rattle.rv_image.proofs.table.is_table.Given as goal

abbrev pub invariant-loop-rest : goal.invariant-loop-rest
invariant-loop-rest l = IsTable (words_of l.words) ↔ IsTable (words_of l.rest)

abbrev pub decreases-loop-rest : goal.decreases-loop-rest
decreases-loop-rest l = length (words_of l.rest)
