use Rattle.std.proofs.Common.{◌≡◌, ◌-◌, ◌≤◌}
use Rattle.rv_image.specs.Reading.{words_of, pairs_from}
use Rattle.rv_image.proofs.Loops.{counted}
use Rattle.rv_image.proofs.leaf.pairs_of.Given as goal

abbrev pub invariant-loop : goal.invariant-loop
invariant-loop l = (counted l.run_time (pairs_from (l.count - l.counter) (words_of l.rest)) ≡ pairs_from l.count (words_of l.words)) × (l.run_time ≤ l.counter)
