use Rattle.std.proofs.Common.{◌+◌, ◌*◌}
use Rattle.rv_address.proofs.Trees.{count_of}
use Rattle.rv_address.proofs.subscript.+counting.Given as goal

abbrev pub decreases-subscripts_counted : goal.decreases-subscripts_counted
decreases-subscripts_counted l = 2 * count_of l.subscripts.now

abbrev pub decreases-some_counted : goal.decreases-some_counted
decreases-some_counted l = 2 * count_of l.behind.now + 1
