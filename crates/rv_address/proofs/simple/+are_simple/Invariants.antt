use Rattle.rv_address.proofs.Trees.{count_of}
use Rattle.rv_address.proofs.simple.+are_simple.Given as goal

abbrev pub decreases-are_simple : goal.decreases-are_simple
decreases-are_simple l = count_of l.numbers.now
