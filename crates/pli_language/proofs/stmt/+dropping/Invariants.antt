use Rattle.std.proofs.Common.{◌+◌, ◌*◌, ◌≤◌}
use Rattle.pli_language.specs.Weights.{weight_of_items, weight_of_stmt, weight_of_item}
use Rattle.pli_language.proofs.stmt.+dropping.Given as goal

abbrev pub decreases-Items::drop : goal.decreases-Items::drop
decreases-Items::drop l = 4 * weight_of_items l.self

abbrev pub decreases-Item::into_bodies : goal.decreases-Item::into_bodies
decreases-Item::into_bodies l = 4 * weight_of_item l.self

abbrev pub decreases-Stmt::drop : goal.decreases-Stmt::drop
decreases-Stmt::drop l = 4 * weight_of_stmt l.self + 2

abbrev pub decreases-Stmt::into_bodies : goal.decreases-Stmt::into_bodies
decreases-Stmt::into_bodies l = 4 * weight_of_stmt l.self + 1

abbrev pub decreases-Stmt::before : goal.decreases-Stmt::before
decreases-Stmt::before l = 4 * weight_of_stmt l.self + 3

abbrev pub invariant-Items::drop-loop-self : goal.invariant-Items::drop-loop-self
invariant-Items::drop-loop-self l = weight_of_items l.self ≤ weight_of_items l.fn.self

abbrev pub decreases-Items::drop-loop-self : goal.decreases-Items::drop-loop-self
decreases-Items::drop-loop-self l = weight_of_items l.self

abbrev pub invariant-Stmt::into_bodies-loop-self : goal.invariant-Stmt::into_bodies-loop-self
invariant-Stmt::into_bodies-loop-self l = weight_of_items l.taken + weight_of_stmt l.self ≤ weight_of_stmt l.fn.self + 1

abbrev pub decreases-Stmt::into_bodies-loop-self : goal.decreases-Stmt::into_bodies-loop-self
decreases-Stmt::into_bodies-loop-self l = weight_of_stmt l.self
