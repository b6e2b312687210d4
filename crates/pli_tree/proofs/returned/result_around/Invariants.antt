use Rattle.std.proofs.Common.{◌≡◌, length}
use Rattle.pli_typing.specs.SingleStatements.{result_around}
use Rattle.pli_variables.specs.Rows.{blocks_shown}
use Rattle.pli_tree.proofs.returned.result_around.Given as goal

abbrev pub invariant-loop-block : goal.invariant-loop-block
invariant-loop-block l = result_around (blocks_shown l.tables.scopes.now) l.rest ≡ result_around (blocks_shown l.tables.scopes.now) l.around

abbrev pub decreases-loop-block : goal.decreases-loop-block
decreases-loop-block l = length l.rest
