use Rattle.std.proofs.Common.{◌≡◌, ◌≤◌, ◌++◌, map}
use Rattle.pli_typing.specs.TypedStatementView.{stmts_of}
use Rattle.pli_coding.specs.Images.{blocks_among}
use Rattle.rv_address.specs.Around.{block_place_of}
use Rattle.rv_start.proofs.Weights.{stmt_weight, stmts_weight}
use Rattle.rv_start.proofs.blocks.+walk.Given as goal

abbrev pub decreases-put_statement : goal.decreases-put_statement
decreases-put_statement l = stmt_weight l.stmt.now

abbrev pub decreases-put_statements : goal.decreases-put_statements
decreases-put_statements l = stmts_weight l.body.now

abbrev pub invariant-put_statements-loop-rest : goal.invariant-put_statements-loop-rest
invariant-put_statements-loop-rest l = record {
  no_larger : stmts_weight l.rest ≤ stmts_weight l.body;
  blocks : map block_place_of l.blocks.items ++ blocks_among (stmts_of l.rest) ≡ map block_place_of l.initial.blocks.items ++ blocks_among (stmts_of l.body);
}
