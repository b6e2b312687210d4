use Rattle.std.proofs.Common.{◌≡◌, ◌≤◌, ◌+◌, ◌*◌, ◌++◌, map}
use Rattle.pli_typing.specs.TypedStatementView.{stmts_of}
use Rattle.pli_coding.specs.Environments.{most_taken}
use Rattle.pli_coding.specs.Statements.{stmts_take}
use Rattle.pli_frames.specs.Blocks.{block_words_of, blocks_among}
use Rattle.pli_frames.specs.TakenView.{taken_of}
use Rattle.pli_frames.proofs.Weights.{stmt_weight, stmts_weight}
use Rattle.pli_frames.proofs.body.+walk.Given as goal

abbrev pub decreases-block : goal.decreases-block
decreases-block l = 2 * stmts_weight l.body.now + 1

abbrev pub decreases-statement : goal.decreases-statement
decreases-statement l = 2 * stmt_weight l.stmt.now

abbrev pub decreases-statements : goal.decreases-statements
decreases-statements l = 2 * stmts_weight l.body.now

abbrev pub invariant-statements-loop-rest : goal.invariant-statements-loop-rest
invariant-statements-loop-rest l = record {
  no_larger : stmts_weight l.rest ≤ stmts_weight l.body;
  taken : most_taken (taken_of l.most) (stmts_take (taken_of l.taken) (stmts_of l.rest)) ≡ stmts_take
      (taken_of l.taken) (stmts_of l.body);
  blocks : map block_words_of l.blocks.items ++ blocks_among (stmts_of l.rest) ≡ map block_words_of l.initial.blocks.items ++ blocks_among (stmts_of l.body);
}
