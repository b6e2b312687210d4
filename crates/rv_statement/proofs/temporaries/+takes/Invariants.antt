use Rattle.std.proofs.Common.{◌≡◌, ◌≤◌}
use Rattle.pli_typing.specs.TypedStatementView.{stmts_of}
use Rattle.pli_coding.specs.Environments.{most_taken}
use Rattle.pli_coding.specs.Statements.{stmts_take}
use Rattle.pli_frames.specs.TakenView.{taken_of}
use Rattle.rv_statement.proofs.Weights.{stmt_weight, stmts_weight}
use Rattle.rv_statement.proofs.temporaries.+takes.Given as goal

abbrev pub decreases-stmt_takes : goal.decreases-stmt_takes
decreases-stmt_takes l = stmt_weight l.statement.now

abbrev pub decreases-stmts_take : goal.decreases-stmts_take
decreases-stmts_take l = stmts_weight l.body.now

abbrev pub invariant-stmts_take-loop-rest : goal.invariant-stmts_take-loop-rest
invariant-stmts_take-loop-rest l = record {
  no_larger : stmts_weight l.rest ≤ stmts_weight l.body;
  taken : most_taken (taken_of l.most) (stmts_take (taken_of l.taken) (stmts_of l.rest))
      ≡ stmts_take (taken_of l.taken) (stmts_of l.body);
}
