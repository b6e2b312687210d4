use Rattle.std.proofs.Common.{◌≡◌, ◌≤◌}
use Rattle.std.specs.Prelude.{max}
use Rattle.pli_typing.specs.TypedStatementView.{stmts_of}
use Rattle.pli_coding.specs.Statements.{stmts_held}
use Rattle.rv_address.specs.Around.{environment_of}
use Rattle.rv_statement.proofs.Weights.{stmt_weight, stmts_weight}
use Rattle.rv_statement.proofs.held.+held.Given as goal

abbrev pub decreases-stmt_held : goal.decreases-stmt_held
decreases-stmt_held l = stmt_weight l.statement.now

abbrev pub decreases-stmts_held : goal.decreases-stmts_held
decreases-stmts_held l = stmts_weight l.body.now

abbrev pub invariant-stmts_held-loop-rest : goal.invariant-stmts_held-loop-rest
invariant-stmts_held-loop-rest l = record {
  no_larger : stmts_weight l.rest ≤ stmts_weight l.body;
  counted : max l.count (stmts_held (environment_of l.environment).program (stmts_of l.rest))
      ≡ stmts_held (environment_of l.environment).program (stmts_of l.body);
}
