use Rattle.std.proofs.Common.{◌≡◌, ◌≤◌, ◌+◌, ◌*◌, ◌++◌}
use Rattle.pli_typing.specs.TypedStatementView.{stmts_of}
use Rattle.pli_coding.specs.Statements.{stmts_code}
use Rattle.pli_frames.specs.TakenView.{taken_of}
use Rattle.rv_address.specs.Around.{environment_of}
use Rattle.rv_statement.proofs.Weights.{stmt_weight, stmts_weight}
use Rattle.rv_statement.proofs.statement.+walk.Given as goal

abbrev pub decreases-stmt_code : goal.decreases-stmt_code
decreases-stmt_code l = 3 * stmt_weight l.statement.now

abbrev pub decreases-if_code : goal.decreases-if_code
decreases-if_code l = 3 * stmt_weight l.unit.now + 1

abbrev pub decreases-if_else_code : goal.decreases-if_else_code
decreases-if_else_code l = 3 * (stmt_weight l.unit.now + stmt_weight l.other.now) + 1

abbrev pub decreases-while_code : goal.decreases-while_code
decreases-while_code l = 3 * stmts_weight l.body.now + 1

abbrev pub decreases-turns_code : goal.decreases-turns_code
decreases-turns_code l = 3 * stmts_weight l.body.now + 2

abbrev pub decreases-once_code : goal.decreases-once_code
decreases-once_code l = 3 * stmts_weight l.body.now + 1

abbrev pub decreases-count_code : goal.decreases-count_code
decreases-count_code l = 3 * stmts_weight l.body.now + 1

abbrev pub decreases-begin_code : goal.decreases-begin_code
decreases-begin_code l = 3 * stmts_weight l.body.now + 1

abbrev pub decreases-unit_code : goal.decreases-unit_code
decreases-unit_code l = 3 * stmts_weight l.body.now + 1

abbrev pub decreases-stmts_code : goal.decreases-stmts_code
decreases-stmts_code l = 3 * stmts_weight l.statements.now

abbrev pub invariant-stmts_code-loop-rest : goal.invariant-stmts_code-loop-rest
invariant-stmts_code-loop-rest l = record {
  no_larger : stmts_weight l.rest ≤ stmts_weight l.statements;
  written : l.code ++ stmts_code (environment_of l.environment) (taken_of l.taken) (stmts_of l.rest) ≡ l.initial.code ++ stmts_code (environment_of l.environment) (taken_of l.taken) (stmts_of l.statements);
}
