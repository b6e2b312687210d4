use Rattle.std.proofs.Common.{◌≤◌}
use Rattle.pli_typing.specs.declared.statement.Stmts.{size-Stmts}
use Rattle.pli_typing.proofs.+dropping.Given as goal

abbrev pub invariant-statement::Stmts::drop-loop-self : goal.invariant-statement::Stmts::drop-loop-self
invariant-statement::Stmts::drop-loop-self l = size-Stmts l.self ≤ size-Stmts l.fn.self
