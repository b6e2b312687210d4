use Rattle.std.proofs.Common.{◌≡◌, ◌+◌, ◌≤◌, map}
use Rattle.pli_language.specs.View.{expr_of}
use Rattle.pli_typing.specs.Judging.{Scope}
use Rattle.pli_typing.proofs.ExpressionWeights.{expr_weight}
use Rattle.pli_reference.specs.ShownWaiting.{waiting_of, waiting_weight}
use Rattle.pli_reference.specs.Waiting.{chain}
use Rattle.pli_reference.proofs.waiting.operator_chain.Given as goal

abbrev pub invariant-operators : goal.invariant-operators
invariant-operators l = record {
  same : (scope : Scope) → chain scope (map waiting_of l.waiting.items) (expr_of l.first) ≡ chain scope (map waiting_of l.initial.waiting.items) (expr_of l.initial.first);
  lighter : waiting_weight l.waiting.items + expr_weight l.first ≤ waiting_weight l.initial.waiting.items + expr_weight l.initial.first;
}
