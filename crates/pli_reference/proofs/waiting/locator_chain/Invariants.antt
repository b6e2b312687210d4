use Rattle.std.proofs.Common.{◌≡◌, ◌+◌, ◌≤◌, map}
use Rattle.pli_language.specs.View.{qualified_of, reference_of}
use Rattle.pli_typing.specs.Judging.{Scope}
use Rattle.pli_typing.proofs.ExpressionWeights.{reference_weight}
use Rattle.pli_reference.specs.ShownWaiting.{names_weight}
use Rattle.pli_reference.specs.Waiting.{chain_of_locators}
use Rattle.pli_reference.proofs.waiting.locator_chain.Given as goal

abbrev pub invariant-locators : goal.invariant-locators
invariant-locators l = record {
  same : (scope : Scope) → chain_of_locators scope (map (λ q. qualified_of q.now) l.located.items) (reference_of l.first) ≡ chain_of_locators scope (map (λ q. qualified_of q.now) l.initial.located.items) (reference_of l.initial.first);
  lighter : names_weight l.located.items + reference_weight l.first ≤ names_weight l.initial.located.items + reference_weight l.initial.first;
}
