use Rattle.std.proofs.Common.{◌≡◌, ◌≤◌, ◌+◌, ◌*◌, ◌++◌, map, vec_len}
use Rattle.pli_language.specs.View.{exprs_of, qualified_of}
use Rattle.pli_typing.specs.References as R
use Rattle.pli_typing.proofs.ExpressionWeights.{expr_weight, reference_weight, qualified_weight, arguments_weight, exprs_weight}
use Rattle.pli_operand.specs.Notes.{noted}
use Rattle.pli_operand.specs.Shown.{notes_of, operand_of}
use Rattle.pli_reference.specs.Shown.{named_of, scope_of}
use Rattle.pli_reference.specs.ShownWaiting.{names_weight, waiting_of, waiting_weight}
use Rattle.pli_reference.specs.Waiting.{followed, resumed}
use Rattle.pli_reference.proofs.expression.+walk.Given as goal

abbrev pub decreases-expression : goal.decreases-expression
decreases-expression l = 3 * expr_weight l.expr.now

abbrev pub decreases-infix : goal.decreases-infix
decreases-infix l = 3 * expr_weight l.right.now + 2

abbrev pub decreases-operand : goal.decreases-operand
decreases-operand l = 3 * expr_weight l.expr.now + 1

abbrev pub decreases-resumed : goal.decreases-resumed
decreases-resumed l = 3 * waiting_weight l.waiting.items

abbrev pub decreases-referred : goal.decreases-referred
decreases-referred l = 3 * reference_weight l.target.now + 1

abbrev pub decreases-followed : goal.decreases-followed
decreases-followed l = 3 * names_weight l.located.items

abbrev pub decreases-names_in : goal.decreases-names_in
decreases-names_in l = 3 * qualified_weight l.qualified.now + 1

abbrev pub decreases-arguments_in : goal.decreases-arguments_in
decreases-arguments_in l = 3 * arguments_weight l.arguments.now

abbrev pub decreases-expressions : goal.decreases-expressions
decreases-expressions l = 3 * exprs_weight l.exprs.now + 1

abbrev pub invariant-resumed-operators : goal.invariant-resumed-operators
invariant-resumed-operators l = record {
  noted : noted (notes_of l.notes) (resumed (scope_of l.fn.scope) (map waiting_of l.waiting.items) (operand_of l.taken)) ≡ noted (notes_of l.initial.notes) (resumed (scope_of l.fn.scope) (map waiting_of l.initial.waiting.items) (operand_of l.initial.taken));
  value : (resumed (scope_of l.fn.scope) (map waiting_of l.waiting.items) (operand_of l.taken)).value ≡ (resumed (scope_of l.fn.scope) (map waiting_of l.initial.waiting.items) (operand_of l.initial.taken)).value;
  lighter : waiting_weight l.waiting.items ≤ waiting_weight l.initial.waiting.items;
}

abbrev pub decreases-resumed-operators : goal.decreases-resumed-operators
decreases-resumed-operators l = vec_len l.waiting

abbrev pub invariant-followed-locators : goal.invariant-followed-locators
invariant-followed-locators l = record {
  noted : noted (notes_of l.notes) (followed (scope_of l.fn.scope) (map (λ q. qualified_of q.now) l.located.items) (operand_of l.taken)) ≡ noted (notes_of l.initial.notes) (followed (scope_of l.fn.scope) (map (λ q. qualified_of q.now) l.initial.located.items) (operand_of l.initial.taken));
  value : (followed (scope_of l.fn.scope) (map (λ q. qualified_of q.now) l.located.items) (operand_of l.taken)).value ≡ (followed (scope_of l.fn.scope) (map (λ q. qualified_of q.now) l.initial.located.items) (operand_of l.initial.taken)).value;
  lighter : names_weight l.located.items ≤ names_weight l.initial.located.items;
}

abbrev pub decreases-followed-locators : goal.decreases-followed-locators
decreases-followed-locators l = vec_len l.located

abbrev pub invariant-names_in-names : goal.invariant-names_in-names
invariant-names_in-names l = record {
  noted : noted (notes_of l.notes) (R.qualified (scope_of l.fn.scope) (qualified_of l.left)) ≡ noted (notes_of l.initial.notes) (R.qualified (scope_of l.fn.scope) (qualified_of l.initial.left));
  value : map named_of l.out.items ++ (R.qualified (scope_of l.fn.scope) (qualified_of l.left)).value ≡ map named_of l.initial.out.items ++ (R.qualified (scope_of l.fn.scope) (qualified_of l.initial.left)).value;
  lighter : qualified_weight l.left ≤ qualified_weight l.initial.left;
}

abbrev pub invariant-expressions-expressions : goal.invariant-expressions-expressions
invariant-expressions-expressions l = record {
  noted : noted (notes_of l.notes) (R.expressions (scope_of l.fn.scope) (exprs_of l.left)) ≡ noted (notes_of l.initial.notes) (R.expressions (scope_of l.fn.scope) (exprs_of l.initial.left));
  value : map operand_of l.out.items ++ (R.expressions (scope_of l.fn.scope) (exprs_of l.left)).value ≡ map operand_of l.initial.out.items ++ (R.expressions (scope_of l.fn.scope) (exprs_of l.initial.left)).value;
  lighter : exprs_weight l.left ≤ exprs_weight l.initial.left;
}
