use Rattle.std.proofs.Common.{◌≡◌, ◌≤◌, ◌+◌, ◌*◌, ◌++◌, map, length}
use Rattle.pli_language.specs.Refusals.{soonest}
use Rattle.pli_typing.specs.Resolving.{statements}
use Rattle.pli_typing.specs.TypedStatementView.{procedure_of}
use Rattle.pli_language.specs.View.{items_of}
use Rattle.pli_declare.proofs.Weights.{stmt_weight, item_weight, items_weight}
use Rattle.pli_tree.specs.Shown.{behind_items, context_of, part_of, parts_onto}
use Rattle.pli_tree.proofs.statement.+walk.Given as goal

abbrev pub decreases-statement : goal.decreases-statement
decreases-statement l = 3 * stmt_weight l.written.now

abbrev pub decreases-boxed : goal.decreases-boxed
decreases-boxed l = 3 * stmt_weight l.written.now + 1

abbrev pub decreases-if_statement : goal.decreases-if_statement
decreases-if_statement l = 3 * stmt_weight l.unit.now + 2

abbrev pub decreases-if_else : goal.decreases-if_else
decreases-if_else l = 3 * (stmt_weight l.unit.now + stmt_weight l.otherwise.now) + 2

abbrev pub decreases-group : goal.decreases-group
decreases-group l = 3 * items_weight l.body.now + 1

abbrev pub decreases-do_while : goal.decreases-do_while
decreases-do_while l = 3 * items_weight l.body.now + 2

abbrev pub decreases-do_turns : goal.decreases-do_turns
decreases-do_turns l = 3 * items_weight l.body.now + 2

abbrev pub decreases-block : goal.decreases-block
decreases-block l = 3 * items_weight l.body.now + 1

abbrev pub decreases-begin : goal.decreases-begin
decreases-begin l = 3 * items_weight l.body.now + 2

abbrev pub decreases-on_unit : goal.decreases-on_unit
decreases-on_unit l = 3 * stmt_weight l.unit.now + 1

abbrev pub decreases-procedure : goal.decreases-procedure
decreases-procedure l = 3 * items_weight l.body.now + 2

abbrev pub decreases-put_statement : goal.decreases-put_statement
decreases-put_statement l = 3 * stmt_weight l.written.now + 1

abbrev pub decreases-put_item : goal.decreases-put_item
decreases-put_item l = 3 * item_weight l.item.now

abbrev pub decreases-passed : goal.decreases-passed
decreases-passed l = 3 * items_weight l.items.now + 1

abbrev pub decreases-statements : goal.decreases-statements
decreases-statements l = 3 * items_weight l.items.now

abbrev pub invariant-statements-loop-rest : goal.invariant-statements-loop-rest
invariant-statements-loop-rest l = record {
  no_larger : items_weight l.rest ≤ items_weight l.items;
  found : soonest l.walked.found (statements (context_of l.context) l.walked.next (items_of l.rest)).faults ≡ soonest l.initial.walked.found (statements (context_of l.context) l.initial.walked.next (items_of l.items)).faults;
  procedures : map procedure_of l.walked.procedures.items ++ (statements (context_of l.context) l.walked.next (items_of l.rest)).procedures ≡ map procedure_of l.initial.walked.procedures.items ++ (statements (context_of l.context) l.initial.walked.next (items_of l.items)).procedures;
  next : behind_items (context_of l.context) l.walked.next (items_of l.rest) ≡ behind_items (context_of l.context) l.initial.walked.next (items_of l.items);
  value : parts_onto (map part_of l.parts.items) (statements (context_of l.context) l.walked.next (items_of l.rest)).value ≡ (statements (context_of l.context) l.initial.walked.next (items_of l.items)).value;
}
