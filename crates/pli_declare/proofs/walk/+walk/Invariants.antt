use Rattle.std.proofs.Common.{◌≡◌, ◌++◌, map, ◌≤◌}
use Rattle.pli_language.specs.Declarations.{declared_in}
use Rattle.pli_language.specs.View.{items_of}
use Rattle.pli_declare.specs.Shown.{declaration_of}
use Rattle.pli_declare.proofs.Weights.{stmt_weight, item_weight, items_weight}
use Rattle.pli_declare.proofs.walk.+walk.Given as goal

abbrev pub decreases-put_item : goal.decreases-put_item
decreases-put_item l = item_weight l.item.now

abbrev pub decreases-put_items : goal.decreases-put_items
decreases-put_items l = items_weight l.items.now

abbrev pub decreases-put_stmt : goal.decreases-put_stmt
decreases-put_stmt l = stmt_weight l.statement.now

abbrev pub invariant-put_items-loop-rest : goal.invariant-put_items-loop-rest
invariant-put_items-loop-rest l = record {
  no_larger : items_weight l.rest ≤ items_weight l.items;
  put : map declaration_of l.out.items ++ declared_in (items_of l.rest) ≡ map declaration_of l.initial.out.items ++ declared_in (items_of l.items);
}
