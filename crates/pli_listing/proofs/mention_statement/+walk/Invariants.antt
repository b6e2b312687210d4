use Rattle.std.proofs.Common.{◌≡◌, ◌+◌, ◌++◌, ◌≤◌, map}
use Rattle.pli_language.specs.View.{items_of}
use Rattle.pli_declare.proofs.Weights.{stmt_weight, item_weight, items_weight}
use Rattle.pli_listing.specs.Mentions.{begun_in, in_items, mention_of}
use Rattle.pli_listing.proofs.mention_statement.+walk.Given as goal

abbrev pub decreases-push_items : goal.decreases-push_items
decreases-push_items l = items_weight l.items.now

abbrev pub decreases-push_item : goal.decreases-push_item
decreases-push_item l = item_weight l.item.now

abbrev pub decreases-push_stmt : goal.decreases-push_stmt
decreases-push_stmt l = stmt_weight l.statement.now

abbrev pub invariant-push_items-loop-left : goal.invariant-push_items-loop-left
invariant-push_items-loop-left l = record {
  no_larger : items_weight l.left ≤ items_weight l.items;
  put :
      map mention_of l.out.items ++ in_items l.block l.next (items_of l.left)
      ≡ map mention_of l.initial.out.items ++ in_items l.block l.initial.next (items_of l.items);
  begun : l.next + begun_in (items_of l.left) ≡ l.initial.next + begun_in (items_of l.items);
}
