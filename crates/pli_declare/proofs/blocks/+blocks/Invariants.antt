use Rattle.std.proofs.Common.{◌≡◌, ◌++◌, map, length, ◌≤◌}
use Rattle.pli_language.specs.Declarations.{blocks_in}
use Rattle.pli_language.specs.View.{items_of}
use Rattle.pli_declare.specs.ShownBlocks.{block_of}
use Rattle.pli_declare.proofs.Weights.{stmt_weight, item_weight, items_weight}
use Rattle.pli_declare.proofs.blocks.+blocks.Given as goal

abbrev pub decreases-put_item_blocks : goal.decreases-put_item_blocks
decreases-put_item_blocks l = item_weight l.item.now

abbrev pub decreases-put_blocks : goal.decreases-put_blocks
decreases-put_blocks l = items_weight l.items.now

abbrev pub decreases-put_stmt_blocks : goal.decreases-put_stmt_blocks
decreases-put_stmt_blocks l = stmt_weight l.statement.now

abbrev pub invariant-put_blocks-loop-rest : goal.invariant-put_blocks-loop-rest
invariant-put_blocks-loop-rest l = record {
  no_larger : items_weight l.rest ≤ items_weight l.items;
  put : map block_of l.out.items ++ blocks_in l.around (length l.out.items) (items_of l.rest) ≡ map block_of l.initial.out.items ++ blocks_in l.around (length l.initial.out.items) (items_of l.items);
}
