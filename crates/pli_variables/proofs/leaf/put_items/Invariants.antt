use Rattle.std.proofs.Common.{◌≡◌, ◌++◌, drop, map}
use Rattle.pli_language.specs.View.{initial_item_of}
use Rattle.pli_variables.proofs.leaf.put_items.Given as goal

abbrev pub invariant-loop-item : goal.invariant-loop-item
invariant-loop-item l = map (λ i. initial_item_of i.now) l.out.items ++ map initial_item_of (drop l.item-index l.items) ≡ map (λ i. initial_item_of i.now) l.initial.out.items ++ map initial_item_of l.items
