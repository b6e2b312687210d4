use Rattle.std.proofs.Common.{◌≡◌, vec_len}
use Rattle.std.specs.Prelude.{map}
use Rattle.pli_language.specs.Nesting.{items_of_list}
use Rattle.pli_language.specs.View.{item_of, items_of}
use Rattle.pli_nest.specs.Steps.{items_onto}
use Rattle.pli_nest.proofs.items.items_in.Given as goal

abbrev pub invariant-loop-item : goal.invariant-loop-item
invariant-loop-item l = items_onto (map item_of l.items.items) (items_of l.list) ≡ items_of_list (map item_of l.initial.items.items)

abbrev pub decreases-loop-item : goal.decreases-loop-item
decreases-loop-item l = vec_len l.items
