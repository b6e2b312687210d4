use Rattle.std.proofs.Common.{◌≡◌, ◌++◌, drop, map}
use Rattle.std.specs.List.{flat_map}
use Rattle.pli_typing.specs.Variables.{initial_items}
use Rattle.pli_language.specs.View.{attribute_of, initial_item_of}
use Rattle.pli_variables.proofs.leaf.initial_in.Given as goal

abbrev pub invariant-loop-attribute : goal.invariant-loop-attribute
invariant-loop-attribute l = map (λ i. initial_item_of i.now) l.out.items ++ flat_map initial_items (map attribute_of (drop l.attribute-index l.attributes)) ≡ flat_map initial_items (map attribute_of l.attributes)
