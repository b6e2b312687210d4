use Rattle.std.proofs.Common.{◌≡◌, ◌++◌, map, drop}
use Rattle.std.specs.List.{flat_map}
use Rattle.pli_language.specs.View.{initial_item_of}
use Rattle.pli_coding.specs.StaticForms.{item_bytes}
use Rattle.rv_data.proofs.initial.put_items.Given as goal

abbrev pub invariant-loop-item : goal.invariant-loop-item
invariant-loop-item l = l.bytes.items ++ flat_map item_bytes (map (λ i. initial_item_of i.now) (drop l.item-index l.items)) ≡ l.initial.bytes.items ++ flat_map item_bytes (map (λ i. initial_item_of i.now) l.items)
