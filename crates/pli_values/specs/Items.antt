-- The items that are left at a place among those of a leaf.
use Rattle.std.specs.Prelude.{List, [], ◌∷◌, Option, unwrap_or}
use Rattle.pli_language.specs.Tree.{InitialItem}
use Rattle.pli_serving.specs.InitialValues.{items_from}
use Rattle.pli_signatures.specs.View.{kind_of}
use Rattle.pli_values.specs.declared.leaf_items.Items.{Items}
use Rattle.pli_values.specs.Calls.{call_of}
use Rattle.pli_values.specs.View.{item_of}

abbrev pub items_behind : Items → Option (List InitialItem)
items_behind i = items_from (call_of i.source) (kind_of i.kind) i.left i.at

abbrev pub items_left : Items → List InitialItem
items_left i = item_of i.current ∷ unwrap_or (items_behind i) []
