use Rattle.std.proofs.Common.{◌≡◌, map, drop}
use Rattle.std.specs.List.{list_any}
use Rattle.pli_typing.specs.TypedView.{leaf_of}
use Rattle.pli_coding.specs.SignatureTable.{table_leaf, is_open_leaf}
use Rattle.rv_address.proofs.signature.any_open_leaf.Given as goal

abbrev pub invariant-loop-leaf : goal.invariant-loop-leaf
invariant-loop-leaf l = list_any is_open_leaf (map table_leaf (map leaf_of (drop l.leaf-index l.leaves))) ≡ list_any is_open_leaf (map table_leaf (map leaf_of l.leaves))
