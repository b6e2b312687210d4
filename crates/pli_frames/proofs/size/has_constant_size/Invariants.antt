use Rattle.std.proofs.Common.{◌≡◌, map, drop}
use Rattle.std.specs.List.{list_all}
use Rattle.pli_typing.specs.TypedView.{leaf_of}
use Rattle.pli_coding.specs.Frames.{is_constant_leaf}
use Rattle.pli_frames.proofs.size.has_constant_size.Given as goal

abbrev pub invariant-loop-leaf : goal.invariant-loop-leaf
invariant-loop-leaf l = list_all is_constant_leaf (map leaf_of (drop l.leaf-index l.leaves)) ≡ list_all is_constant_leaf (map leaf_of l.leaves)
