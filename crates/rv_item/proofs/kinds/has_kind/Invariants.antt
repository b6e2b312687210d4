use Rattle.std.proofs.Common.{◌≡◌, map, drop}
use Rattle.std.specs.List.{list_any}
use Rattle.pli_typing.specs.TypedView.{leaf_of}
use Rattle.pli_coding.specs.Streams.{is_type}
use Rattle.rv_item.proofs.kinds.has_kind.Given as goal

abbrev pub invariant-loop-leaf : goal.invariant-loop-leaf
invariant-loop-leaf l = list_any (λ x. is_type l.kind x.type) (map leaf_of (drop l.leaf-index l.leaves)) ≡ list_any (λ x. is_type l.kind x.type) (map leaf_of l.leaves)
