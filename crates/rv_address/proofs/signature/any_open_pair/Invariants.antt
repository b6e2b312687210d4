use Rattle.std.proofs.Common.{◌≡◌, map, drop}
use Rattle.std.specs.List.{list_any}
use Rattle.pli_typing.specs.TypedView.{bounds_of}
use Rattle.pli_coding.specs.SignatureTable.{pair_of, is_open_pair}
use Rattle.rv_address.proofs.signature.any_open_pair.Given as goal

abbrev pub invariant-loop-bounds : goal.invariant-loop-bounds
invariant-loop-bounds l = list_any is_open_pair (map pair_of (map bounds_of (drop l.bounds-index l.dimensions))) ≡ list_any is_open_pair (map pair_of (map bounds_of l.dimensions))
