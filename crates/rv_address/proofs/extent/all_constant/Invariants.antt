use Rattle.std.proofs.Common.{◌≡◌, map, drop}
use Rattle.std.specs.List.{list_all}
use Rattle.pli_typing.specs.TypedView.{bounds_of}
use Rattle.pli_coding.specs.Frames.{are_constant}
use Rattle.rv_address.proofs.extent.all_constant.Given as goal

abbrev pub invariant-loop-bounds : goal.invariant-loop-bounds
invariant-loop-bounds l = list_all are_constant (map bounds_of (drop l.bounds-index l.dimensions)) ≡ list_all are_constant (map bounds_of l.dimensions)
