use Rattle.std.proofs.Common.{◌≡◌, ◌++◌, map, drop}
use Rattle.pli_coding.specs.StaticData.{data_named}
use Rattle.rv_assembly.specs.View.{item_of}
use Rattle.rv_assembly.specs.Borrowed.{datum}
use Rattle.rv_assembly.proofs.statics.named.Given as goal

abbrev pub invariant-loop-item : goal.invariant-loop-item
invariant-loop-item l = map datum l.out.items ++ data_named (map item_of (drop l.item-index l.items)) ≡ data_named (map item_of l.items)
