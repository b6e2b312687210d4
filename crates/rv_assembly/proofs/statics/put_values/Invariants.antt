use Rattle.std.proofs.Common.{◌≡◌, ◌++◌, map, drop}
use Rattle.std.specs.List.{flat_map}
use Rattle.pli_coding.specs.StaticData.{values_of}
use Rattle.rv_assembly.specs.Borrowed.{datum}
use Rattle.rv_assembly.proofs.statics.put_values.Given as goal

abbrev pub invariant-loop-datum : goal.invariant-loop-datum
invariant-loop-datum l = map datum l.out.items ++ flat_map values_of (map datum (drop l.datum-index l.named)) ≡ map datum l.initial.out.items ++ flat_map values_of (map datum l.named)
