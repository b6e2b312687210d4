use Rattle.std.proofs.Common.{◌≡◌, ◌++◌, [], map, drop}
use Rattle.pli_coding.specs.StaticData.{once}
use Rattle.rv_assembly.specs.Borrowed.{datum}
use Rattle.rv_assembly.proofs.statics.once.Given as goal

abbrev pub invariant-loop-datum : goal.invariant-loop-datum
invariant-loop-datum l = map datum l.seen.keys ++ once (map datum l.seen.keys) (map datum (drop l.datum-index l.list)) ≡ once [] (map datum l.list)
