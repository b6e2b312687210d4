use Rattle.std.proofs.Common.{◌≡◌, ◌++◌, map, drop}
use Rattle.pli_coding.specs.StaticData as S
use Rattle.rv_assembly.specs.Borrowed.{datum}
use Rattle.rv_assembly.specs.Placed.{placed_of}
use Rattle.rv_assembly.proofs.placing.placed_from.Given as goal

abbrev pub invariant-loop-datum : goal.invariant-loop-datum
invariant-loop-datum l = map placed_of l.out.items ++ S.placed_from l.at (map datum (drop l.datum-index l.list)) ≡ S.placed_from l.start (map datum l.list)
