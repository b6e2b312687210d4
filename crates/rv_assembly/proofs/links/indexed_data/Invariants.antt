use Rattle.std.proofs.Common.{map, take}
use Rattle.rv_assembly.specs.Placed.{placed_of}
use Rattle.rv_assembly.specs.Found.{FindsData}
use Rattle.rv_assembly.proofs.links.indexed_data.Given as goal

abbrev pub invariant-loop-datum : goal.invariant-loop-datum
invariant-loop-datum l = FindsData l.index (map placed_of (take l.datum-index l.placed))
