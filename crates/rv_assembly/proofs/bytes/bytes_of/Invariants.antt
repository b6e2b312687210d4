use Rattle.std.proofs.Common.{◌≡◌, ◌++◌, map, drop}
use Rattle.pli_coding.specs.StaticData.{bytes_from}
use Rattle.rv_assembly.specs.Placed.{placed_of}
use Rattle.rv_assembly.proofs.bytes.bytes_of.Given as goal

abbrev pub invariant-loop-placed : goal.invariant-loop-placed
invariant-loop-placed l = l.bytes.items ++ bytes_from (map placed_of l.links.placed.items) l.at (map placed_of (drop l.placed-index l.list)) ≡ bytes_from (map placed_of l.links.placed.items) l.start (map placed_of l.list)
