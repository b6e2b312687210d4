use Rattle.std.proofs.Common.{◌≡◌, ◌≤◌, length, take}
use Rattle.pli_conditions.specs.Blocks.{in_force, newest_first}
use Rattle.pli_conditions.proofs.units.OnUnits.lookup.Given as goal

abbrev pub invariant-loop-depth : goal.invariant-loop-depth
invariant-loop-depth l = record {
  within : l.depth ≤ length l.self-inside.blocks.items;
  above : in_force (newest_first (take l.depth l.self-inside.blocks.items)) l.condition ≡ in_force l.self l.condition;
}

abbrev pub decreases-loop-depth : goal.decreases-loop-depth
decreases-loop-depth l = l.depth
