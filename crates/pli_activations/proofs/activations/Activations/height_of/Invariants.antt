use Rattle.std.proofs.Common.{◌≡◌, ◌≤◌, ◌-◌, length, take, drop}
use Rattle.std.specs.Prelude.{reverse}
use Rattle.pli_serving.specs.Blocks.{from_frame}
use Rattle.pli_activations.specs.Entered.{activations_of}
use Rattle.pli_activations.proofs.activations.Activations.height_of.Given as goal

abbrev pub invariant-entered : goal.invariant-entered
invariant-entered l = record {
  within : l.height ≤ length l.self-inside.blocks.items;
  above : from_frame l.frame (activations_of (reverse (take l.height l.self-inside.blocks.items)) (drop (length l.self-inside.blocks.items - l.height) l.self-inside.units)) ≡ from_frame l.frame (activations_of (reverse l.self-inside.blocks.items) l.self-inside.units);
}

abbrev pub decreases-entered : goal.decreases-entered
decreases-entered l = l.height
