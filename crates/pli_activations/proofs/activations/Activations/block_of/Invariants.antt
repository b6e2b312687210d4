use Rattle.std.proofs.Common.{◌≡◌, ◌≤◌, length, take}
use Rattle.std.specs.Prelude.{reverse}
use Rattle.pli_activations.proofs.Zipped.{block_in}
use Rattle.pli_activations.proofs.activations.Activations.block_of.Given as goal

abbrev pub invariant-entered : goal.invariant-entered
invariant-entered l = record {
  within : l.height ≤ length l.self-inside.blocks.items;
  above : block_in l.frame (reverse (take l.height l.self-inside.blocks.items)) ≡ block_in l.frame (reverse l.self-inside.blocks.items);
}

abbrev pub decreases-entered : goal.decreases-entered
decreases-entered l = l.height
