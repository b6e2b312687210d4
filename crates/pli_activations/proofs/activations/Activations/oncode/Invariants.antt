use Rattle.std.proofs.Common.{◌≡◌, ◌≤◌, length, take}
use Rattle.std.specs.Prelude.{reverse}
use Rattle.pli_activations.proofs.Zipped.{oncode_in}
use Rattle.pli_activations.proofs.activations.Activations.oncode.Given as goal

abbrev pub invariant-entered : goal.invariant-entered
invariant-entered l = record {
  within : l.height ≤ length l.self-inside.blocks.items;
  above : oncode_in (reverse (take l.height l.self-inside.blocks.items)) ≡ oncode_in (reverse l.self-inside.blocks.items);
}

abbrev pub decreases-entered : goal.decreases-entered
decreases-entered l = l.height
