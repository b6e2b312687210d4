use Rattle.std.proofs.Common.{◌≡◌, ◌<◌, ◌+◌, ◌^◌, drop}
use Rattle.pli_typing.specs.Signatures.{leaves_size}
use Rattle.pli_values.specs.Beginnings.{leaves_of}
use Rattle.pli_allocation.specs.Beginnings.{written_leaves}
use Rattle.pli_allocation.proofs.starting.written.Given as goal

abbrev pub invariant-loop-leaf : goal.invariant-loop-leaf
invariant-loop-leaf l = record {
  inside : leaves_size (drop l.leaf (leaves_of l.begun)) < 2 ^ 63;
  counted : l.bytes + written_leaves (drop l.leaf (leaves_of l.begun)) ≡ written_leaves (leaves_of l.begun);
}
