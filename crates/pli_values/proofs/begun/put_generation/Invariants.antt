use Rattle.std.proofs.Common.{◌≡◌, ◌≤◌, ◌+◌, drop, length}
use Rattle.pli_typing.specs.Signatures.{leaves_size}
use Rattle.pli_serving.specs.Bytes.{with_bytes}
use Rattle.pli_serving.specs.Values.{generation_bytes, leaves_data}
use Rattle.pli_values.specs.Beginnings.{generation_of, leaves_of}
use Rattle.pli_values.proofs.begun.put_generation.Given as goal

abbrev pub invariant-loop-leaf : goal.invariant-loop-leaf
invariant-loop-leaf l = record {
  inside : l.here + leaves_size (drop l.leaf (leaves_of l.begun)) ≤ length l.memory;
  written : with_bytes (leaves_data l.leaf (drop l.leaf (leaves_of l.begun)) (generation_of l.begun).values) l.here l.memory ≡ with_bytes (generation_bytes (generation_of l.begun)) l.fn.at l.fn.memory;
}
