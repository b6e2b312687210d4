use Rattle.std.proofs.Common.{◌≡◌, ◌+◌, map, drop}
use Rattle.std.specs.List.{sum_by}
use Rattle.pli_declaring.specs.Bytes.{capped}
use Rattle.pli_declaring.specs.Statics.{taken_of}
use Rattle.pli_declaring.proofs.statics.taken_by_all.Given as goal

abbrev pub invariant-loop-taken : goal.invariant-loop-taken
invariant-loop-taken l = record {
  few : l.bytes ≡ capped l.bytes;
  sum : capped (l.bytes + sum_by (λ s. s.1) (map taken_of (drop l.taken-index l.statics))) ≡ capped (sum_by (λ s. s.1) (map taken_of l.statics));
}
