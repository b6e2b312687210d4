use Rattle.std.proofs.Common.{◌≡◌, ◌+◌, map, drop}
use Rattle.pli_language.specs.Declaring.{taken_up_to}
use Rattle.pli_declaring.specs.Bytes.{capped}
use Rattle.pli_declaring.specs.Statics.{taken_of}
use Rattle.pli_declaring.proofs.statics.taken_up_to.Given as goal

abbrev pub invariant-loop-taken : goal.invariant-loop-taken
invariant-loop-taken l = record {
  few : l.bytes ≡ capped l.bytes;
  sum : capped (l.bytes + taken_up_to l.place (map taken_of (drop l.taken-index l.statics))) ≡ capped (taken_up_to l.place (map taken_of l.statics));
}
