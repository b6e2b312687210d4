use Rattle.std.proofs.Common.{◌≡◌, ◌+◌, map, drop}
use Rattle.pli_language.specs.Declaring.{data_of_members}
use Rattle.pli_declare.specs.Shown.{declaration_of}
use Rattle.pli_declaring.specs.Bytes.{capped}
use Rattle.pli_declaring.proofs.statics.data_of_members.Given as goal

abbrev pub invariant-loop-i : goal.invariant-loop-i
invariant-loop-i l = record {
  few : l.bytes ≡ capped l.bytes;
  sum : capped (l.bytes + data_of_members (map declaration_of (drop l.i l.declarations))) ≡ capped (data_of_members (map declaration_of l.declarations));
}
