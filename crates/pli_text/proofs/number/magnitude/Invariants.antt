use Rattle.std.proofs.Common.{◌≡◌, ◌≤◌, ◌^◌, drop}
use Rattle.pli_meaning.specs.Texts.{digits_behind}
use Rattle.pli_text.specs.Digits.{within_magnitude, small_value}
use Rattle.pli_text.proofs.number.magnitude.Given as goal

abbrev pub invariant-loop-byte : goal.invariant-loop-byte
invariant-loop-byte l = record {
  small : l.value ≤ 2 ^ 31;
  same : small_value l.digits ≡ within_magnitude (digits_behind l.value (drop l.byte-index l.digits));
}
