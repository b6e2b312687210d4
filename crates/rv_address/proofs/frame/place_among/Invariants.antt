use Rattle.std.proofs.Common.{◌≡◌, ◌+◌, drop}
use Rattle.pli_coding.specs.Locating.{place_among}
use Rattle.rv_address.proofs.frame.place_among.Given as goal

abbrev pub invariant-loop-parameter : goal.invariant-loop-parameter
invariant-loop-parameter l = record {
  count : l.place ≡ l.parameter-index;
  sum : l.place + place_among l.index (drop l.parameter-index l.parameters) ≡ place_among l.index l.parameters;
}
