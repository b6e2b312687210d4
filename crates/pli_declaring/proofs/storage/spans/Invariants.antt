use Rattle.std.proofs.Common.{◌≡◌, ◌*◌, map, drop}
use Rattle.pli_language.specs.Declaring.{spans}
use Rattle.pli_language.specs.View.{bound_of}
use Rattle.pli_declaring.specs.Bytes.{capped}
use Rattle.pli_declaring.proofs.storage.spans.Given as goal

abbrev pub invariant-loop-bound : goal.invariant-loop-bound
invariant-loop-bound l = record {
  few : l.elements ≡ capped l.elements;
  product : capped (l.elements * spans (map bound_of (drop l.bound-index l.bounds))) ≡ capped (spans (map bound_of l.bounds));
}
