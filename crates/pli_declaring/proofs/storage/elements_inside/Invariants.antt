use Rattle.std.proofs.Common.{◌≡◌, ◌*◌}
use Rattle.pli_language.specs.Declaring.{elements_above}
use Rattle.pli_declare.specs.Shown.{levels_of, variable_of}
use Rattle.pli_declaring.specs.Bytes.{capped}
use Rattle.pli_declaring.proofs.storage.elements_inside.Given as goal

abbrev pub invariant-loop-rest : goal.invariant-loop-rest
invariant-loop-rest l = record {
  few : l.elements ≡ capped l.elements;
  product : capped (l.elements * elements_above (levels_of (variable_of l.first) l.rest)) ≡ capped (elements_above (levels_of (variable_of l.first) l.levels));
}
