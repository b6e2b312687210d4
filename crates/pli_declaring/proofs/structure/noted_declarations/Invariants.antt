use Rattle.std.proofs.Common.{◌≡◌, ◌≤◌, [], drop, map}
use Rattle.pli_language.specs.Declaring.{declarations_faults}
use Rattle.pli_language.specs.Refusals.{soonest}
use Rattle.pli_language.specs.View.{name_of}
use Rattle.pli_declare.specs.Shown.{declaration_of}
use Rattle.pli_declaring.proofs.Starts.{among}
use Rattle.pli_declaring.proofs.structure.noted_declarations.Given as goal

abbrev pub invariant-loop-i : goal.invariant-loop-i
invariant-loop-i l = record {
  within : l.start ≤ l.i;
  found : soonest l.found (declarations_faults (map name_of l.parameters) (among l.declarations l.start l.i) (map declaration_of (drop l.i l.declarations))) ≡ soonest l.initial.found (declarations_faults (map name_of l.parameters) [] (map declaration_of l.declarations));
}
