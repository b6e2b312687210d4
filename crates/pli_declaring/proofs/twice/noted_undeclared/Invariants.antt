use Rattle.std.proofs.Common.{◌≡◌, map, drop}
use Rattle.std.specs.Prelude.{not}
use Rattle.std.specs.List.{flat_map}
use Rattle.pli_language.specs.declared.fault.SourceKind.TheVariants.{Undeclared}
use Rattle.pli_language.specs.Declaring.{declares, when}
use Rattle.pli_language.specs.Refusals.{fault, soonest}
use Rattle.pli_language.specs.View.{name_of}
use Rattle.pli_declare.specs.Shown.{declaration_of}
use Rattle.pli_declaring.proofs.twice.noted_undeclared.Given as goal

abbrev pub invariant-loop-name : goal.invariant-loop-name
invariant-loop-name l = soonest l.found (flat_map (λ n. when (not (declares (map declaration_of l.declarations) n)) (fault n.place Undeclared)) (map name_of (drop l.name-index l.parameters))) ≡ soonest l.initial.found (flat_map (λ n. when (not (declares (map declaration_of l.declarations) n)) (fault n.place Undeclared)) (map name_of l.parameters))
