use Rattle.std.proofs.Common.{◌≡◌, ◌++◌, map, drop}
use Rattle.pli_language.specs.Declaring.{statics_in}
use Rattle.pli_declare.specs.Shown.{declaration_of}
use Rattle.pli_declaring.specs.Statics.{capped_all, taken_of}
use Rattle.pli_declaring.proofs.statics.put_statics.Given as goal

abbrev pub invariant-loop-i : goal.invariant-loop-i
invariant-loop-i l = map taken_of l.out.items ++ capped_all (statics_in (map declaration_of (drop l.i l.declarations))) ≡ map taken_of l.initial.out.items ++ capped_all (statics_in (map declaration_of l.declarations))
