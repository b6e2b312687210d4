use Rattle.std.proofs.Common.{◌≡◌, ◌≤◌, length, take}
use Rattle.pli_language.specs.Means.{is_part}
use Rattle.pli_declare.specs.Among.{letters_of, names_above}
use Rattle.pli_declare.specs.Levels.{levels_of, variable_of}
use Rattle.pli_declare.proofs.qualifiers.is_part.Given as goal

abbrev pub invariant-loop-rest : goal.invariant-loop-rest
invariant-loop-rest l = record {
  within : l.left ≤ length l.qualifiers;
  part : is_part (letters_of (take l.left l.qualifiers)) (names_above (levels_of (variable_of l.first) l.rest)) ≡ is_part (letters_of l.qualifiers) (names_above (levels_of (variable_of l.first) l.levels));
}
