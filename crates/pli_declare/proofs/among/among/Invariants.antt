use Rattle.std.proofs.Common.{◌≡◌, map, drop, filter}
use Rattle.pli_language.specs.declared.scope.Found.TheVariants as F
use Rattle.pli_declare.specs.Among.{full_at, part_at, going, letters_of}
use Rattle.pli_declare.specs.Shown.{declaration_of}
use Rattle.pli_declare.proofs.among.among.Given as goal

abbrev pub invariant-loop-index : goal.invariant-loop-index
invariant-loop-index l = going l.block l.found (filter (full_at (letters_of l.qualifiers) (map declaration_of l.declarations)) (drop l.index-index l.places)) (filter (part_at (letters_of l.qualifiers) (map declaration_of l.declarations)) (drop l.index-index l.places)) ≡ going l.block F.None (filter (full_at (letters_of l.qualifiers) (map declaration_of l.declarations)) l.places) (filter (part_at (letters_of l.qualifiers) (map declaration_of l.declarations)) l.places)
