use Rattle.std.proofs.Common.{◌≡◌, ◌++◌, map, drop}
use Rattle.pli_declare.specs.Among.{letters_of}
use Rattle.pli_reference.specs.Shown.{named_of}
use Rattle.pli_reference.proofs.found.letters.Given as goal

abbrev pub invariant-loop-n : goal.invariant-loop-n
invariant-loop-n l = letters_of l.out.items ++ map (λ m. m.name.letters) (map named_of (drop l.n-index l.names)) ≡ map (λ m. m.name.letters) (map named_of l.names)
