use Rattle.std.proofs.Common.{◌≡◌, drop, map}
use Rattle.pli_declare.specs.Shown.{declaration_of, held_of}
use Rattle.pli_declaring.specs.Members.{first_held, variables_in}
use Rattle.pli_declaring.proofs.refer.is_leaf.Given as goal

abbrev pub invariant-loop-declaration : goal.invariant-loop-declaration
invariant-loop-declaration l = first_held (variables_in (map declaration_of (drop l.declaration-index l.rest))) (held_of l.last) ≡ first_held (variables_in (map declaration_of l.rest)) (held_of l.last)
