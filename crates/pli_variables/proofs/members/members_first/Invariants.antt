use Rattle.std.proofs.Common.{◌≡◌, ◌++◌, map, drop}
use Rattle.pli_typing.specs.Variables.{members_first}
use Rattle.pli_declare.specs.Shown.{declaration_of, held_of}
use Rattle.pli_variables.proofs.members.members_first.Given as goal

abbrev pub invariant-loop-declaration : goal.invariant-loop-declaration
invariant-loop-declaration l = map held_of l.members.items ++ members_first (map declaration_of (drop l.declaration-index l.declarations)) ≡ members_first (map declaration_of l.declarations)
