use Rattle.std.proofs.Common.{◌≡◌, ◌++◌, map, drop}
use Rattle.pli_typing.specs.Variables.{variables_in}
use Rattle.pli_declare.specs.Shown.{declaration_of}
use Rattle.pli_variables.specs.Held.{groups_held}
use Rattle.pli_variables.proofs.members.variables_in.Given as goal

abbrev pub invariant-loop-i : goal.invariant-loop-i
invariant-loop-i l = groups_held l.out.items ++ variables_in (map declaration_of (drop l.i l.declarations)) ≡ variables_in (map declaration_of l.declarations)
