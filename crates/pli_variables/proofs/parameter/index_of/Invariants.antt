use Rattle.std.proofs.Common.{◌≡◌, ◌+◌, drop}
use Rattle.pli_typing.specs.Calls.{begins_named}
use Rattle.pli_typing.specs.Variables.{index_where}
use Rattle.pli_language.specs.View.{name_of}
use Rattle.pli_variables.specs.Held.{groups_held}
use Rattle.pli_variables.proofs.parameter.index_of.Given as goal

abbrev pub invariant-loop-i : goal.invariant-loop-i
invariant-loop-i l = l.i + index_where (begins_named (name_of l.name)) (groups_held (drop l.i l.groups)) ≡ index_where (begins_named (name_of l.name)) (groups_held l.groups)
