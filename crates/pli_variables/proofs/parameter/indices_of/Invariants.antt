use Rattle.std.proofs.Common.{◌≡◌, ◌++◌, drop, map}
use Rattle.pli_typing.specs.Calls.{begins_named}
use Rattle.pli_typing.specs.Variables.{index_where}
use Rattle.pli_language.specs.View.{name_of}
use Rattle.pli_variables.specs.Held.{groups_held}
use Rattle.pli_variables.proofs.parameter.indices_of.Given as goal

abbrev pub invariant-loop-name : goal.invariant-loop-name
invariant-loop-name l = l.out.items ++ map (λ n. index_where (begins_named n) (groups_held l.groups)) (map name_of (drop l.name-index l.names)) ≡ map (λ n. index_where (begins_named n) (groups_held l.groups)) (map name_of l.names)
