use Rattle.std.proofs.Common.{◌≡◌, ◌++◌, map, drop}
use Rattle.std.specs.List.{flat_map}
use Rattle.pli_declare.specs.Shown.{held_of}
use Rattle.pli_typing.specs.Variables.{open_in}
use Rattle.pli_variables.specs.Written.{all_shown}
use Rattle.pli_variables.proofs.extent.open_in_all.Given as goal

abbrev pub invariant-loop-held : goal.invariant-loop-held
invariant-loop-held l = all_shown l.out.items ++ flat_map open_in (map held_of (drop l.held-index l.all)) ≡ flat_map open_in (map held_of l.all)
