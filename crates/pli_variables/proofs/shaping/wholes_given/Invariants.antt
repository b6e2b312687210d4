use Rattle.std.proofs.Common.{◌≡◌, ◌++◌, drop, map}
use Rattle.pli_variables.specs.Held.{groups_held}
use Rattle.pli_variables.specs.ShownShapes.{home_of, shapes_shown, whole_given}
use Rattle.pli_variables.proofs.shaping.wholes_given.Given as goal

abbrev pub invariant-loop-members : goal.invariant-loop-members
invariant-loop-members l = shapes_shown l.out.items ++ map (whole_given (home_of l.home)) (groups_held (drop l.members-index l.home.groups.items)) ≡ map (whole_given (home_of l.home)) (home_of l.home).groups
