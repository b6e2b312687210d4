use Rattle.std.proofs.Common.{◌≡◌, ◌++◌, map, drop}
use Rattle.pli_typing.specs.Variables.{leaves_of}
use Rattle.pli_variables.specs.Counts.{counts_in}
use Rattle.pli_variables.specs.Held.{groups_held}
use Rattle.pli_variables.specs.Rows.{blocks_shown}
use Rattle.pli_variables.specs.ShownShapes.{counts_shown, leaves_shown}
use Rattle.pli_variables.proofs.home.Home.leaves_in.Given as goal

abbrev pub invariant-loop-members : goal.invariant-loop-members
invariant-loop-members l = record {
  leaves : leaves_shown l.out.items ++ map (λ g. leaves_of (blocks_shown l.meant.scopes.now) l.number g g) (groups_held (drop l.members-index l.groups)) ≡ map (λ g. leaves_of (blocks_shown l.meant.scopes.now) l.number g g) (groups_held l.groups);
  counts : counts_shown l.out.items ++ map counts_in (groups_held (drop l.members-index l.groups)) ≡ map counts_in (groups_held l.groups);
}
