use Rattle.std.proofs.Common.{◌≡◌, ◌++◌, drop, map}
use Rattle.pli_typing.specs.TypedView.{leaf_of as leaf_typed}
use Rattle.pli_typing.specs.Variables.{leaf_of, leaves_in}
use Rattle.pli_declare.specs.Shown.{held_of}
use Rattle.pli_variables.specs.Rows.{blocks_shown}
use Rattle.pli_variables.specs.Written.{all_shown}
use Rattle.pli_variables.proofs.leaf.leaves_among.Given as goal

abbrev pub invariant-loop-i : goal.invariant-loop-i
invariant-loop-i l = map leaf_typed l.leaves.items ++ map (leaf_of (blocks_shown l.meant.scopes.now) l.block (all_shown l.written)) (leaves_in (map held_of (drop l.i l.members))) ≡ map (leaf_of (blocks_shown l.meant.scopes.now) l.block (all_shown l.written)) (leaves_in (map held_of l.members))
