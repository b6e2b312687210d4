use Rattle.std.proofs.Common.{◌≡◌, ◌++◌, take, drop}
use Rattle.pli_typing.specs.Variables.{with_extent}
use Rattle.pli_variables.specs.Written.{all_shown, extent_shown}
use Rattle.pli_variables.proofs.extent.place_among.Given as goal

abbrev pub invariant-loop-i : goal.invariant-loop-i
invariant-loop-i l = all_shown (take l.i l.ordered) ++ with_extent (extent_shown l.written) (all_shown (drop l.i l.ordered)) ≡ with_extent (extent_shown l.written) (all_shown l.ordered)
