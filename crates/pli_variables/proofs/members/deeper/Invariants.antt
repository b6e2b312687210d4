use Rattle.std.proofs.Common.{◌≡◌, ◌++◌, drop, map, take}
use Rattle.pli_typing.specs.Variables.{while_deeper}
use Rattle.pli_declare.specs.Shown.{held_of}
use Rattle.pli_variables.proofs.members.deeper.Given as goal

abbrev pub invariant-loop-i : goal.invariant-loop-i
invariant-loop-i l = map held_of (take l.i l.after) ++ while_deeper (held_of l.held) (map held_of (drop l.i l.after)) ≡ while_deeper (held_of l.held) (map held_of l.after)
