use Rattle.std.proofs.Common.{◌≡◌, ◌++◌, drop}
use Rattle.pli_listing.specs.Uses.{lines_of}
use Rattle.pli_listing.proofs.uses.lines_of.Given as goal

abbrev pub invariant-loop-used : goal.invariant-loop-used
invariant-loop-used l =
    l.lines.items ++ lines_of l.declaration l.last (drop l.used-index l.uses) ≡ lines_of l.declaration 0 l.uses
