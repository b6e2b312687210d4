use Rattle.std.proofs.Common.{◌≡◌, drop}
use Rattle.pli_signatures.specs.View.{kind_of}
use Rattle.pli_aggregates.specs.Runs.{standing}
use Rattle.pli_parts.specs.Putting.{elements_put}
use Rattle.pli_parts.proofs.storing.put_each.Given as goal

abbrev pub invariant-loop-number : goal.invariant-loop-number
invariant-loop-number l =
    elements_put (kind_of l.kind) (kind_of l.taken.kind) l.taken.bytes.items l.number
    (drop l.number (standing l.run.at l.run.step l.run.count)) l.memory
    ≡ elements_put (kind_of l.kind) (kind_of l.taken.kind) l.taken.bytes.items 0
    (standing l.run.at l.run.step l.run.count) l.fn.memory
