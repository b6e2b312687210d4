use Rattle.std.proofs.Common.{◌≡◌, drop}
use Rattle.pli_aggregates.specs.Runs.{standing}
use Rattle.pli_parts.specs.Buffers.{are_short}
use Rattle.pli_parts.proofs.gathering.are_short.Given as goal

abbrev pub invariant-loop-number : goal.invariant-loop-number
invariant-loop-number l =
    are_short l.most l.memory (drop l.number (standing l.run.at l.run.step l.run.count))
    ≡ are_short l.most l.memory (standing l.run.at l.run.step l.run.count)
