use Rattle.std.proofs.Common.{◌≡◌, drop}
use Rattle.pli_serving.specs.Stored.{kept_bytes}
use Rattle.pli_signatures.specs.View.{kind_of}
use Rattle.pli_values.specs.View.{value_of}
use Rattle.pli_aggregates.specs.Runs.{standing}
use Rattle.pli_aggregates.specs.Storing.{written_at}
use Rattle.pli_aggregates.proofs.storing.store_each.Given as goal

abbrev pub invariant-loop-number : goal.invariant-loop-number
invariant-loop-number l =
    written_at (kept_bytes (kind_of l.kind) (value_of l.value)) (drop l.number (standing l.run.at l.run.step l.run.count)) l.memory
    ≡ written_at (kept_bytes (kind_of l.kind) (value_of l.value)) (standing l.run.at l.run.step l.run.count) l.initial.memory
