use Rattle.std.proofs.Common.{◌≡◌, ◌≤◌, length}
use Rattle.std.specs.Prelude.{nat_le}
use Rattle.controlled_gens.proofs.Trimming.{trimmed}
use Rattle.controlled_gens.proofs.roots.end_above.Given as goal

abbrev pub invariant-loop-index : goal.invariant-loop-index
invariant-loop-index l =
    (l.roots.entries ≡ trimmed (λ e. nat_le e.1.owner l.owner) l.index l.initial.roots.entries) × (l.index ≤ length l.initial.roots.entries)

abbrev pub decreases-loop-index : goal.decreases-loop-index
decreases-loop-index l = l.index
