use Rattle.std.proofs.Common.{◌≡◌, ◌≤◌, ℕ, map, drop, length}
use Rattle.std.specs.Prelude.{nat_eq}
use Rattle.indexmap.specs.IndexMap.{get}
use Rattle.pli_typing.specs.TypedStatementView.{procedure_of}
use Rattle.pli_frames.specs.Plans.{parameters_found}
use Rattle.pli_frames.proofs.plan.parameters_by_number.Given as goal

abbrev pub invariant-loop-left : goal.invariant-loop-left
invariant-loop-left l = record {
  within : l.left ≤ length l.procedures;
  found : (n : ℕ) → get nat_eq l.counts n ≡ parameters_found n (map procedure_of (drop l.left l.procedures));
}

abbrev pub decreases-loop-left : goal.decreases-loop-left
decreases-loop-left l = l.left
