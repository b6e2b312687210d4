use Rattle.std.proofs.Common.{◌≡◌, ◌++◌, map, drop}
use Rattle.pli_typing.specs.TypedStatementView.{allocation_of}
use Rattle.pli_coding.specs.Allocating.{allocations_code}
use Rattle.pli_frames.specs.TakenView.{taken_of}
use Rattle.rv_address.specs.Around.{environment_of}
use Rattle.rv_allocation.proofs.allocation.allocations_code.Given as goal

abbrev pub invariant-loop-one : goal.invariant-loop-one
invariant-loop-one l = l.code ++ allocations_code (environment_of l.environment) (taken_of l.taken) l.line (map allocation_of (drop l.one-index l.all)) ≡ l.fn.code ++ allocations_code (environment_of l.environment) (taken_of l.taken) l.line (map allocation_of l.all)
