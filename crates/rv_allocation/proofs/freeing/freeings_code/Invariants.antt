use Rattle.std.proofs.Common.{◌≡◌, ◌++◌, map, drop}
use Rattle.pli_typing.specs.TypedStatementView.{freeing_of}
use Rattle.pli_coding.specs.Allocating.{freeings_code}
use Rattle.pli_frames.specs.TakenView.{taken_of}
use Rattle.rv_address.specs.Around.{environment_of}
use Rattle.rv_allocation.proofs.freeing.freeings_code.Given as goal

abbrev pub invariant-loop-one : goal.invariant-loop-one
invariant-loop-one l = l.code ++ freeings_code (environment_of l.environment) (taken_of l.taken) (map freeing_of (drop l.one-index l.all)) ≡ l.fn.code ++ freeings_code (environment_of l.environment) (taken_of l.taken) (map freeing_of l.all)
