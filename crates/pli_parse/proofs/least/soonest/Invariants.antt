use Rattle.std.proofs.Common.{◌≡◌, drop}
use Rattle.pli_language.specs.Refusals.{soonest}
use Rattle.pli_parse.proofs.least.soonest.Given as goal

abbrev pub invariant-loop-fault : goal.invariant-loop-fault
invariant-loop-fault l = soonest l.found (drop l.fault-index l.faults) ≡ soonest l.fn.found l.faults
