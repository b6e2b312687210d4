use Rattle.std.proofs.Common.{◌≡◌, ◌++◌, map, drop}
use Rattle.pli_coding.specs.Procedures.{routines_code}
use Rattle.rv_address.specs.Around.{block_place_of, environment_of}
use Rattle.rv_procedure.proofs.routine.routines_code.Given as goal

abbrev pub invariant-loop-block : goal.invariant-loop-block
invariant-loop-block l = l.code ++ routines_code (environment_of l.environment) (map block_place_of (drop l.block-index l.blocks)) ≡ l.fn.code ++ routines_code (environment_of l.environment) (map block_place_of l.blocks)
