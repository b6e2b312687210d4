use Rattle.std.proofs.Common.{◌≡◌, ◌++◌, drop}
use Rattle.pli_meaning.specs.DeclaredShapes.{variables_of_block}
use Rattle.pli_coding.specs.Procedures.{routines_of_block}
use Rattle.rv_address.specs.Around.{environment_of}
use Rattle.rv_procedure.proofs.routine.routines_of_block.Given as goal

abbrev pub invariant-loop-index : goal.invariant-loop-index
invariant-loop-index l = l.code ++ routines_of_block (environment_of l.environment) l.index (drop l.index (variables_of_block (environment_of l.environment).program (environment_of l.environment).block)) ≡ l.fn.code ++ routines_of_block (environment_of l.environment) 0 (variables_of_block (environment_of l.environment).program (environment_of l.environment).block)
