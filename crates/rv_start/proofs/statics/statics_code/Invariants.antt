use Rattle.std.proofs.Common.{◌≡◌, ◌++◌, drop}
use Rattle.pli_coding.specs.Images.{statics_code}
use Rattle.rv_address.specs.Around.{environment_of}
use Rattle.rv_start.proofs.statics.statics_code.Given as goal

abbrev pub invariant-loop-block : goal.invariant-loop-block
invariant-loop-block l = l.code ++ statics_code (environment_of l.environment) l.block (drop l.block (environment_of l.environment).program.variables) ≡ l.fn.code ++ statics_code (environment_of l.environment) 0 (environment_of l.environment).program.variables
