use Rattle.std.proofs.Common.{◌≡◌, ◌++◌, drop}
use Rattle.pli_meaning.specs.DeclaredShapes.{variables_of_block}
use Rattle.pli_coding.specs.Images.{statics_of_block}
use Rattle.rv_address.specs.Around.{environment_of}
use Rattle.rv_start.proofs.statics.statics_of_block.Given as goal

abbrev pub invariant-loop-index : goal.invariant-loop-index
invariant-loop-index l = l.code ++ statics_of_block (environment_of l.environment) l.block l.index (drop l.index (variables_of_block (environment_of l.environment).program l.block)) ≡ l.fn.code ++ statics_of_block (environment_of l.environment) l.block 0 (variables_of_block (environment_of l.environment).program l.block)
