use Rattle.std.proofs.Common.{arith}
use Rattle.std.proofs.lemmas.List.{get_or_default}
use Rattle.rv_address.specs.Around.{environment_of}
use Rattle.rv_procedure.proofs.Steps.{next_block}
use Rattle.rv_procedure.proofs.routine.routines_code.Goals as goal

pub loop-block-preserved : goal.loop-block-preserved
loop-block-preserved c =
    next_block (environment_of c.args.environment.now) c.args.blocks.now c.loop-block.block-index _ _ _ _ (omega (arith, c.loop-block-test.true)) (get_or_default c.args.blocks.now c.loop-block.block-index _ _ (omega (arith, c.loop-block-test.true))) c.in_ok-routines_in.ensures c.loop-block.invariant
