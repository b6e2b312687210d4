use Rattle.std.proofs.Common.{◌-◌, arith, refl}
use Rattle.rv_address.specs.Around.{environment_of}
use Rattle.rv_entry.proofs.Texts.{next_filled}
use Rattle.rv_entry.proofs.text.texts_filled.Goals as goal

pub loop-left-preserved : goal.loop-left-preserved
loop-left-preserved c =
    record {
      few = omega (arith, c.loop-left.invariant.few);
      filled = next_filled (environment_of c.args.environment.now) (c.loop-left.left - 1) c.loop-left.left _ _ c.args.parameters.now _ _ _ (omega (arith, c.loop-left-test.true)) (omega (arith, c.loop-left-test.true, c.loop-left.invariant.few)) refl c.loop-left.invariant.filled c.in_ok-parameter_filled.ensures;
    }
