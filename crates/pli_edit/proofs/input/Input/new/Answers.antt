use Rattle.std.proofs.Common.{ap, length, false, arith}
use Rattle.pli_edit.proofs.Taking.{length-marks_of}
use Rattle.pli_edit.proofs.input.Input.new.Goals as goal

pub invariant_of-result : goal.invariant_of-result
invariant_of-result c = omega (arith, ap length c.in_ok-new.ensures, length-marks_of false c.args.input.now)
