use Rattle.std.proofs.Common.{◌≤◌, ◌∙◌, arith, length, min, sym}
use Rattle.pli_parts.proofs.Puts.{no_more_whole}
use Rattle.pli_parts.proofs.storing.are_whole.Goals as goal

pub returns : goal.returns
returns c =
    let past : min (length c.args.leaves.now) (length c.args.taken.now) ≤ c.loop-number.number = omega (arith, c.min-both.ensures, c.loop-number-test.false) in
    sym (no_more_whole c.args.leaves.now c.args.taken.now c.loop-number.number past) ∙ c.loop-number.invariant
