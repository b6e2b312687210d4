use Rattle.std.proofs.Common.{◌≤◌, ◌^◌, arith}
use Rattle.std.proofs.Math.Nat.{pow-le-pow_right}
use Rattle.std.proofs.lemmas.Bool.Decides.{nat_tests}
use Rattle.std.proofs.lemmas.Int.{ints}
use Rattle.pli_allocation.proofs.extents.has_precision.Goals as goal

pub returns-then-precision-ge31 : goal.returns-then-precision-ge31
returns-then-precision-ge31 c =
    let h : 2 ^ 31 ≤ 2 ^ c.args.precision = pow-le-pow_right {n = 2} (omega arith) {i = 31} {j = c.args.precision} (omega arith) in
    grind (arith, nat_tests, ints)
