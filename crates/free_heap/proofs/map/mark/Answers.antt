use Rattle.std.proofs.Common.{◌/◌, ◌+◌, ◌%◌, ap, arith, slice_set}
use Rattle.std.specs.Prelude.{slice_index}
use Rattle.free_heap.proofs.BitSteps.{bit_set}
use Rattle.free_heap.proofs.map.mark.Goals as goal

pub returns : goal.returns
returns c =
    let at = 12 + c.args.place / 8 in
    ap (λ v. slice_set c.args.bytes.now at v) (bit_set (c.args.place % 8) (slice_index c.args.bytes.now at) (omega
    arith))
