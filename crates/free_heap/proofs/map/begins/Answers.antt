use Rattle.std.proofs.Common.{◌/◌, ◌+◌, ◌%◌, sym, ap, arith}
use Rattle.std.specs.Prelude.{slice_index, ◌==◌}
use Rattle.free_heap.proofs.BitSteps.{bit_quotient}
use Rattle.free_heap.proofs.map.begins.Goals as goal

pub returns : goal.returns
returns c =
    ap (λ n. n == 1) (sym (bit_quotient (c.args.place % 8) (slice_index c.args.bytes.now (12 + c.args.place / 8))
    (omega arith)))
