use Rattle.pli_allocation.proofs.Starts.{few_bytes}
use Rattle.pli_allocation.proofs.starting.beginning_of.Goals as goal

pub invariant_of-result-2 : goal.invariant_of-result-2
invariant_of-result-2 c = record { few = few_bytes c.args.begun.now c.in_ok-bytes.bytes.items c.data_size-size.result c.in_ok-bytes.ensures c.data_size-size.ensures c.if-size-gt-MOST_CAPACITY.false }
