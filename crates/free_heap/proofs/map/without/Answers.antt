use Rattle.free_heap.proofs.BitSteps.{bit_unset}
use Rattle.free_heap.proofs.map.without.Goals as goal

pub returns : goal.returns
returns c = bit_unset c.args.place c.args.byte c.requires c.ranges.byte.fits
