use Rattle.free_heap.proofs.MapSteps.{map_put}
use Rattle.free_heap.proofs.generations.copy_map.Goals as goal

pub returns : goal.returns
returns c =
    map_put c.args.bytes.now c.args.from.now c.copy_bits.new.map c.args.count c.args.from_count c.min-shared.result
    c.requires.to_inside
    c.requires.from_inside c.min-shared.ensures c.copy_bits.ensures
