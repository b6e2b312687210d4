use Rattle.std.proofs.Common.{◌≡◌, ◌++◌, map, drop}
use Rattle.std.specs.List.{flat_map}
use Rattle.pli_language.specs.View.{allocation_of}
use Rattle.pli_listing.specs.Mentions.{in_allocation, mention_of}
use Rattle.pli_listing.proofs.mention_statement.push_allocations.Given as goal

abbrev pub invariant-loop-allocation : goal.invariant-loop-allocation
invariant-loop-allocation l =
    map mention_of l.out.items
    ++ flat_map (in_allocation l.block) (map allocation_of (drop l.allocation-index l.allocations))
    ≡ map mention_of l.initial.out.items ++ flat_map (in_allocation l.block) (map allocation_of l.allocations)
