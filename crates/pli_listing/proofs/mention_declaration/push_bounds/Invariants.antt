use Rattle.std.proofs.Common.{◌≡◌, ◌++◌, map, drop}
use Rattle.std.specs.List.{flat_map}
use Rattle.pli_language.specs.View.{bound_of}
use Rattle.pli_listing.specs.Mentions.{in_bound, mention_of}
use Rattle.pli_listing.proofs.mention_declaration.push_bounds.Given as goal

abbrev pub invariant-loop-bound : goal.invariant-loop-bound
invariant-loop-bound l =
    map mention_of l.out.items ++ flat_map (in_bound l.block l.structure) (map bound_of (drop l.bound-index l.bounds))
    ≡ map mention_of l.initial.out.items ++ flat_map (in_bound l.block l.structure) (map bound_of l.bounds)
