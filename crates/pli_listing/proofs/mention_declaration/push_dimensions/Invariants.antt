use Rattle.std.proofs.Common.{◌≡◌, ◌++◌, map, drop}
use Rattle.std.specs.List.{flat_map}
use Rattle.pli_language.specs.View.{declared_name_of}
use Rattle.pli_listing.specs.Mentions.{in_bounds, mention_of}
use Rattle.pli_listing.proofs.mention_declaration.push_dimensions.Given as goal

abbrev pub invariant-loop-declared : goal.invariant-loop-declared
invariant-loop-declared l =
    map mention_of l.out.items
    ++ flat_map (λ d. in_bounds l.block l.structure d.dimensions) (map declared_name_of (drop l.declared-index l.names))
    ≡ map mention_of l.initial.out.items
    ++ flat_map (λ d. in_bounds l.block l.structure d.dimensions) (map declared_name_of l.names)
