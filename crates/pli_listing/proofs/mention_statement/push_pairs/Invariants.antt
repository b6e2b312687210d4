use Rattle.std.proofs.Common.{◌≡◌, ◌++◌, map, drop}
use Rattle.std.specs.List.{flat_map}
use Rattle.pli_language.specs.View.{edit_pair_of}
use Rattle.pli_listing.specs.Mentions.{in_exprs, mention_of}
use Rattle.pli_listing.proofs.mention_statement.push_pairs.Given as goal

abbrev pub invariant-loop-pair : goal.invariant-loop-pair
invariant-loop-pair l =
    map mention_of l.out.items
    ++ flat_map (λ p. in_exprs l.block p.items) (map edit_pair_of (drop l.pair-index l.pairs))
    ≡ map mention_of l.initial.out.items ++ flat_map (λ p. in_exprs l.block p.items) (map edit_pair_of l.pairs)
