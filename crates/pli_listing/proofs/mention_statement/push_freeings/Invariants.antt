use Rattle.std.proofs.Common.{◌≡◌, ◌++◌, map, drop}
use Rattle.std.specs.List.{flat_map}
use Rattle.pli_language.specs.View.{freeing_of}
use Rattle.pli_listing.specs.Mentions.{in_freeing, mention_of}
use Rattle.pli_listing.proofs.mention_statement.push_freeings.Given as goal

abbrev pub invariant-loop-freeing : goal.invariant-loop-freeing
invariant-loop-freeing l =
    map mention_of l.out.items ++ flat_map (in_freeing l.block) (map freeing_of (drop l.freeing-index l.freeings))
    ≡ map mention_of l.initial.out.items ++ flat_map (in_freeing l.block) (map freeing_of l.freeings)
