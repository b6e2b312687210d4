use Rattle.std.proofs.Common.{◌≡◌, ◌++◌, map, drop}
use Rattle.std.specs.List.{flat_map}
use Rattle.pli_declare.specs.ShownBlocks.{block_of}
use Rattle.pli_listing.specs.Mentions.{mention_of}
use Rattle.pli_listing.specs.Uses.{used}
use Rattle.pli_listing.proofs.uses.uses.Given as goal

abbrev pub invariant-loop-mention : goal.invariant-loop-mention
invariant-loop-mention l =
    l.uses.items
    ++ flat_map (used (map block_of l.scopes.blocks.items)) (map mention_of (drop l.mention-index l.mentions))
    ≡ flat_map (used (map block_of l.scopes.blocks.items)) (map mention_of l.mentions)
