use Rattle.std.proofs.Common.{◌≡◌, ◌++◌, [], map, drop}
use Rattle.pli_language.specs.View.{declare_item_of}
use Rattle.pli_listing.specs.Mentions.{in_declare, mention_of}
use Rattle.pli_listing.proofs.mention_declaration.push_declare.Given as goal

abbrev pub invariant-loop-item : goal.invariant-loop-item
invariant-loop-item l =
    map mention_of l.out.items ++ in_declare l.block l.structure (map declare_item_of (drop l.item-index l.items))
    ≡ map mention_of l.initial.out.items ++ in_declare l.block [] (map declare_item_of l.items)
