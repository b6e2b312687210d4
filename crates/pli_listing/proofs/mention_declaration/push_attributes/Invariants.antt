use Rattle.std.proofs.Common.{◌≡◌, ◌++◌, map, drop}
use Rattle.std.specs.List.{flat_map}
use Rattle.pli_language.specs.View.{attribute_of}
use Rattle.pli_listing.specs.Mentions.{in_attribute, mention_of}
use Rattle.pli_listing.proofs.mention_declaration.push_attributes.Given as goal

abbrev pub invariant-loop-attribute : goal.invariant-loop-attribute
invariant-loop-attribute l =
    map mention_of l.out.items
    ++ flat_map (in_attribute l.block l.structure) (map attribute_of (drop l.attribute-index l.attributes))
    ≡ map mention_of l.initial.out.items ++ flat_map (in_attribute l.block l.structure) (map attribute_of l.attributes)
