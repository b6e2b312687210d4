use Rattle.std.proofs.Common.{◌≡◌, ◌++◌, [], map, drop}
use Rattle.pli_language.specs.View.{name_of}
use Rattle.pli_listing.specs.Mentions.{mention_of, written}
use Rattle.pli_listing.proofs.mention_statement.push_parameters.Given as goal

abbrev pub invariant-loop-name : goal.invariant-loop-name
invariant-loop-name l =
    map mention_of l.out.items ++ map (written l.block []) (map name_of (drop l.name-index l.names))
    ≡ map mention_of l.initial.out.items ++ map (written l.block []) (map name_of l.names)
