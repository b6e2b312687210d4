use Rattle.std.proofs.Common.{◌≡◌, ◌++◌, map, drop}
use Rattle.pli_types.specs.View.{pair_of}
use Rattle.pli_serving.specs.Names.{bounds_words, leaf_words}
use Rattle.pli_signatures.specs.View.{leaf_in_force}
use Rattle.pli_signatures.proofs.element.LeafInForce.words.Given as goal

abbrev pub invariant-loop-bounds : goal.invariant-loop-bounds
invariant-loop-bounds l = l.words.items ++ bounds_words (map pair_of (drop l.bounds-index l.self.bounds.items)) ≡ leaf_words (leaf_in_force l.self)
