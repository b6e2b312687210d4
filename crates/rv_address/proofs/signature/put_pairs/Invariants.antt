use Rattle.std.proofs.Common.{◌≡◌, ◌++◌, map, drop}
use Rattle.rv_meaning.specs.Tables.{pairs_words}
use Rattle.pli_typing.specs.TypedView.{bounds_of}
use Rattle.pli_coding.specs.SignatureTable.{pair_of}
use Rattle.rv_address.proofs.signature.put_pairs.Given as goal

abbrev pub invariant-loop-bounds : goal.invariant-loop-bounds
invariant-loop-bounds l = l.words.items ++ pairs_words (map pair_of (map bounds_of (drop l.bounds-index l.dimensions))) ≡ l.fn.words.items ++ pairs_words (map pair_of (map bounds_of l.dimensions))
