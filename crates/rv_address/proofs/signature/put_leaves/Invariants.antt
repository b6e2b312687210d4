use Rattle.std.proofs.Common.{◌≡◌, ◌++◌, map, drop}
use Rattle.rv_meaning.specs.Tables.{leaves_words}
use Rattle.pli_typing.specs.TypedView.{leaf_of}
use Rattle.pli_coding.specs.SignatureTable.{table_leaf}
use Rattle.rv_address.proofs.signature.put_leaves.Given as goal

abbrev pub invariant-loop-leaf : goal.invariant-loop-leaf
invariant-loop-leaf l = l.words.items ++ leaves_words (map table_leaf (map leaf_of (drop l.leaf-index l.leaves))) ≡ l.fn.words.items ++ leaves_words (map table_leaf (map leaf_of l.leaves))
