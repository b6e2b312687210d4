use Rattle.std.proofs.Common.{◌≡◌, ◌++◌, take}
use Rattle.rv_meaning.specs.Memory.{bytes_of_words}
use Rattle.rv_image.proofs.word.push_words.Given as goal

abbrev pub invariant-loop-word : goal.invariant-loop-word
invariant-loop-word l = l.out.items ≡ l.fn.out.items ++ bytes_of_words (take l.word-index l.words)
