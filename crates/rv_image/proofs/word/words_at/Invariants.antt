use Rattle.std.proofs.Common.{◌≡◌}
use Rattle.rv_meaning.specs.Images.{words_at}
use Rattle.rv_image.proofs.word.words_at.Given as goal

abbrev pub invariant-loop-k : goal.invariant-loop-k
invariant-loop-k l = l.words.items ≡ words_at l.k l.bytes l.at
