use Rattle.std.proofs.Common.{ℕ, ◌<◌, slice_index}
use Rattle.rv_meaning.specs.Images.{IsInstruction}
use Rattle.rv_image.proofs.image.are_instructions.Given as goal

abbrev pub invariant-loop-word : goal.invariant-loop-word
invariant-loop-word l = (k : ℕ) → k < l.word-index → IsInstruction (slice_index l.words k)
