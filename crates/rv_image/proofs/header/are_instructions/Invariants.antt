use Rattle.std.proofs.Common.{ℕ, ◌<◌, ◌+◌, ◌*◌}
use Rattle.rv_meaning.specs.Memory.{load}
use Rattle.rv_meaning.specs.Images.{IsInstruction}
use Rattle.rv_image.proofs.header.are_instructions.Given as goal

abbrev pub invariant-loop-k : goal.invariant-loop-k
invariant-loop-k l = (j : ℕ) → j < l.k → IsInstruction (load 4 l.bytes (24 + 4 * j))
