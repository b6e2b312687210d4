-- Words of a frame that a statement has set aside: a block at whose points the newest layer tells what they hold.
use Rattle.std.specs.Prelude.{ℕ, ◌==◌, List, Option, Some, if◌then◌else◌}
use Rattle.activation_relation.specs.Layers.{Layer}
use Rattle.program_runs.specs.Statements.{Block}
use Rattle.argument_runs.specs.Lists.{with_list}

-- one more of them is told
abbrev pub with_word : (n given : ℕ) → (ℕ → Option ℕ) → ℕ → Option ℕ
with_word n given waits i = if i == n then Some given else waits i

-- the block whose newest layer is φ, above φs, while its words hold that
abbrev pub telling : (ℕ → Option ℕ) → Layer → List Layer → Block → Block
telling waits φ φs k = record k { first = with_list waits φ φs k.first }
