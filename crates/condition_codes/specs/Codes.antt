-- ONCODE: the code for which the newest on-unit runs, 0 where none does. (X3.53-1976, chapter 6, ONCODE.)
use Rattle.std.specs.Prelude.{ℕ, ◌^◌, ◌<◌}
use Rattle.pli_typing.specs.TypedTree as Y
use Rattle.pli_meaning.specs.StorageState.{oncode_of}
use Rattle.program_runs.specs.Statements.{Block}
use Rattle.expression_runs.specs.Laws as L
use Rattle.expression_runs.specs.Values.{Setting}

-- where its first statement begins the code is one that conditions have
abbrev pub HasCode : Block → Type 0
HasCode k = oncode_of k.first.state.activations < 2 ^ 16

abbrev pub CodesTold : Type 0
CodesTold = (k : Setting) → HasCode k.block → L.Does k 0 Y.OnCode
