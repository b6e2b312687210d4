-- Lists of numbers in expressions at the points of a block.
use Rattle.std.specs.Prelude.{ℕ, ⊤}
use Rattle.pli_typing.specs.TypedTree as Y
use Rattle.expression_runs.specs.Laws.{Does}
use Rattle.expression_runs.specs.Values.{Setting}

-- the code of each does what it means, with so many registers
abbrev pub AllDo : Setting → (need : ℕ) → Y.Numbers → Type 0
AllDo k need Y.NoNumber = ⊤
AllDo k need (Y.NumberThen first rest) = Does k need first × AllDo k need rest
