-- What temporaries take, against a bound that counts a word for each number that waits.
use Rattle.std.specs.Prelude.{ℕ, ◌+◌, ◌≤◌}
use Rattle.pli_typing.specs.TypedTree as Y
use Rattle.pli_coding.specs.Environments.{Taken}
use Rattle.pli_coding.specs.Temporaries.{number_takes}
use Rattle.pli_coding.specs.Statements.{stmts_take}
use Rattle.temporary_bounds.specs.WordBounds.{number_words, stmts_words}
use Rattle.temporary_bounds.specs.Spare.{spare}

-- statements take no more words
abbrev pub StatementsBounded : Type 0
StatementsBounded = (t : Taken) (body : Y.Stmts) → (stmts_take t body).words ≤ t.words + stmts_words body

-- and a number as many, but for those that registers hold
abbrev pub NumbersNeeded : Type 0
NumbersNeeded = (t : Taken) (x : Y.Number) → t.words + number_words x ≤ (number_takes t x).words + spare t
