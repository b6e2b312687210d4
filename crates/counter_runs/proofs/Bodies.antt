-- Statements in a turn, while two words more are set aside.
use Rattle.std.proofs.Common.{ℕ, ◌+◌, List, ◌++◌, arith}
use Rattle.pli_typing.specs.TypedTree as Y
use Rattle.pli_meaning.specs.Control.{Label}
use Rattle.pli_meaning.specs.Executing as M
use Rattle.program_runs.specs.Statements.{Block, EachDoesWith}
use Rattle.program_runs.proofs.Lists.{list_with}
use Rattle.test_runs.specs.Choices.{IsInnerWith}
use Rattle.counter_runs.specs.Counts.{TurnDoes}

pub turn_does :
    (words : ℕ) (k : Block) (labels : List Label) (body : Y.Stmts) (index left' : ℕ) →
    IsInnerWith (words + 2) k body index → EachDoesWith (words + 2) k (M.labels_in body ++ labels) body index left' →
    TurnDoes words k labels body index left'
turn_does words k labels body index left' is each p numbers c wanted f o l fits there =
    let most = is.turns in
    let first = o.later.acts in
    list_with (words + 2) k labels body index left' p numbers c wanted f is.begun (omega (arith, most, first)) each
    is.marked o l fits there
