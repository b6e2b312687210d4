-- PUT SKIP: lines are ended, by an act of its own.
use Rattle.std.specs.Prelude.{ℕ, ◌≤◌, [], Some, List}
use Rattle.pli_typing.specs.TypedTree as Y
use Rattle.pli_meaning.specs.Control.{Label}
use Rattle.pli_coding.specs.Environments.{none_taken}
use Rattle.pli_coding.specs.Statements.{stmt_code}
use Rattle.run_steps.specs.Items.{Linked}
use Rattle.program_runs.specs.Statements.{Block, Does, HasAct}

-- so many lines end
abbrev pub skipping : (lines line : ℕ) → Y.Stmt
skipping lines line = Y.Put (Some lines) [] line

-- where it stands; the language lets it end from 1 to 1,000 lines
pub record IsSkip (k : Block) (lines line index : ℕ) : Type 0 where
  pub act : HasAct k line
  pub some : 1 ≤ lines
  pub most : lines ≤ 1000
  pub statement :
      Linked k.call.surroundings.links k.call.code index (stmt_code k.environment none_taken (skipping lines line))

abbrev pub SkipsDo : Type 0
SkipsDo =
    (k : Block) (labels : List Label) (lines line index left' : ℕ) → IsSkip k lines line index →
    Does k labels (skipping lines line) index left'
