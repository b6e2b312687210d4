-- DO with a variable that starts once: it is assigned, and then there is one turn, with WHILE if its test is met.
use Rattle.std.specs.Prelude.{ℕ, ◌+◌, ◌<◌, ◌≤◌, List, ◌++◌, Option, None, Some}
use Rattle.pli_typing.specs.TypedTree as Y
use Rattle.pli_meaning.specs.Control.{Label}
use Rattle.pli_meaning.specs.Executing.{labels_in}
use Rattle.pli_coding.specs.Assembly.{size_of}
use Rattle.pli_coding.specs.Statements.{stmt_code}
use Rattle.run_steps.specs.Items.{Linked}
use Rattle.program_runs.specs.Statements.{AreMarkedWith, Block, DoesWith, EachDoesWith, HasAct, IsBegun, set_aside}
use Rattle.program_runs.specs.Statements.{size_with}
use Rattle.expression_runs.specs.Assignments.{setting_around}
use Rattle.test_runs.specs.Choices.{HasTestWith, behind_act, behind_test_with}
use Rattle.test_runs.specs.Tests.{Tests}

-- its variable, where it starts, and its statements
pub record Once : Type 0 where
  pub variable : Y.Reference
  pub start : Y.Stored
  pub body : Y.Stmts
  pub line : ℕ

abbrev pub once_of : (condition : Option Y.Bit) → Once → Y.Stmt
once_of condition x = Y.DoOnce x.variable x.start condition x.body x.line

-- the assignment that it begins with, whose act is its own
abbrev pub started : Once → Y.Stmt
started x = Y.Assign x.variable x.start x.line

abbrev pub started_index : (words : ℕ) → Block → Once → (index : ℕ) → ℕ
started_index words k x index = index + size_with words k (started x)

-- with WHILE an act and the test stand before its statements
abbrev pub turn_index : (words : ℕ) → Block → Once → (condition : Option Y.Bit) → (index : ℕ) → ℕ
turn_index words k x None index = started_index words k x index
turn_index words k x (Some condition) index =
    behind_test_with words k condition (behind_act x.line (started_index words k x index))

-- where it stands while so many words are set aside, with the labels of its list; and turns enough for the jumps to
-- these
pub record IsOnce (words : ℕ) (k : Block) (x : Once) (condition : Option Y.Bit) (index : ℕ) : Type 0 where
  pub begun : IsBegun k
  pub statement :
      Linked k.call.surroundings.links k.call.code index
      (stmt_code k.environment (set_aside words) (once_of condition x))
  pub marks : AreMarkedWith words k.call.surroundings.links k.environment x.body (turn_index words k x condition index)
  pub turns : k.call.surroundings.acts < k.around.turns + k.first.state.world.acts

-- it does what it means if the assignment does, its test, and each of its statements, which may jump to labels of its
-- list, too
pub record OncesDo : Type 0 where
  pub plain :
      (words : ℕ) (k : Block) (labels : List Label) (x : Once) (index left' : ℕ) → IsOnce words k x None index →
      DoesWith words k labels (started x) index left' →
      EachDoesWith words k (labels_in x.body ++ labels) x.body (turn_index words k x None index) left' →
      DoesWith words k labels (once_of None x) index left'
  pub tested :
      (words : ℕ) (k : Block) (labels : List Label) (x : Once) (condition : Y.Bit) (index left' need most : ℕ) →
      IsOnce words k x (Some condition) index →
      HasTestWith words k (once_of (Some condition) x) x.line index need most →
      DoesWith words k labels (started x) index left' →
      Tests (setting_around words k labels x.line most) need condition →
      EachDoesWith words k (labels_in x.body ++ labels) x.body (turn_index words k x (Some condition) index) left' →
      DoesWith words k labels (once_of (Some condition) x) index left'
