-- DO groups among the statements of a block.
use Rattle.std.specs.Prelude.{ℕ, ◌+◌, ◌≤◌, List, ◌++◌}
use Rattle.pli_typing.specs.TypedTree as Y
use Rattle.pli_meaning.specs.Control.{Label}
use Rattle.pli_meaning.specs.Executing.{labels_in}
use Rattle.pli_coding.specs.Allocating.{act_code}
use Rattle.pli_coding.specs.Assembly.{size_of}
use Rattle.pli_coding.specs.Statements.{stmt_code}
use Rattle.run_steps.specs.Items.{Linked}
use Rattle.program_runs.specs.Statements.{AreMarkedWith, Block, DoesWith, EachDoesWith, HasAct, IsBegun, set_aside}

-- where its list begins
abbrev pub list_index : (line index : ℕ) → ℕ
list_index line index = index + size_of (act_code line)

-- where it stands while so many words are set aside, with the labels of its list; and turns enough for the jumps to
-- these
pub record IsGroupWith (words : ℕ) (k : Block) (body : Y.Stmts) (line index : ℕ) : Type 0 where
  pub act : HasAct k line
  pub begun : IsBegun k
  pub statement :
      Linked k.call.surroundings.links k.call.code index (stmt_code k.environment (set_aside words) (Y.Do body line))
  pub marks : AreMarkedWith words k.call.surroundings.links k.environment body (list_index line index)
  pub turns : k.call.surroundings.acts ≤ k.around.turns + k.first.state.world.acts

abbrev pub IsGroup : Block → Y.Stmts → (line index : ℕ) → Type 0
IsGroup k body line index = IsGroupWith 0 k body line index

-- a group does what it means if each of its statements does, which may jump to labels of its list, too
abbrev pub GroupsDo : Type 0
GroupsDo =
    (words : ℕ) (k : Block) (labels : List Label) (body : Y.Stmts) (line index left' : ℕ) →
    IsGroupWith words k body line index →
    EachDoesWith words k (labels_in body ++ labels) body (list_index line index) left' →
    DoesWith words k labels (Y.Do body line) index left'
