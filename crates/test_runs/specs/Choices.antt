-- Statements that are chosen or repeated by tests, at the points of a block.
use Rattle.std.specs.Prelude.{ℕ, ◌+◌, ◌<◌, ◌≤◌, ◌++◌, List}
use Rattle.pli_typing.specs.TypedTree as Y
use Rattle.pli_meaning.specs.Control.{Label}
use Rattle.pli_meaning.specs.Executing.{labels_in}
use Rattle.pli_coding.specs.Allocating.{act_code}
use Rattle.pli_coding.specs.Assembly.{size_of}
use Rattle.pli_coding.specs.Expressions.{bit_code}
use Rattle.pli_coding.specs.Registers.{held_registers}
use Rattle.pli_coding.specs.Statements.{stmt_code}
use Rattle.run_steps.specs.Items.{Linked}
use Rattle.run_steps.specs.Reach.{cost}
use Rattle.program_runs.specs.Statements.{AreMarkedWith, Block, DoesWith, EachDoesWith, HasAct, IsBegun, set_aside}
use Rattle.program_runs.specs.Statements.{size_with}
use Rattle.expression_runs.specs.Assignments.{setting_around}
use Rattle.test_runs.specs.Tests.{Tests}

-- where a statement with a test stands while so many words are set aside, how many registers its test needs, and that
-- one act pays for it
pub record HasTestWith (words : ℕ) (k : Block) (stmt : Y.Stmt) (line index need most : ℕ) : Type 0 where
  pub act : HasAct k line
  pub registers : need ≤ k.registers
  pub held : k.registers ≤ held_registers
  pub statement : Linked k.call.surroundings.links k.call.code index (stmt_code k.environment (set_aside words) stmt)
  pub paid : size_with words k stmt + most ≤ cost k.call.code

abbrev pub HasTest : Block → Y.Stmt → (line index need most : ℕ) → Type 0
HasTest k stmt line index need most = HasTestWith 0 k stmt line index need most

-- behind an act
abbrev pub behind_act : (line index : ℕ) → ℕ
behind_act line index = index + size_of (act_code line)

-- behind a test, where what it chooses begins
abbrev pub behind_test_with : (words : ℕ) → Block → Y.Bit → (index : ℕ) → ℕ
behind_test_with words k condition index = index + size_of (bit_code k.environment (set_aside words) condition) + 3

abbrev pub behind_test : Block → Y.Bit → (index : ℕ) → ℕ
behind_test k condition index = behind_test_with 0 k condition index

-- behind what is chosen and the jump over what isn't
abbrev pub behind_choice_with : (words : ℕ) → Block → Y.Stmt → (index : ℕ) → ℕ
behind_choice_with words k unit index = index + size_with words k unit + 2

abbrev pub behind_choice : Block → Y.Stmt → (index : ℕ) → ℕ
behind_choice k unit index = behind_choice_with 0 k unit index

-- where the turns of a loop begin, and its body
abbrev pub body_index_with : (words : ℕ) → Block → Y.Bit → (line index : ℕ) → ℕ
body_index_with words k condition line index =
    behind_test_with words k condition (behind_act line (behind_act line index))

abbrev pub body_index : Block → Y.Bit → (line index : ℕ) → ℕ
body_index k condition line index = body_index_with 0 k condition line index

-- a list that is carried out in a loop: turns enough, since each jump makes an act, and its labels stand where
-- its statements do
pub record IsInnerWith (words : ℕ) (k : Block) (body : Y.Stmts) (index : ℕ) : Type 0 where
  pub begun : IsBegun k
  pub turns : k.call.surroundings.acts < k.around.turns + k.first.state.world.acts
  pub marked : AreMarkedWith words k.call.surroundings.links k.environment body index

abbrev pub IsInner : Block → Y.Stmts → (index : ℕ) → Type 0
IsInner k body index = IsInnerWith 0 k body index

-- each does what it means if its test and its statements do
pub record ChoicesDo : Type 0 where
  pub met :
      (words : ℕ) (k : Block) (labels : List Label) (condition : Y.Bit) (unit : Y.Stmt) (line index left' need most : ℕ)
      → HasTestWith words k (Y.If condition unit line) line index need most →
      Tests (setting_around words k labels line most) need condition →
      DoesWith words k labels unit (behind_test_with words k condition (behind_act line index)) left' →
      DoesWith words k labels (Y.If condition unit line) index left'
  pub one_of :
      (words : ℕ) (k : Block) (labels : List Label) (condition : Y.Bit) (unit otherwise : Y.Stmt)
      (line index left' need most : ℕ) →
      HasTestWith words k (Y.IfElse condition unit otherwise line) line index need most →
      Tests (setting_around words k labels line most) need condition →
      DoesWith words k labels unit (behind_test_with words k condition (behind_act line index)) left' →
      DoesWith words k labels otherwise (behind_choice_with words k unit (behind_test_with words k condition
      (behind_act line index))) left' → DoesWith words k labels (Y.IfElse condition unit otherwise line) index left'
  -- each turn makes an act
  pub loop :
      (words : ℕ) (k : Block) (labels : List Label) (condition : Y.Bit) (body : Y.Stmts)
      (line index left' need most : ℕ) → HasTestWith words k (Y.DoWhile condition body line) line index need most →
      Tests (setting_around words k labels line most) need condition →
      IsInnerWith words k body (body_index_with words k condition line index) →
      EachDoesWith words k (labels_in body ++ labels) body (body_index_with words k condition line index) left' →
      DoesWith words k labels (Y.DoWhile condition body line) index left'
