-- Assignments to scalars.
use Rattle.std.specs.Prelude.{ℕ, ◌+◌, ◌≤◌, List}
use Rattle.pli_typing.specs.TypedTree as Y
use Rattle.pli_meaning.specs.Control.{Label}
use Rattle.pli_coding.specs.Registers.{held_registers}
use Rattle.pli_coding.specs.Statements.{stmt_code}
use Rattle.run_steps.specs.Items.{Linked}
use Rattle.run_steps.specs.Reach.{cost}
use Rattle.program_runs.specs.Statements.{Block, DoesWith, HasAct, IsBegun, set_aside, size_with}
use Rattle.expression_runs.specs.Assignments.{setting_around}
use Rattle.expression_runs.specs.Variables.{Spot, whole}
use Rattle.test_runs.specs.Tests.{Tests}
use Rattle.scalar_runs.specs.Fitted.{Fits}
use Rattle.scalar_runs.specs.Scalars.{IsBit, IsFixed}

abbrev pub number_assignment : Spot → (precision : ℕ) → Y.Number → (line : ℕ) → Y.Stmt
number_assignment x precision source line = Y.Assign (whole x) (Y.StoredNumber precision source) line

abbrev pub bit_assignment : Spot → Y.Bit → (line : ℕ) → Y.Stmt
bit_assignment x source line = Y.Assign (whole x) (Y.StoredBit source) line

-- where one stands while so many words are set aside, how many registers its value needs, and that one act pays for it
pub record IsPlacedWith (words : ℕ) (k : Block) (stmt : Y.Stmt) (line index need most : ℕ) : Type 0 where
  pub act : HasAct k line
  pub begun : IsBegun k
  pub registers : need ≤ k.registers
  pub held : k.registers ≤ held_registers
  pub statement : Linked k.call.surroundings.links k.call.code index (stmt_code k.environment (set_aside words) stmt)
  pub paid : size_with words k stmt + most ≤ cost k.call.code

-- each does what it means if its value does
pub record ScalarsAssigned : Type 0 where
  pub number :
      (words : ℕ) (k : Block) (labels : List Label) (x : Spot) (precision : ℕ) (source : Y.Number)
      (line index left' need most : ℕ) →
      IsPlacedWith words k (number_assignment x precision source line) line index need most →
      IsFixed k x precision → Fits (setting_around words k labels line most) need precision source →
      DoesWith words k labels (number_assignment x precision source line) index left'
  pub bit :
      (words : ℕ) (k : Block) (labels : List Label) (x : Spot) (source : Y.Bit) (line index left' need most : ℕ) →
      IsPlacedWith words k (bit_assignment x source line) line index need most → IsBit k x →
      Tests (setting_around words k labels line most) need source →
      DoesWith words k labels (bit_assignment x source line) index left'
