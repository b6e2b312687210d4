-- POINTER variables that are assigned a pointer into an area, by an offset. (X3.53-1976, chapter 9, POINTER.)
use Rattle.std.specs.Prelude.{ℕ, ◌+◌, ◌≤◌, List}
use Rattle.pli_typing.specs.TypedTree as Y
use Rattle.pli_meaning.specs.Control.{Label}
use Rattle.pli_coding.specs.Environments.{none_taken}
use Rattle.pli_coding.specs.Registers.{held_registers}
use Rattle.pli_coding.specs.Statements.{stmt_code}
use Rattle.run_steps.specs.Items.{Linked}
use Rattle.run_steps.specs.Reach.{cost}
use Rattle.program_runs.specs.Statements.{Block, Does, HasAct, size_in}
use Rattle.expression_runs.specs.Assignments.{setting_of}
use Rattle.expression_runs.specs.Variables.{Spot, variable_of, whole}
use Rattle.area_runs.specs.Allocations.{HasArea}
use Rattle.locator_runs.specs.Pointers.{IsPointer}
use Rattle.offset_runs.specs.Offsets.{Gives}

abbrev pub pointing : Spot → Y.Offset → (area : Spot) → (line : ℕ) → Y.Stmt
pointing x source a line = Y.Assign (whole x) (Y.StoredPointer (Y.PointerInto source (variable_of a))) line

-- where it stands, how many registers its offset needs, and that one act pays for it
pub record IsPointing (k : Block) (x : Spot) (source : Y.Offset) (a : Spot) (line index need most : ℕ) : Type 0 where
  pub act : HasAct k line
  pub target : IsPointer k x
  pub area : HasArea k a
  pub registers : need ≤ k.registers
  pub held : k.registers ≤ held_registers
  pub statement :
      Linked k.call.surroundings.links k.call.code index
      (stmt_code k.environment none_taken (pointing x source a line))
  pub paid : size_in k (pointing x source a line) + most ≤ cost k.call.code

-- it does what it means if its offset does; whether something lives there isn't asked
abbrev pub PointerFromOffset : Type 0
PointerFromOffset =
    (k : Block) (labels : List Label) (x : Spot) (source : Y.Offset) (a : Spot) (line index left' need most : ℕ) →
    IsPointing k x source a line index need most → Gives (setting_of k labels line most) need source →
    Does k labels (pointing x source a line) index left'
