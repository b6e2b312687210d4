-- The laws of elements of arrays with dimensions, at the points of a block.
use Rattle.std.specs.Prelude.{ℕ, suc, ◌≡◌, List, max}
use Rattle.pli_typing.specs.Signatures.{Bounds}
use Rattle.pli_typing.specs.TypedTree as Y
use Rattle.pli_meaning.specs.Control.{Label}
use Rattle.program_runs.specs.Statements.{Block, DoesWith, IsBegun}
use Rattle.expression_runs.specs.Assignments.{setting_around}
use Rattle.expression_runs.specs.Laws as L
use Rattle.expression_runs.specs.Values.{Setting}
use Rattle.expression_runs.specs.Variables.{Spot, whole}
use Rattle.test_runs.specs.Tests.{Tests}
use Rattle.element_runs.specs.Subscripts.{SubscriptComes}
use Rattle.scalar_runs.specs.Assignments.{IsPlacedWith}
use Rattle.scalar_runs.specs.Fitted.{Fits}
use Rattle.array_runs.specs.Arrays.{Grid, IsArray, IsDimension, element}
use Rattle.array_runs.specs.Subscripts.{AreSubscripts}

-- an element in an expression: its subscripts come in their order, and each is then tested against its bounds
pub record ArraysDo : Type 0 where
  pub number :
      (k : Setting) (x : Spot) (g : Grid) (precision : ℕ) (subscripts : Y.Numbers) (need : ℕ) → IsBegun k.block →
      IsArray k.block x g → g.type ≡ Y.FixedLeaf precision → SubscriptComes k →
      AreSubscripts k 0 need g.bounds subscripts → L.Does k need (Y.NumberIn (element x subscripts))
  pub bit :
      (k : Setting) (x : Spot) (g : Grid) (subscripts : Y.Numbers) (need : ℕ) → IsBegun k.block →
      IsArray k.block x g → g.type ≡ Y.BitLeaf → SubscriptComes k → AreSubscripts k 0 need g.bounds subscripts →
      Tests k need (Y.BitIn (element x subscripts))

-- LBOUND, HBOUND and DIM of an array, by its dimensions from 1
pub record BoundsDo : Type 0 where
  pub lower :
      (k : Setting) (x : Spot) (g : Grid) (n : ℕ) (b : Bounds) → IsArray k.block x g → IsDimension g.bounds n b →
      L.Does k 0 (Y.LowerBound (whole x) (suc n))
  pub upper :
      (k : Setting) (x : Spot) (g : Grid) (n : ℕ) (b : Bounds) → IsArray k.block x g → IsDimension g.bounds n b →
      L.Does k 0 (Y.UpperBound (whole x) (suc n))
  pub elements :
      (k : Setting) (x : Spot) (g : Grid) (n : ℕ) (b : Bounds) → IsArray k.block x g → IsDimension g.bounds n b →
      L.Does k 0 (Y.ElementsOf (whole x) (suc n))

-- ---- assignments

abbrev pub number_assigned : Spot → Y.Numbers → (precision : ℕ) → Y.Number → (line : ℕ) → Y.Stmt
number_assigned x subscripts precision source line =
    Y.Assign (element x subscripts) (Y.StoredNumber precision source) line

abbrev pub bit_assigned : Spot → Y.Numbers → Y.Bit → (line : ℕ) → Y.Stmt
bit_assigned x subscripts source line = Y.Assign (element x subscripts) (Y.StoredBit source) line

-- each does what it means if its expressions do: the value waits in a register while subscripts are evaluated
pub record ArraysAssigned : Type 0 where
  pub number :
      (words : ℕ) (k : Block) (labels : List Label) (x : Spot) (g : Grid) (precision : ℕ) (subscripts : Y.Numbers)
      (source : Y.Number) (line index left' first second most : ℕ) →
      IsPlacedWith words k (number_assigned x subscripts precision source line) line index (max first second) most →
      IsArray k x g → g.type ≡ Y.FixedLeaf precision → SubscriptComes (setting_around words k labels line most) →
      Fits (setting_around words k labels line most) first precision source →
      AreSubscripts (setting_around words k labels line most) 1 second g.bounds subscripts →
      DoesWith words k labels (number_assigned x subscripts precision source line) index left'
  pub bit :
      (words : ℕ) (k : Block) (labels : List Label) (x : Spot) (g : Grid) (subscripts : Y.Numbers) (source : Y.Bit)
      (line index left' first second most : ℕ) →
      IsPlacedWith words k (bit_assigned x subscripts source line) line index (max first second) most →
      IsArray k x g → g.type ≡ Y.BitLeaf → SubscriptComes (setting_around words k labels line most) →
      Tests (setting_around words k labels line most) first source →
      AreSubscripts (setting_around words k labels line most) 1 second g.bounds subscripts →
      DoesWith words k labels (bit_assigned x subscripts source line) index left'
