-- A begin block is nested in the blocks around it, whose variables are the same ones there.
use Rattle.std.specs.Prelude.{ℕ, ◌≤◌, List}
use Rattle.pli_typing.specs.TypedTree as Y
use Rattle.pli_meaning.specs.Control.{Label}
use Rattle.activation_relation.specs.Layers.{Point}
use Rattle.program_runs.specs.Statements.{Block, IsAmong, IsBegun}
use Rattle.expression_runs.specs.Variables.{IsNumber, Spot}
use Rattle.variable_runs.specs.Known.{IsKnown}
use Rattle.nested_calls.specs.Nested.{IsNested}
use Rattle.begin_runs.specs.BeginBlocks.{AreMade, Inner, IsBegin, inner_block}

pub record InnerBlocks : Type 0 where
  pub nested :
      (k : Block) (labels : List Label) (x : Inner) (index more : ℕ) → IsBegin k x index more → IsNested k →
      (p : Point) (numbers : ℕ → ℕ) → IsAmong k numbers p → AreMade k x index p numbers →
      IsBegun (inner_block k labels p numbers x index) → IsNested (inner_block k labels p numbers x index)
  pub number :
      (k : Block) (labels : List Label) (x : Inner) (index more : ℕ) (spot : Spot) → IsBegin k x index more →
      IsNested k → spot.level ≤ k.environment.level → IsNumber k spot → (p : Point) (numbers : ℕ → ℕ) →
      IsAmong k numbers p → AreMade k x index p numbers → IsBegun (inner_block k labels p numbers x index) →
      IsNumber (inner_block k labels p numbers x index) spot
  -- of any type
  pub known :
      (k : Block) (labels : List Label) (x : Inner) (index more : ℕ) (spot : Spot) (d : Y.DeclaredVariable) →
      IsBegin k x index more → IsNested k → spot.level ≤ k.environment.level → IsKnown k spot d → (p : Point)
      (numbers : ℕ → ℕ) → IsAmong k numbers p → AreMade k x index p numbers →
      IsBegun (inner_block k labels p numbers x index) → IsKnown (inner_block k labels p numbers x index) spot d
