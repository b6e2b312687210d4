-- The variables of a unit: it has none of its own, and those of the block that established it.
use Rattle.std.specs.Prelude.{ℕ, ◌<◌, ◌≡◌, ◌⊎◌, [], drop}
use Rattle.pli_typing.specs.TypedTree as Y
use Rattle.pli_meaning.specs.DeclaredShapes.{variables_of_block}
use Rattle.activation_relation.specs.Layers.{Point}
use Rattle.activation_relation.specs.Remaining.{Remains}
use Rattle.program_runs.specs.Statements.{Block, IsAmong, IsBegun, own_height}
use Rattle.expression_runs.specs.Values.{Setting}
use Rattle.expression_runs.specs.Variables.{IsNumber, Spot}
use Rattle.unit_runs.specs.Raised.{AreMade, IsRaiseOf, IsRaised, Raise, Standing, unit_block}

-- the unit stands in the block in which its condition is raised, in the same program
pub record IsOwnUnit (k : Setting) (x : Standing) (more : ℕ) (h : IsRaised k x more) : Type 0 where
  pub own : h.by.height ≡ own_height k.block
  pub level : k.block.environment.level ≡ k.block.call.beginning.layer.level
  pub inner : x.environment.level ≡ x.unit.head.level
  pub program : x.environment.program ≡ k.block.environment.program
  pub parts : x.environment.parts ≡ k.block.environment.parts

-- a single statement declares nothing, and a block may declare nothing
pub record HasNone (x : Standing) : Type 0 where
  pub kind :
      (x.unit.head.kind ≡ Y.SimpleUnit)
      ⊎ ((x.unit.head.kind ≡ Y.UnitBlock) × (variables_of_block x.around.program x.unit.head.number ≡ []))
  pub code : x.variables ≡ []
  pub made : x.made ≡ (λ (q : Point). q)

-- the unit stands in a block further out, or in one that called: so many blocks have been entered since, from a point
-- of that block on
pub record IsFurther (k : Setting) (x : Standing) (more : ℕ) (h : IsRaised k x more) (o : Block) (p : Point)
    (numbers : ℕ → ℕ) (count : ℕ) : Type 0 where
  pub begun : IsBegun o
  pub among : IsAmong o numbers p
  pub activations : drop count k.block.first.state.activations ≡ p.state.activations
  pub layers : drop count k.block.first.control.layers ≡ p.control.layers
  pub remains : Remains p k.block.first
  pub own : h.by.height ≡ own_height o
  pub level : o.environment.level ≡ o.call.beginning.layer.level
  pub inner : x.environment.level ≡ x.unit.head.level
  pub program : x.environment.program ≡ o.environment.program
  pub parts : x.environment.parts ≡ o.environment.parts

pub record UnitVariables : Type 0 where
  -- such a unit makes none
  pub none : (k : Setting) (x : Standing) (r : Raise) → HasNone x → AreMade k x r
  -- a variable of the block, or of one around it, is the same one in the unit
  pub outer :
      (k : Setting) (x : Standing) (more : ℕ) (h : IsRaised k x more) (r : Raise) (spot : Spot) →
      IsOwnUnit k x more h → IsRaiseOf k x more h r → AreMade k x r → IsBegun (unit_block k x r) →
      spot.level < x.unit.head.level → IsNumber k.block spot → IsNumber (unit_block k x r) spot
  -- and so is a variable of such a block
  pub further :
      (k : Setting) (x : Standing) (more : ℕ) (h : IsRaised k x more) (r : Raise) (spot : Spot) (o : Block) (p : Point)
      (numbers : ℕ → ℕ) (count : ℕ) → IsFurther k x more h o p numbers count → IsRaiseOf k x more h r →
      AreMade k x r → IsBegun (unit_block k x r) → spot.level < x.unit.head.level → IsNumber o spot →
      IsNumber (unit_block k x r) spot
