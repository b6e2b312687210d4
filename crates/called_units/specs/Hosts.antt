-- The block of a unit that is raised in a block which was entered since the unit's own block, its host, established
-- it. It has that block's variables of every type, and its static ancestors.
use Rattle.std.specs.Prelude.{ℕ, suc, ◌<◌, ◌≡◌}
use Rattle.pli_typing.specs.TypedTree as Y
use Rattle.activation_relation.specs.Layers.{Point}
use Rattle.program_runs.specs.Statements.{Block, IsBegun}
use Rattle.expression_runs.specs.Values.{Setting}
use Rattle.expression_runs.specs.Variables.{Spot}
use Rattle.variable_runs.specs.Known.{IsKnown}
use Rattle.array_runs.specs.Arrays.{Grid, IsArray}
use Rattle.scalar_runs.specs.Scalars.{IsScalar}
use Rattle.nested_calls.specs.Nested.{IsNested, parent_at}
use Rattle.unit_runs.specs.Raised.{AreMade, IsRaiseOf, IsRaised, Raise, Standing, unit_block}
use Rattle.unit_runs.specs.UnitVariables.{IsFurther}

-- a raise of its unit, so many blocks above it
pub record IsHosted (k : Setting) (x : Standing) (more : ℕ) (h : IsRaised k x more) (r : Raise) (o : Block) (p : Point)
    (numbers : ℕ → ℕ) (count : ℕ) : Type 0
  where
    pub further : IsFurther k x more h o p numbers count
    pub is : IsRaiseOf k x more h r
    pub made : AreMade k x r
    pub begun : IsBegun (unit_block k x r)

pub record HostsKnown : Type 0 where
  pub known :
      (k : Setting) (x : Standing) (more : ℕ) (h : IsRaised k x more) (r : Raise) (o : Block) (p : Point)
      (numbers : ℕ → ℕ) (count : ℕ) (spot : Spot) (d : Y.DeclaredVariable) →
      IsHosted k x more h r o p numbers count → spot.level < x.unit.head.level → IsKnown o spot d →
      IsKnown (unit_block k x r) spot d
  pub array :
      (k : Setting) (x : Standing) (more : ℕ) (h : IsRaised k x more) (r : Raise) (o : Block) (p : Point)
      (numbers : ℕ → ℕ) (count : ℕ) (spot : Spot) (g : Grid) →
      IsHosted k x more h r o p numbers count → spot.level < x.unit.head.level → IsArray o spot g →
      IsArray (unit_block k x r) spot g
  pub scalar :
      (k : Setting) (x : Standing) (more : ℕ) (h : IsRaised k x more) (r : Raise) (o : Block) (p : Point)
      (numbers : ℕ → ℕ) (count : ℕ) (spot : Spot) (t : Y.LeafType) →
      IsHosted k x more h r o p numbers count → spot.level < x.unit.head.level → IsScalar o spot t →
      IsScalar (unit_block k x r) spot t
  -- and what is called in it finds its static parent, as what is called in the host does
  pub nested :
      (k : Setting) (x : Standing) (more : ℕ) (h : IsRaised k x more) (r : Raise) (o : Block) (p : Point)
      (numbers : ℕ → ℕ) (count : ℕ) → IsHosted k x more h r o p numbers count →
      x.unit.head.level ≡ suc o.environment.level → IsNested o → IsNested (unit_block k x r)
  pub parent :
      (k : Setting) (x : Standing) (more : ℕ) (h : IsRaised k x more) (r : Raise) (o : Block) (p : Point)
      (numbers : ℕ → ℕ) (count level : ℕ) → IsHosted k x more h r o p numbers count → level < x.unit.head.level →
      parent_at (unit_block k x r) level ≡ parent_at o level
