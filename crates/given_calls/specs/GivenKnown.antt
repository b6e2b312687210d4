-- What the statements of a procedure or a function with a copied argument know: its static ancestors, the variables of
-- the blocks around it, and its parameter.
use Rattle.std.specs.Prelude.{ℕ, ℤ, ◌<◌, ◌≤◌, ◌≡◌, Option}
use Rattle.pli_typing.specs.TypedTree as Y
use Rattle.activation_relation.specs.CodeStores.{most_levels}
use Rattle.activation_relation.specs.Layers.{Point}
use Rattle.block_runs.specs.Bodies.{Function}
use Rattle.program_runs.specs.Statements.{Block, IsAmong, IsBegun}
use Rattle.expression_runs.specs.Variables.{IsNumber, Spot}
use Rattle.variable_runs.specs.Known.{IsKnown}
use Rattle.argument_runs.specs.CopyCalls.{IsOwnParameter}
use Rattle.argument_runs.specs.Parameters.{IsParameter}
use Rattle.nested_calls.specs.Nested.{IsNested}
use Rattle.given_calls.specs.Given.{AreBeside, given_block}
use Rattle.given_calls.specs.GivenCalls.{GivenCall, IsDeclared, PassesNone, called_with}

-- its code is that of its level, in the same program
pub record IsInner (k : Block) (u : GivenCall) : Type 0 where
  pub code : u.callee.environment.level ≡ u.callee.procedure.head.level
  pub few : u.callee.procedure.head.level < most_levels
  pub program : u.callee.environment.program ≡ k.environment.program
  pub parts : u.callee.environment.parts ≡ k.environment.parts

-- where it has begun, called at a point of a block with a value
pub record Begins (g : Option Function) (k : Block) (u : GivenCall) (more : ℕ) (p : Point) (numbers : ℕ → ℕ) (z : ℤ) :
    Type 0
  where
    pub declared : IsDeclared k u more
    pub inner : IsInner k u
    pub among : IsAmong k numbers p
    pub beside : AreBeside g (called_with k u p numbers z) u.made
    pub begun : IsBegun (given_block g (called_with k u p numbers z) u.made)

pub record GivenKnown : Type 0 where
  -- it is nested in the blocks around it
  pub nested :
      (g : Option Function) (k : Block) (u : GivenCall) (more : ℕ) (p : Point) (numbers : ℕ → ℕ) (z : ℤ) →
      Begins g k u more p numbers z → IsNested (given_block g (called_with k u p numbers z) u.made)
  -- a variable of the level that declares it, or of one around that, is the same one there
  pub number :
      (g : Option Function) (k : Block) (u : GivenCall) (more : ℕ) (p : Point) (numbers : ℕ → ℕ) (z : ℤ) (x : Spot) →
      Begins g k u more p numbers z → x.level ≤ u.level → IsNumber k x →
      IsNumber (given_block g (called_with k u p numbers z) u.made) x
  -- of whatever type it is
  pub known :
      (g : Option Function) (k : Block) (u : GivenCall) (more : ℕ) (p : Point) (numbers : ℕ → ℕ) (z : ℤ) (x : Spot)
      (d : Y.DeclaredVariable) → Begins g k u more p numbers z → x.level ≤ u.level → IsKnown k x d →
      IsKnown (given_block g (called_with k u p numbers z) u.made) x d
  -- and its parameter stands for the copy
  pub own :
      (g : Option Function) (k : Block) (u : GivenCall) (more : ℕ) (p : Point) (numbers : ℕ → ℕ) (z : ℤ) (x : Spot) →
      Begins g k u more p numbers z → PassesNone k.first u.callee → IsOwnParameter u.callee x →
      IsParameter (given_block g (called_with k u p numbers z) u.made) x
