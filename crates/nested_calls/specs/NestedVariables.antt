-- Variables of a block, and of those around it, in what is called from it, at any level around.
use Rattle.std.specs.Prelude.{ℕ, suc, ◌<◌, ◌≤◌, ◌≡◌}
use Rattle.pli_typing.specs.TypedTree as Y
use Rattle.activation_relation.specs.CodeStores.{most_levels}
use Rattle.activation_relation.specs.Layers.{Point}
use Rattle.program_runs.specs.Calls.{AreMade, Callee, block_at}
use Rattle.program_runs.specs.Statements.{Block, IsAmong, IsBegun}
use Rattle.expression_runs.specs.Variables.{IsNumber, Spot}
use Rattle.variable_runs.specs.Known.{IsKnown}
use Rattle.function_runs.specs.Functions.{function_block}
use Rattle.nested_calls.specs.Nested.{IsNested, parent_at}

-- the block's ancestor at a level declares what is called
pub record IsInside (k : Block) (c : Callee) (level : ℕ) : Type 0 where
  pub begun : IsBegun k
  pub nested : IsNested k
  pub around_it : level ≤ k.environment.level
  pub inner : c.procedure.head.level ≡ suc level
  pub parent : c.calling.parent ≡ parent_at k level
  pub code : c.environment.level ≡ c.procedure.head.level
  pub few : c.procedure.head.level < most_levels
  pub program : c.environment.program ≡ k.environment.program
  pub parts : c.environment.parts ≡ k.environment.parts

-- then what is called is nested so, too, and a variable of that level, or of one around it, is the same one there
pub record NestedNumbers : Type 0 where
  pub nested :
      (k : Block) (c : Callee) (level : ℕ) → IsInside k c level → (p : Point) (numbers : ℕ → ℕ) →
      IsAmong k numbers p → AreMade k.call.surroundings k.call.code c p numbers →
      IsBegun (block_at k.call.surroundings k.call.code c p numbers) →
      IsNested (block_at k.call.surroundings k.call.code c p numbers)
  pub number :
      (k : Block) (c : Callee) (level : ℕ) (x : Spot) → IsInside k c level → x.level ≤ level → IsNumber k x →
      (p : Point) (numbers : ℕ → ℕ) → IsAmong k numbers p → AreMade k.call.surroundings k.call.code c p numbers →
      IsBegun (block_at k.call.surroundings k.call.code c p numbers) →
      IsNumber (block_at k.call.surroundings k.call.code c p numbers) x
  -- a function, too
  pub nested_function :
      (k : Block) (c : Callee) (level : ℕ) → IsInside k c level → (p : Point) (numbers : ℕ → ℕ) →
      IsAmong k numbers p → AreMade k.call.surroundings k.call.code c p numbers →
      IsBegun (function_block k.call.surroundings k.call.code c p numbers) →
      IsNested (function_block k.call.surroundings k.call.code c p numbers)
  pub number_function :
      (k : Block) (c : Callee) (level : ℕ) (x : Spot) → IsInside k c level → x.level ≤ level → IsNumber k x →
      (p : Point) (numbers : ℕ → ℕ) → IsAmong k numbers p → AreMade k.call.surroundings k.call.code c p numbers →
      IsBegun (function_block k.call.surroundings k.call.code c p numbers) →
      IsNumber (function_block k.call.surroundings k.call.code c p numbers) x
  -- so is one of any other type
  pub known :
      (k : Block) (c : Callee) (level : ℕ) (x : Spot) (d : Y.DeclaredVariable) → IsInside k c level →
      x.level ≤ level → IsKnown k x d → (p : Point) (numbers : ℕ → ℕ) → IsAmong k numbers p →
      AreMade k.call.surroundings k.call.code c p numbers →
      IsBegun (block_at k.call.surroundings k.call.code c p numbers) →
      IsKnown (block_at k.call.surroundings k.call.code c p numbers) x d
  pub known_function :
      (k : Block) (c : Callee) (level : ℕ) (x : Spot) (d : Y.DeclaredVariable) → IsInside k c level →
      x.level ≤ level → IsKnown k x d → (p : Point) (numbers : ℕ → ℕ) → IsAmong k numbers p →
      AreMade k.call.surroundings k.call.code c p numbers →
      IsBegun (function_block k.call.surroundings k.call.code c p numbers) →
      IsKnown (function_block k.call.surroundings k.call.code c p numbers) x d
