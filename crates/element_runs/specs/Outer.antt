-- Variables of a block, arrays among them, in the procedures and functions that it declares.
use Rattle.std.specs.Prelude.{ℕ}
use Rattle.pli_typing.specs.Signatures.{Bounds}
use Rattle.pli_typing.specs.TypedTree as Y
use Rattle.activation_relation.specs.Layers.{Point}
use Rattle.program_runs.specs.Calls.{AreMade, Callee, block_at}
use Rattle.program_runs.specs.Statements.{Block, IsAmong, IsBegun}
use Rattle.expression_runs.specs.Variables.{Spot}
use Rattle.function_runs.specs.Functions.{function_block}
use Rattle.function_runs.specs.OuterVariables.{IsInside}
use Rattle.variable_runs.specs.Known.{IsKnown}
use Rattle.element_runs.specs.Arrays.{IsArray}

-- whatever its type, a variable of the block, or of one around it, is the same one in what is called, wherever that is
pub record OuterKnown : Type 0 where
  pub procedure :
      (k : Block) (c : Callee) (x : Spot) (d : Y.DeclaredVariable) → IsInside k c x → IsKnown k x d → (p : Point)
      (numbers : ℕ → ℕ) → IsAmong k numbers p → AreMade k.call.surroundings k.call.code c p numbers →
      IsBegun (block_at k.call.surroundings k.call.code c p numbers) →
      IsKnown (block_at k.call.surroundings k.call.code c p numbers) x d
  pub function :
      (k : Block) (c : Callee) (x : Spot) (d : Y.DeclaredVariable) → IsInside k c x → IsKnown k x d → (p : Point)
      (numbers : ℕ → ℕ) → IsAmong k numbers p → AreMade k.call.surroundings k.call.code c p numbers →
      IsBegun (function_block k.call.surroundings k.call.code c p numbers) →
      IsKnown (function_block k.call.surroundings k.call.code c p numbers) x d
  -- so is an array
  pub array :
      (k inner : Block) (x : Spot) (b : Bounds) →
      ((d : Y.DeclaredVariable) → IsKnown k x d → IsKnown inner x d) → IsArray k x b → IsArray inner x b
