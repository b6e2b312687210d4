-- Variables of a block in the procedures and functions that it declares.
use Rattle.std.specs.Prelude.{ℕ, ◌+◌, ◌<◌, ◌≡◌, List, length}
use Rattle.rv_meaning.specs.declared.instr.Instr.{Instr}
use Rattle.activation_relation.specs.CodeStores.{most_levels}
use Rattle.activation_relation.specs.Layers.{Point}
use Rattle.activation_relation.specs.Points.{Surroundings}
use Rattle.block_runs.specs.Machines.{HasParts}
use Rattle.program_runs.specs.Calls.{AreMade, Callee, block_at}
use Rattle.program_runs.specs.Statements.{Block, IsAmong, IsBegun}
use Rattle.program_runs.specs.Variables.{Declared, IsOnly}
use Rattle.expression_runs.specs.OwnVariables.{IsOwn}
use Rattle.expression_runs.specs.Variables.{IsNumber, Spot}
use Rattle.function_runs.specs.Functions.{function_block}

-- the block declares what is called, whose code is further in than the variable, in the same program
pub record IsInside (k : Block) (c : Callee) (x : Spot) : Type 0 where
  pub begun : IsBegun k
  pub level : k.environment.level ≡ k.call.beginning.layer.level
  pub parent : c.calling.parent ≡ length k.call.point.state.activations + 1
  pub inner : c.environment.level ≡ c.procedure.head.level
  pub further : x.level < c.procedure.head.level
  pub few : c.procedure.head.level < most_levels
  pub program : c.environment.program ≡ k.environment.program
  pub parts : c.environment.parts ≡ k.environment.parts

-- a variable of the block, or of one around it, is the same one in what is called, wherever that is
pub record OuterNumbers : Type 0 where
  pub procedure :
      (k : Block) (c : Callee) (x : Spot) → IsInside k c x → IsNumber k x → (p : Point) (numbers : ℕ → ℕ) →
      IsAmong k numbers p → AreMade k.call.surroundings k.call.code c p numbers →
      IsBegun (block_at k.call.surroundings k.call.code c p numbers) →
      IsNumber (block_at k.call.surroundings k.call.code c p numbers) x
  pub function :
      (k : Block) (c : Callee) (x : Spot) → IsInside k c x → IsNumber k x → (p : Point) (numbers : ℕ → ℕ) →
      IsAmong k numbers p → AreMade k.call.surroundings k.call.code c p numbers →
      IsBegun (function_block k.call.surroundings k.call.code c p numbers) →
      IsNumber (function_block k.call.surroundings k.call.code c p numbers) x

-- and the one variable that a function has itself is a number of its block, as a procedure's is
abbrev pub OwnNumbers : Type 0
OwnNumbers =
    (w : Surroundings) (code : List Instr) (c : Callee) (p : Point) (numbers : ℕ → ℕ) (d : Declared) (x : Spot) →
    HasParts w.parts → IsOnly w c p numbers d → IsOwn c d x → IsBegun (function_block w code c p numbers) →
    IsNumber (function_block w code c p numbers) x
