-- Numbers whose names the frames of their blocks tell: those that a block makes, and, in what is called from it, those
-- of the blocks around. So their names may be passed.
use Rattle.std.specs.Prelude.{ℕ, ◌^◌, ◌<◌, ◌≤◌, ◌≡◌, List, Option, Some}
use Rattle.rv_meaning.specs.declared.instr.Instr.{Instr}
use Rattle.pli_serving.specs.Templates.{shape_at}
use Rattle.pli_coding.specs.Locating.{table_number}
use Rattle.activation_relation.specs.Layers.{Point}
use Rattle.activation_relation.specs.Points.{Surroundings}
use Rattle.block_runs.specs.Bodies.{Function}
use Rattle.program_runs.specs.Calls.{AreMade, Callee, block_at}
use Rattle.program_runs.specs.Statements.{Block, IsAmong, IsBegun}
use Rattle.program_runs.specs.Variables.{Declared}
use Rattle.expression_runs.specs.Variables.{IsNumber, Spot, number_declared}
use Rattle.variable_runs.specs.Known.{IsOwn}
use Rattle.variable_runs.specs.Lists.{Among, AreAllBegun, newest_all}
use Rattle.function_runs.specs.Functions.{function_block}
use Rattle.argument_runs.specs.Parameters.{parameter_shape}
use Rattle.nested_calls.specs.NestedVariables.{IsInside}
use Rattle.list_calls.specs.ListCalls.{Listed, called_with}
use Rattle.list_calls.specs.ListKnown.{Begins}
use Rattle.list_calls.specs.Lists.{Passing}
use Rattle.list_calls.specs.Passed.{IsNamed, IsTelling}
use Rattle.list_calls.specs.Taking.{ListCall, list_block}
use Rattle.list_calls.specs.WordsBeside.{AreAllBeside, IsOwnBeside}

pub record NamesKnown : Type 0 where
  -- one that a procedure or a function makes, with INITIAL or without, if its serial number has two words
  pub own :
      (w : Surroundings) (code : List Instr) (c : Callee) (p : Point) (numbers : ℕ → ℕ) (xs : List Declared)
      (d : Declared) (x : Spot) → AreAllBegun w code c p numbers xs → Among d xs → IsOwn c d x →
      (is : IsNumber (block_at w code c p numbers) x) → is.serial < 2 ^ 64 →
      IsTelling (block_at w code c p numbers) x
  pub function :
      (w : Surroundings) (code : List Instr) (c : Callee) (p : Point) (numbers : ℕ → ℕ) (xs : List Declared)
      (d : Declared) (x : Spot) → AreAllBegun w code c p numbers xs → Among d xs → IsOwn c d x →
      (is : IsNumber (function_block w code c p numbers) x) → is.serial < 2 ^ 64 →
      IsTelling (function_block w code c p numbers) x
  -- or that one makes behind its parameters
  pub beside :
      (g : Option Function) (y : ListCall) (first : ℕ) (xs : List Declared) (d : Declared) (x : Spot) →
      AreAllBeside g y first xs → Among d xs → IsOwnBeside y.callee d x →
      (is : IsNumber (list_block g y (newest_all y.surroundings.parts xs)) x) → is.serial < 2 ^ 64 →
      IsTelling (list_block g y (newest_all y.surroundings.parts xs)) x
  -- one of a block around is told still in what is called, without arguments and with a list
  pub inner :
      (k : Block) (c : Callee) (level : ℕ) (x : Spot) → IsInside k c level → x.level ≤ level → IsTelling k x →
      (p : Point) (numbers : ℕ → ℕ) → IsAmong k numbers p → AreMade k.call.surroundings k.call.code c p numbers →
      IsBegun (block_at k.call.surroundings k.call.code c p numbers) →
      IsTelling (block_at k.call.surroundings k.call.code c p numbers) x
  pub inner_function :
      (k : Block) (c : Callee) (level : ℕ) (x : Spot) → IsInside k c level → x.level ≤ level → IsTelling k x →
      (p : Point) (numbers : ℕ → ℕ) → IsAmong k numbers p → AreMade k.call.surroundings k.call.code c p numbers →
      IsBegun (function_block k.call.surroundings k.call.code c p numbers) →
      IsTelling (function_block k.call.surroundings k.call.code c p numbers) x
  pub inner_list :
      (g : Option Function) (k : Block) (u : Listed) (more : ℕ) (p : Point) (numbers : ℕ → ℕ) (ys : List Passing)
      (x : Spot) → Begins g k u more p numbers ys → x.level ≤ u.level → IsTelling k x →
      IsTelling (list_block g (called_with k u p numbers ys) u.made) x
  -- its name may be passed, if the table has its signature
  pub named :
      (k : Block) (x : Spot) (t : IsTelling k x) →
      shape_at k.first.places.signatures (table_number k.environment (number_declared t.number.initial))
      ≡ Some parameter_shape →
      table_number k.environment (number_declared t.number.initial) < 2 ^ 31 → t.number.serial < 2 ^ 64 →
      IsNamed k x t.number.serial (table_number k.environment (number_declared t.number.initial))
