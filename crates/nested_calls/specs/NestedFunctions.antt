-- Calls in expressions of a function that the running block declares, or a block around it.
use Rattle.std.specs.Prelude.{ℕ, suc, ◌+◌, ◌^◌, ◌<◌, ◌≤◌, ◌≡◌, [], length, nat_lt, true, false, None, Some}
use Rattle.pli_language.specs.declared.condition.Condition.TheVariants as C
use Rattle.pli_typing.specs.TypedTree as Y
use Rattle.pli_meaning.specs.DeclaredShapes.{procedure_numbered}
use Rattle.pli_meaning.specs.Executing.{entered}
use Rattle.pli_meaning.specs.StorageState.{force, most_activations}
use Rattle.pli_coding.specs.Assembly.{size_of}
use Rattle.activation_relation.specs.Layers.{Point}
use Rattle.activation_relation.specs.ServiceLaws.{IsSystem}
use Rattle.program_runs.specs.Calls.{AreMade, Callee, body_index, labels_of, left_over}
use Rattle.program_runs.specs.Procedures.{block_of}
use Rattle.program_runs.specs.Statements.{EachDoes, IsAmong, IsBegun}
use Rattle.expression_runs.specs.Laws as L
use Rattle.expression_runs.specs.Values.{Setting}
use Rattle.function_runs.specs.FunctionCalls.{called_from}
use Rattle.function_runs.specs.Functions.{IsFunction, function_block, function_code}
use Rattle.nested_calls.specs.FullVariables.{AreFull}
use Rattle.nested_calls.specs.Nested.{IsNested, parent_at}
use Rattle.nested_calls.specs.NestedCalls.{HasFrame}

abbrev pub value_at : Callee → (level : ℕ) → Y.Number
value_at c level = Y.NumberFrom (Y.Calling c.procedure.head.number level Y.NoArgument)

pub record IsNestedFunction (k : Setting) (c : Callee) (level more : ℕ) : Type 0 where
  pub begun : IsBegun k.block
  pub function : IsFunction k.block.call.surroundings k.block.call.code c
  pub frame : HasFrame k.block c
  pub idle : k.block.first.control.waiting ≡ None
  pub nested : IsNested k.block
  pub around_it : level ≤ k.block.environment.level
  pub inner : c.procedure.head.level ≡ suc level
  pub parent : c.calling.parent ≡ parent_at k.block level
  -- whatever type its declaration has
  pub type : Y.LeafType
  pub found :
      procedure_numbered c.procedure.head.number k.around.program.procedures
      ≡ Some (record { block = block_of c.procedure; parameters = []; result = Some type })
  pub enter : k.around.enter ≡ entered k.around.program (suc more)
  pub around :
      c.around
      ≡ record { program = k.around.program; enter = entered k.around.program more; turns = suc more; line = 0 }
  pub enough : k.block.call.surroundings.acts < suc more + k.block.first.state.world.acts
  pub most : 4 + size_of (function_code c.environment c.procedure) ≤ k.most
  pub words : k.words < 2 ^ 20

pub record NestedFunctionsDo : Type 0 where
  -- a call leaves the function's value if its statements do what they mean, wherever it is called
  pub does :
      (k : Setting) (c : Callee) (level more : ℕ) → IsNestedFunction k c level more →
      nat_lt (length k.block.first.state.activations) most_activations ≡ true →
      ((call : ℕ) (p : Point) (numbers : ℕ → ℕ) → IsAmong k.block numbers p →
      AreMade k.block.call.surroundings k.block.call.code (called_from c call) p numbers
      × IsSystem (force (function_block k.block.call.surroundings k.block.call.code (called_from c call) p
      numbers).first.state.activations C.Error)) →
      ((call : ℕ) (p : Point) (numbers : ℕ → ℕ) → IsAmong k.block numbers p →
      IsBegun (function_block k.block.call.surroundings k.block.call.code (called_from c call) p numbers) →
      EachDoes (function_block k.block.call.surroundings k.block.call.code (called_from c call) p numbers) (labels_of c)
      c.procedure.body (body_index c) left_over) →
      L.Does k 0 (value_at c level)
  pub ends :
      (k : Setting) (c : Callee) (level more : ℕ) → IsNestedFunction k c level more →
      nat_lt (length k.block.first.state.activations) most_activations ≡ false → L.Does k 0 (value_at c level)
  pub full :
      (k : Setting) (c : Callee) (level more : ℕ) → IsNestedFunction k c level more →
      nat_lt (length k.block.first.state.activations) most_activations ≡ true →
      ((call : ℕ) (p : Point) (numbers : ℕ → ℕ) → IsAmong k.block numbers p →
      AreFull k.block.call.surroundings k.block.call.code (called_from c call) p numbers) →
      L.Does k 0 (value_at c level)
