-- Calls of functions in expressions of the block that declares them.
use Rattle.std.specs.Prelude.{ℕ, suc, ◌+◌, ◌^◌, ◌<◌, ◌≤◌, ◌≡◌, [], length, Some}
use Rattle.pli_language.specs.declared.condition.Condition.TheVariants as C
use Rattle.pli_typing.specs.TypedTree as Y
use Rattle.pli_meaning.specs.DeclaredShapes.{procedure_numbered}
use Rattle.pli_meaning.specs.Executing.{entered}
use Rattle.pli_meaning.specs.StorageState.{force}
use Rattle.pli_coding.specs.Assembly.{size_of}
use Rattle.activation_relation.specs.Layers.{Point}
use Rattle.activation_relation.specs.ServiceLaws.{IsSystem}
use Rattle.program_runs.specs.Calls.{AreMade, Callee, body_index, labels_of, left_over}
use Rattle.program_runs.specs.Procedures.{HasRoom, block_of}
use Rattle.program_runs.specs.Statements.{EachDoes, IsAmong, IsBegun}
use Rattle.expression_runs.specs.Laws as L
use Rattle.expression_runs.specs.Values.{Setting}
use Rattle.function_runs.specs.Functions.{IsFunction, function_block, function_code}

abbrev pub call_of : Setting → Callee → Y.Number
call_of k c = Y.NumberFrom (Y.Calling c.procedure.head.number k.block.environment.level Y.NoArgument)

-- called from an index
abbrev pub called_from : Callee → (call : ℕ) → Callee
called_from c call =
    record {
      procedure = c.procedure;
      calling = record {
        parent = c.calling.parent;
        call = call;
        entry = c.calling.entry;
        end = c.calling.end;
      };
      environment = c.environment;
      around = c.around;
      made = c.made;
    }

-- the running block declares it, and the program has it; what comes before its first act has room among the credits
pub record IsFunctionCall (k : Setting) (c : Callee) (more : ℕ) : Type 0 where
  pub begun : IsBegun k.block
  pub function : IsFunction k.block.call.surroundings k.block.call.code c
  pub room : HasRoom k.block.call.surroundings k.block.first c.procedure c.calling
  pub level : k.block.environment.level ≡ k.block.call.beginning.layer.level
  pub parent : c.calling.parent ≡ length k.block.call.point.state.activations + 1
  pub found :
      procedure_numbered c.procedure.head.number k.around.program.procedures
      ≡ Some (record { block = block_of c.procedure; parameters = []; result = Some (Y.FixedLeaf 31) })
  pub enter : k.around.enter ≡ entered k.around.program (suc more)
  pub around :
      c.around
      ≡ record { program = k.around.program; enter = entered k.around.program more; turns = suc more; line = 0 }
  pub enough : k.block.call.surroundings.acts < suc more + k.block.first.state.world.acts
  pub most : 4 + size_of (function_code c.environment c.procedure) ≤ k.most
  pub words : k.words < 2 ^ 20

-- a call leaves the function's value if its statements do what they mean, wherever it is called
abbrev pub FunctionCallsDo : Type 0
FunctionCallsDo =
    (k : Setting) (c : Callee) (more : ℕ) → IsFunctionCall k c more →
    ((call : ℕ) (p : Point) (numbers : ℕ → ℕ) → IsAmong k.block numbers p →
    AreMade k.block.call.surroundings k.block.call.code (called_from c call) p numbers
    × IsSystem (force (function_block k.block.call.surroundings k.block.call.code (called_from c call) p
    numbers).first.state.activations C.Error)) →
    ((call : ℕ) (p : Point) (numbers : ℕ → ℕ) → IsAmong k.block numbers p →
    IsBegun (function_block k.block.call.surroundings k.block.call.code (called_from c call) p numbers) →
    EachDoes (function_block k.block.call.surroundings k.block.call.code (called_from c call) p numbers) (labels_of c)
    c.procedure.body (body_index c) left_over) →
    L.Does k 0 (call_of k c)
