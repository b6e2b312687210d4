-- CALL of a procedure that the running block declares, or a block around it.
use Rattle.std.specs.Prelude.{ℕ, suc, ◌+◌, ◌^◌, ◌<◌, ◌≤◌, ◌≡◌, [], length, nat_lt, true, false, List, None, Some}
use Rattle.pli_typing.specs.TypedTree as Y
use Rattle.pli_meaning.specs.Control.{Label}
use Rattle.pli_meaning.specs.DeclaredShapes.{procedure_numbered}
use Rattle.pli_meaning.specs.Executing.{entered}
use Rattle.pli_meaning.specs.StorageState.{most_activations}
use Rattle.pli_coding.specs.Assembly.{size_of}
use Rattle.pli_coding.specs.Frames.{fixed_size}
use Rattle.pli_coding.specs.Statements.{stmt_code}
use Rattle.activation_relation.specs.Frames.{lower_end}
use Rattle.activation_relation.specs.Layers.{Point}
use Rattle.run_steps.specs.Items.{Linked}
use Rattle.program_runs.specs.Calls.{AreMade, Callee, IsCallee, block_at, body_index, labels_of, left_over}
use Rattle.program_runs.specs.Procedures.{block_of, frame_for}
use Rattle.program_runs.specs.Statements.{Block, DoesWith, EachDoes, IsAmong, IsBegun, set_aside}
use Rattle.nested_calls.specs.FullVariables.{AreFull}
use Rattle.nested_calls.specs.Nested.{IsNested, parent_at}

-- declared by the block of a level
abbrev pub call_at : Callee → (level line : ℕ) → Y.Stmt
call_at c level line = Y.CallProcedure (Y.Calling c.procedure.head.number level Y.NoArgument) line

-- the room of its frame, where it is called
abbrev pub HasFrame : Block → Callee → Type 0
HasFrame k c =
    frame_for k.call.surroundings.parts k.first.control.layers c.procedure + fixed_size c.procedure.head.level 0
    ≤ lower_end k.call.surroundings.parts k.first.control.layers

-- where it stands while so many words are set aside
pub record IsNestedCall (words : ℕ) (k : Block) (c : Callee) (level line index more : ℕ) : Type 0 where
  pub low : words < 2 ^ 20
  pub line_fits : line < 2 ^ 31
  pub callee : IsCallee k.call.surroundings k.call.code c
  pub frame : HasFrame k c
  pub idle : k.first.control.waiting ≡ None
  pub statement :
      Linked k.call.surroundings.links k.call.code index
      (stmt_code k.environment (set_aside words) (call_at c level line))
  pub call : c.calling.call + 2 ≡ index + size_of (stmt_code k.environment (set_aside words) (call_at c level line))
  -- its static parent is the block's ancestor at the level, one around that of the procedure
  pub nested : IsNested k
  pub around_it : level ≤ k.environment.level
  pub inner : c.procedure.head.level ≡ suc level
  pub parent : c.calling.parent ≡ parent_at k level
  pub found :
      procedure_numbered c.procedure.head.number k.around.program.procedures
      ≡ Some (record { block = block_of c.procedure; parameters = []; result = None })
  pub enter : k.around.enter ≡ entered k.around.program (suc more)
  pub around :
      c.around
      ≡ record { program = k.around.program; enter = entered k.around.program more; turns = suc more; line = 0 }
  pub enough : k.call.surroundings.acts < suc more + k.first.state.world.acts

pub record NestedCallsDo : Type 0 where
  -- it does what it means if the procedure's statements do, wherever it is called
  pub does :
      (words : ℕ) (k : Block) (c : Callee) (level line index left' more : ℕ) →
      IsNestedCall words k c level line index more →
      nat_lt (length k.first.state.activations) most_activations ≡ true →
      ((p : Point) (numbers : ℕ → ℕ) → IsAmong k numbers p →
      AreMade k.call.surroundings k.call.code c p numbers) →
      ((p : Point) (numbers : ℕ → ℕ) → IsAmong k numbers p →
      IsBegun (block_at k.call.surroundings k.call.code c p numbers) →
      EachDoes (block_at k.call.surroundings k.call.code c p numbers) (labels_of c) c.procedure.body (body_index c)
      left_over) → IsBegun k → (labels : List Label) → DoesWith words k labels (call_at c level line) index left'
  -- where as many blocks are active as may be the run ends, whatever the procedure's statements are
  pub ends :
      (words : ℕ) (k : Block) (c : Callee) (level line index left' more : ℕ) →
      IsNestedCall words k c level line index more →
      nat_lt (length k.first.state.activations) most_activations ≡ false → IsBegun k → (labels : List Label) →
      DoesWith words k labels (call_at c level line) index left'
  -- and so it does where its variables pass the limit on what is AUTOMATIC
  pub full :
      (words : ℕ) (k : Block) (c : Callee) (level line index left' more : ℕ) →
      IsNestedCall words k c level line index more →
      nat_lt (length k.first.state.activations) most_activations ≡ true →
      ((p : Point) (numbers : ℕ → ℕ) → IsAmong k numbers p → AreFull k.call.surroundings k.call.code c p numbers) →
      IsBegun k → (labels : List Label) → DoesWith words k labels (call_at c level line) index left'
