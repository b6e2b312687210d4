-- CALL with an argument that is copied, of a procedure that the running block declares, or a block around it.
use Rattle.std.specs.Prelude.{ℕ, ℤ, suc, ◌+◌, ◌*◌, ◌%◌, ◌^◌, ◌<◌, ◌≤◌, ◌≡◌, List, [], ◌∷◌, ◌++◌, length, None, Some}
use Rattle.std.specs.Prelude.{nat_le, nat_lt, pos, true, false}
use Rattle.pli_typing.specs.Signatures.{Fixed}
use Rattle.pli_typing.specs.TypedTree as Y
use Rattle.pli_meaning.specs.Contents.{footprint_of}
use Rattle.pli_meaning.specs.Control.{Label}
use Rattle.pli_meaning.specs.DeclaredShapes.{procedure_numbered}
use Rattle.pli_meaning.specs.Executing.{entered, labels_in}
use Rattle.pli_meaning.specs.Making.{plain}
use Rattle.pli_meaning.specs.Numbers.{is_of_precision}
use Rattle.pli_meaning.specs.StorageState.{automatic_in_use, most_activations, most_automatic}
use Rattle.pli_serving.specs.Templates.{shape_at}
use Rattle.pli_coding.specs.Environments.{none_taken}
use Rattle.pli_coding.specs.Frames.{fixed_size}
use Rattle.pli_coding.specs.Registers.{held_registers}
use Rattle.pli_coding.specs.Statements.{stmt_code}
use Rattle.activation_relation.specs.FrameLaws.{with_waits}
use Rattle.activation_relation.specs.Frames.{lower_end}
use Rattle.activation_relation.specs.Layers.{Layer, Point}
use Rattle.activation_relation.specs.Points.{Surroundings}
use Rattle.run_steps.specs.Items.{Linked}
use Rattle.run_steps.specs.Reach.{cost}
use Rattle.program_runs.specs.Calls.{left_over}
use Rattle.program_runs.specs.Procedures.{block_of, frame_for}
use Rattle.program_runs.specs.Statements.{Block, Does, EachDoes, HasAct, IsAmong, IsBegun, size_in}
use Rattle.expression_runs.specs.Laws as L
use Rattle.argument_runs.specs.Copies.{copy_generation}
use Rattle.argument_runs.specs.CopyCalls.{CopyCall, Copying, call_at, copy_for, setting_for}
use Rattle.nested_calls.specs.Nested.{IsNested, parent_at}
use Rattle.given_calls.specs.Given.{AreBeside, AreFullBeside, IsGiven, body_index, given_block}

-- ---- what is called

-- declared by the block of a level, with an expression whose value is copied; the newest layers where it is called, and
-- what becomes of the point where its variables are made
pub record GivenCall : Type 0 where
  pub callee : Copying
  pub level : ℕ
  pub source : Y.Number
  pub layer : Layer
  pub others : List Layer
  pub made : Point → Point

abbrev pub calling_of : GivenCall → Y.Call
calling_of u =
    Y.Calling u.callee.procedure.head.number u.level
    (Y.ArgumentThen (Y.ByCopy (Y.FixedLeaf 31) (Y.StoredNumber 31 u.source)) Y.NoArgument)

abbrev pub given_call : GivenCall → (line : ℕ) → Y.Stmt
given_call u line = Y.CallProcedure (calling_of u) line

-- at a point of the block, with a value
abbrev pub called_with : Block → GivenCall → Point → (numbers : ℕ → ℕ) → ℤ → CopyCall
called_with k u p numbers z = call_at k u.callee u.layer u.others p numbers z

-- ---- what is asked of the point where the block's first statement begins

-- six words in which nothing waits, and room for the frame and the copy between the stacks
pub record HasSpace (w : Surroundings) (p : Point) (c : Copying) (φ : Layer) (φs : List Layer) : Type 0 where
  pub newest : p.control.layers ≡ φ ∷ φs
  pub words : 6 ≤ φ.words
  pub waits : with_waits (λ n. None) φ ≡ φ
  pub room :
      frame_for w.parts p.control.layers c.procedure + fixed_size c.procedure.head.level 1 + 16
      ≤ lower_end w.parts p.control.layers
  pub even : lower_end w.parts p.control.layers % 16 ≡ 0
  pub idle : p.control.waiting ≡ None
  pub low : p.places.low ≤ w.parts.stack_start
  pub shape : shape_at p.places.signatures c.number ≡ Some (plain (Fixed 31))
  pub number : c.number < 2 ^ 31

-- one more block may be active
abbrev pub IsShallow : Point → Type 0
IsShallow p = nat_lt (length p.state.activations) most_activations ≡ true

-- it may, and the copy passes no limit on what is AUTOMATIC
pub record PassesNone (p : Point) (c : Copying) : Type 0 where
  pub shallow : IsShallow p
  pub limit :
      nat_le (automatic_in_use p.state.living + footprint_of (copy_generation (copy_for c (pos 0)))) most_automatic
      ≡ true

-- one more block may be active, but the copy passes the limit on what is AUTOMATIC
pub record PassesLimit (p : Point) (c : Copying) : Type 0 where
  pub shallow : IsShallow p
  pub limit :
      nat_le (automatic_in_use p.state.living + footprint_of (copy_generation (copy_for c (pos 0)))) most_automatic
      ≡ false

-- its static parent is the block's ancestor at the level, one around that of the procedure; there are turns enough for
-- the acts that are left, and the copies' serial numbers have 8 bytes
pub record IsDeclared (k : Block) (u : GivenCall) (more : ℕ) : Type 0 where
  pub begun : IsBegun k
  pub space : HasSpace k.call.surroundings k.first u.callee u.layer u.others
  pub few : 1 ≤ k.call.surroundings.serials
  pub small : k.call.surroundings.serials + 1 < 2 ^ 40
  pub nested : IsNested k
  pub around_it : u.level ≤ k.environment.level
  pub inner : u.callee.procedure.head.level ≡ suc u.level
  pub parent : u.callee.calling.parent ≡ parent_at k u.level
  pub enough : k.call.surroundings.acts < suc more + k.first.state.world.acts

pub record IsGivenCall (k : Block) (u : GivenCall) (line index need most more : ℕ) : Type 0 where
  pub act : HasAct k line
  pub callee : IsGiven k.call.surroundings k.call.code u.callee
  pub declared : IsDeclared k u more
  pub found :
      procedure_numbered u.callee.procedure.head.number k.around.program.procedures
      ≡ Some (record { block = block_of u.callee.procedure; parameters = 0 ∷ []; result = None })
  pub enter : k.around.enter ≡ entered k.around.program (suc more)
  pub around :
      u.callee.around
      ≡ record { program = k.around.program; enter = entered k.around.program more; turns = suc more; line = 0 }
  pub registers : need ≤ k.registers
  pub held : k.registers ≤ held_registers
  pub statement :
      Linked k.call.surroundings.links k.call.code index
      (stmt_code k.environment none_taken (given_call u line))
  pub call : u.callee.calling.call + 2 ≡ index + size_in k (given_call u line)
  pub paid : size_in k (given_call u line) + most ≤ cost k.call.code

pub record GivenCallsDo : Type 0 where
  -- it does what it means if its expression and the procedure's statements do, wherever it is called
  pub does :
      (k : Block) (u : GivenCall) (labels : List Label) (line index left' need most more : ℕ) →
      IsGivenCall k u line index need most more → PassesNone k.first u.callee →
      L.Does (setting_for k labels line most) need u.source →
      ((p : Point) (numbers : ℕ → ℕ) (z : ℤ) → IsAmong k numbers p → is_of_precision 31 z ≡ true →
      AreBeside None (called_with k u p numbers z) u.made) →
      ((p : Point) (numbers : ℕ → ℕ) (z : ℤ) → IsAmong k numbers p → is_of_precision 31 z ≡ true →
      IsBegun (given_block None (called_with k u p numbers z) u.made) →
      EachDoes (given_block None (called_with k u p numbers z) u.made) (labels_in u.callee.procedure.body ++ [])
      u.callee.procedure.body (body_index u.callee) left_over) →
      Does k labels (given_call u line) index left'
  -- where as many blocks are active as may be the run ends, once its expression has a value
  pub ends :
      (k : Block) (u : GivenCall) (labels : List Label) (line index left' need most more : ℕ) →
      IsGivenCall k u line index need most more →
      nat_lt (length k.first.state.activations) most_activations ≡ false →
      L.Does (setting_for k labels line most) need u.source → Does k labels (given_call u line) index left'
  -- and so it does where its copy passes the limit on what is AUTOMATIC
  pub full :
      (k : Block) (u : GivenCall) (labels : List Label) (line index left' need most more : ℕ) →
      IsGivenCall k u line index need most more → PassesLimit k.first u.callee →
      L.Does (setting_for k labels line most) need u.source → Does k labels (given_call u line) index left'
  -- or the variables beside it do
  pub beside :
      (k : Block) (u : GivenCall) (labels : List Label) (line index left' need most more : ℕ) →
      IsGivenCall k u line index need most more → PassesNone k.first u.callee →
      L.Does (setting_for k labels line most) need u.source →
      ((p : Point) (numbers : ℕ → ℕ) (z : ℤ) → IsAmong k numbers p → is_of_precision 31 z ≡ true →
      AreFullBeside None (called_with k u p numbers z)) → Does k labels (given_call u line) index left'
