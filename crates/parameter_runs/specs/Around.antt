-- FIXED BINARY(31) parameters of a block and of the blocks around it. A procedure keeps where its list stands in its
-- own frame, which the code of what it declares finds by the display; the list stands in words of the frame right
-- below.
use Rattle.std.specs.Prelude.{ℕ, ◌+◌, ◌*◌, ◌^◌, ◌<◌, ◌≤◌, ◌≡◌, ◌⊎◌, List, [], ◌∷◌, Option, Some}
use Rattle.pli_typing.specs.TypedTree as Y
use Rattle.pli_meaning.specs.Control.{Label}
use Rattle.pli_meaning.specs.DeclaredShapes.{declared_variable}
use Rattle.pli_meaning.specs.StorageState.{Living, ancestor_at, binding_in, living_of}
use Rattle.pli_serving.specs.Templates.{shape_at}
use Rattle.pli_coding.specs.Locating.{number_of_parameter}
use Rattle.pli_coding.specs.Registers.{held_registers}
use Rattle.pli_coding.specs.Statements.{stmt_code}
use Rattle.activation_relation.specs.CodeStores.{most_levels}
use Rattle.activation_relation.specs.Layers.{Layer, Point}
use Rattle.run_steps.specs.Items.{Linked}
use Rattle.run_steps.specs.Reach.{cost}
use Rattle.block_runs.specs.Bodies.{Function}
use Rattle.program_runs.specs.Calls.{AreMade, Callee, block_at}
use Rattle.program_runs.specs.Statements.{Block, DoesWith, HasAct, IsAmong, IsBegun, set_aside, size_with}
use Rattle.expression_runs.specs.Assignments.{setting_around}
use Rattle.expression_runs.specs.Laws as L
use Rattle.expression_runs.specs.Values.{Setting}
use Rattle.expression_runs.specs.Variables.{IsFrameOf, Spot}
use Rattle.function_runs.specs.Functions.{function_block}
use Rattle.argument_runs.specs.Parameters.{HasName, IsParameter, most_parameters, parameter, parameter_binding}
use Rattle.argument_runs.specs.Parameters.{parameter_declared, parameter_of, parameter_shape}
use Rattle.nested_calls.specs.NestedVariables.{IsInside}
use Rattle.reference_runs.specs.ParameterAssignments.{assignment}
use Rattle.word_runs.specs.Words.{telling}
use Rattle.list_calls.specs.Arguments.{Passes}
use Rattle.list_calls.specs.ListCalls.{Listed, called_with}
use Rattle.list_calls.specs.ListKnown.{Begins}
use Rattle.list_calls.specs.Lists.{Passing}
use Rattle.list_calls.specs.Taking.{list_block}

-- ---- its part of a list

-- what it stands for, the number of the signature of that, its place among the parameters, where the list stands, and
-- the last word of its own part
pub record Entry : Type 0 where
  pub serial : ℕ
  pub signature : ℕ
  pub place : ℕ
  pub at : ℕ
  pub last : ℕ

-- a procedure's layer keeps where its list stands, and the layer below it tells the name
pub record IsListed (level : ℕ) (r : Entry) (φ ψ : Layer) : Type 0 where
  pub list : φ.list ≡ Some r.at
  pub level_is : φ.level ≡ level
  pub under : r.at + 24 * r.place + 4 * (r.last + 6) ≡ ψ.at
  pub name : HasName ψ.waits r.last r.serial r.signature
  pub words : r.last + 6 + 6 * r.place ≤ ψ.words

abbrev pub IsOver : (level : ℕ) → Entry → Layer → List Layer → Type 0
IsOver level r φ [] = ⊥
IsOver level r φ (ψ ∷ φs) = IsListed level r φ ψ

-- so does the layer whose frame stands there
abbrev pub HasListed : List Layer → (frame level : ℕ) → Entry → Type 0
HasListed [] frame level r = ⊥
HasListed (φ ∷ φs) frame level r = ((φ.at ≡ frame) × IsOver level r φ φs) ⊎ HasListed φs frame level r

-- ---- where a block's first statement begins it stands for a generation that lives, and the list has the name of that

pub record IsParameterAround (k : Block) (x : Spot) : Type 0 where
  pub begun : IsBegun k
  pub declared : declared_variable k.environment.program (parameter_of x) ≡ Some parameter_declared
  pub entry : Entry
  pub numbered_so : number_of_parameter k.environment (parameter_of x) ≡ entry.place
  pub near : entry.place < most_parameters
  pub binding : binding_in (ancestor_at k.first.state x.level) x.index ≡ Some (parameter_binding x entry.serial)
  pub living : Living
  pub lives : living_of k.first.state.living entry.serial ≡ Some living
  pub shape : living.generation.shape ≡ parameter_shape
  -- the frame of its procedure
  pub base : ℕ
  pub frame : IsFrameOf k x.level base
  pub listed : HasListed k.first.control.layers base x.level entry
  pub few : x.level < most_levels
  pub small : entry.serial < 2 ^ 64
  pub number : entry.signature < 2 ^ 31
  pub numbered : shape_at k.first.places.signatures entry.signature ≡ Some parameter_shape
  pub low : 2 ^ 22 ≤ k.first.places.at entry.serial
  pub inside : k.first.places.at entry.serial + 4 ≤ 15 * 2 ^ 20

-- ---- what it holds is what the code leaves

abbrev pub ReadAround : Type 0
ReadAround = (k : Setting) (x : Spot) → IsParameterAround k.block x → L.Does k 0 (Y.NumberIn (parameter x))

-- ---- an assignment does what it means if its expression does, whatever words are set aside

pub record IsAssignmentAround (words : ℕ) (k : Block) (n : Spot) (source : Y.Number) (line index need most : ℕ) : Type 0
  where
    pub act : HasAct k line
    pub number : IsParameterAround k n
    pub registers : need ≤ k.registers
    pub some : 1 ≤ k.registers
    pub held : k.registers ≤ held_registers
    pub statement :
        Linked k.call.surroundings.links k.call.code index
        (stmt_code k.environment (set_aside words) (assignment n source line))
    pub paid : size_with words k (assignment n source line) + most ≤ cost k.call.code

abbrev pub AssignedAround : Type 0
AssignedAround =
    (words : ℕ) (k : Block) (labels : List Label) (n : Spot) (source : Y.Number) (line index left' need most : ℕ) →
    IsAssignmentAround words k n source line index need most →
    L.Does (setting_around words k labels line most) need source →
    DoesWith words k labels (assignment n source line) index left'

-- ---- its name may be passed

abbrev pub PassedAround : Type 0
PassedAround =
    (k : Setting) (x : Spot) (φ : Layer) (φs : List Layer) → IsBegun k.block →
    k.block.first.control.layers ≡ φ ∷ φs → (is : IsParameterAround k.block x) →
    Passes k φ φs (parameter_of x) is.entry.serial is.entry.signature

-- ---- where they are known

pub record KnownAround : Type 0 where
  -- a block's own is one
  pub own : (k : Block) (x : Spot) → IsParameter k x → IsParameterAround k x
  -- so is each while words of its frame tell something
  pub told :
      (k : Block) (φ : Layer) (φs : List Layer) (waits : ℕ → Option ℕ) → k.first.control.layers ≡ φ ∷ φs →
      (x : Spot) → IsParameterAround k x → IsParameterAround (telling waits φ φs k) x
  -- in what is called one of the level that declares it, or of one around that, is the same
  pub inner :
      (k : Block) (c : Callee) (level : ℕ) (x : Spot) → IsInside k c level → x.level ≤ level →
      IsParameterAround k x → (p : Point) (numbers : ℕ → ℕ) → IsAmong k numbers p →
      AreMade k.call.surroundings k.call.code c p numbers →
      IsBegun (block_at k.call.surroundings k.call.code c p numbers) →
      IsParameterAround (block_at k.call.surroundings k.call.code c p numbers) x
  pub inner_function :
      (k : Block) (c : Callee) (level : ℕ) (x : Spot) → IsInside k c level → x.level ≤ level →
      IsParameterAround k x → (p : Point) (numbers : ℕ → ℕ) → IsAmong k numbers p →
      AreMade k.call.surroundings k.call.code c p numbers →
      IsBegun (function_block k.call.surroundings k.call.code c p numbers) →
      IsParameterAround (function_block k.call.surroundings k.call.code c p numbers) x
  pub inner_list :
      (g : Option Function) (k : Block) (u : Listed) (more : ℕ) (p : Point) (numbers : ℕ → ℕ) (ys : List Passing)
      (x : Spot) → Begins g k u more p numbers ys → x.level ≤ u.level → IsParameterAround k x →
      IsParameterAround (list_block g (called_with k u p numbers ys) u.made) x
