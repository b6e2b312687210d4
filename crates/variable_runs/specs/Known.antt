-- What the statements of a block know of a variable of it: what it stands for, and where code finds it.
use Rattle.std.specs.Prelude.{ℕ, ◌+◌, ◌*◌, ◌^◌, ◌≤◌, ◌≡◌, List, [], Some}
use Rattle.rv_meaning.specs.declared.instr.Instr.{Instr}
use Rattle.pli_language.specs.Tree as T
use Rattle.pli_typing.specs.Signatures.{data_size}
use Rattle.pli_typing.specs.TypedTree as Y
use Rattle.pli_meaning.specs.BasicValues.{VariableName}
use Rattle.pli_meaning.specs.DeclaredShapes.{declared_variable, shape_of}
use Rattle.pli_meaning.specs.StorageState.{Binding, Living, ancestor_at, binding_in, living_of}
use Rattle.pli_coding.specs.Environments.{Environment}
use Rattle.pli_coding.specs.Frames.{automatic_place, name_bytes}
use Rattle.activation_relation.specs.Layers.{Point}
use Rattle.activation_relation.specs.Points.{Surroundings}
use Rattle.block_runs.specs.Machines.{HasParts}
use Rattle.program_runs.specs.Calls.{Callee, block_at}
use Rattle.program_runs.specs.Statements.{Block, IsBegun}
use Rattle.program_runs.specs.Variables.{Declared}
use Rattle.expression_runs.specs.Variables.{IsFrameOf, IsNumber, Spot, number_declared, variable_of}
use Rattle.variable_runs.specs.Lists.{Among, AreAll, AreAllBegun}

-- where its name stands in the frame of its block
abbrev pub place_of : Environment → Spot → ℕ
place_of e x = automatic_place e.parts e.program x.block x.level x.index

abbrev pub binding_for : Spot → Y.DeclaredVariable → (serial : ℕ) → Binding
binding_for x d serial = record { variable = x.index; name = VariableName serial; shape = shape_of [] d }

-- where the block's first statement begins it stands for a generation that lives, and stands where code looks for it
pub record IsKnown (k : Block) (x : Spot) (d : Y.DeclaredVariable) : Type 0 where
  pub declared : declared_variable k.environment.program (variable_of x) ≡ Some d
  pub serial : ℕ
  pub binding : binding_in (ancestor_at k.first.state x.level) x.index ≡ Some (binding_for x d serial)
  pub living : Living
  pub lives : living_of k.first.state.living serial ≡ Some living
  pub shape : living.generation.shape ≡ shape_of [] d
  pub base : ℕ
  pub frame : IsFrameOf k x.level base
  pub at : k.first.places.at serial ≡ base + (place_of k.environment x + name_bytes)
  pub low : 2 ^ 22 ≤ base
  pub inside :
      base + (place_of k.environment x + name_bytes + data_size (shape_of [] d).signature) ≤ 15 * 2 ^ 20

-- the program declares it so, and its code looks for it where it is made
pub record IsOwn (c : Callee) (d : Declared) (x : Spot) : Type 0 where
  pub declared : declared_variable c.environment.program (variable_of x) ≡ Some d.declared
  pub index : x.index ≡ d.index
  pub level : x.level ≡ c.procedure.head.level
  pub own : c.environment.level ≡ c.procedure.head.level
  pub place : place_of c.environment x ≡ d.place

pub record VariablesKnown : Type 0 where
  -- each variable of a procedure is one of its block, wherever that is called
  pub own :
      (w : Surroundings) (code : List Instr) (c : Callee) (p : Point) (numbers : ℕ → ℕ) (xs : List Declared)
      (d : Declared) (x : Spot) → HasParts w.parts → AreAll w c p numbers xs → Among d xs → IsOwn c d x →
      IsBegun (block_at w code c p numbers) → IsKnown (block_at w code c p numbers) x d.declared
  -- with INITIAL values, too
  pub begun :
      (w : Surroundings) (code : List Instr) (c : Callee) (p : Point) (numbers : ℕ → ℕ) (xs : List Declared)
      (d : Declared) (x : Spot) → HasParts w.parts → AreAllBegun w code c p numbers xs → Among d xs → IsOwn c d x →
      IsBegun (block_at w code c p numbers) → IsKnown (block_at w code c p numbers) x d.declared
  -- and if it is FIXED BINARY(31) it is a number of that
  pub number :
      (k : Block) (x : Spot) (initial : List T.InitialItem) → IsKnown k x (number_declared initial) → IsNumber k x
