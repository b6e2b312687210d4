-- A procedure with a parameter by reference and one variable of its own.
use Rattle.std.specs.Prelude.{ℕ, ◌+◌, ◌≤◌, ◌≡◌, List, [], ◌∷◌, Some}
use Rattle.rv_meaning.specs.declared.instr.Instr.{Instr}
use Rattle.pli_language.specs.Tree as T
use Rattle.pli_typing.specs.TypedTree as Y
use Rattle.pli_meaning.specs.DeclaredShapes.{declared_variable, shape_of, variables_of_block}
use Rattle.pli_meaning.specs.StorageState.{Activation}
use Rattle.pli_coding.specs.Entries.{constant_made}
use Rattle.pli_coding.specs.Frames.{name_bytes}
use Rattle.pli_coding.specs.Locating.{table_number}
use Rattle.activation_relation.specs.Layers.{Layer, Point}
use Rattle.activation_relation.specs.Points.{Surroundings}
use Rattle.program_runs.specs.Statements.{Block, IsAmong, IsBegun}
use Rattle.program_runs.specs.Variables.{Declared, IsDeclared, newest_made}
use Rattle.expression_runs.specs.Variables.{IsNumber, Spot, number_declared, number_place, number_shape, variable_of}
use Rattle.reference_runs.specs.Receivers.{AreMadeAt, Receiver, bound_point, given_layer, listed_layer, reference_block}
use Rattle.reference_runs.specs.ReferenceCalls.{IsReferenceCall, MadeWhere, call_at}
use Rattle.reference_runs.specs.References.{Reference}

-- the program declares it behind the parameter, and the procedure's code makes it where its frame ends
pub record IsLocal (w : Surroundings) (c : Receiver) (φ : Layer) (φs : List Layer) (p : Point) (d : Declared) :
    Type 0 where
  pub kind : c.procedure.head.kind ≡ Y.ProcedureBlock
  pub parameter : Y.DeclaredVariable
  pub passed : parameter.class ≡ Y.ParameterClass
  pub variables : variables_of_block c.around.program c.procedure.head.number ≡ parameter ∷ d.declared ∷ []
  pub class : d.declared.class ≡ Y.AutomaticClass
  pub evaluations : d.declared.evaluations ≡ []
  pub second : d.index ≡ 1
  pub code : c.procedure.variables ≡ constant_made c.environment d.place d.declared
  pub made : c.made ≡ newest_made w.parts d
  pub table : table_number c.environment d.declared ≡ d.number
  pub parts : c.environment.parts ≡ w.parts
  pub few : 1 ≤ w.serials
  pub declared : IsDeclared w p d φ φs

-- it makes that where its parameter has been bound
abbrev pub LocalMadeAt : Type 0
LocalMadeAt =
    (w : Surroundings) (code : List Instr) (c : Receiver) (numbers : ℕ → ℕ) (φ : Layer) (φs : List Layer)
    (a : Activation) (as' : List Activation) (p : Point) (d : Declared) → IsLocal w c φ φs p d →
    p.state.activations ≡ a ∷ as' → AreMadeAt w code c numbers φ φs a as' p

-- where it would be if the calling block's first statement were the call
abbrev pub IsLocalFirst : Block → Receiver → Reference → Layer → List Layer → (held : ℕ → ℕ) → Declared → Type 0
IsLocalFirst k c r φ φs held d =
    IsLocal k.call.surroundings c (listed_layer (call_at k c r φ φs k.first held))
    (given_layer (call_at k c r φ φs k.first held) ∷ φs) (bound_point (call_at k c r φ φs k.first held)) d

-- how its code has it
pub record IsOwn (c : Receiver) (d : Declared) (z : Spot) : Type 0 where
  pub initial : List T.InitialItem
  pub declared : declared_variable c.environment.program (variable_of z) ≡ Some (number_declared initial)
  pub shape : shape_of [] d.declared ≡ number_shape
  pub index : z.index ≡ d.index
  pub level : z.level ≡ c.procedure.head.level
  pub own : c.environment.level ≡ c.procedure.head.level
  pub place : number_place c.environment z ≡ d.place + name_bytes

pub record LocalsKnown : Type 0 where
  -- if it can be made there, it can wherever the block calls the procedure
  pub made :
      (k : Block) (c : Receiver) (x : Spot) (r : Reference) (φ : Layer) (φs : List Layer) (line index more : ℕ)
      (held : ℕ → ℕ) (d : Declared) → IsReferenceCall k c x r φ φs line index more →
      IsLocalFirst k c r φ φs held d → MadeWhere k c r φ φs
  -- and it is a number of the procedure's block
  pub number :
      (k : Block) (c : Receiver) (x : Spot) (r : Reference) (φ : Layer) (φs : List Layer) (line index more : ℕ)
      (held : ℕ → ℕ) (d : Declared) (p : Point) (numbers : ℕ → ℕ) (z : Spot) →
      IsReferenceCall k c x r φ φs line index more → IsLocalFirst k c r φ φs held d → IsAmong k numbers p →
      IsOwn c d z → IsBegun (reference_block (call_at k c r φ φs p numbers)) →
      IsNumber (reference_block (call_at k c r φ φs p numbers)) z
