-- What the statements of a procedure or a function with a list of parameters know: its static ancestors, the variables of
-- the blocks around it, and its parameters.
use Rattle.std.specs.Prelude.{ℕ, ◌+◌, ◌*◌, ◌^◌, ◌<◌, ◌≤◌, ◌≡◌, List, [], ◌∷◌, Option, Some, ⊤, slice_get}
use Rattle.pli_typing.specs.TypedTree as Y
use Rattle.pli_meaning.specs.DeclaredShapes.{declared_variable}
use Rattle.pli_meaning.specs.StorageState.{Living, living_of}
use Rattle.pli_serving.specs.Templates.{shape_at}
use Rattle.pli_coding.specs.Locating.{number_of_parameter}
use Rattle.activation_relation.specs.CodeStores.{most_levels}
use Rattle.activation_relation.specs.Layers.{Point}
use Rattle.block_runs.specs.Bodies.{Function}
use Rattle.program_runs.specs.Procedures.{IsCoded}
use Rattle.program_runs.specs.Statements.{Block, IsAmong, IsBegun}
use Rattle.expression_runs.specs.Variables.{IsNumber, Spot}
use Rattle.variable_runs.specs.Known.{IsKnown}
use Rattle.argument_runs.specs.Parameters.{IsParameter, parameter_declared, parameter_of, parameter_shape}
use Rattle.nested_calls.specs.Nested.{IsNested}
use Rattle.list_calls.specs.Arguments.{ByName, ByValue, ComeTo, Way}
use Rattle.list_calls.specs.ListCalls.{IsDeclared, Listed, PassesNone, called_with}
use Rattle.list_calls.specs.Lists.{Parameter, Passing}
use Rattle.list_calls.specs.Taking.{AreBeside, HasParameters, Taking, list_block}

-- its code is that of its level, in the same program
pub record IsInner (k : Block) (u : Listed) : Type 0 where
  pub code : u.callee.environment.level ≡ u.callee.procedure.head.level
  pub few : u.callee.procedure.head.level < most_levels
  pub program : u.callee.environment.program ≡ k.environment.program
  pub parts : u.callee.environment.parts ≡ k.environment.parts

-- where it has begun, called at a point of a block with what is passed
pub record Begins (g : Option Function) (k : Block) (u : Listed) (more : ℕ) (p : Point) (numbers : ℕ → ℕ)
    (ys : List Passing) : Type 0 where
  pub declared : IsDeclared k u more
  pub coded : IsCoded u.callee.procedure u.callee.calling
  pub parameters : HasParameters u.callee
  pub inner : IsInner k u
  pub among : IsAmong k numbers p
  pub come : ComeTo u.ways ys
  pub beside : AreBeside g (called_with k u p numbers ys) u.made
  pub begun : IsBegun (list_block g (called_with k u p numbers ys) u.made)

-- ---- what a parameter stands for

-- the program declares its nth parameter so
pub record IsOwn (c : Taking) (n : ℕ) (x : Spot) : Type 0 where
  pub parameter : Parameter
  pub there : slice_get c.parameters n ≡ Some parameter
  pub declared : declared_variable c.environment.program (parameter_of x) ≡ Some parameter_declared
  pub numbered : number_of_parameter c.environment (parameter_of x) ≡ n
  pub index : x.index ≡ parameter.index
  pub level : x.level ≡ c.procedure.head.level
  pub own : c.environment.level ≡ c.procedure.head.level

-- what has a name lives at a point, and stands in data; the table has its signature
pub record IsStored (p : Point) (serial signature : ℕ) : Type 0 where
  pub old : serial ≤ p.state.serials
  pub living : Living
  pub lives : living_of p.state.living serial ≡ Some living
  pub shape : living.generation.shape ≡ parameter_shape
  pub numbered : shape_at p.places.signatures signature ≡ Some parameter_shape
  pub small : serial < 2 ^ 64
  pub number : signature < 2 ^ 31
  pub low : 2 ^ 22 ≤ p.places.at serial
  pub inside : p.places.at serial + 4 ≤ 15 * 2 ^ 20

abbrev pub AreStored : Point → List Way → Type 0
AreStored p [] = ⊤
AreStored p (ByValue source ∷ us) = AreStored p us
AreStored p (ByName v serial signature ∷ us) = IsStored p serial signature × AreStored p us

pub record ListsKnown : Type 0 where
  -- it is nested in the blocks around it
  pub nested :
      (g : Option Function) (k : Block) (u : Listed) (more : ℕ) (p : Point) (numbers : ℕ → ℕ) (ys : List Passing) →
      Begins g k u more p numbers ys → IsNested (list_block g (called_with k u p numbers ys) u.made)
  -- a variable of the level that declares it, or of one around that, is the same one there
  pub number :
      (g : Option Function) (k : Block) (u : Listed) (more : ℕ) (p : Point) (numbers : ℕ → ℕ) (ys : List Passing)
      (x : Spot) → Begins g k u more p numbers ys → x.level ≤ u.level → IsNumber k x →
      IsNumber (list_block g (called_with k u p numbers ys) u.made) x
  -- of whatever type it is
  pub known :
      (g : Option Function) (k : Block) (u : Listed) (more : ℕ) (p : Point) (numbers : ℕ → ℕ) (ys : List Passing)
      (x : Spot) (d : Y.DeclaredVariable) → Begins g k u more p numbers ys → x.level ≤ u.level → IsKnown k x d →
      IsKnown (list_block g (called_with k u p numbers ys) u.made) x d
  -- and each of its parameters stands for what was passed
  pub own :
      (g : Option Function) (k : Block) (u : Listed) (more : ℕ) (p : Point) (numbers : ℕ → ℕ) (ys : List Passing)
      (n : ℕ) (x : Spot) → Begins g k u more p numbers ys → PassesNone k.first u.ways →
      AreStored k.first u.ways → IsOwn u.callee n x →
      IsParameter (list_block g (called_with k u p numbers ys) u.made) x
