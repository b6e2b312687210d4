-- A FIXED BINARY(31) parameter: what its procedure's code finds by way of the list.
use Rattle.std.specs.Prelude.{ℕ, ◌+◌, ◌*◌, ◌/◌, ◌%◌, ◌^◌, ◌<◌, ◌≤◌, ◌≡◌, ◌==◌, List, [], ◌∷◌, Option, None, Some, true}
use Rattle.pli_typing.specs.Signatures.{Fixed}
use Rattle.pli_typing.specs.TypedTree as Y
use Rattle.pli_meaning.specs.BasicValues.{VariableName}
use Rattle.pli_meaning.specs.Contents.{Shape}
use Rattle.pli_meaning.specs.DeclaredShapes.{declared_variable}
use Rattle.pli_meaning.specs.Making.{plain}
use Rattle.pli_meaning.specs.StorageState.{Binding, Living, ancestor_at, binding_in, living_of}
use Rattle.pli_serving.specs.Templates.{shape_at}
use Rattle.pli_coding.specs.Locating.{number_of_parameter}
use Rattle.activation_relation.specs.CodeStores.{most_levels}
use Rattle.activation_relation.specs.Layers.{Layer}
use Rattle.program_runs.specs.Statements.{Block, IsBegun}
use Rattle.expression_runs.specs.Laws as L
use Rattle.expression_runs.specs.Values.{Setting}
use Rattle.expression_runs.specs.Variables.{Spot, whole_part}

abbrev pub parameter_of : Spot → Y.Variable
parameter_of x = record { class = Y.ParameterClass; block = x.block; level = x.level; index = x.index }

-- all of it
abbrev pub parameter : Spot → Y.Reference
parameter x = Y.Referring (parameter_of x) Y.NotLocated whole_part Y.NoNumber

abbrev pub parameter_declared : Y.DeclaredVariable
parameter_declared =
    record {
      class = Y.ParameterClass;
      members = record { depth = 0; dimensions = 0 } ∷ [];
      leaves = record { type = Y.FixedLeaf 31; bounds = []; initial = [] } ∷ [];
      refer = None;
      evaluations = [];
    }

abbrev pub parameter_shape : Shape
parameter_shape = plain (Fixed 31)

abbrev pub parameter_binding : Spot → (serial : ℕ) → Binding
parameter_binding x serial = record { variable = x.index; name = VariableName serial; shape = parameter_shape }

-- what words of the caller's frame hold from the argument's last one on: a name, and its signature's number before that
pub record HasName (waits : ℕ → Option ℕ) (last serial signature : ℕ) : Type 0 where
  pub kind : waits (last + 5) ≡ Some 1
  pub second : waits (last + 4) ≡ Some 0
  pub low : waits (last + 3) ≡ Some (serial % 2 ^ 32)
  pub high : waits (last + 2) ≡ Some (serial / 2 ^ 32)
  pub number : waits (last + 1) ≡ Some signature

-- the code of lists is known up to so many
abbrev pub most_parameters : ℕ
most_parameters = 64

-- where the block's first statement begins it stands for a generation that lives, and the list below the procedure's
-- frame has the name of that and its signature's number
pub record IsParameter (k : Block) (x : Spot) : Type 0 where
  pub begun : IsBegun k
  pub declared : declared_variable k.environment.program (parameter_of x) ≡ Some parameter_declared
  -- its place among the parameters
  pub place : ℕ
  pub numbered_so : number_of_parameter k.environment (parameter_of x) ≡ place
  pub near : place < most_parameters
  pub own : (x.level == k.environment.level) ≡ true
  pub serial : ℕ
  pub binding : binding_in (ancestor_at k.first.state x.level) x.index ≡ Some (parameter_binding x serial)
  pub living : Living
  pub lives : living_of k.first.state.living serial ≡ Some living
  pub shape : living.generation.shape ≡ parameter_shape
  pub layer : Layer
  pub caller : Layer
  pub others : List Layer
  pub signature : ℕ
  pub layers : k.first.control.layers ≡ layer ∷ caller ∷ others
  -- where the list stands, and the last word of its own part of that
  pub at : ℕ
  pub list : layer.list ≡ Some at
  pub last : ℕ
  pub under : at + 24 * place + 4 * (last + 6) ≡ caller.at
  pub name : HasName caller.waits last serial signature
  pub level : layer.level ≡ x.level
  pub few : x.level < most_levels
  pub words : last + 6 + 6 * place ≤ caller.words
  pub small : serial < 2 ^ 64
  pub number : signature < 2 ^ 31
  pub numbered : shape_at k.first.places.signatures signature ≡ Some parameter_shape
  pub low : 2 ^ 22 ≤ k.first.places.at serial
  pub inside : k.first.places.at serial + 4 ≤ 15 * 2 ^ 20

-- what it holds is what the code leaves
abbrev pub ParametersRead : Type 0
ParametersRead = (k : Setting) (x : Spot) → IsParameter k.block x → L.Does k 0 (Y.NumberIn (parameter x))
