-- The variables of a begin block: none, or one of its own; and those of the blocks around it.
use Rattle.std.specs.Prelude.{ℕ, ◌+◌, ◌<◌, ◌≤◌, ◌≡◌, List, [], ◌∷◌, Some}
use Rattle.pli_language.specs.Tree as T
use Rattle.pli_typing.specs.TypedTree as Y
use Rattle.pli_meaning.specs.Control.{Label}
use Rattle.pli_meaning.specs.DeclaredShapes.{declared_variable, shape_of, variables_of_block}
use Rattle.pli_coding.specs.Entries.{constant_made}
use Rattle.pli_coding.specs.Frames.{name_bytes}
use Rattle.pli_coding.specs.Locating.{table_number}
use Rattle.activation_relation.specs.Layers.{Point}
use Rattle.block_runs.specs.Machines.{HasParts}
use Rattle.program_runs.specs.Statements.{Block, IsAmong, IsBegun}
use Rattle.program_runs.specs.Variables.{Declared, IsDeclared, newest_made}
use Rattle.expression_runs.specs.Variables.{IsNumber, Spot, number_declared, number_place, number_shape, variable_of}
use Rattle.begin_runs.specs.BeginBlocks.{AreMade, Inner, IsBegin, begun_in, environment_of, inner_block, inner_layer}

-- one that declares none makes none
abbrev pub NoneMade : Type 0
NoneMade =
    (k : Block) (x : Inner) (index : ℕ) (p : Point) (numbers : ℕ → ℕ) → x.head.kind ≡ Y.BeginBlock →
    variables_of_block x.around.program x.head.number ≡ [] → (x.variables ≡ []) × (x.made ≡ (λ q. q)) →
    AreMade k x index p numbers

-- the program declares one, and its code is that
pub record IsOnly (k : Block) (x : Inner) (p : Point) (numbers : ℕ → ℕ) (d : Declared) : Type 0 where
  pub kind : x.head.kind ≡ Y.BeginBlock
  pub variables : variables_of_block x.around.program x.head.number ≡ d.declared ∷ []
  pub class : d.declared.class ≡ Y.AutomaticClass
  pub evaluations : d.declared.evaluations ≡ []
  pub first : d.index ≡ 0
  pub code : x.variables ≡ constant_made (environment_of k x) d.place d.declared
  pub made : x.made ≡ newest_made k.call.surroundings.parts d
  pub table : table_number (environment_of k x) d.declared ≡ d.number
  pub parts : (environment_of k x).parts ≡ k.call.surroundings.parts
  pub few : 1 ≤ k.call.surroundings.serials
  pub declared :
      IsDeclared k.call.surroundings (begun_in k p numbers x) d (inner_layer k.call.surroundings p numbers x)
      p.control.layers

abbrev pub OneMade : Type 0
OneMade =
    (k : Block) (x : Inner) (index : ℕ) (p : Point) (numbers : ℕ → ℕ) (d : Declared) → IsOnly k x p numbers d →
    AreMade k x index p numbers

-- what holds of it at the first statement of the block around holds at each of its points
abbrev pub OneAmong : Type 0
OneAmong =
    (k : Block) (x : Inner) (d : Declared) (p : Point) (numbers held : ℕ → ℕ) → IsBegun k → IsAmong k numbers p →
    IsOnly k x k.first held d → IsOnly k x p held d

-- the program declares it so, and its code looks for it where it is made
pub record IsOwn (k : Block) (x : Inner) (d : Declared) (spot : Spot) : Type 0 where
  pub initial : List T.InitialItem
  pub declared : declared_variable (environment_of k x).program (variable_of spot) ≡ Some (number_declared initial)
  pub shape : shape_of [] d.declared ≡ number_shape
  pub index : spot.index ≡ d.index
  pub level : spot.level ≡ x.head.level
  pub own : (environment_of k x).level ≡ x.head.level
  pub place : number_place (environment_of k x) spot ≡ d.place + name_bytes

-- it is a number of the begin block
abbrev pub OwnNumbers : Type 0
OwnNumbers =
    (k : Block) (labels : List Label) (x : Inner) (index : ℕ) (p : Point) (numbers : ℕ → ℕ) (d : Declared)
    (spot : Spot) → HasParts k.call.surroundings.parts → IsOnly k x p numbers d → IsOwn k x d spot →
    IsBegun (inner_block k labels p numbers x index) → IsNumber (inner_block k labels p numbers x index) spot

-- a variable of the block around it, or of one around that, is the same one in it
abbrev pub InnerNumbers : Type 0
InnerNumbers =
    (k : Block) (labels : List Label) (x : Inner) (index more : ℕ) (spot : Spot) → IsBegin k x index more →
    k.environment.level ≡ k.call.beginning.layer.level → spot.level < x.head.level → IsNumber k spot → (p : Point)
    (numbers : ℕ → ℕ) → IsAmong k numbers p → AreMade k x index p numbers →
    IsBegun (inner_block k labels p numbers x index) → IsNumber (inner_block k labels p numbers x index) spot
