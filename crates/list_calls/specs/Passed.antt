-- What may be passed by reference: variables of the block itself and of the blocks around it, whose names stand before
-- their data, and the block's own parameters.
use Rattle.std.specs.Prelude.{ℕ, ◌^◌, ◌<◌, ◌≡◌, ◌⊎◌, List, [], ◌∷◌, Some}
use Rattle.pli_serving.specs.Templates.{shape_at}
use Rattle.pli_coding.specs.Frames.{automatic_place}
use Rattle.pli_coding.specs.Locating.{table_number}
use Rattle.activation_relation.specs.Layers.{Layer}
use Rattle.program_runs.specs.Statements.{Block, IsBegun}
use Rattle.expression_runs.specs.Values.{Setting}
use Rattle.expression_runs.specs.Variables.{IsNumber, Spot, number_declared, variable_of}
use Rattle.argument_runs.specs.Parameters.{IsParameter, parameter_of, parameter_shape}
use Rattle.reference_runs.specs.References.{IsTold, Reference}
use Rattle.list_calls.specs.Arguments.{Passes}

-- a name is told of the layer whose frame stands there
abbrev pub HasTold : List Layer → (frame : ℕ) → Reference → Type 0
HasTold [] frame r = ⊥
HasTold (φ ∷ φs) frame r = ((φ.at ≡ frame) × IsTold φ.told r) ⊎ HasTold φs frame r

-- it is a number, whose name is told of the frame that it stands in; the table has its signature
pub record IsNamed (k : Block) (x : Spot) (serial signature : ℕ) : Type 0 where
  pub number : IsNumber k x
  pub serial_is : number.serial ≡ serial
  pub told :
      HasTold k.first.control.layers number.base
      (record {
        serial = serial;
        signature = signature;
        place = automatic_place k.environment.parts k.environment.program x.block x.level x.index;
      })
  pub table : table_number k.environment (number_declared number.initial) ≡ signature
  pub numbered : shape_at k.first.places.signatures signature ≡ Some parameter_shape
  pub small : signature < 2 ^ 31
  pub few : serial < 2 ^ 64

-- it is a number, whose name is told of the frame that it stands in
pub record IsTelling (k : Block) (x : Spot) : Type 0 where
  pub number : IsNumber k x
  pub told :
      HasTold k.first.control.layers number.base
      (record {
        serial = number.serial;
        signature = 0;
        place = automatic_place k.environment.parts k.environment.program x.block x.level x.index;
      })

-- its name may be passed
abbrev pub VariablesPassed : Type 0
VariablesPassed =
    (k : Setting) (x : Spot) (φ : Layer) (φs : List Layer) (serial signature : ℕ) → IsBegun k.block →
    k.block.first.control.layers ≡ φ ∷ φs → IsNamed k.block x serial signature →
    Passes k φ φs (variable_of x) serial signature

-- so may that of what a parameter of the block itself stands for, which stands in its list
abbrev pub ParametersPassed : Type 0
ParametersPassed =
    (k : Setting) (x : Spot) (φ : Layer) (φs : List Layer) → IsBegun k.block →
    k.block.first.control.layers ≡ φ ∷ φs → (is : IsParameter k.block x) →
    Passes k φ φs (parameter_of x) is.serial is.signature
