-- A FIXED BINARY(31) scalar with a constant as its INITIAL value.
use Rattle.std.specs.Prelude.{ℕ, ◌+◌, ◌%◌, ◌^◌, ◌<◌, ◌≤◌, ◌≡◌, List, [], ◌∷◌, ℤ, Option, true, Some, nat_le}
use Rattle.rv_meaning.specs.declared.instr.Instr.{Instr}
use Rattle.pli_language.specs.Tree.{InitialItem, InitialNumber}
use Rattle.pli_meaning.specs.BasicValues.{BasicNumber}
use Rattle.pli_meaning.specs.Contents.{footprint_of}
use Rattle.pli_meaning.specs.DeclaredShapes.{shape_of}
use Rattle.pli_meaning.specs.Making.{living_at}
use Rattle.pli_meaning.specs.Numbers.{is_of_precision}
use Rattle.pli_meaning.specs.StorageState.{automatic_in_use, living_of, most_automatic, newest_height}
use Rattle.pli_serving.specs.Templates.{shape_at}
use Rattle.pli_coding.specs.Assembly.{ConstantBytes, InitialLeaf, InitialValues}
use Rattle.pli_coding.specs.Frames.{last_place}
use Rattle.pli_coding.specs.StaticData.{PlacedDatum, datum_bytes, datum_place}
use Rattle.pli_coding.specs.StaticForms.{items_bytes}
use Rattle.activation_relation.specs.Layers.{Layer, Point}
use Rattle.activation_relation.specs.Points.{Surroundings}
use Rattle.activation_relation.specs.Variables.{with_made}
use Rattle.program_runs.specs.Initial.{BytesTold, MayBeMade}
use Rattle.program_runs.specs.Variables.{Declared, generation_for, made_of}
use Rattle.expression_runs.specs.Variables.{number_declared}

abbrev pub constant_items : ℤ → List InitialItem
constant_items z = record { repetition = 1; value = InitialNumber z } ∷ []

-- its values in static data
abbrev pub constant_leaf : ℤ → InitialLeaf
constant_leaf z = record { leaf = 0; values = items_bytes (constant_items z) }

abbrev pub constant_declared : (index number place : ℕ) → ℤ → Declared
constant_declared index number place z =
    record { index = index; declared = number_declared (constant_items z); number = number; place = place }

-- its list is told, and the constant behind it
pub record ConstantTold (constants : ℕ → Option ℕ) (code : List Instr) (all : List PlacedDatum) (z : ℤ) :
    Type 0 where
  pub list :
      BytesTold constants code (datum_place (InitialValues (constant_leaf z ∷ [])) all)
      (datum_bytes all (datum_place (InitialValues (constant_leaf z ∷ [])) all) (InitialValues (constant_leaf z ∷ [])))
  pub behind :
      datum_place (InitialValues (constant_leaf z ∷ [])) all ≤ datum_place (ConstantBytes (constant_leaf z).values) all
  pub value :
      BytesTold constants code (datum_place (ConstantBytes (constant_leaf z).values) all)
      (datum_bytes all (datum_place (ConstantBytes (constant_leaf z).values) all)
      (ConstantBytes (constant_leaf z).values))

-- the newest block has room for it
pub record HasRoom (w : Surroundings) (p : Point) (x : Declared) (φ : Layer) (φs : List Layer) : Type 0 where
  pub newest : p.control.layers ≡ φ ∷ φs
  pub here : φ.at + x.place ≡ φ.top
  pub counted : x.place + 32 ≤ last_place
  pub fits : φ.at + (x.place + 32) ≤ φ.lower
  pub even : φ.top % 16 ≡ 0
  pub low : p.places.low ≤ w.parts.stack_start
  pub shape : shape_at p.places.signatures x.number ≡ Some (shape_of [] x.declared)
  pub number : x.number < 2 ^ 31
  pub limit : nat_le (automatic_in_use p.state.living + footprint_of (generation_for x)) most_automatic ≡ true

pub record ConstantsBegin : Type 0 where
  -- it may begin there
  pub begins :
      (w : Surroundings) (code : List Instr) (p : Point) (index number place : ℕ) (z : ℤ) (φ : Layer)
      (φs : List Layer) → is_of_precision 31 z ≡ true → ConstantTold p.places.constants code w.links.data' z →
      HasRoom w p (constant_declared index number place z) φ φs →
      MayBeMade w code p (constant_declared index number place z) φ φs
  -- once it has been made, the constant is what it holds
  pub holds :
      (w : Surroundings) (p : Point) (index number place : ℕ) (z : ℤ) (φ : Layer) →
      living_of (with_made (made_of w.parts φ (constant_declared index number place z)) p).state.living
      (p.state.serials + 1)
      ≡ Some (living_at (p.state.serials + 1) (newest_height p.state.activations)
      (generation_for (constant_declared index number place z)))
  pub value :
      (index number place : ℕ) (z : ℤ) →
      (generation_for (constant_declared index number place z)).values 0 [] ≡ BasicNumber z
