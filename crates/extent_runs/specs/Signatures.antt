-- Service 3 at a point: an extent is filled in at all places that share it, and the signature that has it is known by a
-- number from then on.
use Rattle.std.specs.Prelude.{ℕ, ◌+◌, ◌^◌, ◌<◌, ◌≡◌, List, ◌∷◌, Some, length, nat_lt, slice_get, true}
use Rattle.rv_meaning.specs.declared.instr.Instr.{Instr}
use Rattle.rv_meaning.specs.Machine.{value}
use Rattle.pli_types.specs.Templates.{Template}
use Rattle.pli_serving.specs.Arguments.{own_signature}
use Rattle.pli_serving.specs.SignatureService.{ExtentPlace, bounds_given, filled, number_of, places_at, reserved_for}
use Rattle.pli_serving.specs.SignatureService.{with_template}
use Rattle.pli_serving.specs.Templates.{shape_at, shape_of}
use Rattle.pli_coding.specs.Assembly.{Code, DataPlace, Datum, OffsetOf, size_of}
use Rattle.pli_coding.specs.Instructions.{service}
use Rattle.pli_coding.specs.Linking.{place_of}
use Rattle.pli_coding.specs.Registers.{a0, a1, a2, a3}
use Rattle.storage_relation.specs.Fills.{IsFill}
use Rattle.storage_relation.specs.Stored.{with_signatures}
use Rattle.activation_relation.specs.Layers.{Point, services_of}
use Rattle.activation_relation.specs.Points.{Stands, Surroundings}
use Rattle.activation_relation.specs.Remaining.{Remains}
use Rattle.image_runs.specs.Runs.{Whole}
use Rattle.run_steps.specs.Engine.{Base}
use Rattle.run_steps.specs.Items.{Linked}
use Rattle.run_steps.specs.Reach.{Family, Reach}
use Rattle.block_runs.specs.Machines.{IsImage, IsIn}
use Rattle.program_runs.specs.Statements.{Block, IsAmong}

-- ---- the point behind it

abbrev pub with_templates : List Template → Point → Point
with_templates t p = record p { places = with_signatures t p.places }

-- the signature stands among the others, once
abbrev pub filled_point : Template → Point → Point
filled_point u p = with_templates (with_template u p.places.signatures) p

-- ---- what is filled in

-- the number of the template so far, the list of the places of the extent and where that stands, the extent in two
-- words, and what the template becomes
pub record Filling : Type 0 where
  pub number : ℕ
  pub places : List ExtentPlace
  pub at : ℕ
  pub lower : ℕ
  pub upper : ℕ
  pub template : Template

-- the extent can be one at each of these places, and numbers are left
pub record IsFilling (p : Point) (x : Filling) : Type 0 where
  pub filled :
      filled (bounds_given x.lower x.upper) x.places (slice_get p.places.signatures x.number) ≡ Some x.template
  pub few : nat_lt (number_of x.template p.places.signatures) own_signature ≡ true

-- if the signature wasn't there it is one that a run may fill in
abbrev pub MayFill : Point → Template → Type 0
MayFill p u = number_of u p.places.signatures ≡ length p.places.signatures → IsFill p.places.fills u

-- the list stands in static data
abbrev pub HasList : Point → Filling → (memory : List ℕ) → Type 0
HasList p x m = places_at p.layout x.at m ≡ Some x.places

-- what the service is given in registers, and the list
pub record IsAsked (p : Point) (x : Filling) (y : Whole) : Type 0 where
  pub number : value y.machine a0 ≡ x.number
  pub lower : value y.machine a2 ≡ x.lower
  pub upper : value y.machine a3 ≡ x.upper
  pub list : HasList p x y.machine.memory

-- the number of the signature, and the bytes to reserve for what has it
pub record IsFilled (p : Point) (x : Filling) (y : Whole) : Type 0 where
  pub number : value y.machine a0 ≡ number_of x.template p.places.signatures
  pub bytes : value y.machine a1 ≡ reserved_for p.keeper (shape_of x.template)

abbrev pub filling_code : Datum → Code
filling_code places = OffsetOf a1 (DataPlace places) ∷ service 3

pub record SignaturesFilled : Type 0 where
  pub comes :
      (w : Surroundings) (code : List Instr) (p : Point) (numbers : ℕ → ℕ) (x : Filling) (places : Datum)
      (credits index : ℕ) (f : Family) → Stands w p × IsImage w code p → IsFilling p x →
      (place_of w.links (DataPlace places) ≡ x.at) × (x.at < 2 ^ 32) →
      Linked w.links code index (filling_code places) →
      ((b : Base) → IsIn w p numbers index b (f b) × IsAsked p x (f b)) →
      Reach code credits f (services_of p) (credits + size_of (filling_code places))
      (services_of (filled_point x.template p))
      (λ b y. IsIn w (filled_point x.template p) numbers (index + size_of (filling_code places)) b y × IsFilled p x y)
  pub stands :
      (w : Surroundings) (code : List Instr) (p : Point) (u : Template) → Stands w p × IsImage w code p →
      Stands w (filled_point u p) × IsImage w code (filled_point u p)
  -- what is stored stays, and it is a point of the same block
  pub remains : (p : Point) (u : Template) → MayFill p u → Remains p (filled_point u p)
  pub among :
      (k : Block) (numbers : ℕ → ℕ) (p : Point) (u : Template) → IsAmong k numbers p → MayFill p u →
      IsAmong k numbers (filled_point u p)
  -- the number means the template's shape
  pub shape :
      (p : Point) (u : Template) →
      shape_at (filled_point u p).places.signatures (number_of u p.places.signatures) ≡ shape_of u
