-- The words of the frame that wait while extents are evaluated: the number of the signature so far, and the bytes to
-- reserve once it has the extent.
use Rattle.std.specs.Prelude.{ℕ, ◌+◌, ◌^◌, ◌<◌, ◌≤◌, ◌≡◌, ◌==◌, List, ◌∷◌, ◌++◌, Option, Some, None, if◌then◌else◌}
use Rattle.rv_meaning.specs.declared.instr.Instr.{Instr}
use Rattle.rv_meaning.specs.Machine.{value}
use Rattle.pli_serving.specs.SignatureService.{number_of, reserved_for}
use Rattle.pli_serving.specs.Templates.{shape_of}
use Rattle.pli_coding.specs.Assembly.{Code, DataPlace, Datum, size_of}
use Rattle.pli_coding.specs.Environments.{none_taken}
use Rattle.pli_coding.specs.Extents.{filled_in, number_word}
use Rattle.pli_coding.specs.Instructions.{number, store_word}
use Rattle.pli_coding.specs.Linking.{place_of}
use Rattle.pli_coding.specs.Registers.{a0, a2, a3, frame_register}
use Rattle.activation_relation.specs.Layers.{Layer, Point, services_of}
use Rattle.activation_relation.specs.Points.{Stands, Surroundings}
use Rattle.image_runs.specs.Runs.{Whole}
use Rattle.run_steps.specs.Engine.{Base}
use Rattle.run_steps.specs.Items.{Linked}
use Rattle.run_steps.specs.Reach.{Family, Reach}
use Rattle.block_runs.specs.Machines.{AreIn, IsImage, IsIn}
use Rattle.program_runs.specs.Statements.{Block, IsAmong, IsBegun}
use Rattle.begin_runs.specs.BehindLists.{from_point}
use Rattle.argument_runs.specs.Lists.{with_list}
use Rattle.extent_runs.specs.Signatures.{Filling, HasList, IsFilling, filled_point}

abbrev pub number_waits : (number : ℕ) → ℕ → Option ℕ
number_waits number n = if n == 0 then Some number else None

abbrev pub both_wait : (number bytes : ℕ) → ℕ → Option ℕ
both_wait number bytes n = if n == 0 then Some number else (if n == 1 then Some bytes else None)

-- the number of the template goes into the first word
abbrev pub number_kept : (signature : ℕ) → Code
number_kept signature = number a0 signature ++ store_word frame_register a0 (number_word none_taken)

-- the point behind service 3, with what it answered in both words
abbrev pub answered_point : Filling → Layer → List Layer → Point → Point
answered_point x φ φs p =
    with_list (both_wait (number_of x.template p.places.signatures) (reserved_for p.keeper (shape_of x.template))) φ φs
    (filled_point x.template p)

-- the bounds are in registers, and the list of their places stands in static data
pub record HasExtent (p : Point) (x : Filling) (y : Whole) : Type 0 where
  pub lower : value y.machine a2 ≡ x.lower
  pub upper : value y.machine a3 ≡ x.upper
  pub list : HasList p x y.machine.memory

-- the newest block's first word holds the number, and a second word is its own
pub record IsWaiting (p : Point) (x : Filling) (φ : Layer) (φs : List Layer) : Type 0 where
  pub newest : p.control.layers ≡ φ ∷ φs
  pub words : 2 ≤ φ.words
  pub number : φ.waits 0 ≡ Some x.number
  pub fits : number_of x.template p.places.signatures < 2 ^ 32
  pub bytes : reserved_for p.keeper (shape_of x.template) < 2 ^ 32

pub record NumbersWait : Type 0 where
  pub kept :
      (w : Surroundings) (code : List Instr) (p : Point) (φ : Layer) (φs : List Layer) (numbers : ℕ → ℕ)
      (signature credits index : ℕ) (f : Family) → Stands w p × IsImage w code p → p.control.layers ≡ φ ∷ φs →
      (1 ≤ φ.words) × (signature < 2 ^ 31) → Linked w.links code index (number_kept signature) →
      AreIn w p numbers index f →
      Reach code credits f (services_of p) (credits + size_of (number_kept signature))
      (services_of (with_list (number_waits signature) φ φs p))
      (λ b y. IsIn w (with_list (number_waits signature) φ φs p) numbers (index + size_of (number_kept signature)) b y)
  -- whatever waits in words of the block, it goes on from there
  pub begun :
      (k : Block) (p : Point) (numbers : ℕ → ℕ) (φ : Layer) (φs : List Layer) (waits : ℕ → Option ℕ) → IsBegun k →
      IsAmong k numbers p → p.control.layers ≡ φ ∷ φs →
      IsBegun (from_point k (with_list waits φ φs p))
      × IsAmong (from_point k (with_list waits φ φs p)) numbers (with_list waits φ φs p)
  -- the extent is filled in
  pub filled :
      (w : Surroundings) (code : List Instr) (p : Point) (x : Filling) (φ : Layer) (φs : List Layer)
      (numbers : ℕ → ℕ) (places : Datum) (credits index : ℕ) (f : Family) → Stands w p × IsImage w code p →
      IsFilling p x × IsWaiting p x φ φs → (place_of w.links (DataPlace places) ≡ x.at) × (x.at < 2 ^ 32) →
      Linked w.links code index (filled_in none_taken places) →
      ((b : Base) → IsIn w p numbers index b (f b) × HasExtent p x (f b)) →
      Reach code credits f (services_of p) (credits + size_of (filled_in none_taken places))
      (services_of (answered_point x φ φs p))
      (λ b y. IsIn w (answered_point x φ φs p) numbers (index + size_of (filled_in none_taken places)) b y)
