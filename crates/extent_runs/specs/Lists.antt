-- The list of an extent's places in static data: a block that has its bytes finds it at each of its points. So from
-- both bounds in registers on the variable is made.
use Rattle.std.specs.Prelude.{ℕ, ◌+◌, ◌^◌, ◌<◌, ◌≡◌, List, [], ◌∷◌, ◌++◌, length, ⊤}
use Rattle.rv_meaning.specs.Machine.{value}
use Rattle.rv_meaning.specs.Memory.{bytes_of_words}
use Rattle.pli_serving.specs.SignatureService.{ExtentPlace}
use Rattle.pli_coding.specs.Assembly.{DataPlace, Datum, size_of}
use Rattle.pli_coding.specs.Environments.{none_taken}
use Rattle.pli_coding.specs.Extents.{filled_in}
use Rattle.pli_coding.specs.Linking.{place_of}
use Rattle.pli_coding.specs.Registers.{a2, a3}
use Rattle.pli_coding.specs.StaticForms.{places_datum, words_datum}
use Rattle.storage_relation.specs.Served.{Holds}
use Rattle.activation_relation.specs.Layers.{Layer, Point, now, services_of}
use Rattle.run_steps.specs.Engine.{Base}
use Rattle.run_steps.specs.Items.{Linked}
use Rattle.run_steps.specs.Reach.{Family, Reach}
use Rattle.block_runs.specs.Machines.{IsIn}
use Rattle.program_runs.specs.Constants.{HasConstants}
use Rattle.program_runs.specs.Statements.{Block, IsAmong}
use Rattle.extent_runs.specs.Both.{placed_from}
use Rattle.extent_runs.specs.Placing.{IsPlacement, Placement, placing_code}
use Rattle.extent_runs.specs.Signatures.{Filling, HasList, IsFilling}
use Rattle.extent_runs.specs.Words.{IsWaiting, answered_point}

-- two words for each place, and their number before them
abbrev pub place_words : List ExtentPlace → List ℕ
place_words [] = []
place_words (x ∷ xs) = x.leaf ∷ x.dimension ∷ place_words xs

abbrev pub list_words : List ExtentPlace → List ℕ
list_words places = length places ∷ place_words places

abbrev pub FitWords : List ExtentPlace → Type 0
FitWords [] = ⊤
FitWords (x ∷ xs) = ((x.leaf < 2 ^ 32) × (x.dimension < 2 ^ 32)) × FitWords xs

-- the block has the list in its static data
pub record HasPlaces (k : Block) (x : Filling) : Type 0 where
  pub fit : FitWords x.places
  pub constants : HasConstants k x.at (bytes_of_words (list_words x.places))

pub record ListsFound : Type 0 where
  pub list :
      (k : Block) (numbers : ℕ → ℕ) (p : Point) (m : List ℕ) (x : Filling) → IsAmong k numbers p → Holds (now p m) →
      HasPlaces k x → HasList p x m
  -- its datum is the one that code names
  pub datum : (places : List ExtentPlace) → places_datum (place_words places) ≡ words_datum (list_words places)
  pub placed :
      (k : Block) (p : Point) (x : Filling) (φ : Layer) (φs : List Layer) (z : Placement) (numbers : ℕ → ℕ)
      (places : Datum) (credits index : ℕ) (f : Family) → IsAmong k numbers p → HasPlaces k x →
      IsFilling p x × IsWaiting p x φ φs → IsPlacement k.call.surroundings (answered_point x φ φs p) z →
      place_of k.call.surroundings.links (DataPlace places) ≡ x.at →
      Linked k.call.surroundings.links k.call.code index (filled_in none_taken places ++ placing_code z) →
      ((b : Base) → IsIn k.call.surroundings p numbers index b (f b)
      × (value (f b).machine a2 ≡ x.lower) × (value (f b).machine a3 ≡ x.upper)) →
      Reach k.call.code credits f (services_of p)
      (credits + size_of (filled_in none_taken places ++ placing_code z)) (services_of (placed_from x φ φs z p))
      (λ b y. IsIn k.call.surroundings (placed_from x φ φs z p) numbers
      (index + size_of (filled_in none_taken places ++ placing_code z)) b y)
