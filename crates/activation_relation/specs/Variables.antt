-- Variables of the newest block: one that is made takes bytes of the block's own, and all that holds at the point
-- holds then.
use Rattle.std.specs.Prelude.{ℕ, ◌+◌, ◌≤◌, ◌≡◌, ◌⊎◌, List, [], ◌∷◌, length, pos, Option, Some}
use Rattle.pli_meaning.specs.Contents.{Generation}
use Rattle.pli_meaning.specs.Making.{with_variable, living_at}
use Rattle.pli_serving.specs.Templates.{shape_at}
use Rattle.storage_relation.specs.Standing.{Holder, held, bytes_of, holder_of}
use Rattle.storage_relation.specs.Stored.{IsBeside, with_place}
use Rattle.activation_relation.specs.Layers.{Layer, Point}
use Rattle.activation_relation.specs.Frames.{FramesStand, AreLaid, AreBeside}
use Rattle.activation_relation.specs.Owned.{IsOwnPlace}
use Rattle.activation_relation.specs.Points.{Surroundings, Stands}

-- ---- one more variable

-- where it is made: its place among its block's variables, its data and its signature's number, the two stacks' ends
-- then, and what is told then of words in the block's frame
pub record Made : Type 0 where
  pub variable : ℕ
  pub generation : Generation
  pub place : ℕ
  pub number : ℕ
  pub top : ℕ
  pub lower : ℕ
  pub told : ℕ → Option ℕ

abbrev pub grown : Made → Layer → Layer
grown x φ = record φ { told = x.told; top = x.top; lower = x.lower }

abbrev pub newest_grown : Made → List Layer → List Layer
newest_grown x [] = []
newest_grown x (φ ∷ φs) = grown x φ ∷ φs

abbrev pub with_made : Made → Point → Point
with_made x p =
    record p {
      places = with_place (p.state.serials + 1) x.place x.number p.places;
      state = with_variable x.variable x.generation p.state;
      control = record p.control { layers = newest_grown x p.control.layers };
    }

-- its bytes are the newest block's: between the old ends of the stacks, and within the new ones
pub record FitsBlock (w : Surroundings) (p : Point) (x : Made) (φ : Layer) (φs : List Layer) : Type 0 where
  pub newest : p.control.layers ≡ φ ∷ φs
  pub upper : φ.top ≤ x.top
  pub falls : x.lower ≤ φ.lower
  pub free : x.top ≤ x.lower
  -- what is told of words now was told before, or lies in the new part of the upper stack
  pub told : (n v : ℕ) → x.told n ≡ Some v → (φ.told n ≡ Some v) ⊎ ((φ.top ≤ φ.at + n) × (φ.at + n + 4 ≤ x.top))
  pub own :
      IsOwnPlace w.parts (grown x φ) φs x.place
      (bytes_of p.keeper (holder_of (living_at (p.state.serials + 1) (length p.control.layers) x.generation)))
  pub extent : x.generation.extent ≡ pos 0
  pub shape : shape_at p.places.signatures x.number ≡ Some x.generation.shape

-- ---- the laws

pub record VariablesBegin : Type 0 where
  pub stands :
      (w : Surroundings) (p : Point) (x : Made) (φ : Layer) (φs : List Layer) → Stands w p → FitsBlock w p x φ φs →
      Stands w (with_made x p)
  -- bytes of the newest block's own are beside all frames
  pub beside :
      (w : Surroundings) (φ : Layer) (φs : List Layer) (at count : ℕ) → AreLaid w.parts (φ ∷ φs) →
      IsOwnPlace w.parts φ φs at count → AreBeside w.parts at count (φ ∷ φs)
  -- and a change in the bytes of what is stored leaves all frames
  pub stored :
      (w : Surroundings) (p : Point) (base n : ℕ) (h : Holder) (m new : List ℕ) → Stands w p →
      FramesStand w.parts base m p.state.activations p.control.layers → held p.state n ≡ Some h →
      IsBeside (p.places.at n) (bytes_of p.keeper h) m new →
      FramesStand w.parts base new p.state.activations p.control.layers
