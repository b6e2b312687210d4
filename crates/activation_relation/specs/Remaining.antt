-- What lives at one point and at a later one: it stays where it stands, with its owner and its shape, whatever came of
-- its values; and each activation that was there has as much of AUTOMATIC storage.
use Rattle.std.specs.Prelude.{ℕ, ◌+◌, ◌≤◌, ◌<◌, ◌≡◌, ◌==◌, List, [], ◌∷◌, Option, Some, length, nat_lt}
use Rattle.std.specs.Prelude.{if◌then◌else◌}
use Rattle.pli_meaning.specs.BasicValues.{BasicValue, VariableName}
use Rattle.pli_meaning.specs.Contents.{footprint_of}
use Rattle.pli_meaning.specs.Evaluating.{Designated}
use Rattle.pli_meaning.specs.Placing.{with_element}
use Rattle.pli_meaning.specs.StorageState.{Activation, Living, automatic_in_use, living_of, newest_height}
use Rattle.pli_meaning.specs.StorageState.{with_generation}
use Rattle.pli_meaning.specs.World.{World}
use Rattle.pli_serving.specs.ServiceState as S
use Rattle.storage_relation.specs.Fills.{Grows, most_filled}
use Rattle.storage_relation.specs.Stored.{AreLow, Extends, KeepNumbers, Lives}
use Rattle.activation_relation.specs.Layers.{Point}
use Rattle.activation_relation.specs.Changes.{popped, pushed, with_act, with_line}
use Rattle.activation_relation.specs.Variables.{Made, with_made}
use Rattle.activation_relation.specs.Layers.{Layer}
use Rattle.pli_typing.specs.TypedTree as Y
use Rattle.pli_meaning.specs.Raising.{Entry}

-- one lives on: something with its owner and its shape lives in its place
pub record LivesOn (l : Living) (o : Option Living) : Type 0 where
  pub there : Living
  pub lives : o ≡ Some there
  pub owner : there.owner ≡ l.owner
  pub shape : there.generation.shape ≡ l.generation.shape

-- what the activations up to a height have of AUTOMATIC storage
abbrev pub in_use_up_to : (height : ℕ) → List Living → ℕ
in_use_up_to height [] = 0
in_use_up_to height (l ∷ ls) =
    if l.owner == 0 then in_use_up_to height ls
    else (if nat_lt height l.owner then in_use_up_to height ls
    else footprint_of l.generation + in_use_up_to height ls)

-- serials only grow, and none that was given moves; no signature has another number than it had, whether the run
-- has told its extents yet or not, and those that came since are such as a run may fill in; what is told of static data
-- is told; what was active is active, and no activation that was there has more or less
pub record Remains (p q : Point) : Type 0 where
  pub living : (n : ℕ) (l : Living) → living_of p.state.living n ≡ Some l → LivesOn l (living_of q.state.living n)
  pub serials : p.state.serials ≤ q.state.serials
  pub at : (n : ℕ) → n ≤ p.state.serials → q.places.at n ≡ p.places.at n
  pub number : (n : ℕ) → n ≤ p.state.serials → q.places.number n ≡ p.places.number n
  pub signatures : Grows p.places.fills q.places.fills p.places.signatures q.places.signatures
  pub statics : q.state.statics ≡ p.state.statics
  pub low : q.places.low ≡ p.places.low
  pub constants : q.places.constants ≡ p.places.constants
  pub active : length p.state.activations ≤ length q.state.activations
  pub in_use :
      (height : ℕ) → height ≤ length p.state.activations →
      in_use_up_to height q.state.living ≡ in_use_up_to height p.state.living

-- an element of a variable's own generation has a value
abbrev pub with_assigned : (serial : ℕ) → Designated → BasicValue → Point → Point
with_assigned serial d v p =
    record p { state = with_generation (VariableName serial) (with_element d v) p.state }

-- ---- the laws

pub record StorageRemains : Type 0 where
  pub same : (p : Point) → Remains p p
  -- what has a shape keeps it
  pub shapes : (p q : Point) → Remains p q → Extends p.places.signatures q.places.signatures
  -- whatever has a number keeps it, and there are no more signatures than those that were there and that may be filled in
  pub numbers : (p q : Point) → Remains p q → KeepNumbers p.places.signatures q.places.signatures
  pub few :
      (p q : Point) → Remains p q →
      length q.places.signatures ≤ length p.places.signatures + most_filled p.places.fills
  pub then' : (p q r : Point) → Remains p q → Remains q r → Remains p r
  pub acted :
      (p : Point) (change : World → World) (line : ℕ) → Remains p (with_act change (with_line line p))
  pub entered : (p : Point) (head : Y.BlockHead) (entry : Entry) (φ : Layer) (line : ℕ) →
      Remains p (pushed head entry φ line p)
  -- one more variable of a block that wasn't there leaves all others
  pub made :
      (p q : Point) (x : Made) → Remains p q → Lives q.places q.state →
      length p.state.activations < newest_height q.state.activations → Remains p (with_made x q)
  -- and so does an assignment to an element of one
  pub assigned : (p : Point) (serial : ℕ) (d : Designated) (v : BasicValue) → Remains p (with_assigned serial d v p)
  -- with the newest block go its own variables alone: what those below it own lives on
  pub left :
      (p q : Point) (a : Activation) (as' : List Activation) (kept : List S.Entry) → Remains p q →
      q.state.activations ≡ a ∷ as' → AreLow (length as') p.state.living → a.height ≡ length as' + 1 →
      length p.state.activations ≤ length as' → Remains p (popped kept q)
  -- where no more blocks are active, as much is in use
  pub in_use :
      (p q : Point) → Remains p q → length q.state.activations ≡ length p.state.activations →
      AreLow (length p.state.activations) p.state.living → AreLow (length q.state.activations) q.state.living →
      automatic_in_use q.state.living ≡ automatic_in_use p.state.living
