-- Arrays around an expression, and on the ground of a block: their elements are read and written there.
use Rattle.std.proofs.Common.{◌≡◌, ℕ, ◌+◌, ◌*◌, ◌^◌, ◌<◌, ◌≤◌, List, ◌∷◌, length, Some}
use Rattle.std.specs.Prelude.{ℤ, pos, cond, ◌==◌, slice_get}
use Rattle.rv_meaning.specs.Words.{word}
use Rattle.rv_meaning.specs.Memory.{load, store}
use Rattle.rv_meaning.specs.Machine.{memory_size, load_width, extended, store_width}
use Rattle.pli_typing.specs.Signatures.{Bounds, element_count}
use Rattle.pli_typing.specs.TypedTree as Y
use Rattle.pli_meaning.specs.StorageState.{State}
use Rattle.pli_coding.specs.Environments.{Environment}
use Rattle.pli_headline.specs.ProvedSoFar.{Names, Types, AreBounds}
use Rattle.run_steps.specs.Engine.{Base}
use Rattle.pli_headline.proofs.Scalars.{Values, Fits, load_kind, store_kind, IsNumeric}
use Rattle.run_steps.specs.Bodies.{Ground, PlaceFrom}
use Rattle.run_steps.specs.Reaching.{Reaches}
use Rattle.pli_headline.proofs.Variables.{data_place, level_of}
use Rattle.pli_headline.proofs.ElementsStay.{with_element_at}
use Rattle.pli_headline.proofs.ArrayMeant.{HoldsArray}
use Rattle.pli_headline.proofs.ArrayElements.{IsDeclaredArray, ArrayScope}

-- an array of numbers or bits of the block
abbrev pub IsArrayAt : Types → (j : ℕ) → Y.LeafType → Bounds → List Bounds → Type 0
IsArrayAt types j type b bs = (slice_get types j ≡ Some (record { type = type; bounds = b ∷ bs })) × IsNumeric type

-- what variables hold when an element is assigned
abbrev pub with_element_of : Values → (j p : ℕ) → ℤ → Values
with_element_of n j p z =
    record {
      numbers = n.numbers;
      texts = n.texts;
      arrays = λ i. cond (i == j) (with_element_at (n.arrays i) p z) (n.arrays i);
      text_arrays = n.text_arrays;
    }

-- all arrays around an expression
abbrev pub ArraysHeld : Ground → Environment → (block : Names) → Types → State → Values → Type 0
ArraysHeld g e block types s held =
    (j : ℕ) (type : Y.LeafType) (b : Bounds) (bs : List Bounds) → IsArrayAt types j type b bs → ArrayScope g e s block j type (b ∷ bs) (held.arrays j)

-- an array on a block's ground, from the frame that holds it, below the stack
pub record ArrayOn (e : Environment) (block : Names) (base free : ℕ) (ground : Values → Ground) (j : ℕ) (type : Y.LeafType) (bs : List Bounds) : Type 0 where
  pub declared : IsDeclaredArray e block j type bs
  pub bounds : AreBounds bs
  pub few : element_count bs ≤ 2 ^ 20
  pub within : base + 4 * element_count bs ≤ memory_size
  pub under : base + 4 * element_count bs + data_place e block j ≤ free
  pub places : (p : ℕ) → p < element_count bs → PlaceFrom (base + 4 * p) (pos (data_place e block j)) (base + 4 * p + data_place e block j)
  pub reads : (n : Values) (p : ℕ) → p < element_count bs → Fits type (n.arrays j p) → (t : ℕ → ℕ) (b : Base) (m : List ℕ) → (ground n).memory t b m → extended (load_kind type) (load (load_width (load_kind type)) m (base + 4 * p + data_place e block j)) ≡ word (n.arrays j p)
  pub writes : (n : Values) (p : ℕ) (z : ℤ) → p < element_count bs → Fits type (n.arrays j p) → Fits type z → (t : ℕ → ℕ) (b : Base) (m : List ℕ) → length m ≡ memory_size → (ground n).memory t b m → (ground (with_element_of n j p z)).memory t b (store (store_width (store_kind type)) m (base + 4 * p + data_place e block j) (word z))

abbrev pub ArraysOn : Environment → (block : Names) → Types → (base : ℕ → ℕ) → (free : ℕ) → (Values → Ground) → Type 0
ArraysOn e block types base free ground =
    (j : ℕ) (type : Y.LeafType) (b : Bounds) (bs : List Bounds) → IsArrayAt types j type b bs → ArrayOn e block (base j) free ground j type (b ∷ bs)

-- around an expression
abbrev pub array_scope : {e : Environment} {block : Names} {base free : ℕ} {ground : Values → Ground} {j : ℕ} {type : Y.LeafType} {bs : List Bounds} {s : State} {serial : ℕ} (on : ArrayOn e block base free ground j type bs) (n : Values) → HoldsArray s block j serial type bs (n.arrays j) → Reaches (level_of block j == e.level) (level_of block j) (ground n) base → ArrayScope (ground n) e s block j type bs (n.arrays j)
array_scope {base = base} {serial = serial} on n holds reach =
    record {
      declared = on.declared;
      bounds = on.bounds;
      few = on.few;
      serial = serial;
      holds = holds;
      base = base;
      within = on.within;
      reach = reach;
      places = on.places;
      reads = λ p below. on.reads n p below (holds.fits p below);
    }
