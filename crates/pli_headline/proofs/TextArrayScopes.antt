-- Arrays of texts around an expression, and on the ground of a block: their elements are read and written there.
use Rattle.std.proofs.Common.{◌≡◌, ℕ, ◌+◌, ◌*◌, ◌^◌, ◌<◌, ◌≤◌, List, ◌∷◌, length, Some, Bool}
use Rattle.std.specs.Prelude.{cond, ◌==◌, slice_get}
use Rattle.rv_meaning.specs.Machine.{memory_size}
use Rattle.pli_typing.specs.Signatures.{Bounds, element_count}
use Rattle.pli_meaning.specs.BasicValues.{BasicText}
use Rattle.pli_meaning.specs.StorageState.{State}
use Rattle.pli_serving.specs.Bytes.{with_bytes}
use Rattle.pli_serving.specs.Stored.{kept_bytes}
use Rattle.pli_coding.specs.Environments.{Environment}
use Rattle.pli_headline.specs.ProvedSoFar.{Names, Types, AreBounds, text_leaf}
use Rattle.run_steps.specs.Engine.{Base, most_code}
use Rattle.pli_headline.proofs.Scalars.{Values}
use Rattle.run_steps.specs.Bodies.{Ground}
use Rattle.run_steps.specs.Reaching.{Reaches}
use Rattle.pli_headline.proofs.Variables.{data_place, level_of}
use Rattle.pli_headline.proofs.ArrayElements.{IsDeclaredArray}
use Rattle.pli_headline.proofs.TextPlaces.{text_kind_of, TextThere}
use Rattle.pli_headline.proofs.TextsKept.{text_kept_as}
use Rattle.pli_headline.proofs.TextArraysStay.{text_stride, with_text_in}
use Rattle.pli_headline.proofs.TextArrayMeant.{HoldsTexts}
use Rattle.pli_headline.proofs.TextElements.{TextArrayScope}

-- an array of texts of the block
abbrev pub IsTextArrayAt : Types → (j : ℕ) → (varying : Bool) → (most : ℕ) → Bounds → List Bounds → Type 0
IsTextArrayAt types j varying most b bs =
    slice_get types j ≡ Some (record { type = text_leaf varying most; bounds = b ∷ bs })

-- what variables hold when an element is assigned
abbrev pub with_text_of : Values → (j p : ℕ) → List ℕ → Values
with_text_of n j p text =
    record {
      numbers = n.numbers;
      texts = n.texts;
      arrays = n.arrays;
      text_arrays = λ i. cond (i == j) (with_text_in (n.text_arrays i) p text) (n.text_arrays i);
    }

-- all of them around an expression
abbrev pub TextArraysHeld : Ground → Environment → (block : Names) → Types → State → Values → Type 0
TextArraysHeld g e block types s held =
    (j : ℕ) (varying : Bool) (most : ℕ) (b : Bounds) (bs : List Bounds) → IsTextArrayAt types j varying most b bs → TextArrayScope g e s block j varying most (b ∷ bs) (held.text_arrays j)

-- one on a block's ground, from the frame that holds it, below the stack
pub record TextArrayOn (e : Environment) (block : Names) (base free : ℕ) (ground : Values → Ground) (j : ℕ) (varying : Bool) (most : ℕ) (bs : List Bounds) : Type 0 where
  pub declared : IsDeclaredArray e block j (text_leaf varying most) bs
  pub bounds : AreBounds bs
  pub few : element_count bs ≤ 2 ^ 20
  pub some : 1 ≤ most
  pub short : most ≤ 1024
  pub high : 4 * most_code ≤ base
  pub within : base + element_count bs * text_stride varying most + data_place e block j ≤ memory_size
  pub under : base + element_count bs * text_stride varying most + data_place e block j ≤ free
  pub reads : (n : Values) (p : ℕ) → p < element_count bs → (t : ℕ → ℕ) (b : Base) (m : List ℕ) → (ground n).memory t b m → TextThere varying most (base + p * text_stride varying most + data_place e block j) m (n.text_arrays j p)
  pub writes : (n : Values) (p : ℕ) (text : List ℕ) → p < element_count bs → (t : ℕ → ℕ) (b : Base) (m : List ℕ) → length m ≡ memory_size → (ground n).memory t b m → (ground (with_text_of n j p (text_kept_as varying most text))).memory t b (with_bytes (kept_bytes (text_kind_of varying most) (BasicText text)) (base + p * text_stride varying most + data_place e block j) m)

abbrev pub TextArraysOn : Environment → (block : Names) → Types → (base : ℕ → ℕ) → (free : ℕ) → (Values → Ground) → Type 0
TextArraysOn e block types base free ground =
    (j : ℕ) (varying : Bool) (most : ℕ) (b : Bounds) (bs : List Bounds) → IsTextArrayAt types j varying most b bs → TextArrayOn e block (base j) free ground j varying most (b ∷ bs)

-- around an expression
abbrev pub text_array_scope : {e : Environment} {block : Names} {base free : ℕ} {ground : Values → Ground} {j : ℕ} {varying : Bool} {most : ℕ} {bs : List Bounds} {s : State} {serial : ℕ} (on : TextArrayOn e block base free ground j varying most bs) (n : Values) → HoldsTexts s block j serial varying most bs (n.text_arrays j) → Reaches (level_of block j == e.level) (level_of block j) (ground n) base → TextArrayScope (ground n) e s block j varying most bs (n.text_arrays j)
text_array_scope {base = base} {serial = serial} on n holds reach =
    record {
      declared = on.declared;
      bounds = on.bounds;
      few = on.few;
      some = on.some;
      short = on.short;
      serial = serial;
      holds = holds;
      base = base;
      high = on.high;
      within = on.within;
      reach = reach;
      reads = λ p below. on.reads n p below;
    }
