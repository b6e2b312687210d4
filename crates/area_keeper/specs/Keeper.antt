-- An area as its bytes keep it. A keeper is the functions on these bytes; how headers lie in them is its own affair.
use Rattle.std.specs.Prelude.{ℕ, ℤ, List, Option}

-- a generation in an area: its offset, its data size, the number of its signature, and the REFER extent with which it was
-- allocated (0 without one)
pub record Kept : Type 0 where
  pub offset : ℕ
  pub size : ℕ
  pub signature : ℕ
  pub extent : ℤ

-- what the bytes of an area stand for: generations in the order of their offsets
pub record KeptArea : Type 0 where
  pub capacity : ℕ
  pub placed : List Kept

-- bytes come last, and are those of the whole area; a function that gives bytes gives as many
pub record Keeper : Type 0 where
  -- how many bytes an area of this capacity takes
  pub bytes_for : (capacity : ℕ) → ℕ
  -- the empty area in these bytes
  pub made : (capacity : ℕ) → List ℕ → List ℕ
  -- what bytes stand for, none where they are no area
  pub area_of : List ℕ → Option KeptArea
  -- where the data of the generation at an offset begins
  pub data_at : (offset : ℕ) → List ℕ → ℕ
  pub emptied : List ℕ → List ℕ
  -- the offset of the least gap, and the area with a generation there; none without a gap
  pub allocated : (size signature : ℕ) → (extent : ℤ) → List ℕ → Option (ℕ × List ℕ)
  -- without the generation at an offset, none where there is none of that signature
  pub freed : (offset signature : ℕ) → List ℕ → Option (List ℕ)
  -- with the generations of another area at their offsets, none where they don't fit
  pub copied : (from : List ℕ) → List ℕ → Option (List ℕ)
