-- Laws of the definitions, each of which a function of `src/laws.rt` carries.
use Rattle.std.specs.Prelude.{◌≡◌, ◌≢◌, ◌↔◌, ℕ, suc, ◌≤◌, List, ◌++◌, Some}
use Rattle.pli_meaning.specs.declared.outcome.End.TheVariants.{Running}
use Rattle.pli_meaning.specs.World.{World}
use Rattle.pli_typing.specs.TypedTree.{Program}
use Rattle.pli_meaning.specs.Contents.{Placed, footprint_of, IsGap, IsOrdered, gap, with_placed, without_offset, greatest_end}
use Rattle.pli_meaning.specs.Executing.{meaning}

-- ys begins with xs
pub record IsPrefix {X : Type 0} (xs ys : List X) : Type 0 where
  pub rest : List X
  pub joined : ys ≡ xs ++ rest

-- a world shows all that an earlier one showed, after as many acts or more
pub record Extends (earlier later : World) : Type 0 where
  pub acts : earlier.acts ≤ later.acts
  pub output : IsPrefix earlier.output later.output
  pub raised : IsPrefix earlier.raised later.raised

-- with one more act allowed a program shows all that it showed
abbrev pub StorageGrows : Type 0
StorageGrows = (program : Program) (input : List ℕ) (k : ℕ) (w w' : World) → meaning program input k ≡ Some w → meaning program input (suc k) ≡ Some w' → Extends w w'

-- a program that has ended stays as it is
abbrev pub StorageStays : Type 0
StorageStays = (program : Program) (input : List ℕ) (k : ℕ) (w : World) → meaning program input k ≡ Some w → w.end ≢ Running → meaning program input (suc k) ≡ Some w

-- a program does at most the acts that are allowed, and exactly those where it is still running
abbrev pub StorageActsAllowed : Type 0
StorageActsAllowed = (program : Program) (input : List ℕ) (k : ℕ) (w : World) → meaning program input k ≡ Some w → (w.acts ≤ k) × (w.end ≡ Running → w.acts ≡ k)

-- an offset is found for so many bytes just where it is the least that fits
abbrev pub GapExact : Type 0
GapExact = (capacity bytes : ℕ) (placed : List Placed) → IsOrdered 0 capacity placed → (offset : ℕ) → (gap capacity bytes placed ≡ Some offset) ↔ IsGap capacity bytes placed offset

-- no footprint of an area meets another, whatever is placed, freed and assigned
pub record FootprintsApart : Type 0 where
  pub placed : (capacity : ℕ) (new : Placed) (placed : List Placed) → IsOrdered 0 capacity placed → gap capacity (footprint_of new.generation) placed ≡ Some new.offset → IsOrdered 0 capacity (with_placed new placed)
  pub freed : (capacity offset : ℕ) (placed : List Placed) → IsOrdered 0 capacity placed → IsOrdered 0 capacity (without_offset offset placed)
  pub assigned : (capacity into : ℕ) (placed : List Placed) → IsOrdered 0 capacity placed → greatest_end placed ≤ into → IsOrdered 0 into placed
