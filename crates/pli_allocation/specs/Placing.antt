-- Generations placed in an area's bytes.
use Rattle.std.specs.Prelude.{◌≡◌, ℕ, ◌+◌, ◌≤◌, List, length, Option, Some, None, ⊤}
use Rattle.area_keeper.specs.Keeper.{Kept, KeptArea, Keeper}
use Rattle.area_keeper.specs.KeptAreas.{kept_at}
use Rattle.area_heap.specs.Answers.{bytes_or}
use Rattle.pli_typing.specs.Signatures.{data_size}
use Rattle.pli_meaning.specs.Contents.{Generation, signature_of}
use Rattle.pli_serving.specs.Bytes.{bytes_at, with_bytes}
use Rattle.pli_values.specs.declared.layout.Layout.{Layout}

-- an area's bytes keep a generation of so many bytes or more at an offset
pub record IsKept (k : Keeper) (offset signature count : ℕ) (bytes : List ℕ) : Type 0 where
  pub area : KeptArea
  pub kept : Kept
  pub stands : k.area_of bytes ≡ Some area
  pub there : kept_at area.placed offset ≡ Some kept
  pub offset_is : kept.offset ≡ offset
  pub signature_is : kept.signature ≡ signature
  pub room : count ≤ kept.size

-- what a keeper makes of a generation that is placed
abbrev pub placing : Keeper → (signature : ℕ) → Generation → (bytes : List ℕ) → Option (ℕ × List ℕ)
placing k signature g bytes = k.allocated (data_size (signature_of g)) signature g.extent bytes

-- an area's bytes with the data of a generation that was placed, none where it wasn't
abbrev pub bytes_placed : Keeper → (content : List ℕ) → Option (ℕ × List ℕ) → Option (List ℕ)
bytes_placed k content None = None
bytes_placed k content (Some p) = Some (with_bytes content (k.data_at p.0 p.1) p.1)

-- the memory with an area in which a generation was placed
abbrev pub memory_placed : Keeper → (at : ℕ) → (content memory : List ℕ) → Option (ℕ × List ℕ) → List ℕ
memory_placed k at content m None = m
memory_placed k at content m (Some p) = with_bytes content (at + k.data_at p.0 p.1) (with_bytes p.1 at m)

-- a placed generation's data lie in the area's bytes, which are as many as they were
abbrev pub IsWithin : Keeper → (content : List ℕ) → (count : ℕ) → Option (ℕ × List ℕ) → Type 0
IsWithin k content count None = ⊤
IsWithin k content count (Some p) = (length p.1 ≡ count) × (k.data_at p.0 p.1 + length content ≤ count)

-- the bytes of the heap before anything was placed in it
abbrev pub heap_first : Keeper → Layout → (memory : List ℕ) → List ℕ
heap_first k layout m = k.made layout.heap_capacity (bytes_at (k.bytes_for layout.heap_capacity) layout.heap_at m)
