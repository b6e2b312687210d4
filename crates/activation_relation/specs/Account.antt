-- The account of the two stacks, in bytes: what each activation has taken of them, and that one more fits.
use Rattle.std.specs.Prelude.{ℕ, suc, ◌+◌, ◌*◌, ◌<◌, ◌≤◌, ◌≡◌, ◌==◌, List, [], ◌∷◌, length, ⊤, if◌then◌else◌}
use Rattle.pli_typing.specs.Signatures.{rounded_up}
use Rattle.pli_meaning.specs.StorageState.{Living, most_activations, without_owner}
use Rattle.area_keeper.specs.Keeper.{Keeper}
use Rattle.pli_coding.specs.Frames.{MemoryParts, name_bytes}
use Rattle.pli_coding.specs.Images.{first_frame_bytes}
use Rattle.storage_relation.specs.Standing.{holder_of, bytes_of}
use Rattle.activation_relation.specs.Layers.{Layer}
use Rattle.activation_relation.specs.Frames.{upper_top, lower_end}

-- ---- data

-- a variable takes its name and its data, in whole pieces of 16 bytes
abbrev pub bytes_taken : Keeper → Living → ℕ
bytes_taken k l = name_bytes + rounded_up 16 (bytes_of k (holder_of l))

abbrev pub owned_bytes : Keeper → (owner : ℕ) → List Living → ℕ
owned_bytes k owner [] = 0
owned_bytes k owner (l ∷ ls) =
    if l.owner == owner then bytes_taken k l + owned_bytes k owner ls else owned_bytes k owner ls

-- what all activations own
abbrev pub automatic_bytes : Keeper → List Living → ℕ
automatic_bytes k [] = 0
automatic_bytes k (l ∷ ls) = if l.owner == 0 then automatic_bytes k ls else bytes_taken k l + automatic_bytes k ls

-- ---- what is paid

-- an activation has taken of both stacks at most what the greatest frame takes beside variables, and its own data
abbrev pub IsPaid : Keeper → MemoryParts → (most : ℕ) → List Living → Layer → List Layer → Type 0
IsPaid k parts most living φ φs =
    φ.top + lower_end parts φs
    ≤ upper_top parts φs + (φ.lower + (most + owned_bytes k (suc (length φs)) living))

abbrev pub ArePaid : Keeper → MemoryParts → (most : ℕ) → List Living → List Layer → Type 0
ArePaid k parts most living [] = ⊤
ArePaid k parts most living (φ ∷ φs) = IsPaid k parts most living φ φs × ArePaid k parts most living φs

-- the stacks have room for as many frames as may be active, and for so many bytes of data
abbrev pub HasRoom : MemoryParts → (most data_bytes : ℕ) → Type 0
HasRoom parts most data_bytes =
    parts.stack_start + first_frame_bytes + (most_activations * most + data_bytes) ≤ parts.stack_end

-- ---- the laws

pub record StacksPaid : Type 0 where
  -- what all have taken of both stacks is at most a frame for each, and all data
  pub taken :
      (k : Keeper) (parts : MemoryParts) (most : ℕ) (living : List Living) (φs : List Layer) →
      ArePaid k parts most living φs →
      upper_top parts φs + parts.stack_end
      ≤ parts.stack_start + first_frame_bytes
      + (lower_end parts φs + (length φs * most + automatic_bytes k living))
  -- so while fewer are active than may be, one more frame fits with all the data that are still allowed
  pub fits :
      (k : Keeper) (parts : MemoryParts) (most data_bytes more : ℕ) (living : List Living) (φs : List Layer) →
      ArePaid k parts most living φs → HasRoom parts most data_bytes → length φs < most_activations →
      automatic_bytes k living + more ≤ data_bytes →
      upper_top parts φs + (most + more) ≤ lower_end parts φs
  -- a variable is paid by its owner, on either stack
  pub made :
      (k : Keeper) (parts : MemoryParts) (most : ℕ) (living : List Living) (l : Living) (φ : Layer)
      (φs : List Layer) (upper lower : ℕ) → ArePaid k parts most living (φ ∷ φs) → l.owner ≡ suc (length φs) →
      upper + φ.lower ≤ φ.top + (lower + bytes_taken k l) →
      ArePaid k parts most (l ∷ living) (record φ { top = upper; lower = lower } ∷ φs)
  -- the others' accounts stay when the newest activation ends
  pub ended :
      (k : Keeper) (parts : MemoryParts) (most : ℕ) (living : List Living) (φ : Layer) (φs : List Layer) →
      ArePaid k parts most living (φ ∷ φs) →
      ArePaid k parts most (without_owner (suc (length φs)) living) φs
