-- Frames in memory: the words that stand in each, and its place between the two stacks.
use Rattle.std.specs.Prelude.{ℕ, zero, suc, ◌+◌, ◌-◌, ◌*◌, ◌<◌, ◌≤◌, ◌≡◌, ℤ, pos, negsuc, List, [], ◌∷◌, ◌++◌, ⊤, Some}
use Rattle.rv_meaning.specs.Memory.{load, store}
use Rattle.pli_meaning.specs.StorageState.{Activation, ancestor, height_of}
use Rattle.pli_serving.specs.ServiceState as S
use Rattle.pli_coding.specs.Frames.{MemoryParts, return_address, frame_below, saved_register, own_offset, lower_top}
use Rattle.pli_coding.specs.Frames.{display, fixed_size, list_offset, list_place, temporary_bytes}
use Rattle.pli_coding.specs.Images.{first_frame_bytes}
use Rattle.pli_coding.specs.Registers.{held_registers}
use Rattle.storage_relation.specs.Stored.{Beside}
use Rattle.activation_relation.specs.Layers.{Layer}
use Rattle.activation_relation.specs.Chains.{frame_at}

-- ---- places

-- a place as code gives it, from a frame's address
abbrev pub place_from : (frame : ℕ) → ℤ → ℕ
place_from frame (pos n) = frame + n
place_from frame (negsuc n) = frame - suc n

-- one of the words for temporaries, the first one highest
abbrev pub word_place : Layer → (n : ℕ) → ℕ
word_place φ n = φ.at - 4 * suc n

-- a frame begins with its words for temporaries, and takes so many bytes beside its variables
abbrev pub frame_start : Layer → ℕ
frame_start φ = φ.at - temporary_bytes φ.words

abbrev pub frame_bytes : Layer → ℕ
frame_bytes φ = temporary_bytes φ.words + fixed_size φ.level φ.parameters

-- the frame below: below all others stands that of the start, which is no block's
abbrev pub frame_under : MemoryParts → List Layer → ℕ
frame_under parts [] = parts.stack_start
frame_under parts (φ ∷ φs) = φ.at

-- the two stacks' ends
abbrev pub upper_top : MemoryParts → List Layer → ℕ
upper_top parts [] = parts.stack_start + first_frame_bytes
upper_top parts (φ ∷ φs) = φ.top

abbrev pub lower_end : MemoryParts → List Layer → ℕ
lower_end parts [] = parts.stack_end
lower_end parts (φ ∷ φs) = φ.lower

-- ---- what stands there, with a machine at a base

-- a procedure goes back to an instruction; an on-unit goes on where its raise said
abbrev pub GoesBack : S.BlockKind → (base back at : ℕ) → List ℕ → Type 0
GoesBack S.ProcedureBlock base back at m = load 4 m at ≡ base + 4 * back
GoesBack kind base back at m = ⊤

-- the frame of the static ancestor at a level, of a block whose static parent has a height
abbrev pub ancestor_frame : List Activation → List Layer → (parent level : ℕ) → ℕ
ancestor_frame as' φs parent level = frame_at φs (height_of (ancestor as' parent level))

pub record FrameStands (parts : MemoryParts) (base : ℕ) (m : List ℕ) (a : Activation) (as' : List Activation)
    (φ : Layer) (φs : List Layer) : Type 0 where
  pub back : GoesBack φ.kind base φ.back (place_from φ.at return_address) m
  pub below : load 4 m (place_from φ.at frame_below) ≡ base + frame_under parts φs
  pub saved : (n : ℕ) → n < φ.saved → load 4 m (place_from φ.at (saved_register n)) ≡ φ.held n
  pub own : load 4 m (place_from φ.at own_offset) ≡ φ.at
  pub lower : load 4 m (place_from φ.at lower_top) ≡ φ.lower
  -- the display: one word for each level around
  pub display_words :
      (n : ℕ) → n < φ.level → load 4 m (place_from φ.at (display n)) ≡ base + ancestor_frame as' φs a.parent n
  pub waits : (n v : ℕ) → n < φ.words → φ.waits n ≡ Some v → load 4 m (word_place φ n) ≡ v
  pub told : (n v : ℕ) → φ.told n ≡ Some v → load 4 m (φ.at + n) ≡ v
  -- the list of its arguments, by its offset and by its address
  pub list :
      (at : ℕ) → φ.list ≡ Some at →
      (0 < φ.parameters) × (load 4 m (place_from φ.at list_offset) ≡ at)
      × (load 4 m (φ.at + list_place φ.level) ≡ base + at)

-- what the start's frame tells
pub record FirstStands (parts : MemoryParts) (m : List ℕ) : Type 0 where
  pub own : load 4 m (place_from parts.stack_start own_offset) ≡ parts.stack_start
  pub lower : load 4 m (place_from parts.stack_start lower_top) ≡ parts.stack_end

abbrev pub FramesStand : MemoryParts → (base : ℕ) → List ℕ → List Activation → List Layer → Type 0
FramesStand parts base m [] [] = FirstStands parts m
FramesStand parts base m (a ∷ as') (φ ∷ φs) =
    FrameStands parts base m a as' φ φs × FramesStand parts base m as' φs
FramesStand parts base m _ _ = ⊥

-- ---- between the stacks

-- a frame lies right above what the one below has, and all that is made of it lies below the lower stack
pub record IsLaid (parts : MemoryParts) (φ : Layer) (φs : List Layer) : Type 0 where
  pub above : upper_top parts φs + temporary_bytes φ.words ≡ φ.at
  pub fixed : φ.at + fixed_size φ.level φ.parameters ≤ φ.top
  pub falls : φ.lower ≤ lower_end parts φs
  pub free : φ.top ≤ φ.lower
  pub saved : φ.saved ≤ held_registers
  -- what is told of words behind its fixed part is told of its own part of the upper stack
  pub told : (n v : ℕ) → φ.told n ≡ Some v → (fixed_size φ.level φ.parameters ≤ n) × (φ.at + n + 4 ≤ φ.top)

abbrev pub AreLaid : MemoryParts → List Layer → Type 0
AreLaid parts [] = parts.stack_start + first_frame_bytes ≤ parts.stack_end
AreLaid parts (φ ∷ φs) = IsLaid parts φ φs × AreLaid parts φs

-- bytes of which nothing is told
abbrev pub BesideTold : (at count : ℕ) → Layer → Type 0
BesideTold at count φ = (n v : ℕ) → φ.told n ≡ Some v → Beside at count (φ.at + n) 4

-- bytes that no frame has
abbrev pub AreBeside : MemoryParts → (at count : ℕ) → List Layer → Type 0
AreBeside parts at count [] = Beside at count parts.stack_start first_frame_bytes
AreBeside parts at count (φ ∷ φs) =
    (Beside at count (frame_start φ) (frame_bytes φ) × BesideTold at count φ) × AreBeside parts at count φs

-- ---- the stores of a block's beginning

-- words that are stored one after the other, each at its place
abbrev pub Stores : Type 0
Stores = List (ℕ × ℕ)

abbrev pub stored : Stores → List ℕ → List ℕ
stored [] m = m
stored (x ∷ xs) m = stored xs (store 4 m x.0 x.1)

-- so many words from a place on, the nth of them and those behind it
abbrev pub words_from : (at : ℕ) → (ℕ → ℕ) → (n left : ℕ) → Stores
words_from at value n zero = []
words_from at value n (suc left) = (at + 4 * n, value n) ∷ words_from at value (suc n) left

-- a begin block is left by no call
abbrev pub return_stores : S.BlockKind → (at value : ℕ) → Stores
return_stores S.BeginBlock at value = []
return_stores kind at value = (at, value) ∷ []

-- as code writes them: what is saved, the frame below, the lower stack's top, the display, and the frame's own place
abbrev pub frame_stores : MemoryParts → (base parent : ℕ) → List Activation → Layer → List Layer → Stores
frame_stores parts base parent as' φ φs =
    return_stores φ.kind (place_from φ.at return_address) (base + 4 * φ.back)
    ++ (words_from (place_from φ.at (saved_register 0)) φ.held 0 φ.saved
    ++ ((place_from φ.at frame_below, base + frame_under parts φs)
    ∷ (place_from φ.at lower_top, φ.lower)
    ∷ (words_from (place_from φ.at (display 0)) (λ n. base + ancestor_frame as' φs parent n) 0 φ.level
    ++ ((place_from φ.at own_offset, φ.at) ∷ []))))
