-- The laws of frames: a block's beginning makes one, all others stay, and what stands there is what code reads.
use Rattle.std.specs.Prelude.{ℕ, suc, ◌+◌, ◌*◌, ◌^◌, ◌<◌, ◌≤◌, ◌≡◌, ◌==◌, List, ◌∷◌, length, drop, if◌then◌else◌}
use Rattle.std.specs.Prelude.{Some, None, Option, nat_lt}
use Rattle.pli_language.specs.declared.condition.Condition.{Condition}
use Rattle.pli_meaning.specs.Control.{Label}
use Rattle.rv_meaning.specs.Memory.{load, store}
use Rattle.pli_meaning.specs.StorageState.{Activation, ancestor, height_of, newest_height}
use Rattle.pli_meaning.specs.StorageState.{Binding, OnUnit}
use Rattle.pli_coding.specs.Frames.{MemoryParts, return_address, frame_below, saved_register, own_offset}
use Rattle.pli_coding.specs.Frames.{lower_top, display, fixed_size, list_offset, list_place, result}
use Rattle.pli_serving.specs.ServiceState as S
use Rattle.pli_serving.specs.ServiceState.{ProcedureBlock}
use Rattle.storage_relation.specs.Stored.{IsBeside}
use Rattle.activation_relation.specs.Layers.{Layer, Carried}
use Rattle.activation_relation.specs.Chains.{UnitPlaces, AreActive, HasParent, frame_at}
use Rattle.activation_relation.specs.Frames.{FramesStand, AreLaid, AreBeside, stored, frame_stores}
use Rattle.activation_relation.specs.Frames.{place_from, ancestor_frame, upper_top, word_place, frame_start}
use Rattle.activation_relation.specs.Frames.{frame_under}
use Rattle.activation_relation.specs.ServiceLaws.{FramesFall}

-- ---- what stays

pub record FramesKept : Type 0 where
  -- a change in bytes that no frame has leaves all frames
  pub beside :
      (parts : MemoryParts) (base at count : ℕ) (m new : List ℕ) (as' : List Activation) (φs : List Layer) →
      FramesStand parts base m as' φs → AreLaid parts φs → AreBeside parts at count φs → IsBeside at count m new →
      FramesStand parts base new as' φs
  -- what is free, above all frames, is no frame's
  pub above :
      (parts : MemoryParts) (at count : ℕ) (φs : List Layer) → AreLaid parts φs → upper_top parts φs ≤ at →
      AreBeside parts at count φs
  -- the frames of blocks further out stand where those above them have ended
  pub behind :
      (parts : MemoryParts) (base count : ℕ) (m : List ℕ) (as' : List Activation) (φs : List Layer) →
      FramesStand parts base m as' φs → FramesStand parts base m (drop count as') (drop count φs)
  pub laid : (parts : MemoryParts) (count : ℕ) (φs : List Layer) → AreLaid parts φs → AreLaid parts (drop count φs)
  -- each lies above those of the blocks below it
  pub fall : (parts : MemoryParts) (φs : List Layer) → AreLaid parts φs → FramesFall (upper_top parts φs) φs

-- ---- a frame begins

-- what its words are when it begins: words of the machine, and as many as fit
pub record AreWords (base : ℕ) (φ : Layer) : Type 0 where
  pub back : base + 4 * φ.back < 2 ^ 32
  pub held : (n : ℕ) → n < φ.saved → φ.held n < 2 ^ 32
  pub base_fits : base + φ.lower < 2 ^ 32

pub record FramesBegin : Type 0 where
  -- the display that a beginning copies out of its static parent's frame is that of its own ancestors, and behind it
  -- comes the parent itself
  pub copied :
      (units : UnitPlaces) (parts : MemoryParts) (base : ℕ) (m : List ℕ) (as' : List Activation) (φs : List Layer)
      (outer parent n : ℕ) → AreActive units as' φs → FramesStand parts base m as' φs →
      HasParent (suc outer) parent as' → n < outer →
      load 4 m (place_from (frame_at φs parent) (display n)) ≡ base + ancestor_frame as' φs parent n
  pub parent :
      (as' : List Activation) (φs : List Layer) (outer parent : ℕ) → HasParent (suc outer) parent as' →
      ancestor_frame as' φs parent outer ≡ frame_at φs parent
  -- the stores of a beginning make the frame, and all others stand as before; its words for temporaries are as they
  -- were
  pub begun :
      (parts : MemoryParts) (base : ℕ) (m : List ℕ) (a : Activation) (as' : List Activation) (φ : Layer)
      (φs : List Layer) → FramesStand parts base m as' φs → AreLaid parts (φ ∷ φs) → AreWords base φ →
      φ.lower ≤ length m → φ.list ≡ None → ((n : ℕ) → φ.told n ≡ None) →
      ((n v : ℕ) → n < φ.words → φ.waits n ≡ Some v → load 4 m (word_place φ n) ≡ v) →
      FramesStand parts base (stored (frame_stores parts base a.parent as' φ φs) m) (a ∷ as') (φ ∷ φs)
  -- and nothing changes but the frame's own bytes
  pub within :
      (parts : MemoryParts) (base : ℕ) (m : List ℕ) (parent : ℕ) (as' : List Activation) (φ : Layer)
      (φs : List Layer) → AreLaid parts (φ ∷ φs) →
      IsBeside φ.at (fixed_size φ.level φ.parameters) m (stored (frame_stores parts base parent as' φ φs) m)

-- ---- words that wait

-- a word for temporaries holds something from now on
abbrev pub waiting : (n v : ℕ) → Layer → Layer
waiting n v φ = record φ { waits = λ j. if j == n then Some v else φ.waits j }

-- all that is told of its words for temporaries
abbrev pub with_waits : (ℕ → Option ℕ) → Layer → Layer
with_waits waits φ = record φ { waits = waits }

-- where the list of its arguments stands is known from now on
abbrev pub listed : (at : ℕ) → Layer → Layer
listed at φ = record φ { list = Some at }

-- the lower stack grows
abbrev pub lowered : (lower : ℕ) → Layer → Layer
lowered lower φ = record φ { lower = lower }

-- what is no part of a frame
pub record Unframed : Type 0 where
  pub bindings : List Binding
  pub own : List (Condition × OnUnit)
  pub units : List (Condition × S.OnUnit)
  pub top : ℕ
  pub carried : Label → Option Carried

abbrev pub activation_with : Unframed → Activation → Activation
activation_with x a = record a { bindings = x.bindings; units = x.own }

abbrev pub layer_with : Unframed → Layer → Layer
layer_with x φ = record φ { units = x.units; top = x.top; carried = x.carried }

pub record WordsWait : Type 0 where
  -- what is stored in a word of the newest block waits there; nothing else changes
  pub stored :
      (parts : MemoryParts) (base n v : ℕ) (m : List ℕ) (a : Activation) (as' : List Activation) (φ : Layer)
      (φs : List Layer) → FramesStand parts base m (a ∷ as') (φ ∷ φs) →
      AreLaid parts (φ ∷ φs) × (φ.lower ≤ length m) × (n < φ.words) × (v < 2 ^ 32) →
      FramesStand parts base (store 4 m (word_place φ n) v) (a ∷ as') (waiting n v φ ∷ φs)
  pub lowered :
      (parts : MemoryParts) (base lower : ℕ) (m : List ℕ) (a : Activation) (as' : List Activation) (φ : Layer)
      (φs : List Layer) → FramesStand parts base m (a ∷ as') (φ ∷ φs) →
      AreLaid parts (φ ∷ φs) × (φ.lower ≤ length m) × (lower < 2 ^ 32) →
      FramesStand parts base (store 4 m (place_from φ.at lower_top) lower) (a ∷ as') (lowered lower φ ∷ φs)
  -- bytes of words for temporaries may change, of the newest block or of the one below it, whatever is told of them
  pub rewritten :
      (parts : MemoryParts) (base at count : ℕ) (m new : List ℕ) (a : Activation) (as' : List Activation) (φ : Layer)
      (φs : List Layer) (waits : ℕ → Option ℕ) → FramesStand parts base m (a ∷ as') (φ ∷ φs) →
      AreLaid parts (φ ∷ φs) × (frame_start φ ≤ at) × (at + count ≤ φ.at) × IsBeside at count m new →
      ((n v : ℕ) → n < φ.words → waits n ≡ Some v → load 4 new (word_place φ n) ≡ v) →
      FramesStand parts base new (a ∷ as') (with_waits waits φ ∷ φs)
  pub rewritten_below :
      (parts : MemoryParts) (base at count : ℕ) (m new : List ℕ) (b a : Activation) (as' : List Activation)
      (ψ φ : Layer) (φs : List Layer) (waits : ℕ → Option ℕ) → FramesStand parts base m (b ∷ a ∷ as') (ψ ∷ φ ∷ φs) →
      AreLaid parts (ψ ∷ φ ∷ φs) × (frame_start φ ≤ at) × (at + count ≤ φ.at) × IsBeside at count m new →
      ((n v : ℕ) → n < φ.words → waits n ≡ Some v → load 4 new (word_place φ n) ≡ v) →
      FramesStand parts base new (b ∷ a ∷ as') (ψ ∷ with_waits waits φ ∷ φs)
  -- a procedure keeps where the list of its arguments stands, by its address and by its offset
  pub listed :
      (parts : MemoryParts) (base at : ℕ) (m : List ℕ) (a : Activation) (as' : List Activation) (φ : Layer)
      (φs : List Layer) → FramesStand parts base m (a ∷ as') (φ ∷ φs) →
      AreLaid parts (φ ∷ φs) × (φ.lower ≤ length m) × (0 < φ.parameters) × (base + at < 2 ^ 32) →
      FramesStand parts base
      (store 4 (store 4 m (φ.at + list_place φ.level) (base + at)) (place_from φ.at list_offset) at) (a ∷ as')
      (listed at φ ∷ φs)
  -- a function's result has a word of its own, of which nothing more is told
  pub returned :
      (parts : MemoryParts) (base v : ℕ) (m : List ℕ) (a : Activation) (as' : List Activation) (φ : Layer)
      (φs : List Layer) → FramesStand parts base m (a ∷ as') (φ ∷ φs) →
      AreLaid parts (φ ∷ φs) × (φ.lower ≤ length m) →
      FramesStand parts base (store 4 m (φ.at + result) v) (a ∷ as') (φ ∷ φs)
  -- its units, its stack and the lists that it carries out are no part of its frame, nor what its variables stand for
  pub changed :
      (parts : MemoryParts) (base : ℕ) (m : List ℕ) (a : Activation) (as' : List Activation) (φ : Layer)
      (φs : List Layer) (x : Unframed) → FramesStand parts base m (a ∷ as') (φ ∷ φs) →
      FramesStand parts base m (activation_with x a ∷ as') (layer_with x φ ∷ φs)
  -- what waits in a block is there when the blocks above it have ended, whatever they did beside its frame
  pub across :
      (parts : MemoryParts) (base count : ℕ) (m : List ℕ) (as' : List Activation) (φs : List Layer) (φ : Layer)
      (behind : List Layer) → FramesStand parts base m as' φs → drop count φs ≡ φ ∷ behind → (n v : ℕ) →
      n < φ.words → φ.waits n ≡ Some v → load 4 m (word_place φ n) ≡ v

-- ---- a block ends

-- the registers then: those that it saved are loaded, the others stay
abbrev pub restored : Layer → List ℕ → (ℕ → ℕ) → ℕ → ℕ
restored φ m h n = if nat_lt n φ.saved then load 4 m (place_from φ.at (saved_register n)) else h n

pub record FramesEnd : Type 0 where
  -- the instruction where a procedure goes back, the frame below, and the stack as it was
  pub back :
      (parts : MemoryParts) (base : ℕ) (m : List ℕ) (a : Activation) (as' : List Activation) (φ : Layer)
      (φs : List Layer) → FramesStand parts base m (a ∷ as') (φ ∷ φs) → φ.kind ≡ ProcedureBlock →
      load 4 m (place_from φ.at return_address) ≡ base + 4 * φ.back
  pub below :
      (parts : MemoryParts) (base : ℕ) (m : List ℕ) (a : Activation) (as' : List Activation) (φ : Layer)
      (φs : List Layer) → FramesStand parts base m (a ∷ as') (φ ∷ φs) →
      load 4 m (place_from φ.at frame_below) ≡ base + frame_under parts φs
  pub top :
      (parts : MemoryParts) (φ : Layer) (φs : List Layer) → AreLaid parts (φ ∷ φs) → frame_start φ ≡ upper_top parts φs
  -- all registers hold what they held where the block was entered, if it changed none but those that it saved
  pub registers :
      (parts : MemoryParts) (base : ℕ) (m : List ℕ) (a : Activation) (as' : List Activation) (φ : Layer)
      (φs : List Layer) (before after : ℕ → ℕ) → FramesStand parts base m (a ∷ as') (φ ∷ φs) →
      ((n : ℕ) → n < φ.saved → φ.held n ≡ before n) × ((n : ℕ) → φ.saved ≤ n → after n ≡ before n) →
      (n : ℕ) → restored φ m after n ≡ before n
  -- where the program goes on further out it finds, by the display, the frame of the activation that the storage
  -- machine names, and there the frame's own place
  pub outer :
      (units : UnitPlaces) (parts : MemoryParts) (base : ℕ) (m : List ℕ) (a : Activation) (as' : List Activation)
      (φ : Layer) (φs : List Layer) (n : ℕ) → AreActive units (a ∷ as') (φ ∷ φs) →
      FramesStand parts base m (a ∷ as') (φ ∷ φs) → n < φ.level →
      load 4 m (place_from φ.at (display n))
      ≡ base + frame_at (φ ∷ φs) (height_of (ancestor (a ∷ as') (newest_height (a ∷ as')) n))
  pub own :
      (parts : MemoryParts) (base height : ℕ) (m : List ℕ) (as' : List Activation) (φs : List Layer) →
      FramesStand parts base m as' φs → (0 < height) × (height ≤ length φs) →
      load 4 m (place_from (frame_at φs height) own_offset) ≡ frame_at φs height
