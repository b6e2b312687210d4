-- Where frames stand: at multiples of 16, behind the code, and inside memory.
use Rattle.std.proofs.Common.{◌≡◌, ℕ, suc, ◌+◌, ◌*◌, ◌%◌, ◌^◌, ◌<◌, ◌≤◌, List, [], ◌∷◌, length, Bool, true, false, refl}
use Rattle.std.proofs.Common.{arith}
use Rattle.std.specs.Prelude.{pos, ◌==◌, cond}
use Rattle.std.proofs.lemmas.Bool.Decides.{nat_tests}
use Rattle.rv_meaning.specs.Machine.{memory_size}
use Rattle.pli_coding.specs.Frames.{MemoryParts, temporary_bytes}
use Rattle.run_steps.specs.Bodies.{Ground, PlaceFrom}
use Rattle.run_steps.specs.Engine.{Base}
use Rattle.run_steps.proofs.Numbers.{above_sum, above_small}
use Rattle.activation_relation.specs.Chains.{frame_at}
use Rattle.activation_relation.specs.Frames.{AreLaid, frame_under, upper_top, lower_end}
use Rattle.activation_relation.specs.Layers.{Layer}
use Rattle.block_runs.specs.Machines.{HasParts, AreEven}

-- ---- the two stacks

pub record Bounds (parts : MemoryParts) (φs : List Layer) : Type 0 where
  pub low : parts.stack_start ≤ frame_under parts φs
  pub above : frame_under parts φs + 48 ≤ upper_top parts φs
  pub free : upper_top parts φs ≤ lower_end parts φs
  pub high : lower_end parts φs ≤ parts.stack_end

pub bounds : (parts : MemoryParts) (φs : List Layer) → AreLaid parts φs → Bounds parts φs
bounds parts [] laid = record { low = omega arith; above = omega arith; free = laid; high = omega arith }
bounds parts (φ ∷ φs) laid =
    let below = bounds parts φs laid.1 in
    let low = below.low in
    let between = below.above in
    let high = below.high in
    let at = laid.0.above in
    let fixed = laid.0.fixed in
    let falls = laid.0.falls in
    record {
      low = omega (arith, low, between, at);
      above = omega (arith, fixed);
      free = laid.0.free;
      high = omega (arith, falls, high);
    }

even_bytes : (words : ℕ) → temporary_bytes words % 16 ≡ 0
even_bytes words = omega arith

pub even_top : (parts : MemoryParts) (φs : List Layer) → AreEven parts φs → upper_top parts φs % 16 ≡ 0
even_top parts [] even = omega (arith, even)
even_top parts (φ ∷ φs) even = even.0

pub even_frame : (parts : MemoryParts) (φs : List Layer) → AreLaid parts φs → AreEven parts φs →
    frame_under parts φs % 16 ≡ 0
even_frame parts [] laid even = even
even_frame parts (φ ∷ φs) laid even =
    let below = even_top parts φs even.1 in
    let bytes = even_bytes φ.words in
    let at = laid.0.above in
    omega (arith, below, bytes, at)

-- ---- frames that a machine can hold

pub record IsFrame (at : ℕ) : Type 0 where
  pub whole : at % 4 ≡ 0
  pub high : 7 * 2 ^ 20 ≤ at
  pub room : at + 2 ^ 12 ≤ 15 * 2 ^ 20

pub newest_frame : (parts : MemoryParts) (φs : List Layer) → HasParts parts → AreLaid parts φs → AreEven parts φs →
    IsFrame (frame_under parts φs)
newest_frame parts φs has laid even =
    let o = bounds parts φs laid in
    let low = o.low in
    let above = o.above in
    let free = o.free in
    let high = o.high in
    let first = has.high in
    let last = has.inside in
    let whole = even_frame parts φs laid even in
    record {
      whole = omega (arith, whole);
      high = omega (arith, low, first);
      room = omega (arith, above, free, high, last);
    }

-- the frame of the activation at a height
pub frame_found : (parts : MemoryParts) (φs : List Layer) (height : ℕ) → HasParts parts → AreLaid parts φs →
    AreEven parts φs → 1 ≤ height → height ≤ length φs → IsFrame (frame_at φs height)
frame_found parts [] height has laid even low high = absurd (omega (arith, low, high))
frame_found parts (φ ∷ φs) height has laid even low high =
    by (height == suc (length φs)) refl (λ less. frame_found parts φs height has laid.1 even.1 low less)
  where
    by :
        (q : Bool) → (height == suc (length φs)) ≡ q → (height ≤ length φs → IsFrame (frame_at φs height)) →
        IsFrame (cond q φ.at (frame_at φs height))
    by true e below = newest_frame parts (φ ∷ φs) has laid even
    by false e below =
        let less : height ≤ length φs = grind (arith, nat_tests) in
        below less

-- a word in a frame
pub word_in : (at n : ℕ) → IsFrame at → n % 4 ≡ 0 → n + 4 ≤ 2 ^ 12 → PlaceFrom at (pos n) (at + n)
word_in at n h even few =
    let whole = h.whole in
    let high = h.high in
    let room = h.room in
    record {
      small' = above_small n (omega (arith, few));
      sums = λ b. above_sum b.at at n b.valid.1 (omega (arith, room, few));
      aligned = omega (arith, whole, even);
      inside = omega (arith, room, few);
      above_code = omega (arith, high);
    }

pub inside_memory : (at : ℕ) → IsFrame at → at < memory_size
inside_memory at h = let room = h.room in omega (arith, room)

-- the ground of code in a frame
abbrev pub ground_at : (at free : ℕ) → IsFrame at → (Base → List ℕ → Type 0) → Ground
ground_at at free h memory =
    record {
      frame = at;
      free = free;
      words = 0;
      memory = λ t b m. memory b m;
      whole = h.whole;
      above_code = let high = h.high in omega (arith, high);
      inside = let room = h.room in omega (arith, room);
    }
