-- The frame of the main procedure is filled: what stands in memory then.
use Rattle.std.proofs.Common.{◌≡◌, ℕ, suc, ◌+◌, ◌-◌, ◌*◌, ◌%◌, ◌^◌, ◌<◌, ◌≤◌, inl, inr, List, length, refl, ◌∙◌, arith}
use Rattle.std.specs.Prelude.{pos, slice_index}
use Rattle.rv_meaning.specs.Memory.{load, store}
use Rattle.rv_meaning.specs.Machine.{memory_size}
use Rattle.rv_meaning.proofs.MemoryLaws.{length-store, byte-store_below, load-same, load-store_same, load-store_other}
use Rattle.pli_coding.specs.Frames.{temporary_bytes}
use Rattle.run_steps.specs.Engine.{Base, address, most_code}
use Rattle.pli_headline.proofs.Holdings.{Counted}
use Rattle.pli_headline.proofs.VariablePlaces.{Sizes, room_of}
use Rattle.pli_headline.proofs.MainGround.{Frame, Stands, statics_end}
use Rattle.pli_headline.proofs.FirstFrame.{start_memory, start_length, start_resume}

-- ---- the frame

-- where it lies behind so many words for temporaries
abbrev pub frame_place : (words : ℕ) → ℕ
frame_place words = statics_end + 48 + temporary_bytes words

pub frame_whole : (words : ℕ) → frame_place words % 4 ≡ 0
frame_whole words = omega arith

pub frame_above : (words : ℕ) → 7 * 2 ^ 20 + 48 + 4 * words ≤ frame_place words
frame_above words = omega arith

pub frame_inside : (words : ℕ) (sizes : Sizes) (count : ℕ) → words ≤ most_code → room_of sizes count ≤ 2 ^ 20 → frame_place words + 160 + room_of sizes count ≤ 14 * 2 ^ 20
frame_inside words sizes count small' few = omega (arith, small', few)

-- the frame with so many variables
abbrev pub main_frame : (words : ℕ) (sizes : Sizes) (count : ℕ) → words ≤ most_code → room_of sizes count ≤ 2 ^ 20 → Frame
main_frame words sizes count small' few =
    record {
      at = frame_place words;
      words = words;
      count = count;
      sizes = sizes;
      resume = start_resume;
      whole = frame_whole words;
      above_statics = frame_above words;
      inside = frame_inside words sizes count small' few;
    }

-- ---- stores from a place on

-- what lies below a place is kept
pub record Kept (at : ℕ) (m m' : List ℕ) : Type 0 where
  pub bytes : length m' ≡ length m
  pub under : (k : ℕ) → k < at → slice_index m' k ≡ slice_index m k

pub kept_same : (at : ℕ) (m : List ℕ) → Kept at m m
kept_same at m = record { bytes = refl; under = λ k h. refl }

pub kept_store : {at : ℕ} {m m' : List ℕ} (p x : ℕ) → at ≤ p → Kept at m m' → Kept at m (store 4 m' p x)
kept_store {at} {m} {m'} p x h o =
    record {
      bytes = length-store 4 m' p x ∙ o.bytes;
      under = λ k below. byte-store_below 4 m' p x k (omega (arith, h, below)) ∙ o.under k below;
    }

-- what a word is
pub record WordIs (m : List ℕ) (q v : ℕ) : Type 0 where
  pub is : load 4 m q ≡ v

-- a word below a store
pub word_under : {m : List ℕ} {q v : ℕ} (p x : ℕ) → q + 4 ≤ p → WordIs m q v → WordIs (store 4 m p x) q v
word_under {m} {q} p x h o = record { is = load-store_other 4 4 m p x q (inl h) ∙ o.is }

-- ---- the frame's words: the frame below, the top of the lower stack and the frame's own offset

-- behind what is saved
abbrev pub filled_in : List ℕ → (at y top own : ℕ) → List ℕ
filled_in m at y top own =
    store 4 (store 4 (store 4 m (at + 4) y) (at + 40) top) (at + 36) own

pub filled_keeps : {m0 m : List ℕ} (at y top own : ℕ) → Kept at m0 m → Kept at m0 (filled_in m at y top own)
filled_keeps at y top own kept =
    kept_store (at + 36) own (omega arith)
    (kept_store (at + 40) top (omega arith) (kept_store (at + 4) y (omega arith) kept))

filled_return : (m : List ℕ) (at y top own back : ℕ) → load 4 m at ≡ back → WordIs (filled_in m at y top own) at back
filled_return m at y top own back is =
    word_under (at + 36) own (omega arith)
    (word_under (at + 40) top (omega arith) (word_under (at + 4) y (omega arith) (record { is = is })))

filled_below : (m : List ℕ) (at y top own : ℕ) → y < 2 ^ 32 → at + 8 ≤ length m
    → WordIs (filled_in m at y top own) (at + 4) y
filled_below m at y top own small' inside =
    word_under (at + 36) own (omega arith)
    (word_under (at + 40) top (omega arith)
    (record { is = load-store_same 4 m (at + 4) y small' (omega (arith, inside)) }))

filled_own : (m : List ℕ) (at y top own : ℕ) → own < 2 ^ 32
    → at + 40 ≤ length (store 4 (store 4 m (at + 4) y) (at + 40) top) → load 4 (filled_in m at y top own) (at + 36)
    ≡ own
filled_own m at y top own small' inside =
    load-store_same 4 (store 4 (store 4 m (at + 4) y) (at + 40) top) (at + 36) own small' (omega (arith, inside))

-- ---- what stands then

-- the words for temporaries hold what is there at first
abbrev pub first_words : List ℕ → (at : ℕ) → ℕ → ℕ
first_words first at j = load 4 first (at - 4 * suc j)

start_keeps : (first : List ℕ) (k : ℕ) → k < statics_end → slice_index (start_memory first) k ≡ slice_index first k
start_keeps first k below =
    byte-store_below 4 (store 4 first (statics_end + 36) statics_end) (statics_end + 40) (14 * 2 ^ 20) k (omega (arith, below))
    ∙ byte-store_below 4 first (statics_end + 36) statics_end k (omega (arith, below))

start_words : (first : List ℕ) (q : ℕ) → statics_end + 48 ≤ q → load 4 (start_memory first) q ≡ load 4 first q
start_words first q above =
    load-store_other 4 4 (store 4 first (statics_end + 36) statics_end) (statics_end + 40) (14 * 2 ^ 20) q (inr (omega (arith, above)))
    ∙ load-store_other 4 4 first (statics_end + 36) statics_end q (inr (omega (arith, above)))

-- a frame without variables, where the place to return to is saved already
pub frame_stands : (f : Frame) (first m : List ℕ) (b : Base) (y top own : ℕ) → f.count ≡ 0
    → length first ≡ memory_size → Kept f.at (start_memory first) m → load 4 m f.at ≡ address b f.resume
    → y ≡ b.at + statics_end → own ≡ f.at
    → Stands f first (λ j. Counted (pos 0)) (first_words first f.at) b (filled_in m f.at y top own)
frame_stands f first m b y top own none len kept ra below mine =
    let above = f.above_statics in
    let inside = f.inside in
    let v = b.valid.1 in
    let long : length m ≡ memory_size = kept.bytes ∙ start_length first ∙ len in
    let last : length (store 4 (store 4 m (f.at + 4) y) (f.at + 40) top) ≡ memory_size =
    length-store 4 (store 4 m (f.at + 4) y) (f.at + 40) top ∙ length-store 4 m (f.at + 4) y ∙ long in
    let keeps = filled_keeps f.at y top own kept in
    record {
      statics = λ k h. keeps.under k (omega (arith, above, h)) ∙ start_keeps first k h;
      resumes = (filled_return m f.at y top own (address b f.resume) ra).is;
      below = (filled_below m f.at y top own (omega (arith, below, v)) (omega (arith, long, inside))).is ∙ below;
      own = filled_own m f.at y top own (omega (arith, mine, inside)) (omega (arith, last, inside)) ∙ mine;
      variables = λ j h. absurd (omega (arith, none, h));
      fits = λ j h. absurd (omega (arith, none, h));
      names = λ j h. absurd (omega (arith, none, h));
      temporaries = λ j h. load-same 4 (filled_in m f.at y top own) (start_memory first) (f.at - 4 * suc j)
          (λ k a c. keeps.under k (omega (arith, above, h, c)))
          ∙ start_words first (f.at - 4 * suc j) (omega (arith, above, h));
    }
