-- Lists of arguments: where a procedure keeps its own, and words for temporaries whose bytes change.
use Rattle.std.proofs.Common.{◌≡◌, ◌⊎◌, inl, inr, ℕ, ◌+◌, ◌-◌, ◌*◌, ◌^◌, ◌<◌, ◌≤◌, List, [], ◌∷◌, length}
use Rattle.std.proofs.Common.{Option, Some, ◌∙◌, arith}
use Rattle.rv_meaning.specs.Memory.{load, store}
use Rattle.rv_meaning.proofs.MemoryLaws.{length-store, load-store_same, load-store_other}
use Rattle.pli_meaning.specs.StorageState.{Activation}
use Rattle.pli_coding.specs.Frames.{MemoryParts, list_offset, list_place, return_address, temporary_bytes}
use Rattle.storage_relation.specs.Stored.{IsBeside}
use Rattle.activation_relation.specs.Layers.{Layer}
use Rattle.activation_relation.specs.Frames.{FrameStands, FramesStand, AreLaid, frame_start, place_from, upper_top}
use Rattle.activation_relation.specs.Frames.{word_place}
use Rattle.activation_relation.specs.FrameLaws.{listed, with_waits}
use Rattle.activation_relation.proofs.FrameWords.{back_same, beside_above, frames_kept, list_covered}
use Rattle.activation_relation.proofs.FrameWords.{frame_kept, told_under, words_covered}
use Rattle.activation_relation.proofs.StoredWords.{same_word, stored_beside}

-- ---- bytes of words for temporaries

rewritten_frame :
    (parts : MemoryParts) (base at count : ℕ) (m new : List ℕ) (a : Activation) (as' : List Activation) (φ : Layer)
    (φs : List Layer) (waits : ℕ → Option ℕ) → FrameStands parts base m a as' φ φs →
    (at + count ≤ φ.at) × IsBeside at count m new →
    ((n v : ℕ) → n < φ.words → waits n ≡ Some v → load 4 new (word_place φ n) ≡ v) →
    FrameStands parts base new a as' (with_waits waits φ) φs
rewritten_frame parts base at count m new a as' φ φs waits h is told =
    record {
      back = back_same φ.kind base φ.back (place_from φ.at return_address) m new (word (φ.at + 0) (omega arith)) h.back;
      below = word (φ.at + 4) (omega arith) ∙ h.below;
      saved = λ i few. word (φ.at + (8 + 4 * i)) (omega arith) ∙ h.saved i few;
      own = word (φ.at + 36) (omega arith) ∙ h.own;
      lower = word (φ.at + 40) (omega arith) ∙ h.lower;
      display_words = λ i few. word (φ.at + (144 + 4 * i)) (omega arith) ∙ h.display_words i few;
      waits = told;
      told = λ n v e. word (φ.at + n) (omega arith) ∙ h.told n v e;
      list = λ p e.
          let l = h.list p e in
          (l.0, word (φ.at + 44) (omega arith) ∙ l.1, word (φ.at + list_place φ.level) (omega arith) ∙ l.2);
    }
  where
    low : at + count ≤ φ.at
    low = is.0

    word : (p : ℕ) → φ.at ≤ p → load 4 new p ≡ load 4 m p
    word p high = same_word at count p m new is.1 (inl (omega (arith, high, low)))

pub words_rewritten :
    (parts : MemoryParts) (base at count : ℕ) (m new : List ℕ) (a : Activation) (as' : List Activation) (φ : Layer)
    (φs : List Layer) (waits : ℕ → Option ℕ) → FramesStand parts base m (a ∷ as') (φ ∷ φs) →
    AreLaid parts (φ ∷ φs) × (frame_start φ ≤ at) × (at + count ≤ φ.at) × IsBeside at count m new →
    ((n v : ℕ) → n < φ.words → waits n ≡ Some v → load 4 new (word_place φ n) ≡ v) →
    FramesStand parts base new (a ∷ as') (with_waits waits φ ∷ φs)
words_rewritten parts base at count m new a as' φ φs waits h is told =
    let above = is.0.0.above in
    let low = is.1 in (
      rewritten_frame parts base at count m new a as' φ φs waits h.0 (is.2, is.3) told,
      frames_kept parts base at count m new as' φs h.1 is.0.1
          (beside_above parts at count φs is.0.1 (omega (arith, above, low))) is.3,
    )

pub words_rewritten_below :
    (parts : MemoryParts) (base at count : ℕ) (m new : List ℕ) (b a : Activation) (as' : List Activation)
    (ψ φ : Layer) (φs : List Layer) (waits : ℕ → Option ℕ) → FramesStand parts base m (b ∷ a ∷ as') (ψ ∷ φ ∷ φs) →
    AreLaid parts (ψ ∷ φ ∷ φs) × (frame_start φ ≤ at) × (at + count ≤ φ.at) × IsBeside at count m new →
    ((n v : ℕ) → n < φ.words → waits n ≡ Some v → load 4 new (word_place φ n) ≡ v) →
    FramesStand parts base new (b ∷ a ∷ as') (ψ ∷ with_waits waits φ ∷ φs)
words_rewritten_below parts base at count m new b a as' ψ φ φs waits h is told =
    let above = is.0.0.above in
    let fixed = is.0.1.0.fixed in
    let low = is.2 in
    let kept = frame_kept parts base at count m new b (a ∷ as') ψ (φ ∷ φs) h.0 is.0.0
    (inl (omega (arith, above, fixed, low)), told_under ψ at count (omega (arith, above, fixed, low))) is.3 in (
      record {
        back = kept.back;
        below = kept.below;
        saved = kept.saved;
        own = kept.own;
        lower = kept.lower;
        display_words = kept.display_words;
        waits = kept.waits;
        told = kept.told;
        list = kept.list;
      },
      words_rewritten parts base at count m new a as' φ φs waits h.1 (is.0.1, is.1, is.2, is.3) told,
    )

-- ---- where a procedure keeps its list

pub list_stored :
    (parts : MemoryParts) (base at : ℕ) (m : List ℕ) (a : Activation) (as' : List Activation) (φ : Layer)
    (φs : List Layer) → FramesStand parts base m (a ∷ as') (φ ∷ φs) →
    AreLaid parts (φ ∷ φs) × (φ.lower ≤ length m) × (0 < φ.parameters) × (base + at < 2 ^ 32) →
    FramesStand parts base
    (store 4 (store 4 m (φ.at + list_place φ.level) (base + at)) (place_from φ.at list_offset) at) (a ∷ as')
    (listed at φ ∷ φs)
list_stored parts base at m a as' φ φs h is = (
  record {
    back = back_same φ.kind base φ.back (place_from φ.at return_address) m new
        (word (φ.at + 0) (inl (omega arith)) (inl (omega arith))) h.0.back;
    below = word (φ.at + 4) (inl (omega arith)) (inl (omega arith)) ∙ h.0.below;
    saved = λ i few. word (φ.at + (8 + 4 * i)) (inl (omega (arith, few, seven))) (inl (omega (arith, few, seven)))
        ∙ h.0.saved i few;
    own = word (φ.at + 36) (inl (omega arith)) (inl (omega arith)) ∙ h.0.own;
    lower = word (φ.at + 40) (inl (omega arith)) (inl (omega arith)) ∙ h.0.lower;
    display_words = λ i few. word (φ.at + (144 + 4 * i)) (inr (omega arith)) (inl (omega (arith, few)))
        ∙ h.0.display_words i few;
    waits = λ i v few e.
        word (word_place φ i) (inl (omega (arith, few, covered, above))) (inl (omega (arith, few, covered, above)))
        ∙ h.0.waits i v few e;
    told = λ n v e.
        let low = (is.0.0.told n v e).0 in
        let c = list_covered φ.level φ.parameters is.2 in
        word (φ.at + n) (inr (omega (arith, low, c))) (inr (omega (arith, low, c))) ∙ h.0.told n v e;
    list = λ p e.
        let same : at ≡ p = cc e in (
          is.2,
          load-store_same 4 first (φ.at + 44) at (omega (arith, small)) (omega (arith, room, long)) ∙ same,
          load-store_other 4 4 first (φ.at + 44) at (φ.at + list_place φ.level) (inr (omega arith))
              ∙ load-store_same 4 m (φ.at + list_place φ.level) (base + at) small (omega (arith, room))
              ∙ sum_same p same,
        );
  },
  frames_kept parts base φ.at (148 + 4 * φ.level) m new as' φs h.1 is.0.1
      (beside_above parts φ.at (148 + 4 * φ.level) φs is.0.1 (omega (arith, above)))
      (stored_beside φ.at (148 + 4 * φ.level) ((φ.at + list_place φ.level, base + at) ∷ (φ.at + 44, at) ∷ []) m
      ((omega arith, omega arith), ((omega arith, omega arith), tt))),
)
  where
    first : List ℕ
    first = store 4 m (φ.at + list_place φ.level) (base + at)

    new : List ℕ
    new = store 4 first (φ.at + 44) at

    long : length first ≡ length m
    long = length-store 4 m (φ.at + list_place φ.level) (base + at)

    small : base + at < 2 ^ 32
    small = is.3

    seven : φ.saved ≤ 7
    seven = is.0.0.saved

    covered : 4 * φ.words ≤ temporary_bytes φ.words
    covered = words_covered φ.words

    above : upper_top parts φs + temporary_bytes φ.words ≡ φ.at
    above = is.0.0.above

    room : φ.at + (148 + 4 * φ.level) ≤ length m
    room =
        let f = is.0.0.fixed in
        let g = is.0.0.free in
        let l = is.1 in
        let c = list_covered φ.level φ.parameters is.2 in
        omega (arith, f, g, l, c)

    sum_same : (p : ℕ) → at ≡ p → base + at ≡ base + p
    sum_same p e = omega (arith, e)

    word :
        (p : ℕ) → (p + 4 ≤ φ.at + 44) ⊎ (φ.at + 44 + 4 ≤ p) →
        (p + 4 ≤ φ.at + list_place φ.level) ⊎ (φ.at + list_place φ.level + 4 ≤ p) → load 4 new p ≡ load 4 m p
    word p o o' =
        load-store_other 4 4 first (φ.at + 44) at p o
        ∙ load-store_other 4 4 m (φ.at + list_place φ.level) (base + at) p o'
