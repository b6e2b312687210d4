-- Frames in memory: which changes they stay through, and that a block's beginning makes one.
use Rattle.std.proofs.Common.{◌≡◌, inl, inr, ℕ, zero, suc, ◌+◌, ◌-◌, ◌*◌, ◌^◌, ◌<◌, ◌≤◌, List, [], ◌∷◌, ◌++◌}
use Rattle.std.proofs.Common.{Some, None, length, Bool, true, false, sym, ◌∙◌, subst, arith}
use Rattle.std.specs.Prelude.{drop, cond, ◌==◌}
use Rattle.rv_meaning.specs.Memory.{load}
use Rattle.pli_meaning.specs.StorageState.{Activation, ancestor, height_of}
use Rattle.pli_serving.specs.ServiceState as S
use Rattle.pli_coding.specs.Frames.{MemoryParts, return_address, frame_below, saved_register, own_offset, lower_top}
use Rattle.pli_coding.specs.Frames.{display, fixed_size, temporary_bytes}
use Rattle.pli_coding.specs.Images.{first_frame_bytes}
use Rattle.storage_relation.specs.Stored.{Beside, IsBeside}
use Rattle.activation_relation.specs.Layers.{Layer}
use Rattle.activation_relation.specs.Chains.{frame_at}
use Rattle.activation_relation.specs.Frames.{FrameStands, FramesStand, GoesBack, IsLaid, AreLaid, AreBeside, BesideTold}
use Rattle.activation_relation.specs.Frames.{frame_start, frame_bytes, frame_under, upper_top, word_place}
use Rattle.activation_relation.specs.Frames.{place_from, ancestor_frame, return_stores, stored, frame_stores}
use Rattle.activation_relation.specs.Frames.{words_from, Stores}
use Rattle.activation_relation.specs.FrameLaws.{AreWords}
use Rattle.activation_relation.specs.Owned.{AreWithin}
use Rattle.activation_relation.specs.ServiceLaws.{FramesFall}
use Rattle.activation_relation.proofs.StoredWords.{Apart, apart_append, apart_run, Writes, writes_first, writes_later}
use Rattle.activation_relation.proofs.StoredWords.{writes_behind, writes_before, writes_run, within_append}
use Rattle.activation_relation.proofs.StoredWords.{within_run, stored_beside, beside_word, same_word}

-- ---- sizes

pub words_covered : (words : ℕ) → 4 * words ≤ temporary_bytes words
words_covered words = omega arith

pub levels_covered : (level parameters : ℕ) → 144 + 4 * level ≤ fixed_size level parameters
levels_covered level parameters = omega arith

-- the word behind the display, where there are parameters
pub list_covered : (level parameters : ℕ) → 0 < parameters → 144 + 4 * level + 4 ≤ fixed_size level parameters
list_covered level parameters some = omega (arith, some)

-- ---- changes beside frames

pub back_same :
    (kind : S.BlockKind) (base back at : ℕ) (m new : List ℕ) → load 4 new at ≡ load 4 m at →
    GoesBack kind base back at m → GoesBack kind base back at new
back_same S.ProcedureBlock base back at m new same h = same ∙ h
back_same S.BeginBlock base back at m new same h = tt
back_same (S.OnUnitBlock code resume) base back at m new same h = tt

pub frame_kept :
    (parts : MemoryParts) (base at count : ℕ) (m new : List ℕ) (a : Activation) (as' : List Activation) (φ : Layer)
    (φs : List Layer) → FrameStands parts base m a as' φ φs → IsLaid parts φ φs →
    Beside at count (frame_start φ) (frame_bytes φ) × BesideTold at count φ → IsBeside at count m new →
    FrameStands parts base new a as' φ φs
frame_kept parts base at count m new a as' φ φs h laid beside is =
    record {
      back = back_same φ.kind base φ.back (place_from φ.at return_address) m new
          (word (φ.at + 0) (omega arith) (omega (arith, levels))) h.back;
      below = word (φ.at + 4) (omega arith) (omega (arith, levels)) ∙ h.below;
      saved = λ n few. word (φ.at + (8 + 4 * n)) (omega arith) (omega (arith, levels, few, registers)) ∙ h.saved n few;
      own = word (φ.at + 36) (omega arith) (omega (arith, levels)) ∙ h.own;
      lower = word (φ.at + 40) (omega arith) (omega (arith, levels)) ∙ h.lower;
      display_words =
          λ n few. word (φ.at + (144 + 4 * n)) (omega arith) (omega (arith, levels, few)) ∙ h.display_words n few;
      waits = λ n v few e. word (word_place φ n) (omega (arith, few, words, over)) (omega (arith, few, words, over))
          ∙ h.waits n v few e;
      told = λ n v e. same_word at count (φ.at + n) m new is (beside.1 n v e) ∙ h.told n v e;
      list = λ p e.
          let l = h.list p e in
          let some = l.0 in (
            some,
            word (φ.at + 44) (omega arith) (omega (arith, levels)) ∙ l.1,
            word (φ.at + (144 + 4 * φ.level)) (omega arith)
                (let c = list_covered φ.level φ.parameters some in omega (arith, c))
                ∙ l.2,
          );
    }
  where
    levels : 144 + 4 * φ.level ≤ fixed_size φ.level φ.parameters
    levels = levels_covered φ.level φ.parameters

    registers : φ.saved ≤ 7
    registers = laid.saved

    words : 4 * φ.words ≤ temporary_bytes φ.words
    words = words_covered φ.words

    over : upper_top parts φs + temporary_bytes φ.words ≡ φ.at
    over = laid.above

    word :
        (p : ℕ) → φ.at - temporary_bytes φ.words ≤ p →
        p + 4 ≤ φ.at + fixed_size φ.level φ.parameters → load 4 new p ≡ load 4 m p
    word p low high =
        same_word at count p m new is
        (beside_word at count (frame_start φ) (frame_bytes φ) p beside.0 low (omega (arith, low, high, over)))

pub frames_kept :
    (parts : MemoryParts) (base at count : ℕ) (m new : List ℕ) (as' : List Activation) (φs : List Layer) →
    FramesStand parts base m as' φs → AreLaid parts φs → AreBeside parts at count φs → IsBeside at count m new →
    FramesStand parts base new as' φs
frames_kept parts base at count m new [] [] h laid beside is =
    let start = parts.stack_start in
    let word : (p : ℕ) → start ≤ p → p + 4 ≤ start + first_frame_bytes → load 4 new p ≡ load 4 m p =
    λ p low high. same_word at count p m new is
    (beside_word at count start first_frame_bytes p beside low high) in
    record {
      own = word (start + 36) (omega arith) (omega arith) ∙ h.own;
      lower = word (start + 40) (omega arith) (omega arith) ∙ h.lower;
    }
frames_kept parts base at count m new [] (φ ∷ φs) h laid beside is = absurd h
frames_kept parts base at count m new (a ∷ as') [] h laid beside is = absurd h
frames_kept parts base at count m new (a ∷ as') (φ ∷ φs) h laid beside is = (
  frame_kept parts base at count m new a as' φ φs h.0 laid.0 beside.0 is,
  frames_kept parts base at count m new as' φs h.1 laid.1 beside.1 is,
)

-- ---- where frames lie

pub told_over :
    {parts : MemoryParts} {φ : Layer} {φs : List Layer} (at count : ℕ) → IsLaid parts φ φs → φ.top ≤ at →
    BesideTold at count φ
told_over at count laid over n v e = let high = (laid.told n v e).1 in inr (omega (arith, high, over))

pub told_under : (φ : Layer) (at count : ℕ) → at + count ≤ φ.at → BesideTold at count φ
told_under φ at count under n v e = inl (omega (arith, under))

pub beside_above :
    (parts : MemoryParts) (at count : ℕ) (φs : List Layer) → AreLaid parts φs → upper_top parts φs ≤ at →
    AreBeside parts at count φs
beside_above parts at count [] laid over = inr over
beside_above parts at count (φ ∷ φs) laid over =
    let above = laid.0.above in
    let fixed = laid.0.fixed in (
      (inr (omega (arith, above, fixed, over)), told_over at count laid.0 over),
      beside_above parts at count φs laid.1 (omega (arith, above, fixed, over)),
    )

pub frames_behind :
    (parts : MemoryParts) (base count : ℕ) (m : List ℕ) (as' : List Activation) (φs : List Layer) →
    FramesStand parts base m as' φs → FramesStand parts base m (drop count as') (drop count φs)
frames_behind parts base zero m as' φs h = h
frames_behind parts base (suc n) m [] [] h = h
frames_behind parts base (suc n) m [] (φ ∷ φs) h = absurd h
frames_behind parts base (suc n) m (a ∷ as') [] h = absurd h
frames_behind parts base (suc n) m (a ∷ as') (φ ∷ φs) h = frames_behind parts base n m as' φs h.1

pub laid_behind : (parts : MemoryParts) (count : ℕ) (φs : List Layer) → AreLaid parts φs → AreLaid parts (drop count φs)
laid_behind parts zero φs laid = laid
laid_behind parts (suc n) [] laid = laid
laid_behind parts (suc n) (φ ∷ φs) laid = laid_behind parts n φs laid.1

falls_from :
    (parts : MemoryParts) (above : ℕ) (φs : List Layer) → AreLaid parts φs → upper_top parts φs ≤ above →
    FramesFall above φs
falls_from parts above [] laid over = tt
falls_from parts above (φ ∷ φs) laid over =
    let below = laid.0.above in
    let fixed = laid.0.fixed in
    let levels = levels_covered φ.level φ.parameters in (
      omega (arith, fixed, levels, over),
      falls_from parts φ.at φs laid.1 (omega (arith, below)),
    )

pub frames_fall : (parts : MemoryParts) (φs : List Layer) → AreLaid parts φs → FramesFall (upper_top parts φs) φs
frames_fall parts φs laid = falls_from parts (upper_top parts φs) φs laid (omega arith)

frame_low :
    (parts : MemoryParts) (φs : List Layer) (height : ℕ) → AreLaid parts φs → frame_at φs height ≤ upper_top parts φs
frame_low parts [] height laid = omega arith
frame_low parts (φ ∷ φs) height laid = by (height == suc (length φs)) (frame_low parts φs height laid.1)
  where
    by : (q : Bool) → frame_at φs height ≤ upper_top parts φs → cond q φ.at (frame_at φs height) ≤ φ.top
    by true rest = let f = laid.0.fixed in omega (arith, f)
    by false rest = let f = laid.0.fixed in let g = laid.0.above in omega (arith, f, g, rest)

under_low : (parts : MemoryParts) (φs : List Layer) → AreLaid parts φs → frame_under parts φs ≤ upper_top parts φs
under_low parts [] laid = omega arith
under_low parts (φ ∷ φs) laid = let f = laid.0.fixed in omega (arith, f)

-- ---- a frame begins

within_back :
    (kind : S.BlockKind) (at count p value : ℕ) → at ≤ p → p + 4 ≤ at + count →
    AreWithin at count (return_stores kind p value)
within_back S.ProcedureBlock at count p value low high = ((low, high), tt)
within_back S.BeginBlock at count p value low high = tt
within_back (S.OnUnitBlock code resume) at count p value low high = ((low, high), tt)

back_written :
    (kind : S.BlockKind) (base back p : ℕ) (xs : Stores) (m : List ℕ) → base + 4 * back < 2 ^ 32 → Apart p xs →
    p + 4 ≤ length m → GoesBack kind base back p (stored (return_stores kind p (base + 4 * back) ++ xs) m)
back_written S.ProcedureBlock base back p xs m small apart inside =
    (writes_first p (base + 4 * back) xs small apart).does m inside
back_written S.BeginBlock base back p xs m small apart inside = tt
back_written (S.OnUnitBlock code resume) base back p xs m small apart inside = tt

module _ (parts : MemoryParts) (base parent : ℕ) (as' : List Activation) (φ : Layer) (φs : List Layer) where
  abbrev shown : ℕ → ℕ
  shown n = base + ancestor_frame as' φs parent n

  abbrev own_word : Stores
  own_word = (place_from φ.at own_offset, φ.at) ∷ []

  abbrev from_display : Stores
  from_display = words_from (place_from φ.at (display 0)) shown 0 φ.level ++ own_word

  abbrev from_lower : Stores
  from_lower = (place_from φ.at lower_top, φ.lower) ∷ from_display

  abbrev from_below : Stores
  from_below = (place_from φ.at frame_below, base + frame_under parts φs) ∷ from_lower

  abbrev from_saved : Stores
  from_saved = words_from (place_from φ.at (saved_register 0)) φ.held 0 φ.saved ++ from_below

  abbrev back_word : Stores
  back_word = return_stores φ.kind (place_from φ.at return_address) (base + 4 * φ.back)

  abbrev all_words : Stores
  all_words = frame_stores parts base parent as' φ φs

  pub made_within : IsLaid parts φ φs → AreWithin φ.at (fixed_size φ.level φ.parameters) all_words
  made_within laid =
      let n = fixed_size φ.level φ.parameters in
      let levels = levels_covered φ.level φ.parameters in
      let registers : φ.saved ≤ 7 = laid.saved in
      let display_in : AreWithin φ.at n from_display =
      within_append φ.at n (words_from (place_from φ.at (display 0)) shown 0 φ.level) own_word
      (within_run φ.at n (place_from φ.at (display 0)) shown 0 φ.level (omega arith) (omega (arith, levels)))
      ((omega arith, omega (arith, levels)), tt) in
      let below_in : AreWithin φ.at n from_below = (
        (omega arith, omega (arith, levels)),
        ((omega arith, omega (arith, levels)), display_in),
      ) in
      let saved_in : AreWithin φ.at n from_saved =
      within_append φ.at n (words_from (place_from φ.at (saved_register 0)) φ.held 0 φ.saved) from_below
      (within_run φ.at n (place_from φ.at (saved_register 0)) φ.held 0 φ.saved (omega arith)
      (omega (arith, levels, registers))) below_in in
      within_append φ.at n back_word from_saved
      (within_back φ.kind φ.at n (place_from φ.at return_address) (base + 4 * φ.back) (omega arith)
      (omega (arith, levels))) saved_in

  pub made_beside :
      IsLaid parts φ φs → (m : List ℕ) → IsBeside φ.at (fixed_size φ.level φ.parameters) m (stored all_words m)
  made_beside laid m = stored_beside φ.at (fixed_size φ.level φ.parameters) all_words m (made_within laid)

  -- a word of the first 36 bytes, or the one at 40, is none of the display
  beside_display : (p : ℕ) → p + 4 ≤ φ.at + 36 → Apart p from_display
  beside_display p low =
      apart_append p (words_from (place_from φ.at (display 0)) shown 0 φ.level) own_word
      (apart_run p (place_from φ.at (display 0)) shown 0 φ.level (inl (omega (arith, low))))
      (inl (omega (arith, low)), tt)

  beside_lower : (p : ℕ) → p + 4 ≤ φ.at + 36 → Apart p from_lower
  beside_lower p low = (inl (omega (arith, low)), beside_display p low)

  goes_back : base + 4 * φ.back < 2 ^ 32 → φ.saved ≤ 7 → (m : List ℕ) → φ.at + 4 ≤ length m →
      GoesBack φ.kind base φ.back (place_from φ.at return_address) (stored all_words m)
  goes_back small few m inside =
      back_written φ.kind base φ.back (φ.at + 0) from_saved m small
      (apart_append (φ.at + 0) (words_from (place_from φ.at (saved_register 0)) φ.held 0 φ.saved) from_below
      (apart_run (φ.at + 0) (place_from φ.at (saved_register 0)) φ.held 0 φ.saved (inl (omega arith)))
      (inl (omega arith), beside_lower (φ.at + 0) (omega arith))) (omega (arith, inside))

  writes_saved : (n : ℕ) → φ.held n < 2 ^ 32 → φ.saved ≤ 7 → n < φ.saved →
      Writes all_words (place_from φ.at (saved_register n)) (φ.held n)
  writes_saved n small few less =
      let p = φ.at + (8 + 4 * 0) + 4 * n in
      let same : p ≡ φ.at + (8 + 4 * n) = omega arith in
      subst (λ q. Writes all_words q (φ.held n)) same
      (writes_behind back_word from_saved p (φ.held n)
      (writes_before (words_from (place_from φ.at (saved_register 0)) φ.held 0 φ.saved) from_below p (φ.held n)
      (writes_run (place_from φ.at (saved_register 0)) φ.held 0 φ.saved n (omega arith) (omega (arith, less)) small)
      (inr (omega arith), beside_lower p (omega (arith, less, few)))))

  behind_saved : (p value : ℕ) → Writes from_below p value → Writes all_words p value
  behind_saved p value w =
      writes_behind back_word from_saved p value
      (writes_behind (words_from (place_from φ.at (saved_register 0)) φ.held 0 φ.saved) from_below p value w)

  behind_lower : (p value : ℕ) → Writes from_display p value → Writes all_words p value
  behind_lower p value w =
      behind_saved p value
      (writes_later (place_from φ.at frame_below, base + frame_under parts φs) from_lower p value
      (writes_later (place_from φ.at lower_top, φ.lower) from_display p value w))

  writes_below : base + frame_under parts φs < 2 ^ 32 →
      Writes all_words (place_from φ.at frame_below) (base + frame_under parts φs)
  writes_below small =
      behind_saved (place_from φ.at frame_below) (base + frame_under parts φs)
      (writes_first (place_from φ.at frame_below) (base + frame_under parts φs) from_lower small
      (beside_lower (φ.at + 4) (omega arith)))

  writes_lower : φ.lower < 2 ^ 32 → Writes all_words (place_from φ.at lower_top) φ.lower
  writes_lower small =
      let p = φ.at + 40 in
      behind_saved p φ.lower
      (writes_later (place_from φ.at frame_below, base + frame_under parts φs) from_lower p φ.lower
      (writes_first p φ.lower from_display small
      (apart_append p (words_from (place_from φ.at (display 0)) shown 0 φ.level) own_word
      (apart_run p (place_from φ.at (display 0)) shown 0 φ.level (inl (omega arith))) (inr (omega arith), tt))))

  writes_display : (n : ℕ) → shown n < 2 ^ 32 → n < φ.level → Writes all_words (place_from φ.at (display n)) (shown n)
  writes_display n small less =
      let p = φ.at + (144 + 4 * 0) + 4 * n in
      let same : p ≡ φ.at + (144 + 4 * n) = omega arith in
      subst (λ q. Writes all_words q (shown n)) same
      (behind_lower p (shown n)
      (writes_before (words_from (place_from φ.at (display 0)) shown 0 φ.level) own_word p (shown n)
      (writes_run (place_from φ.at (display 0)) shown 0 φ.level n (omega arith) (omega (arith, less)) small)
      (inr (omega arith), tt)))

  writes_own : φ.at < 2 ^ 32 → Writes all_words (place_from φ.at own_offset) φ.at
  writes_own small =
      behind_lower (φ.at + 36) φ.at
      (writes_behind (words_from (place_from φ.at (display 0)) shown 0 φ.level) own_word (φ.at + 36) φ.at
      (writes_first (φ.at + 36) φ.at [] small tt))

pub frame_made :
    (parts : MemoryParts) (base : ℕ) (m : List ℕ) (a : Activation) (as' : List Activation) (φ : Layer)
    (φs : List Layer) → AreLaid parts (φ ∷ φs) → AreWords base φ → φ.lower ≤ length m → φ.list ≡ None →
    ((n : ℕ) → φ.told n ≡ None) →
    ((n v : ℕ) → n < φ.words → φ.waits n ≡ Some v → load 4 m (word_place φ n) ≡ v) →
    FrameStands parts base (stored (frame_stores parts base a.parent as' φ φs) m) a as' φ φs
frame_made parts base m a as' φ φs laid words room none untold waits =
    record {
      back = goes_back parts base a.parent as' φ φs words.back few m (omega (arith, levels, inside));
      below =
          (writes_below parts base a.parent as' φ φs (omega (arith, under, above, inside, small))).does m
          (omega (arith, levels, inside));
      saved = λ n less.
          (writes_saved parts base a.parent as' φ φs n (words.held n less) few less).does m
          (omega (arith, levels, inside, less, few));
      own =
          (writes_own parts base a.parent as' φ φs (omega (arith, inside, small))).does m
          (omega (arith, levels, inside));
      lower =
          (writes_lower parts base a.parent as' φ φs (omega (arith, small))).does m (omega (arith, levels, inside));
      display_words = λ n less.
          let low = frame_low parts φs (height_of (ancestor as' a.parent n)) laid.1 in
          let few' : n < φ.level = omega (arith, less) in
          (writes_display parts base a.parent as' φ φs n (omega (arith, low, above, inside, small)) few').does m
          (omega (arith, levels, inside, less));
      waits = λ n v less e.
          same_word φ.at (fixed_size φ.level φ.parameters) (word_place φ n) m new
          (made_beside parts base a.parent as' φ φs laid.0 m)
          (inr (let c = words_covered φ.words in omega (arith, less, c, above)))
          ∙ waits n v less e;
      told = λ n v e. let no : None ≡ Some v = sym (untold n) ∙ e in absurd (cc no);
      list = λ p e. let no : None ≡ Some p = sym none ∙ e in absurd (cc no);
    }
  where
    new : List ℕ
    new = stored (frame_stores parts base a.parent as' φ φs) m

    few : φ.saved ≤ 7
    few = laid.0.saved

    levels : 144 + 4 * φ.level ≤ fixed_size φ.level φ.parameters
    levels = levels_covered φ.level φ.parameters

    above : upper_top parts φs + temporary_bytes φ.words ≡ φ.at
    above = laid.0.above

    inside : (φ.at + fixed_size φ.level φ.parameters ≤ φ.lower) × (φ.lower ≤ length m)
    inside = let f = laid.0.fixed in let g = laid.0.free in (omega (arith, f, g), room)

    small : base + φ.lower < 2 ^ 32
    small = words.base_fits

    under : frame_under parts φs ≤ upper_top parts φs
    under = under_low parts φs laid.1

pub frames_begun :
    (parts : MemoryParts) (base : ℕ) (m : List ℕ) (a : Activation) (as' : List Activation) (φ : Layer)
    (φs : List Layer) → FramesStand parts base m as' φs → AreLaid parts (φ ∷ φs) → AreWords base φ →
    φ.lower ≤ length m → φ.list ≡ None → ((n : ℕ) → φ.told n ≡ None) →
    ((n v : ℕ) → n < φ.words → φ.waits n ≡ Some v → load 4 m (word_place φ n) ≡ v) →
    FramesStand parts base (stored (frame_stores parts base a.parent as' φ φs) m) (a ∷ as') (φ ∷ φs)
frames_begun parts base m a as' φ φs h laid words room none untold waits =
    let n = fixed_size φ.level φ.parameters in
    let over = laid.0.above in (
      frame_made parts base m a as' φ φs laid words room none untold waits,
      frames_kept parts base φ.at n m (stored (frame_stores parts base a.parent as' φ φs) m) as' φs h laid.1
          (beside_above parts φ.at n φs laid.1 (omega (arith, over)))
          (made_beside parts base a.parent as' φ φs laid.0 m),
    )
