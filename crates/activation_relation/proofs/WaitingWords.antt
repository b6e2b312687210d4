-- Words that wait in the newest frame, the lower stack's top, and what a block finds in its frame when it ends.
use Rattle.std.proofs.Common.{◌≡◌, ◌≢◌, ◌⊎◌, inl, inr, ℕ, suc, ◌+◌, ◌-◌, ◌*◌, ◌^◌, ◌<◌, ◌≤◌, List, [], ◌∷◌, length}
use Rattle.std.proofs.Common.{Some, Bool, true, false, refl, sym, ap, ◌∙◌, subst, arith}
use Rattle.std.proofs.lemmas.Bool.{cases_eq, cases_lt, ltb-true, ltb-false}
use Rattle.std.specs.Prelude.{cond, drop, nat_lt}
use Rattle.rv_meaning.specs.Memory.{load, store}
use Rattle.rv_meaning.proofs.MemoryLaws.{load-store_same, load-store_other}
use Rattle.pli_meaning.specs.StorageState.{Activation}
use Rattle.pli_serving.specs.ServiceState as S
use Rattle.pli_coding.specs.Frames.{MemoryParts, return_address, saved_register, lower_top}
use Rattle.pli_coding.specs.Frames.{list_place, result, temporary_bytes}
use Rattle.storage_relation.proofs.Holders.{eqb-refl, eqb-other}
use Rattle.activation_relation.specs.Layers.{Layer}
use Rattle.activation_relation.specs.Frames.{FrameStands, FramesStand, GoesBack, AreLaid, upper_top, word_place}
use Rattle.activation_relation.specs.Frames.{frame_start, place_from}
use Rattle.activation_relation.specs.FrameLaws.{waiting, lowered, restored, Unframed}
use Rattle.activation_relation.specs.FrameLaws.{activation_with, layer_with}
use Rattle.activation_relation.proofs.FrameWords.{words_covered, levels_covered, back_same, frames_kept, beside_above}
use Rattle.activation_relation.proofs.FrameWords.{frames_behind}
use Rattle.activation_relation.proofs.StoredWords.{stored_beside}

-- ---- one word of the newest frame changes

some_value : (v w : ℕ) → Some v ≡ Some w → v ≡ w
some_value v w e = cc e

word_stored :
    (parts : MemoryParts) (base n v : ℕ) (m : List ℕ) (a : Activation) (as' : List Activation) (φ : Layer)
    (φs : List Layer) → FrameStands parts base m a as' φ φs →
    AreLaid parts (φ ∷ φs) × (φ.lower ≤ length m) × (n < φ.words) × (v < 2 ^ 32) →
    FrameStands parts base (store 4 m (word_place φ n) v) a as' (waiting n v φ) φs
word_stored parts base n v m a as' φ φs h is =
    record {
      back = back_same φ.kind base φ.back (place_from φ.at return_address) m new (word (φ.at + 0) (omega arith)) h.back;
      below = word (φ.at + 4) (omega arith) ∙ h.below;
      saved = λ i few. word (φ.at + (8 + 4 * i)) (omega arith) ∙ h.saved i few;
      own = word (φ.at + 36) (omega arith) ∙ h.own;
      lower = word (φ.at + 40) (omega arith) ∙ h.lower;
      display_words = λ i few. word (φ.at + (144 + 4 * i)) (omega arith) ∙ h.display_words i few;
      waits = λ i w few e. own_word i w few e (cases_eq i n);
      told = λ i w e. word (φ.at + i) (omega arith) ∙ h.told i w e;
      list = λ at e.
          let l = h.list at e in
          (l.0, word (φ.at + 44) (omega arith) ∙ l.1, word (φ.at + list_place φ.level) (omega arith) ∙ l.2);
    }
  where
    new : List ℕ
    new = store 4 m (word_place φ n) v

    covered : 4 * φ.words ≤ temporary_bytes φ.words
    covered = words_covered φ.words

    above : upper_top parts φs + temporary_bytes φ.words ≡ φ.at
    above = is.0.0.above

    room : φ.at ≤ length m
    room = let f = is.0.0.fixed in let g = is.0.0.free in let l = is.1 in omega (arith, f, g, l)

    few' : n < φ.words
    few' = is.2

    word : (p : ℕ) → φ.at ≤ p → load 4 new p ≡ load 4 m p
    word p low = load-store_other 4 4 m (word_place φ n) v p (inr (omega (arith, low, covered, above, few')))

    own_word :
        (i w : ℕ) → i < φ.words → (waiting n v φ).waits i ≡ Some w → (i ≡ n) ⊎ (i ≢ n) →
        load 4 new (word_place φ i) ≡ w
    own_word i w few e (inl same) =
        let here : Some v ≡ Some w =
        sym (ap (λ q. cond q (Some v) (φ.waits n)) (eqb-refl n)) ∙ ap (waiting n v φ).waits (sym same) ∙ e in
        ap (λ j. load 4 new (word_place φ j)) same
        ∙ load-store_same 4 m (word_place φ n) v is.3 (omega (arith, covered, above, few', room))
        ∙ some_value v w here
    own_word i w few e (inr other) =
        let there : φ.waits i ≡ Some w =
        sym (ap (λ q. cond q (Some v) (φ.waits i)) (eqb-other i n other)) ∙ e in
        load-store_other 4 4 m (word_place φ n) v (word_place φ i) (by i few other) ∙ h.waits i w few there
      where
        by :
            (i : ℕ) → i < φ.words → i ≢ n →
            (φ.at - 4 * suc i + 4 ≤ φ.at - 4 * suc n) ⊎ (φ.at - 4 * suc n + 4 ≤ φ.at - 4 * suc i)
        by i few other = order (cases_lt i n)
          where
            order :
                (i < n) ⊎ (n ≤ i) →
                (φ.at - 4 * suc i + 4 ≤ φ.at - 4 * suc n) ⊎ (φ.at - 4 * suc n + 4 ≤ φ.at - 4 * suc i)
            order (inl less) = inr (omega (arith, less, covered, above, few, few'))
            order (inr more) = inl (omega (arith, more, other, covered, above, few, few'))

pub words_stored :
    (parts : MemoryParts) (base n v : ℕ) (m : List ℕ) (a : Activation) (as' : List Activation) (φ : Layer)
    (φs : List Layer) → FramesStand parts base m (a ∷ as') (φ ∷ φs) →
    AreLaid parts (φ ∷ φs) × (φ.lower ≤ length m) × (n < φ.words) × (v < 2 ^ 32) →
    FramesStand parts base (store 4 m (word_place φ n) v) (a ∷ as') (waiting n v φ ∷ φs)
words_stored parts base n v m a as' φ φs h is =
    let p = word_place φ n in
    let covered = words_covered φ.words in
    let above = is.0.0.above in
    let few = is.2 in (
      word_stored parts base n v m a as' φ φs h.0 is,
      frames_kept parts base p 4 m (store 4 m p v) as' φs h.1 is.0.1
          (beside_above parts p 4 φs is.0.1 (omega (arith, covered, above, few)))
          (stored_beside p 4 ((p, v) ∷ []) m ((omega arith, omega arith), tt)),
    )

pub lower_stored :
    (parts : MemoryParts) (base lower : ℕ) (m : List ℕ) (a : Activation) (as' : List Activation) (φ : Layer)
    (φs : List Layer) → FramesStand parts base m (a ∷ as') (φ ∷ φs) →
    AreLaid parts (φ ∷ φs) × (φ.lower ≤ length m) × (lower < 2 ^ 32) →
    FramesStand parts base (store 4 m (place_from φ.at lower_top) lower) (a ∷ as') (lowered lower φ ∷ φs)
lower_stored parts base lower m a as' φ φs h is = (
  record {
    back = back_same φ.kind base φ.back (place_from φ.at return_address) m new (word (φ.at + 0) (inl (omega arith)))
        h.0.back;
    below = word (φ.at + 4) (inl (omega arith)) ∙ h.0.below;
    saved = λ i few. word (φ.at + (8 + 4 * i)) (inl (omega (arith, few, seven))) ∙ h.0.saved i few;
    own = word (φ.at + 36) (inl (omega arith)) ∙ h.0.own;
    lower = load-store_same 4 m (φ.at + 40) lower is.2 (omega (arith, room));
    display_words = λ i few. word (φ.at + (144 + 4 * i)) (inr (omega arith)) ∙ h.0.display_words i few;
    waits = λ i v few e.
        word (word_place φ i) (inl (omega (arith, few, covered, above))) ∙ h.0.waits i v few e;
    told = λ i v e.
        let low = (is.0.0.told i v e).0 in
        let c = levels_covered φ.level φ.parameters in
        word (φ.at + i) (inr (omega (arith, low, c))) ∙ h.0.told i v e;
    list = λ at e.
        let l = h.0.list at e in (
          l.0,
          word (φ.at + 44) (inr (omega arith)) ∙ l.1,
          word (φ.at + list_place φ.level) (inr (omega arith)) ∙ l.2,
        );
  },
  frames_kept parts base (φ.at + 40) 4 m new as' φs h.1 is.0.1
      (beside_above parts (φ.at + 40) 4 φs is.0.1 (omega (arith, above)))
      (stored_beside (φ.at + 40) 4 ((φ.at + 40, lower) ∷ []) m ((omega arith, omega arith), tt)),
)
  where
    new : List ℕ
    new = store 4 m (φ.at + 40) lower

    seven : φ.saved ≤ 7
    seven = is.0.0.saved

    covered : 4 * φ.words ≤ temporary_bytes φ.words
    covered = words_covered φ.words

    above : upper_top parts φs + temporary_bytes φ.words ≡ φ.at
    above = is.0.0.above

    room : φ.at + 144 ≤ length m
    room =
        let f = is.0.0.fixed in
        let g = is.0.0.free in
        let l = is.1 in
        let c = levels_covered φ.level φ.parameters in
        omega (arith, f, g, l, c)

    word : (p : ℕ) → (p + 4 ≤ φ.at + 40) ⊎ (φ.at + 40 + 4 ≤ p) → load 4 new p ≡ load 4 m p
    word p o = load-store_other 4 4 m (φ.at + 40) lower p o

-- the word of a function's result
pub result_stored :
    (parts : MemoryParts) (base v : ℕ) (m : List ℕ) (a : Activation) (as' : List Activation) (φ : Layer)
    (φs : List Layer) → FramesStand parts base m (a ∷ as') (φ ∷ φs) →
    AreLaid parts (φ ∷ φs) × (φ.lower ≤ length m) →
    FramesStand parts base (store 4 m (φ.at + result) v) (a ∷ as') (φ ∷ φs)
result_stored parts base v m a as' φ φs h is = (
  record {
    back = back_same φ.kind base φ.back (place_from φ.at return_address) m new (word (φ.at + 0) (inl (omega arith)))
        h.0.back;
    below = word (φ.at + 4) (inl (omega arith)) ∙ h.0.below;
    saved = λ i few. word (φ.at + (8 + 4 * i)) (inl (omega (arith, few, seven))) ∙ h.0.saved i few;
    own = word (φ.at + 36) (inl (omega arith)) ∙ h.0.own;
    lower = word (φ.at + 40) (inl (omega arith)) ∙ h.0.lower;
    display_words = λ i few. word (φ.at + (144 + 4 * i)) (inr (omega arith)) ∙ h.0.display_words i few;
    waits = λ i v' few e.
        word (word_place φ i) (inl (omega (arith, few, covered, above))) ∙ h.0.waits i v' few e;
    told = λ i v' e.
        let low = (is.0.0.told i v' e).0 in
        let c = levels_covered φ.level φ.parameters in
        word (φ.at + i) (inr (omega (arith, low, c))) ∙ h.0.told i v' e;
    list = λ at e.
        let l = h.0.list at e in (
          l.0,
          word (φ.at + 44) (inl (omega arith)) ∙ l.1,
          word (φ.at + list_place φ.level) (inr (omega arith)) ∙ l.2,
        );
  },
  frames_kept parts base (φ.at + 48) 4 m new as' φs h.1 is.0.1
      (beside_above parts (φ.at + 48) 4 φs is.0.1 (omega (arith, above)))
      (stored_beside (φ.at + 48) 4 ((φ.at + 48, v) ∷ []) m ((omega arith, omega arith), tt)),
)
  where
    new : List ℕ
    new = store 4 m (φ.at + 48) v

    seven : φ.saved ≤ 7
    seven = is.0.0.saved

    covered : 4 * φ.words ≤ temporary_bytes φ.words
    covered = words_covered φ.words

    above : upper_top parts φs + temporary_bytes φ.words ≡ φ.at
    above = is.0.0.above

    word : (p : ℕ) → (p + 4 ≤ φ.at + 48) ⊎ (φ.at + 48 + 4 ≤ p) → load 4 new p ≡ load 4 m p
    word p o = load-store_other 4 4 m (φ.at + 48) v p o

pub frame_changed :
    (parts : MemoryParts) (base : ℕ) (m : List ℕ) (a : Activation) (as' : List Activation) (φ : Layer)
    (φs : List Layer) (x : Unframed) → FramesStand parts base m (a ∷ as') (φ ∷ φs) →
    FramesStand parts base m (activation_with x a ∷ as') (layer_with x φ ∷ φs)
frame_changed parts base m a as' φ φs x h = (
  record {
    back = h.0.back;
    below = h.0.below;
    saved = h.0.saved;
    own = h.0.own;
    lower = h.0.lower;
    display_words = h.0.display_words;
    waits = h.0.waits;
    told = h.0.told;
    list = h.0.list;
  },
  h.1,
)

pub words_across :
    (parts : MemoryParts) (base count : ℕ) (m : List ℕ) (as' : List Activation) (φs : List Layer) (φ : Layer)
    (behind : List Layer) → FramesStand parts base m as' φs → drop count φs ≡ φ ∷ behind → (n v : ℕ) →
    n < φ.words → φ.waits n ≡ Some v → load 4 m (word_place φ n) ≡ v
words_across parts base count m as' φs φ behind h is n v few e =
    by (drop count as') (subst (λ ls. FramesStand parts base m (drop count as') ls) is
    (frames_behind parts base count m as' φs h))
  where
    by : (xs : List Activation) → FramesStand parts base m xs (φ ∷ behind) → load 4 m (word_place φ n) ≡ v
    by [] there = absurd there
    by (a ∷ rest) there = there.0.waits n v few e

-- ---- a block ends

procedure_back :
    (kind : S.BlockKind) (base back at : ℕ) (m : List ℕ) → GoesBack kind base back at m → kind ≡ S.ProcedureBlock →
    load 4 m at ≡ base + 4 * back
procedure_back S.ProcedureBlock base back at m h e = h
procedure_back S.BeginBlock base back at m h e = absurd (cc e)
procedure_back (S.OnUnitBlock code resume) base back at m h e = absurd (cc e)

pub back_found :
    (parts : MemoryParts) (base : ℕ) (m : List ℕ) (a : Activation) (as' : List Activation) (φ : Layer)
    (φs : List Layer) → FramesStand parts base m (a ∷ as') (φ ∷ φs) → φ.kind ≡ S.ProcedureBlock →
    load 4 m (place_from φ.at return_address) ≡ base + 4 * φ.back
back_found parts base m a as' φ φs h kind =
    procedure_back φ.kind base φ.back (place_from φ.at return_address) m h.0.back kind

pub top_found :
    (parts : MemoryParts) (φ : Layer) (φs : List Layer) → AreLaid parts (φ ∷ φs) → frame_start φ ≡ upper_top parts φs
top_found parts φ φs laid = let above = laid.0.above in omega (arith, above)

pub registers_back :
    (parts : MemoryParts) (base : ℕ) (m : List ℕ) (a : Activation) (as' : List Activation) (φ : Layer)
    (φs : List Layer) (before after : ℕ → ℕ) → FramesStand parts base m (a ∷ as') (φ ∷ φs) →
    ((n : ℕ) → n < φ.saved → φ.held n ≡ before n) × ((n : ℕ) → φ.saved ≤ n → after n ≡ before n) →
    (n : ℕ) → restored φ m after n ≡ before n
registers_back parts base m a as' φ φs before after h is n = by (nat_lt n φ.saved) refl
  where
    by :
        (q : Bool) → nat_lt n φ.saved ≡ q →
        cond q (load 4 m (place_from φ.at (saved_register n))) (after n) ≡ before n
    by true e = let less = ltb-true n φ.saved e in h.0.saved n less ∙ is.0 n less
    by false e = is.1 n (ltb-false n φ.saved e)
