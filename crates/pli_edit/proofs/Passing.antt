-- Ways through marks that come from a feed, a mark behind another.
use Rattle.std.proofs.Common.{◌≡◌, ◌<◌, ℕ, zero, suc, ◌+◌, ◌-◌, Bool, true, false, List, [], ◌∷◌, ◌++◌}
use Rattle.std.proofs.Common.{None, refl, sym, ap, ◌∙◌, append_assoc, arith}
use Rattle.std.proofs.lemmas.List.{append-nil}
use Rattle.pli_meaning.specs.InputLines.{Input, Mark, CharacterMark, LineEndMark, characters, next_line, place_behind}
use Rattle.pli_meaning.specs.InputLines.{behind_lines, further}
use Rattle.pli_edit.specs.Feeding.{Agrees, is_broken}
use Rattle.pli_edit.specs.KnownMarks.{Marked, marks_left, wants_mark, wants_characters, wants_lines, wants_further}
use Rattle.pli_edit.specs.Marks.{begins_with_character, ends_line}
use Rattle.pli_edit.specs.Streams.{Breaks, Goes, Moves, PassesLine, Takes, TakesInLine}
use Rattle.pli_edit.specs.declared.feed.Standing.{Standing}
use Rattle.pli_edit.specs.declared.feed.Standing.TheVariants as S
use Rattle.pli_edit.proofs.Moving.{breaks_then, goes_here, moves_none, moves_then}
use Rattle.pli_edit.proofs.Ways.{behind_character, behind_end, behind_line, behind_zero, characters_end}
use Rattle.pli_edit.proofs.Ways.{characters_line, characters_pushed, characters_zero, further_character, further_zero}

-- a way that is gone so far: what was wanted, and what the marks come to, is now said of those that are left
abbrev pub Way : {X : Type 0} → (w : List Mark → Bool) → (r : List Mark → X) → Marked → (v : List Mark → Bool) →
    (s : List Mark → X) → Marked → Type 0
Way w r a v s b =
    (front : List Mark) × Moves w front a b × ((ms : List Mark) → w (front ++ ms) ≡ v ms) ×
    ((ms : List Mark) → r (front ++ ms) ≡ s ms)

pub way_none : {X : Type 0} (w : List Mark → Bool) (r : List Mark → X) (a : Marked) →
    is_broken a.fed.standing ≡ false → Way w r a w r a
way_none w r a whole = ([], moves_none w a whole, λ ms. refl, λ ms. refl)

nothing_known : (v : List Mark → Bool) → v [] ≡ true → (ms : List Mark) → wants_mark ms ≡ true → v ms ≡ true
nothing_known v e [] h = e
nothing_known v e (m ∷ ms) h = cc

-- a mark further
pub way_then :
    {X : Type 0} (w v u : List Mark → Bool) (r s t : List Mark → X) (m : Mark) (a b c : Marked) → Way w r a v s b →
    Moves wants_mark (m ∷ []) b c →
    v [] ≡ true → ((ms : List Mark) → v (m ∷ ms) ≡ u ms) → ((ms : List Mark) → s (m ∷ ms) ≡ t ms) → Way w r a u t c
way_then w v u r s t m a b c h k wanted e f = (
  h.0 ++ m ∷ [],
  moves_then wants_mark w h.0 (m ∷ []) a b c h.1 k (λ _ ms x. h.2 ms ∙ nothing_known v wanted ms x),
  λ ms. ap w (append_assoc h.0 (m ∷ []) ms) ∙ (h.2 (m ∷ ms) ∙ e ms),
  λ ms. ap r (append_assoc h.0 (m ∷ []) ms) ∙ (h.3 (m ∷ ms) ∙ f ms),
)

-- the way ends here
pub way_here :
    {X : Type 0} (w v : List Mark → Bool) (r s : List Mark → X) (goal : List Mark → List Mark → Type 0)
    (a b : Marked) → Way w r a v s b →
    ((old new : List Mark) → r old ≡ s new → goal old new) → Goes w goal a b
way_here w v r s goal a b h so =
    goes_here w h.0 goal a b h.1 (λ all _. so (h.0 ++ marks_left b all) (marks_left b all) (h.3 (marks_left b all)))

-- it ends where a look told that it does
pub way_stop :
    {X : Type 0} (w v : List Mark → Bool) (r s : List Mark → X) (is_so : List Mark → Type 0)
    (goal : List Mark → List Mark → Type 0) (a b c : Marked) → Way w r a v s b →
    Moves wants_mark [] b c → v [] ≡ true → ((all : List ℕ) → Agrees c.fed all → is_so (marks_left c all)) →
    ((old new : List Mark) → is_so new → r old ≡ s new → goal old new) → Goes w goal a c
way_stop w v r s is_so goal a b c h k wanted there so =
    let whole = moves_then wants_mark w h.0 [] a b c h.1 k (λ _ ms x. h.2 ms ∙ nothing_known v wanted ms x) in
    goes_here w (h.0 ++ []) goal a c whole
    (λ all agrees.
    let ms = marks_left c all in
    so ((h.0 ++ []) ++ ms) ms (there all agrees) (ap r (append_assoc h.0 [] ms) ∙ h.3 ms))

pub way_vain :
    {X : Type 0} (w v : List Mark → Bool) (r s : List Mark → X) (a b c : Marked) → Way w r a v s b →
    Breaks wants_mark b c → v [] ≡ true → Breaks w a c
way_vain w v r s a b c h k wanted =
    breaks_then wants_mark w h.0 a b c h.1 k (λ _ ms x. h.2 ms ∙ nothing_known v wanted ms x)

-- ---- characters

pub characters_wanted : (n : ℕ) → 0 < n → wants_characters n [] ≡ true
characters_wanted zero h = absurd (omega arith)
characters_wanted (suc n) h = refl

line_end_wanted : (n : ℕ) (ms : List Mark) → wants_characters n (LineEndMark ∷ ms) ≡ wants_characters n ms
line_end_wanted zero ms = refl
line_end_wanted (suc n) ms = refl

back : (n : ℕ) → suc n - 1 ≡ n
back n = omega arith

character_wanted : (n b : ℕ) (ms : List Mark) → 0 < n →
    wants_characters n (CharacterMark b ∷ ms) ≡ wants_characters (n - 1) ms
character_wanted zero b ms h = absurd (omega arith)
character_wanted (suc n) b ms h = ap (λ k. wants_characters k ms) (sym (back n))

abbrev pub PassesSo : (n start left column : ℕ) → Marked → Marked → Type 0
PassesSo n start left column a b =
    Way (wants_characters n) (place_behind n start) a (wants_characters left) (place_behind left column) b

abbrev pub passed : (n start column : ℕ) → List Mark → List Mark → Type 0
passed n start column old new = record { marks = new; column = column } ≡ place_behind n start old

pub passes_line : (n start left column : ℕ) (a b c : Marked) → 0 < left → PassesSo n start left column a b →
    Moves wants_mark (LineEndMark ∷ []) b c → PassesSo n start left 1 a c
passes_line n start left column a b c some h k =
    way_then (wants_characters n) (wants_characters left) (wants_characters left) (place_behind n start)
    (place_behind left column) (place_behind left 1) LineEndMark a b c h k
    (characters_wanted left some) (λ ms. line_end_wanted left ms) (λ ms. behind_line left column ms some)

pub passes_character :
    (n start left column x : ℕ) (a b c : Marked) → 0 < left → PassesSo n start left column a b →
    Moves wants_mark (CharacterMark x ∷ []) b c →
    PassesSo n start (left - 1) (column + 1) a c
passes_character n start left column x a b c some h k =
    way_then (wants_characters n) (wants_characters left) (wants_characters (left - 1)) (place_behind n start)
    (place_behind left column) (place_behind (left - 1) (column + 1)) (CharacterMark x) a b c h k
    (characters_wanted left some) (λ ms. character_wanted left x ms some) (λ ms. behind_character left column x ms some)

pub passes_all : (n start left column : ℕ) (a b : Marked) → left ≡ 0 → PassesSo n start left column a b →
    Goes (wants_characters n) (passed n start column) a b
passes_all n start left column a b none h =
    way_here (wants_characters n) (wants_characters left) (place_behind n start) (place_behind left column)
    (passed n start column) a b h
    (λ old new e. sym (e ∙ behind_zero left column new none))

pub passes_end :
    (n start left column : ℕ) (a b c : Marked) → 0 < left → PassesSo n start left column a b → Takes None b c →
    Goes (wants_characters n) (passed n start column) a c
passes_end n start left column a b c some h k =
    way_stop (wants_characters n) (wants_characters left) (place_behind n start) (place_behind left column)
    (λ ms. ms ≡ []) (passed n start column) a b c h k.0
    (characters_wanted left some) k.1.1
    (λ old new none e. ap (λ ms. record { marks = ms; column = column }) none
    ∙ sym (e ∙ (ap (place_behind left column) none ∙ behind_end left column)))

pub passes_vain : (n start left column : ℕ) (a b c : Marked) → 0 < left → PassesSo n start left column a b →
    Breaks wants_mark b c → Breaks (wants_characters n) a c
passes_vain n start left column a b c some h k =
    way_vain (wants_characters n) (wants_characters left) (place_behind n start) (place_behind left column) a b c h k
    (characters_wanted left some)

-- ---- characters that are put behind a field

abbrev pub with_field : (n start : ℕ) (field : List ℕ) → List Mark → Input × List ℕ
with_field n start field ms = (place_behind n start ms, field ++ characters n ms)

abbrev pub PutsSo : (n start : ℕ) (first : List ℕ) (left column : ℕ) (field : List ℕ) → Marked → Marked → Type 0
PutsSo n start first left column field a b =
    Way (wants_characters n) (with_field n start first) a (wants_characters left) (with_field left column field) b

abbrev pub put : (n start : ℕ) (first : List ℕ) (column : ℕ) (field : List ℕ) → List Mark → List Mark → Type 0
put n start first column field old new = (record { marks = new; column = column } ≡ place_behind n start old) ×
    (field ≡ first ++ characters n old)

both : {A B : Type 0} {x y : A} {u v : B} → x ≡ y → u ≡ v → ◌≡◌ {A = A × B} (x, u) (y, v)
both e f = λ i. (e i, f i)

pub puts_line :
    (n start : ℕ) (first : List ℕ) (left column : ℕ) (field : List ℕ) (a b c : Marked) → 0 < left →
    PutsSo n start first left column field a b → Moves wants_mark (LineEndMark ∷ []) b c →
    PutsSo n start first left 1 field a c
puts_line n start first left column field a b c some h k =
    way_then (wants_characters n) (wants_characters left) (wants_characters left) (with_field n start first)
    (with_field left column field) (with_field left 1 field) LineEndMark a b c h k
    (characters_wanted left some) (λ ms. line_end_wanted left ms)
    (λ ms. both (behind_line left column ms some) (ap (λ t. field ++ t) (characters_line left ms some)))

pub puts_character :
    (n start : ℕ) (first : List ℕ) (left column : ℕ) (field : List ℕ) (x : ℕ) (a b c : Marked) → 0 < left →
    PutsSo n start first left column field a b →
    Moves wants_mark (CharacterMark x ∷ []) b c → PutsSo n start first (left - 1) (column + 1) (field ++ x ∷ []) a c
puts_character n start first left column field x a b c some h k =
    way_then (wants_characters n) (wants_characters left) (wants_characters (left - 1)) (with_field n start first)
    (with_field left column field)
    (with_field (left - 1) (column + 1) (field ++ x ∷ [])) (CharacterMark x) a b c h k (characters_wanted left some)
    (λ ms. character_wanted left x ms some)
    (λ ms. both (behind_character left column x ms some) (sym (characters_pushed field left x ms some)))

pub puts_all :
    (n start : ℕ) (first : List ℕ) (left column : ℕ) (field : List ℕ) (a b : Marked) → left ≡ 0 →
    PutsSo n start first left column field a b →
    Goes (wants_characters n) (put n start first column field) a b
puts_all n start first left column field a b none h =
    way_here (wants_characters n) (wants_characters left) (with_field n start first) (with_field left column field)
    (put n start first column field) a b h
    (λ old new e. (
      sym (ap (λ p. p.0) e ∙ behind_zero left column new none),
      sym (ap (λ p. p.1) e ∙ (ap (λ t. field ++ t) (characters_zero left new none) ∙ append-nil field)),
    ))

pub puts_end :
    (n start : ℕ) (first : List ℕ) (left column : ℕ) (field : List ℕ) (a b c : Marked) → 0 < left →
    PutsSo n start first left column field a b → Takes None b c →
    Goes (wants_characters n) (put n start first column field) a c
puts_end n start first left column field a b c some h k =
    way_stop (wants_characters n) (wants_characters left) (with_field n start first) (with_field left column field)
    (λ ms. ms ≡ []) (put n start first column field) a b c h k.0
    (characters_wanted left some) k.1.1
    (λ old new none e. (
      ap (λ ms. record { marks = ms; column = column }) none
          ∙ sym (ap (λ p. p.0) e ∙ (ap (place_behind left column) none ∙ behind_end left column)),
      sym (ap (λ p. p.1) e ∙ (ap (λ ms. field ++ characters left ms) none
          ∙ (ap (λ t. field ++ t) (characters_end left) ∙ append-nil field))),
    ))

pub puts_vain :
    (n start : ℕ) (first : List ℕ) (left column : ℕ) (field : List ℕ) (a b c : Marked) → 0 < left →
    PutsSo n start first left column field a b → Breaks wants_mark b c →
    Breaks (wants_characters n) a c
puts_vain n start first left column field a b c some h k =
    way_vain (wants_characters n) (wants_characters left) (with_field n start first) (with_field left column field) a
    b c h k (characters_wanted left some)

-- ---- characters of a line

further_wanted : (n : ℕ) → 0 < n → wants_further n [] ≡ true
further_wanted zero h = absurd (omega arith)
further_wanted (suc n) h = refl

character_further : (n b : ℕ) (ms : List Mark) → 0 < n →
    wants_further n (CharacterMark b ∷ ms) ≡ wants_further (n - 1) ms
character_further zero b ms h = absurd (omega arith)
character_further (suc n) b ms h = ap (λ k. wants_further k ms) (sym (back n))

no_further : (n column : ℕ) (ms : List Mark) → begins_with_character ms ≡ false →
    further n column ms ≡ record { marks = ms; column = column }
no_further zero column ms e = refl
no_further (suc n) column [] e = refl
no_further (suc n) column (LineEndMark ∷ ms) e = refl
no_further (suc n) column (CharacterMark b ∷ ms) e = cc

abbrev pub FurtherSo : (n start left column : ℕ) → Marked → Marked → Type 0
FurtherSo n start left column a b =
    Way (wants_further n) (further n start) a (wants_further left) (further left column) b

abbrev pub gone_further : (n start column : ℕ) → List Mark → List Mark → Type 0
gone_further n start column old new = record { marks = new; column = column } ≡ further n start old

pub further_on :
    (n start left column x : ℕ) (a b c : Marked) → 0 < left → FurtherSo n start left column a b →
    Moves wants_mark (CharacterMark x ∷ []) b c →
    FurtherSo n start (left - 1) (column + 1) a c
further_on n start left column x a b c some h k =
    way_then (wants_further n) (wants_further left) (wants_further (left - 1)) (further n start) (further left column)
    (further (left - 1) (column + 1)) (CharacterMark x) a b c h k
    (further_wanted left some) (λ ms. character_further left x ms some) (λ ms. further_character left column x ms some)

pub further_all : (n start left column : ℕ) (a b : Marked) → left ≡ 0 → FurtherSo n start left column a b →
    Goes (wants_further n) (gone_further n start column) a b
further_all n start left column a b none h =
    way_here (wants_further n) (wants_further left) (further n start) (further left column)
    (gone_further n start column) a b h
    (λ old new e. sym (e ∙ further_zero left column new none))

pub further_stop :
    (n start left column : ℕ) (a b c : Marked) → 0 < left → FurtherSo n start left column a b → TakesInLine None b c →
    Goes (wants_further n) (gone_further n start column) a c
further_stop n start left column a b c some h k =
    way_stop (wants_further n) (wants_further left) (further n start) (further left column)
    (λ ms. begins_with_character ms ≡ false) (gone_further n start column) a b c h k.0
    (further_wanted left some) k.1 (λ old new none e. sym (e ∙ no_further left column new none))

pub further_vain : (n start left column : ℕ) (a b c : Marked) → 0 < left → FurtherSo n start left column a b →
    Breaks wants_mark b c → Breaks (wants_further n) a c
further_vain n start left column a b c some h k =
    way_vain (wants_further n) (wants_further left) (further n start) (further left column) a b c h k
    (further_wanted left some)

-- ---- ends of lines

lines_wanted : (n : ℕ) → 0 < n → wants_lines n [] ≡ true
lines_wanted zero h = absurd (omega arith)
lines_wanted (suc n) h = refl

line_fewer : (n : ℕ) (ms : List Mark) → 0 < n → wants_lines n (LineEndMark ∷ ms) ≡ wants_lines (n - 1) ms
line_fewer zero ms h = absurd (omega arith)
line_fewer (suc n) ms h = ap (λ k. wants_lines k ms) (sym (back n))

character_same : (n b : ℕ) (ms : List Mark) → wants_lines n (CharacterMark b ∷ ms) ≡ wants_lines n ms
character_same zero b ms = refl
character_same (suc n) b ms = refl

abbrev pub lines_from : ℕ → List Mark → Input
lines_from n ms = behind_lines n (record { marks = ms; column = 1 })

no_lines : (n : ℕ) (ms : List Mark) → n ≡ 0 → lines_from n ms ≡ record { marks = ms; column = 1 }
no_lines zero ms e = refl
no_lines (suc n) ms e = absurd (omega arith)

lines_at_end : (n : ℕ) → lines_from n [] ≡ record { marks = []; column = 1 }
lines_at_end zero = refl
lines_at_end (suc n) = lines_at_end n

line_end_passed : (n : ℕ) (ms : List Mark) → 0 < n → lines_from n (LineEndMark ∷ ms) ≡ lines_from (n - 1) ms
line_end_passed zero ms h = absurd (omega arith)
line_end_passed (suc n) ms h = ap (λ k. lines_from k ms) (sym (back n))

character_over : (n b : ℕ) (ms : List Mark) → 0 < n → lines_from n (CharacterMark b ∷ ms) ≡ lines_from n ms
character_over zero b ms h = absurd (omega arith)
character_over (suc n) b ms h = refl

abbrev pub LinesSo : (n left : ℕ) → Marked → Marked → Type 0
LinesSo n left a b = Way (wants_lines n) (lines_from n) a (wants_lines left) (lines_from left) b

abbrev pub gone_lines : ℕ → List Mark → List Mark → Type 0
gone_lines n old new = record { marks = new; column = 1 } ≡ lines_from n old

pub lines_end : (n left : ℕ) (a b c : Marked) → 0 < left → LinesSo n left a b →
    Moves wants_mark (LineEndMark ∷ []) b c → LinesSo n (left - 1) a c
lines_end n left a b c some h k =
    way_then (wants_lines n) (wants_lines left) (wants_lines (left - 1)) (lines_from n) (lines_from left)
    (lines_from (left - 1)) LineEndMark a b c h k
    (lines_wanted left some) (λ ms. line_fewer left ms some) (λ ms. line_end_passed left ms some)

pub lines_character : (n left x : ℕ) (a b c : Marked) → 0 < left → LinesSo n left a b →
    Moves wants_mark (CharacterMark x ∷ []) b c → LinesSo n left a c
lines_character n left x a b c some h k =
    way_then (wants_lines n) (wants_lines left) (wants_lines left) (lines_from n) (lines_from left) (lines_from left)
    (CharacterMark x) a b c h k
    (lines_wanted left some) (λ ms. character_same left x ms) (λ ms. character_over left x ms some)

pub lines_all : (n left : ℕ) (a b : Marked) → left ≡ 0 → LinesSo n left a b → Goes (wants_lines n) (gone_lines n) a b
lines_all n left a b none h =
    way_here (wants_lines n) (wants_lines left) (lines_from n) (lines_from left) (gone_lines n) a b h
    (λ old new e. sym (e ∙ no_lines left new none))

pub lines_stop : (n left : ℕ) (a b c : Marked) → 0 < left → LinesSo n left a b → Takes None b c →
    Goes (wants_lines n) (gone_lines n) a c
lines_stop n left a b c some h k =
    way_stop (wants_lines n) (wants_lines left) (lines_from n) (lines_from left) (λ ms. ms ≡ []) (gone_lines n) a b c
    h k.0 (lines_wanted left some) k.1.1
    (λ old new none e. ap (λ ms. record { marks = ms; column = 1 }) none
    ∙ sym (e ∙ (ap (lines_from left) none ∙ lines_at_end left)))

pub lines_vain : (n left : ℕ) (a b c : Marked) → 0 < left → LinesSo n left a b → Breaks wants_mark b c →
    Breaks (wants_lines n) a c
lines_vain n left a b c some h k =
    way_vain (wants_lines n) (wants_lines left) (lines_from n) (lines_from left) a b c h k (lines_wanted left some)

-- ---- the end of one line

abbrev pub end_of : List Mark → List Mark × Bool
end_of ms = (next_line ms, ends_line ms)

abbrev pub LineSo : Marked → Marked → Type 0
LineSo a b = Way (wants_lines 1) end_of a (wants_lines 1) end_of b

pub line_character : (x : ℕ) (a b c : Marked) → LineSo a b → Moves wants_mark (CharacterMark x ∷ []) b c → LineSo a c
line_character x a b c h k =
    way_then (wants_lines 1) (wants_lines 1) (wants_lines 1) end_of end_of end_of (CharacterMark x) a b c h k refl
    (λ ms. refl) (λ ms. refl)

pub line_passed : (a b c : Marked) → LineSo a b → Moves wants_mark (LineEndMark ∷ []) b c → PassesLine a c
line_passed a b c h k = (
  h.0 ++ LineEndMark ∷ [],
  moves_then wants_mark (wants_lines 1) h.0 (LineEndMark ∷ []) a b c h.1 k
      (λ _ ms x. h.2 ms ∙ nothing_known (wants_lines 1) refl ms x),
  λ _. ap (λ p. p.1) (h.3 (LineEndMark ∷ [])),
  λ all agrees. ap next_line (append_assoc h.0 (LineEndMark ∷ []) (marks_left c all))
      ∙ ap (λ p. p.0) (h.3 (LineEndMark ∷ marks_left c all)),
)

pub line_stopped : (a b c : Marked) → LineSo a b → Takes None b c → PassesLine a c
line_stopped a b c h k = (
  h.0 ++ [],
  moves_then wants_mark (wants_lines 1) h.0 [] a b c h.1 k.0
      (λ _ ms x. h.2 ms ∙ nothing_known (wants_lines 1) refl ms x),
  λ opened. absurd (not_both c.fed.standing opened k.1.0),
  λ all agrees.
      let none = k.1.1 all agrees in
      ap next_line (append_assoc h.0 [] (marks_left c all))
      ∙ (ap (λ p. p.0) (h.3 (marks_left c all)) ∙ (ap next_line none ∙ sym none)),
)
  where
    not_both : (s : Standing) → s ≡ S.Open → s ≡ S.Ended → ⊥
    not_both s h k = let no_way : S.Open ≡ S.Ended = sym h ∙ k in cc

pub line_vain : (a b c : Marked) → LineSo a b → Breaks wants_mark b c → Breaks (wants_lines 1) a c
line_vain a b c h k = way_vain (wants_lines 1) (wants_lines 1) end_of end_of a b c h k refl
