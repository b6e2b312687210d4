-- Where the characters of bytes end.
use Rattle.std.proofs.Common.{◌≡◌, ℕ, zero, suc, ◌-◌, ◌<◌, ◌≤◌, Bool, true, false, ◌&&◌, ◌||◌, ◌==◌, cond, List, [], ◌∷◌, length, drop, refl, sym, ap, ◌∙◌, arith, if◌then◌else◌}
use Rattle.std.specs.Prelude.{nat_lt}
use Rattle.std.proofs.lemmas.Bool.Decides.{nat_tests}
use Rattle.pli_meaning.specs.InputLines.{Mark, CharacterMark, LineEndMark, marks_of, begins_with_line_feed, has_character}
use Rattle.pli_edit.specs.Marks.{begins_line_end, ReachUpTo}

abbrev pub some_character : List ℕ → Bool
some_character [] = false
some_character (b ∷ bs) = if begins_line_end (b ∷ bs) then some_character bs else true

choice :
    (p q r : Bool) (x y z : List Mark) (c : ℕ) → has_character x ≡ r → has_character y ≡ r →
    has_character (cond p (LineEndMark ∷ x) (cond q y (CharacterMark c ∷ z))) ≡ cond (p || q) r true
choice true q r x y z c h k = h
choice false true r x y z c h k = k
choice false false r x y z c h k = refl

-- whether a line has begun doesn't matter
left_so : (t : Bool) (s : List ℕ) → has_character (marks_of t s) ≡ some_character s
left_so false [] = refl
left_so true [] = refl
left_so false (b ∷ bs) = choice (b == 10) (b == 13 && begins_with_line_feed bs) _ _ _ _ b (left_so false bs) (left_so false bs)
left_so true (b ∷ bs) = choice (b == 10) (b == 13 && begins_with_line_feed bs) _ _ _ _ b (left_so false bs) (left_so true bs)

only : (q r : Bool) → cond q r true ≡ false → r ≡ false
only true r h = h
only false r h = cc

both : (q r : Bool) → r ≡ true → cond q r true ≡ true
both true r h = h
both false r h = refl

unless : (q r : Bool) → q ≡ false → cond q r true ≡ true
unless true r h = cc
unless false r h = refl

none_behind : (s : List ℕ) (place : ℕ) → some_character s ≡ false → some_character (drop place s) ≡ false
none_behind s zero h = h
none_behind [] (suc place) h = refl
none_behind (b ∷ bs) (suc place) h = none_behind bs place (only (begins_line_end (b ∷ bs)) (some_character bs) h)

none_before : (place : ℕ) → false ≡ nat_lt place 0
none_before place = grind (arith, nat_tests)

all_before : (end : ℕ) → true ≡ nat_lt 0 (suc end)
all_before end = grind (arith, nat_tests)

one_less : (place end : ℕ) → nat_lt place end ≡ nat_lt (suc place) (suc end)
one_less place end = grind (arith, nat_tests)

abbrev IsLast : (end : ℕ) → List ℕ → Type 0
IsLast end s = (e : ℕ) → end ≡ suc e → begins_line_end (drop e s) ≡ false

first : (b : ℕ) (bs : List ℕ) (e : ℕ) → IsLast (suc e) (b ∷ bs) → (0 < e → some_character bs ≡ true) → some_character (b ∷ bs) ≡ true
first b bs zero last behind = unless (begins_line_end (b ∷ bs)) (some_character bs) (last 0 refl)
first b bs (suc e) last behind = both (begins_line_end (b ∷ bs)) (some_character bs) (behind (omega arith))

reached :
    (s : List ℕ) (end place : ℕ) → end ≤ length s → some_character (drop end s) ≡ false → IsLast end s →
    some_character (drop place s) ≡ nat_lt place end
reached s zero place inside none last = none_behind s place none ∙ none_before place
reached [] (suc end) place inside none last = absurd (omega arith)
reached (b ∷ bs) (suc zero) zero inside none last =
    unless (begins_line_end (b ∷ bs)) (some_character bs) (last 0 refl) ∙ all_before 0
reached (b ∷ bs) (suc (suc end)) zero inside none last =
    both (begins_line_end (b ∷ bs)) (some_character bs)
    (reached bs (suc end) zero (omega (arith, inside)) none (λ e h. last (suc e) (ap suc h)) ∙ sym (all_before end))
    ∙ all_before (suc end)
reached (b ∷ bs) (suc end) (suc place) inside none last =
    reached bs end place (omega (arith, inside)) none (λ e h. last (suc e) (ap suc h)) ∙ one_less place end

last_so : (s : List ℕ) (end : ℕ) → (0 < end → begins_line_end (drop (end - 1) s) ≡ false) → IsLast end s
last_so s end last e h = let less : end - 1 ≡ e = omega (arith, h) in rw less at (last (omega (arith, h)))

pub reach_up_to :
    (s : List ℕ) (end : ℕ) → end ≤ length s → some_character (drop end s) ≡ false →
    (0 < end → begins_line_end (drop (end - 1) s) ≡ false) → ReachUpTo end s
reach_up_to s end inside none last = λ t place. left_so t (drop place s) ∙ reached s end place inside none (last_so s end last)

skipped : (q r : Bool) → q ≡ true → r ≡ false → cond q r true ≡ false
skipped true r h k = k
skipped false r h k = cc

-- a byte of a line's end is no character
pub none_at :
    (s : List ℕ) (index end : ℕ) → end ≡ suc index → begins_line_end (drop index s) ≡ true →
    some_character (drop end s) ≡ false → some_character (drop index s) ≡ false
none_at s index zero e is none = absurd (omega (arith, e))
none_at [] zero (suc end) e is none = refl
none_at [] (suc index) (suc end) e is none = refl
none_at (b ∷ bs) zero (suc zero) e is none = skipped (begins_line_end (b ∷ bs)) (some_character bs) is none
none_at (b ∷ bs) zero (suc (suc end)) e is none = absurd (omega (arith, e))
none_at (b ∷ bs) (suc index) (suc end) e is none = none_at bs index end (omega (arith, e)) is none

pub none_past : (s : List ℕ) → some_character (drop (length s) s) ≡ false
none_past [] = refl
none_past (b ∷ bs) = none_past bs
