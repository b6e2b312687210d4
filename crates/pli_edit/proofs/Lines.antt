-- Characters that stand in one line, taken together.
use Rattle.std.proofs.Common.{◌≡◌, ℕ, zero, suc, ◌+◌, ◌<◌, ◌≤◌, Bool, true, false, ◌&&◌, ◌||◌, ◌==◌, cond, List, [], ◌∷◌, ◌++◌, length, map, take, drop, replicate, refl, sym, subst, ap, ◌∙◌, arith}
use Rattle.pli_meaning.specs.InputLines.{Input, Mark, CharacterMark, LineEndMark, marks_of, begins_with_line_feed, characters, has_character, place_behind, field_of}
use Rattle.pli_edit.specs.Fields.{IsLineField}
use Rattle.pli_edit.specs.Marks.{are_characters, has_line_end, IsInLine}

-- ---- bytes of which none may end a line

choice : (p q r h : Bool) (x y z : List Mark) → ((p || q) || h) ≡ false → (cond p x (cond (q && r) y z) ≡ z) × (h ≡ false)
choice true q r h x y z e = cc
choice false true r h x y z e = cc
choice false false r h x y z e = (refl, e)

behind_one :
    (t : Bool) (b : ℕ) (bs : List ℕ) (h : Bool) → ((b == 10 || b == 13) || h) ≡ false →
    (marks_of t (b ∷ bs) ≡ CharacterMark b ∷ marks_of true bs) × (h ≡ false)
behind_one false b bs h e = choice (b == 10) (b == 13) (begins_with_line_feed bs) h _ _ _ e
behind_one true b bs h e = choice (b == 10) (b == 13) (begins_with_line_feed bs) h _ _ _ e

behind_more :
    (n : ℕ) (s : List ℕ) → n ≤ length s → has_line_end (take n s) ≡ false →
    marks_of true s ≡ map CharacterMark (take n s) ++ marks_of true (drop n s)
behind_more zero s inside e = refl
behind_more (suc n) [] inside e = absurd (omega arith)
behind_more (suc n) (b ∷ bs) inside e =
    let one = behind_one true b bs (has_line_end (take n bs)) e in
    one.0 ∙ ap (λ ms. CharacterMark b ∷ ms) (behind_more n bs (omega (arith, inside)) one.1)

taken_length : (n : ℕ) (s : List ℕ) → n ≤ length s → length (take n s) ≡ n
taken_length zero s inside = refl
taken_length (suc n) [] inside = absurd (omega arith)
taken_length (suc n) (b ∷ bs) inside = ap suc (taken_length n bs (omega (arith, inside)))

whole : (t : Bool) (n : ℕ) (s : List ℕ) → 0 < n → n ≤ length s → has_line_end (take n s) ≡ false → marks_of t s ≡ map CharacterMark (take n s) ++ marks_of true (drop n s)
whole t zero s some inside e = absurd (omega arith)
whole t (suc n) [] some inside e = absurd (omega arith)
whole t (suc n) (b ∷ bs) some inside e =
    let one = behind_one t b bs (has_line_end (take n bs)) e in
    one.0 ∙ ap (λ ms. CharacterMark b ∷ ms) (behind_more n bs (omega (arith, inside)) one.1)

characters_so : (line : List ℕ) (rest : List Mark) → characters (length line) (map CharacterMark line ++ rest) ≡ line
characters_so [] rest = refl
characters_so (b ∷ bs) rest = ap (λ l. b ∷ l) (characters_so bs rest)

are_so : (line : List ℕ) (rest : List Mark) → are_characters (length line) (map CharacterMark line ++ rest) ≡ true
are_so [] rest = refl
are_so (b ∷ bs) rest = are_so bs rest

pub line_so :
    (t : Bool) (n : ℕ) (s : List ℕ) → 0 < n → n ≤ length s → has_line_end (take n s) ≡ false →
    IsInLine n (marks_of t s) × (take n s ≡ characters n (marks_of t s))
line_so t n s some inside e =
    let line = take n s in
    let rest = marks_of true (drop n s) in
    let all = whole t n s some inside e in
    let count = taken_length n s inside in
    let are : are_characters n (marks_of t s) ≡ true = subst (λ k. are_characters k (marks_of t s) ≡ true) count (ap (are_characters (length line)) all ∙ are_so line rest) in
    let here : line ≡ characters n (marks_of t s) = subst (λ k. line ≡ characters k (marks_of t s)) count (sym (ap (characters (length line)) all ∙ characters_so line rest)) in
    ((some, are), here)

-- ---- marks that are characters, and the bytes that they are

never : (t : Bool) (b : ℕ) (bs : List ℕ) (n : ℕ) → (b == 13 && begins_with_line_feed bs) ≡ true → are_characters (suc n) (marks_of t bs) ≡ false
never false b [] n e = absurd (no_way (b == 13) e)
  where
    no_way : (p : Bool) → (p && false) ≡ true → ⊥
    no_way true h = cc
    no_way false h = cc
never true b [] n e = refl
never false b (y ∷ ys) n e = rw (feed (b == 13) (y == 10) e) refl
  where
    feed : (p q : Bool) → (p && q) ≡ true → q ≡ true
    feed true q h = h
    feed false q h = cc
never true b (y ∷ ys) n e = rw (feed (b == 13) (y == 10) e) refl
  where
    feed : (p q : Bool) → (p && q) ≡ true → q ≡ true
    feed true q h = h
    feed false q h = cc

step :
    (p q : Bool) (x y z : List Mark) (b n : ℕ) → (q ≡ true → are_characters (suc n) y ≡ false) →
    are_characters (suc n) (cond p (LineEndMark ∷ x) (cond q y (CharacterMark b ∷ z))) ≡ true →
    (cond p (LineEndMark ∷ x) (cond q y (CharacterMark b ∷ z)) ≡ CharacterMark b ∷ z) × (are_characters n z ≡ true)
step true q x y z b n h e = cc
step false true x y z b n h e = let no_way = h refl in cc
step false false x y z b n h e = (refl, e)

first :
    (t : Bool) (b : ℕ) (bs : List ℕ) (n : ℕ) → are_characters (suc n) (marks_of t (b ∷ bs)) ≡ true →
    (marks_of t (b ∷ bs) ≡ CharacterMark b ∷ marks_of true bs) × (are_characters n (marks_of true bs) ≡ true)
first false b bs n e = step (b == 10) (b == 13 && begins_with_line_feed bs) _ _ _ b n (never false b bs n) e
first true b bs n e = step (b == 10) (b == 13 && begins_with_line_feed bs) _ _ _ b n (never true b bs n) e

more :
    (n : ℕ) (s : List ℕ) → are_characters n (marks_of true s) ≡ true →
    (n ≤ length s) × ((c : ℕ) → record { marks = marks_of true (drop n s); column = c + n } ≡ place_behind n c (marks_of true s))
more zero s e = (omega arith, λ c. let same : c + 0 ≡ c = omega arith in ap (λ k. record { marks = marks_of true s; column = k }) same)
more (suc n) [] e = cc
more (suc n) (b ∷ bs) e =
    let one = first true b bs n e in
    let rest = more n bs one.1 in (
      (let inside = rest.0 in omega (arith, inside)),
      λ c.
          let same : c + suc n ≡ c + 1 + n = omega arith in
          ap (λ k. record { marks = marks_of true (drop n bs); column = k }) same
          ∙ (rest.1 (c + 1) ∙ sym (ap (place_behind (suc n) c) one.0)),
    )

pub behind_line :
    (t : Bool) (n : ℕ) (s : List ℕ) → IsInLine n (marks_of t s) →
    (n ≤ length s) × ((c : ℕ) → record { marks = marks_of true (drop n s); column = c + n } ≡ place_behind n c (marks_of t s))
behind_line t zero s h = absurd (omega (arith, h.0))
behind_line false (suc n) [] h = let no_way = h.1 in cc
behind_line true (suc n) [] h = let no_way = h.1 in cc
behind_line t (suc n) (b ∷ bs) h =
    let one = first t b bs n h.1 in
    let rest = more n bs one.1 in (
      (let inside = rest.0 in omega (arith, inside)),
      λ c.
          let same : c + suc n ≡ c + 1 + n = omega arith in
          ap (λ k. record { marks = marks_of true (drop n bs); column = k }) same
          ∙ (rest.1 (c + 1) ∙ sym (ap (place_behind (suc n) c) one.0)),
    )

-- ---- a field

line_left : (n : ℕ) (ms : List Mark) → IsInLine n ms → has_character ms ≡ true
line_left zero ms h = absurd (omega (arith, h.0))
line_left (suc n) [] h = let no_way = h.1 in cc
line_left (suc n) (LineEndMark ∷ ms) h = let no_way = h.1 in cc
line_left (suc n) (CharacterMark b ∷ ms) h = refl

taken_all : (line rest : List ℕ) → take (length line) (line ++ rest) ≡ line
taken_all [] rest = refl
taken_all (b ∷ bs) rest = ap (λ l. b ∷ l) (taken_all bs rest)

counted : (n : ℕ) (ms : List Mark) → are_characters n ms ≡ true → length (characters n ms) ≡ n
counted zero ms e = refl
counted (suc n) [] e = cc
counted (suc n) (LineEndMark ∷ ms) e = cc
counted (suc n) (CharacterMark b ∷ ms) e = ap suc (counted n ms e)

line_is_field : (n : ℕ) (i : Input) (line : List ℕ) → IsInLine n i.marks → line ≡ characters n i.marks → line ≡ field_of n i
line_is_field n i line h e =
    let all = characters n i.marks in
    e ∙ sym (subst (λ k. take k (all ++ replicate n 32) ≡ all) (counted n i.marks h.1) (taken_all all (replicate n 32)))

pub field_so : (n : ℕ) (i : Input) (line : List ℕ) → IsInLine n i.marks × (line ≡ characters n i.marks) → IsLineField n i line
field_so n i line h = (h.0, line_left n i.marks h.0, line_is_field n i line h.0 h.1)

fewer : (n c : ℕ) (ms : List Mark) → are_characters n ms ≡ true → length ms ≡ n + length (place_behind n c ms).marks
fewer zero c ms e = omega arith
fewer (suc n) c [] e = cc
fewer (suc n) c (LineEndMark ∷ ms) e = cc
fewer (suc n) c (CharacterMark b ∷ ms) e = let rest = fewer n (c + 1) ms e in omega (arith, rest)

pub fewer_left :
    (n : ℕ) (ms new : List Mark) → IsInLine n ms → ((c : ℕ) → record { marks = new; column = c + n } ≡ place_behind n c ms) →
    length ms ≡ n + length new
fewer_left n ms new h e = let rest = fewer n 0 ms h.1 in let there = ap (λ (i : Input). length i.marks) (e 0) in omega (arith, rest, there)
