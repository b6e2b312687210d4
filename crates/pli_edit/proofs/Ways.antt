-- Steps through marks.
use Rattle.std.proofs.Common.{◌≡◌, ℕ, zero, suc, ◌+◌, ◌-◌, ◌<◌, List, [], ◌∷◌, ◌++◌, refl, sym, ap, ◌∙◌, append_assoc, arith}
use Rattle.pli_meaning.specs.InputLines.{Mark, CharacterMark, LineEndMark, Input, place_behind, characters, further, next_line, behind_lines}

pub back : (n : ℕ) → suc n - 1 ≡ n
back n = omega arith

pub behind_zero : (n c : ℕ) (ms : List Mark) → n ≡ 0 → place_behind n c ms ≡ record { marks = ms; column = c }
behind_zero zero c ms h = refl
behind_zero (suc n) c ms h = absurd (omega arith)

pub behind_end : (n c : ℕ) → place_behind n c [] ≡ record { marks = []; column = c }
behind_end zero c = refl
behind_end (suc n) c = refl

pub behind_line : (n c : ℕ) (ms : List Mark) → 0 < n → place_behind n c (LineEndMark ∷ ms) ≡ place_behind n 1 ms
behind_line zero c ms h = absurd (omega arith)
behind_line (suc n) c ms h = refl

pub behind_character : (n c b : ℕ) (ms : List Mark) → 0 < n → place_behind n c (CharacterMark b ∷ ms) ≡ place_behind (n - 1) (c + 1) ms
behind_character zero c b ms h = absurd (omega arith)
behind_character (suc n) c b ms h = rw (back n) refl

pub characters_zero : (n : ℕ) (ms : List Mark) → n ≡ 0 → characters n ms ≡ []
characters_zero zero ms h = refl
characters_zero (suc n) ms h = absurd (omega arith)

pub characters_end : (n : ℕ) → characters n [] ≡ []
characters_end zero = refl
characters_end (suc n) = refl

pub characters_line : (n : ℕ) (ms : List Mark) → 0 < n → characters n (LineEndMark ∷ ms) ≡ characters n ms
characters_line zero ms h = absurd (omega arith)
characters_line (suc n) ms h = refl

pub characters_character : (n b : ℕ) (ms : List Mark) → 0 < n → characters n (CharacterMark b ∷ ms) ≡ b ∷ characters (n - 1) ms
characters_character zero b ms h = absurd (omega arith)
characters_character (suc n) b ms h = rw (back n) refl

pub further_zero : (n c : ℕ) (ms : List Mark) → n ≡ 0 → further n c ms ≡ record { marks = ms; column = c }
further_zero zero c ms h = refl
further_zero (suc n) c ms h = absurd (omega arith)

pub further_end : (n c : ℕ) → further n c [] ≡ record { marks = []; column = c }
further_end zero c = refl
further_end (suc n) c = refl

pub further_line : (n c : ℕ) (ms : List Mark) → further n c (LineEndMark ∷ ms) ≡ record { marks = LineEndMark ∷ ms; column = c }
further_line zero c ms = refl
further_line (suc n) c ms = refl

pub further_character : (n c b : ℕ) (ms : List Mark) → 0 < n → further n c (CharacterMark b ∷ ms) ≡ further (n - 1) (c + 1) ms
further_character zero c b ms h = absurd (omega arith)
further_character (suc n) c b ms h = rw (back n) refl

pub lines_zero : (n : ℕ) (i : Input) → n ≡ 0 → behind_lines n i ≡ i
lines_zero zero i h = refl
lines_zero (suc n) i h = absurd (omega arith)

pub lines_more : (n : ℕ) (i : Input) → 0 < n → behind_lines n i ≡ behind_lines (n - 1) (record { marks = next_line i.marks; column = 1 })
lines_more zero i h = absurd (omega arith)
lines_more (suc n) i h = rw (back n) refl

pub characters_pushed : (field : List ℕ) (n b : ℕ) (ms : List Mark) → 0 < n → (field ++ b ∷ []) ++ characters (n - 1) ms ≡ field ++ characters n (CharacterMark b ∷ ms)
characters_pushed field n b ms h = append_assoc field (b ∷ []) (characters (n - 1) ms) ∙ ap (λ l. field ++ l) (sym (characters_character n b ms h))
