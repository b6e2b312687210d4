-- Edit-directed input: lines of characters, and the place that is reached. (X3.53-1976, chapter 8.)
use Rattle.std.specs.Prelude.{ℕ, zero, suc, ◌+◌, ◌-◌, Bool, true, false, ◌&&◌, ◌==◌, nat_le, List, [], ◌∷◌, if◌then◌else◌}
use Rattle.pli_meaning.specs.Texts.{fitted}

-- what stands from a place on: characters, and the ends of lines, which are none
pub data Mark : Type 0 where
  CharacterMark : (byte : ℕ) → Mark
  LineEndMark : Mark

-- the rest of the input, and the column of its first mark
pub record Input : Type 0 where
  pub marks : List Mark
  pub column : ℕ

abbrev pub begins_with_line_feed : List ℕ → Bool
begins_with_line_feed [] = false
begins_with_line_feed (b ∷ bs) = b == 10

-- lines end at LF; CR directly before it belongs to the line's end. A last part without LF is a line if it isn't empty.
abbrev pub marks_of : (is_begun : Bool) → List ℕ → List Mark
marks_of false [] = []
marks_of true [] = LineEndMark ∷ []
marks_of is_begun (b ∷ bs) =
    if b == 10 then LineEndMark ∷ marks_of false bs
    else (if b == 13 && begins_with_line_feed bs then marks_of is_begun bs else CharacterMark b ∷ marks_of true bs)

abbrev pub first_input : List ℕ → Input
first_input bytes = record { marks = marks_of false bytes; column = 1 }

-- ---- fields

abbrev pub has_character : List Mark → Bool
has_character [] = false
has_character (LineEndMark ∷ ms) = has_character ms
has_character (CharacterMark b ∷ ms) = true

-- the next characters; a field runs on into the next line
abbrev pub characters : ℕ → List Mark → List ℕ
characters zero ms = []
characters (suc n) [] = []
characters (suc n) (LineEndMark ∷ ms) = characters (suc n) ms
characters (suc n) (CharacterMark b ∷ ms) = b ∷ characters n ms

-- a field that the input ends in is padded with blanks
abbrev pub field_of : ℕ → Input → List ℕ
field_of width i = fitted width (characters width i.marks)

abbrev pub place_behind : ℕ → ℕ → List Mark → Input
place_behind zero column ms = record { marks = ms; column = column }
place_behind (suc n) column [] = record { marks = []; column = column }
place_behind (suc n) column (LineEndMark ∷ ms) = place_behind (suc n) 1 ms
place_behind (suc n) column (CharacterMark b ∷ ms) = place_behind n (column + 1) ms

-- behind a field, or X: n characters, or what is left
abbrev pub behind_field : ℕ → Input → Input
behind_field n i = place_behind n i.column i.marks

-- ---- control items

abbrev pub next_line : List Mark → List Mark
next_line [] = []
next_line (LineEndMark ∷ ms) = ms
next_line (CharacterMark b ∷ ms) = next_line ms

-- SKIP(n): the start of the nth next line, or the end
abbrev pub behind_lines : ℕ → Input → Input
behind_lines zero i = i
behind_lines (suc n) i = behind_lines n (record { marks = next_line i.marks; column = 1 })

-- n characters further in this line, or at its end
abbrev pub further : ℕ → ℕ → List Mark → Input
further zero column ms = record { marks = ms; column = column }
further (suc n) column [] = record { marks = []; column = column }
further (suc n) column (LineEndMark ∷ ms) = record { marks = LineEndMark ∷ ms; column = column }
further (suc n) column (CharacterMark b ∷ ms) = further n (column + 1) ms

abbrev pub further_in : ℕ → Input → Input
further_in n i = further n i.column i.marks

-- COLUMN(n): column n of this line, or of the next where the place is past n
abbrev pub at_column : ℕ → Input → Input
at_column n i = if nat_le i.column n then further_in (n - i.column) i else further_in (n - 1) (behind_lines 1 i)
