-- Marks that are known while more bytes may come, and what is still wanted behind them.
use Rattle.std.specs.Prelude.{ℕ, zero, suc, ◌+◌, ◌-◌, ◌*◌, Bool, true, false, ◌==◌, nat_le, List, [], ◌∷◌, ◌++◌}
use Rattle.std.specs.Prelude.{length, replicate, if◌then◌else◌}
use Rattle.pli_meaning.specs.InputLines.{Mark, CharacterMark, LineEndMark, marks_of}
use Rattle.pli_edit.specs.Feeding.{Fed, to_come}

-- a CR is known by the byte behind it
abbrev pub behind_return : (bytes : List ℕ) → (marks : List Mark) → List Mark
behind_return [] ms = []
behind_return (b ∷ bs) ms = if b == 10 then ms else CharacterMark 13 ∷ ms

-- the marks that bytes begin with, whatever comes behind them
abbrev pub known : List ℕ → List Mark
known [] = []
known (b ∷ bs) = if b == 10 then LineEndMark ∷ known bs else
    (if b == 13 then behind_return bs (known bs) else CharacterMark b ∷ known bs)

-- ---- a stream of marks: ends of lines that were looked over, then bytes that were read and not taken, then what is to
-- come

pub record Marked : Type 0 where
  pub fed : Fed
  pub lines : ℕ
  pub is_begun : Bool
  pub pending : List ℕ

abbrev pub known_from : (lines : ℕ) → (bytes : List ℕ) → List Mark
known_from n bytes = replicate n LineEndMark ++ known bytes

-- all marks that are left of an input
abbrev pub marks_left : Marked → (all : List ℕ) → List Mark
marks_left m all = replicate m.lines LineEndMark ++ marks_of m.is_begun (m.pending ++ to_come m.fed all)

-- more than all marks that may still come
abbrev pub most_left : Marked → ℕ
most_left m = 3 * (4096 * m.fed.left + length m.pending) + (m.lines + (if m.is_begun then 2 else 0))

-- ---- whether more is wanted behind known marks

-- a mark
abbrev pub wants_mark : List Mark → Bool
wants_mark [] = true
wants_mark (m ∷ ms) = false

-- so many characters
abbrev pub wants_characters : ℕ → List Mark → Bool
wants_characters zero ms = false
wants_characters (suc n) [] = true
wants_characters (suc n) (LineEndMark ∷ ms) = wants_characters (suc n) ms
wants_characters (suc n) (CharacterMark b ∷ ms) = wants_characters n ms

-- so many ends of lines
abbrev pub wants_lines : ℕ → List Mark → Bool
wants_lines zero ms = false
wants_lines (suc n) [] = true
wants_lines (suc n) (LineEndMark ∷ ms) = wants_lines n ms
wants_lines (suc n) (CharacterMark b ∷ ms) = wants_lines (suc n) ms

-- so many characters of the line, or its end
abbrev pub wants_further : ℕ → List Mark → Bool
wants_further zero ms = false
wants_further (suc n) [] = true
wants_further (suc n) (LineEndMark ∷ ms) = false
wants_further (suc n) (CharacterMark b ∷ ms) = wants_further n ms

-- the end of the line, and then so many characters of the next
abbrev pub wants_next_line : ℕ → List Mark → Bool
wants_next_line n [] = true
wants_next_line n (LineEndMark ∷ ms) = wants_further n ms
wants_next_line n (CharacterMark b ∷ ms) = wants_next_line n ms

abbrev pub wants_column : (column reached : ℕ) → List Mark → Bool
wants_column n column ms = if nat_le column n then wants_further (n - column) ms else wants_next_line (n - 1) ms
