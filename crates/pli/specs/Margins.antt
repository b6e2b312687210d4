-- What a source is between margins: the columns outside them are blank.
use Rattle.std.specs.Prelude.{ℕ, ◌+◌, List, [], ◌∷◌, Bool, ◌==◌, ◌||◌, if◌then◌else◌}
use Rattle.pli_language.specs.Tokens.{is_within, is_line_end}

-- line ends count, and what stands in a column from the first to the last
abbrev pub is_kept : (first last column byte : ℕ) → Bool
is_kept first last column byte = is_line_end byte || is_within first last column

abbrev pub blanked : (first last column byte : ℕ) → ℕ
blanked first last column byte = if is_kept first last column byte then byte else 32

-- the column behind a byte: a line ends with LF
abbrev pub column_behind : (column byte : ℕ) → ℕ
column_behind column byte = if byte == 10 then 1 else column + 1

-- bytes that begin in a column, with blanks in place of those that don't count
abbrev pub between : (first last column : ℕ) → List ℕ → List ℕ
between first last column [] = []
between first last column (byte ∷ rest) =
    blanked first last column byte ∷ between first last (column_behind column byte) rest
