-- Edit-directed output: a list of bytes, whose column is one more than the bytes after its last LF. Each format item
-- is a function of the list.
use Rattle.std.specs.Prelude.{ℕ, zero, suc, ◌+◌, ◌-◌, ◌/◌, ◌%◌, ℤ, pos, negsuc, List, [], ◌∷◌, ◌++◌, length, replicate, Option, Some, None, nat_lt, nat_le, ◌==◌, if◌then◌else◌}
use Rattle.pli_language.specs.Tokens.{column_after}

abbrev pub line_feed : ℕ
line_feed = 10

abbrev pub blanks : ℕ → List ℕ
blanks n = replicate n 32

-- ---- numbers as text

-- the decimal digits of n, before those that stand behind them; 20 are enough for any number of 63 bits
abbrev pub digits_before : ℕ → ℕ → List ℕ → List ℕ
digits_before zero n behind = behind
digits_before (suc most) n behind =
    if nat_lt n 10 then (48 + n) ∷ behind else digits_before most (n / 10) ((48 + n % 10) ∷ behind)

abbrev pub decimal_digits : ℕ → List ℕ
decimal_digits n = digits_before 20 n []

-- a number as text: its digits, after `-` where it is negative
abbrev pub decimal_text : ℤ → List ℕ
decimal_text (pos n) = decimal_digits n
decimal_text (negsuc n) = 45 ∷ decimal_digits (suc n)

-- a text at the right end of a field, none where the field is too narrow
abbrev pub right_justified : ℕ → List ℕ → Option (List ℕ)
right_justified width t = if nat_le (length t) width then Some (blanks (width - length t) ++ t) else None

-- the field of F(width)
abbrev pub fixed_field : ℕ → ℤ → Option (List ℕ)
fixed_field width z = right_justified width (decimal_text z)

-- a field behind the output
abbrev pub with_field : List ℕ → List ℕ → List ℕ
with_field field output = output ++ field

-- ---- control items

abbrev pub column_of : List ℕ → ℕ
column_of output = column_after output

-- X(n)
abbrev pub spaced : ℕ → List ℕ → List ℕ
spaced n output = output ++ blanks n

-- SKIP(n)
abbrev pub skipped : ℕ → List ℕ → List ℕ
skipped n output = output ++ replicate n line_feed

-- COLUMN(n): blanks up to column n, after an LF where the column is past n
abbrev pub moved_to_column : ℕ → List ℕ → List ℕ
moved_to_column n output =
    if nat_le (column_of output) n
    then output ++ blanks (n - column_of output)
    else output ++ line_feed ∷ blanks (n - 1)

-- at the end of a run an unfinished last line gets LF
abbrev pub finished : List ℕ → List ℕ
finished output = if column_of output == 1 then output else output ++ line_feed ∷ []
