-- What one pass over the bytes finds: the end of a comment, the end of a text, and the bytes that a text is of.
use Rattle.std.specs.Prelude.{ℕ, ◌+◌, List, [], ◌∷◌, Bool, true, false, not, ◌==◌, ◌||◌, ◌&&◌, if◌then◌else◌, Option, Some, None}
use Rattle.pli_language.specs.Tokens.{is_line_end, is_name_byte, quote}

-- Behind i bytes of a comment, the last of them a star or not: how many bytes reach to the end of the comment.
abbrev pub comment_end : Bool → ℕ → List ℕ → Option ℕ
comment_end star i [] = None
comment_end star i (b ∷ rest) = if star && b == 47 then Some (i + 1) else comment_end (b == 42) (i + 1) rest

-- Behind i bytes from an opening quote on, which hold n bytes of the text: the last quote that can close the text,
-- as the bytes that reach to it and how many bytes of the text they hold. A quote stood just before, or not.
abbrev pub text_end : Option (ℕ × ℕ) → Bool → ℕ → ℕ → List ℕ → Option (ℕ × ℕ)
text_end closed after_quote i n [] = closed
text_end closed after_quote i n (b ∷ rest) =
    if b == quote then (if after_quote then text_end closed false (i + 1) (n + 1) rest else text_end (Some (i + 1, n)) true (i + 1) n rest)
    else (if after_quote then closed else (if is_line_end b then closed else text_end closed false (i + 1) (n + 1) rest))

-- a text with these bytes behind it stands as a bit constant
abbrev pub stands_as_bits : List ℕ → Bool
stands_as_bits [] = false
stands_as_bits (b ∷ []) = b == 66 || b == 98
stands_as_bits (b ∷ c ∷ rest) = (b == 66 || b == 98) && not (is_name_byte c)

abbrev pub line_from : ℕ → List ℕ → ℕ
line_from line [] = line
line_from line (b ∷ rest) = line_from (if b == 10 then line + 1 else line) rest

abbrev pub column_from : ℕ → List ℕ → ℕ
column_from column [] = column
column_from column (b ∷ rest) = column_from (if b == 10 then 1 else column + 1) rest
