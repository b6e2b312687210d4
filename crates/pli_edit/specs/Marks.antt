-- Marks as they are taken one by one.
use Rattle.std.specs.Prelude.{◌≡◌, ◌<◌, ◌≤◌, ℕ, zero, suc, Bool, true, false, ◌&&◌, ◌||◌, ◌==◌, nat_lt, List, [], ◌∷◌, length, drop, Option, Some, None}
use Rattle.pli_meaning.specs.InputLines.{Mark, CharacterMark, LineEndMark, marks_of, begins_with_line_feed, has_character}
use Rattle.pli_edit.specs.declared.mark.Mark.{Mark as TakenMark}
use Rattle.pli_edit.specs.declared.mark.Mark.TheVariants as M

abbrev pub mark_of : TakenMark → Mark
mark_of (M.Character b) = CharacterMark b
mark_of M.LineEnd = LineEndMark

-- a line has begun behind a character
abbrev pub begins_line : TakenMark → Bool
begins_line (M.Character b) = true
begins_line M.LineEnd = false

-- the first mark of bytes, and how many of them it takes
abbrev pub IsFirstMark : (is_begun : Bool) → List ℕ → Option (TakenMark × ℕ) → Type 0
IsFirstMark is_begun bytes None = marks_of is_begun bytes ≡ []
IsFirstMark is_begun bytes (Some (m, size)) =
    (size ≤ length bytes) × (marks_of is_begun bytes ≡ mark_of m ∷ marks_of (begins_line m) (drop size bytes))

-- only the end of a last line takes no byte
abbrev pub IsSizedMark : (is_begun : Bool) → Option (TakenMark × ℕ) → Type 0
IsSizedMark is_begun None = Unit {0}
IsSizedMark is_begun (Some (m, size)) = size ≡ 0 → (is_begun ≡ true) × (begins_line m ≡ false)

abbrev pub IsTaken : (old : List Mark) → Option TakenMark → (new : List Mark) → Type 0
IsTaken old None new = (old ≡ []) × (new ≡ [])
IsTaken old (Some m) new = old ≡ mark_of m ∷ new

abbrev pub IsShown : List Mark → Option TakenMark → Type 0
IsShown marks None = marks ≡ []
IsShown marks (Some m) = marks ≡ mark_of m ∷ drop 1 marks

-- the first mark is a character
abbrev pub begins_with_character : List Mark → Bool
begins_with_character [] = false
begins_with_character (LineEndMark ∷ ms) = false
begins_with_character (CharacterMark b ∷ ms) = true

-- characters, and then the end of their line
abbrev pub ends_line : List Mark → Bool
ends_line [] = false
ends_line (LineEndMark ∷ []) = true
ends_line (LineEndMark ∷ m ∷ ms) = false
ends_line (CharacterMark b ∷ ms) = ends_line ms

-- so many marks are characters
abbrev pub are_characters : (count : ℕ) → List Mark → Bool
are_characters zero ms = true
are_characters (suc n) [] = false
are_characters (suc n) (LineEndMark ∷ ms) = false
are_characters (suc n) (CharacterMark b ∷ ms) = are_characters n ms

-- the next characters, so many, stand in one line
abbrev pub IsInLine : (count : ℕ) → List Mark → Type 0
IsInLine count ms = (0 < count) × (are_characters count ms ≡ true)

-- a byte that may end a line, or belong to its end
abbrev pub has_line_end : List ℕ → Bool
has_line_end [] = false
has_line_end (b ∷ bs) = (b == 10 || b == 13) || has_line_end bs

-- ---- where characters end

-- the first byte belongs to a line's end
abbrev pub begins_line_end : List ℕ → Bool
begins_line_end [] = false
begins_line_end (b ∷ bs) = b == 10 || (b == 13 && begins_with_line_feed bs)

-- the characters of bytes are all among the first so many of them, the last one at their end: from a place on a character is left just
-- where it lies before that end
abbrev pub ReachUpTo : (end : ℕ) → List ℕ → Type 0
ReachUpTo end bytes = (is_begun : Bool) (place : ℕ) → has_character (marks_of is_begun (drop place bytes)) ≡ nat_lt place end
