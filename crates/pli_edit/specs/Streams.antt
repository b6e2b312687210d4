-- What a call does to a stream of marks, and to each input that agrees with what was read.
use Rattle.std.specs.Prelude.{◌≡◌, ◌≤◌, ◌<◌, ℕ, zero, suc, ◌+◌, ◌-◌, Bool, true, false, List, [], ◌∷◌, ◌++◌, length, drop}
use Rattle.std.specs.Prelude.{nat_lt, Option, Some, None, Result, Ok, Err, if◌then◌else◌}
use Rattle.pli_meaning.specs.InputLines.{Input, Mark, CharacterMark, marks_of, next_line}
use Rattle.pli_edit.specs.Feeding.{Reading, Reads, gained, first_fed, Agrees, to_come, is_broken}
use Rattle.pli_edit.specs.Histories.{History}
use Rattle.pli_edit.specs.KnownMarks.{Marked, known, known_from, marks_left, most_left, wants_mark, wants_characters}
use Rattle.pli_edit.specs.KnownMarks.{wants_lines}
use Rattle.pli_edit.specs.Marks.{mark_of, begins_line, begins_with_character, ends_line}
use Rattle.pli_edit.specs.declared.fault.EditFault.{EditFault}
use Rattle.pli_edit.specs.declared.fault.EditFault.TheVariants as E
use Rattle.pli_edit.specs.declared.feed.Standing.TheVariants as S
use Rattle.pli_edit.specs.declared.mark.Mark.{Mark as TakenMark}

-- the reads that a call made, each where something was wanted behind the marks that were known; and what it claims of
-- the marks
-- that were left and those that are left, for each input that agrees with what was read
pub record Goes (wants : List Mark → Bool) (claim : List Mark → List Mark → Type 0) (a b : Marked) : Type 0 where
  pub readings : List Reading
  pub reads : Reads (λ p. wants (known_from a.lines p)) a.pending readings a.fed b.fed
  pub told : (all : List ℕ) → Agrees b.fed all → claim (marks_left a all) (marks_left b all)

-- marks were taken, those of each such input, and they were known as soon as there were bytes enough
pub record Moves (wants : List Mark → Bool) (front : List Mark) (a b : Marked) : Type 0 where
  pub readings : List Reading
  pub reads : Reads (λ p. wants (known_from a.lines p)) a.pending readings a.fed b.fed
  pub told : (all : List ℕ) → Agrees b.fed all → marks_left a all ≡ front ++ marks_left b all
  pub known : b.fed.standing ≡ S.Open → (more : List ℕ) →
      known_from a.lines ((a.pending ++ gained readings) ++ more) ≡ front ++ known_from b.lines (b.pending ++ more)
  pub fewer : length front + most_left b ≤ most_left a
  pub whole : is_broken b.fed.standing ≡ false

-- a read failed, or no other may be made, where something was wanted
abbrev pub Breaks : (wants : List Mark → Bool) → Marked → Marked → Type 0
Breaks wants a b = Goes wants (λ old new. Unit {0}) a b × (is_broken b.fed.standing ≡ true) ×
    (most_left b ≤ most_left a)

-- nothing is left, and the end was seen
abbrev pub IsAtEnd : Marked → Type 0
IsAtEnd b = (b.fed.standing ≡ S.Ended) × ((all : List ℕ) → Agrees b.fed all → marks_left b all ≡ [])

-- the first mark is taken
abbrev pub Takes : Option TakenMark → Marked → Marked → Type 0
Takes None a b = Moves wants_mark [] a b × IsAtEnd b
Takes (Some m) a b = Moves wants_mark (mark_of m ∷ []) a b

-- the first character of the line is taken; at its end all stays
abbrev pub TakesInLine : Option ℕ → Marked → Marked → Type 0
TakesInLine None a b = Moves wants_mark [] a b ×
    ((all : List ℕ) → Agrees b.fed all → begins_with_character (marks_left b all) ≡ false)
TakesInLine (Some byte) a b = Moves wants_mark (CharacterMark byte ∷ []) a b

-- a line is passed
abbrev pub PassesLine : Marked → Marked → Type 0
PassesLine a b =
    (front : List Mark) × Moves (wants_lines 1) front a b
    × (b.fed.standing ≡ S.Open → ends_line front ≡ true)
    × ((all : List ℕ) → Agrees b.fed all → next_line (front ++ marks_left b all) ≡ marks_left b all)

-- ---- the bytes behind the lines that were looked over

-- the first mark of bytes that go on, and how many of them it takes; none where it isn't known yet
abbrev pub IsKnownMark : (bytes : List ℕ) → Option (TakenMark × ℕ) → Type 0
IsKnownMark bytes None = (known bytes ≡ []) × (length bytes ≤ 1)
IsKnownMark bytes (Some (m, size)) =
    (size ≤ length bytes) × (0 < size)
    × ((more : List ℕ) → known (bytes ++ more) ≡ mark_of m ∷ known (drop size bytes ++ more))
    × ((is_begun : Bool) (more : List ℕ) →
    marks_of is_begun (bytes ++ more) ≡ mark_of m ∷ marks_of (begins_line m) (drop size bytes ++ more))

-- the first mark behind the lines, which stays
abbrev pub IsFront : Option (TakenMark × ℕ) → Marked → Type 0
IsFront None b = (b.fed.standing ≡ S.Ended) ×
    ((all : List ℕ) → Agrees b.fed all → marks_of b.is_begun (b.pending ++ to_come b.fed all) ≡ [])
IsFront (Some (m, size)) b =
    (size ≤ length b.pending)
    × ((all : List ℕ) → Agrees b.fed all →
    marks_of b.is_begun (b.pending ++ to_come b.fed all) ≡ mark_of m ∷ marks_of (begins_line m)
    (drop size b.pending ++ to_come b.fed all))
    × (b.fed.standing ≡ S.Open → (more : List ℕ) →
    known (b.pending ++ more) ≡ mark_of m ∷ known (drop size b.pending ++ more))
    × (size ≡ 0 → (b.is_begun ≡ true) × (begins_line m ≡ false))

-- reads while the bytes tell no mark
pub record Waits (a b : Marked) : Type 0 where
  pub readings : List Reading
  pub reads : Reads (λ p. wants_mark (known p)) a.pending readings a.fed b.fed
  pub lines : b.lines ≡ a.lines
  pub begun : b.is_begun ≡ a.is_begun
  pub pending : b.pending ≡ a.pending ++ gained readings
  pub fewer : most_left b ≤ most_left a

abbrev pub LooksAt : Option (TakenMark × ℕ) → Marked → Marked → Type 0
LooksAt found a b = Waits a b × IsFront found b × (is_broken b.fed.standing ≡ false)

abbrev pub LooksInVain : Marked → Marked → Type 0
LooksInVain a b = Waits a b × (is_broken b.fed.standing ≡ true)

-- the mark that was looked at is taken
abbrev pub behind_mark : TakenMark → (size : ℕ) → Marked → Marked
behind_mark m size a = record { fed = a.fed; lines = a.lines; is_begun = begins_line m; pending = drop size a.pending }

-- the end of a line that was looked at is looked over
abbrev pub over_line : (size : ℕ) → Marked → Marked
over_line size a = record { fed = a.fed; lines = a.lines + 1; is_begun = false; pending = drop size a.pending }

-- the ends of lines that were looked over are taken
abbrev pub without_lines : Marked → Marked
without_lines a = record { fed = a.fed; lines = 0; is_begun = a.is_begun; pending = a.pending }

-- ---- an input whose marks come from a feed

pub record Held : Type 0 where
  pub marked : Marked
  pub column : ℕ

-- nothing is read yet
abbrev pub first_held : History → Held
first_held h = record { marked = record { fed = first_fed h; lines = 0; is_begun = false; pending = [] }; column = 1 }

-- what is left of an input, and the column that is reached
abbrev pub input_of : Held → (all : List ℕ) → Input
input_of h all = record { marks = marks_left h.marked all; column = h.column }

-- before a field, which passes them, the ends of lines that were looked over are taken
abbrev pub begun : (width : ℕ) → Held → Held
begun zero h = h
begun (suc n) h =
    record { marked = without_lines h.marked; column = if nat_lt 0 h.marked.lines then 1 else h.column }

abbrev pub has_failed : Held → Bool
has_failed h = is_broken h.marked.fed.standing

-- the one stream comes of the other by reads, none of them behind the end or a failure
abbrev pub Follows : Held → Held → Type 0
Follows a b = (readings : List Reading) × Reads (λ _. true) [] readings a.marked.fed b.marked.fed

-- a call reads where something is wanted behind known marks; what it does to each input that agrees with what was read
abbrev pub Reaches : (wants : List Mark → Bool) → (claim : Input → Input → Type 0) → Held → Held → Type 0
Reaches wants claim a b =
    Goes wants (λ old new. claim (record { marks = old; column = a.column })
    (record { marks = new; column = b.column })) a.marked b.marked
    × (has_failed b ≡ false)

abbrev pub Fails : (wants : List Mark → Bool) → Held → Held → Type 0
Fails wants a b = Breaks wants a.marked b.marked

-- the same by what a call answers: from Read on nothing is claimed of the input
abbrev pub Tells : {A : Type 0} → (wants : List Mark → Bool) → (claim : Input → Input → Type 0) → Result A EditFault →
    Held → Held → Type 0
Tells wants claim (Ok x) a b = Reaches wants claim a b
Tells wants claim (Err E.AtEnd) a b = Reaches wants claim a b
Tells wants claim (Err E.TooWide) a b = Reaches wants claim a b
Tells wants claim (Err E.NotNumber) a b = Reaches wants claim a b
Tells wants claim (Err E.Read) a b = Fails wants a b
Tells wants claim (Err E.Write) a b = Reaches wants claim a b
Tells wants claim (Err E.Memory) a b = Reaches wants claim a b

-- a field wants at least the answer that a character is left
abbrev pub wants_field : ℕ → List Mark → Bool
wants_field width ms = wants_characters (suc (width - 1)) ms
