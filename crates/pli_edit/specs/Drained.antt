-- The output that goes to a drain.
use Rattle.std.specs.Prelude.{◌≡◌, ◌-◌, ℕ, Bool, true, false, List, ◌++◌, length, drop, Ok, Err}
use Rattle.std.specs.Prelude.{if◌then◌else◌}
use Rattle.pli_meaning.specs.Stream.{column_of}
use Rattle.pli_edit.specs.Histories.{History}
use Rattle.pli_edit.specs.Handing.{IsHandedOver}

-- what a drain took since
abbrev pub taken_since : (before now : History) → List ℕ
taken_since before now = drop (length before.bytes) now.bytes

-- it took more, and keeps what it has
abbrev pub Grows : (before now : History) → Type 0
Grows before now = (more : List ℕ) × (now.bytes ≡ before.bytes ++ more)

-- what was handed over, and what is left
abbrev pub output_of : (before now : History) → (left : List ℕ) → List ℕ
output_of before now left = taken_since before now ++ left

abbrev pub one_if : Bool → ℕ
one_if has_failed = if has_failed then 1 else 0

-- the drain took the whole output; or, where a write failed or took nothing, just one, a part of it from its front
abbrev pub IsDrained : (before : History) → (output : List ℕ) → (has_failed : Bool) → (now : History) → Type 0
IsDrained before output false now = IsHandedOver output before (Ok tt) now
IsDrained before output true now = (count : ℕ) × IsHandedOver output before (Err count) now

-- ---- the last line

-- the bytes of the last line
abbrev pub last_line : List ℕ → ℕ
last_line output = column_of output - 1

-- so far they are counted
abbrev pub most_line : ℕ
most_line = 4294967296
