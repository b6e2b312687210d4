-- Digits whose value is that of a number.
use Rattle.std.specs.Prelude.{ℕ, ◌^◌, nat_le, List, Option, Some, None, if◌then◌else◌}
use Rattle.pli_meaning.specs.Texts.{digits_value}

-- at most the greatest magnitude
abbrev pub within_magnitude : Option ℕ → Option ℕ
within_magnitude None = None
within_magnitude (Some n) = if nat_le n (2 ^ 31) then Some n else None

abbrev pub small_value : List ℕ → Option ℕ
small_value digits = within_magnitude (digits_value digits)
