-- The line of a code word in a listing.
use Rattle.std.specs.Prelude.{ℕ, ◌-◌, ◌^◌, List, [], ◌∷◌, ◌++◌, false}
use Rattle.std.specs.Fmt.{digits, padded_integral, format_spec}

-- eight hexadecimal digits
abbrev pub hexadecimal : ℕ → List ℕ
hexadecimal n = padded_integral (format_spec 32 0 4 8 (2 ^ 64 - 1)) false [] (digits 16 false n)

-- the word's offset in bytes, a blank, and the word
abbrev pub listed : ℕ → ℕ → List ℕ
listed offset word = hexadecimal offset ++ (32 ∷ hexadecimal word)
