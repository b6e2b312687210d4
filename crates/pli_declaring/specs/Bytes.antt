-- Numbers of bytes, as far as they matter.
use Rattle.std.specs.Prelude.{ℕ, min}

-- a number, or where it is larger a multiple of 16 that is past what STATIC data may take
abbrev pub capped : ℕ → ℕ
capped n = min n 2097152
