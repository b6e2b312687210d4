-- Numbers of bytes as far as they are counted: no displacement is so large.
use Rattle.std.specs.Prelude.{ℕ, ◌^◌, min}

abbrev pub most_bytes : ℕ
most_bytes = 2 ^ 31

abbrev pub capped : ℕ → ℕ
capped n = min n most_bytes
