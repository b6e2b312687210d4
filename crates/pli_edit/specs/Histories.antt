-- What the calls of a feed or of a drain came to so far.
use Rattle.std.specs.Prelude.{ℕ, ◌+◌, List, [], ◌∷◌, ◌++◌, take, Result, Ok, Err}

-- how many calls failed, what the others answered, and the bytes that these gave or took
pub record History : Type 0 where
  pub failures : ℕ
  pub answers : List ℕ
  pub bytes : List ℕ

abbrev pub after_call : {E : Type 0} → Result ℕ E → (buffer : List ℕ) → History → History
after_call (Ok n) buffer h =
    record { failures = h.failures; answers = h.answers ++ n ∷ []; bytes = h.bytes ++ take n buffer }
after_call (Err e) buffer h = record { failures = h.failures + 1; answers = h.answers; bytes = h.bytes }
