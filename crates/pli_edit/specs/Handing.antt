-- Bytes that are handed over to a drain, by one write or more.
use Rattle.std.specs.Prelude.{◌≡◌, ◌+◌, ◌<◌, ℕ, zero, suc, List, [], ◌∷◌, ◌++◌, length, take, Result, Ok, Err}
use Rattle.pli_edit.specs.Histories.{History}

abbrev pub zeros : List ℕ → ℕ
zeros [] = 0
zeros (zero ∷ ns) = suc (zeros ns)
zeros (suc n ∷ ns) = zeros ns

-- the writes that failed or took nothing
abbrev pub fruitless : History → ℕ
fruitless h = h.failures + zeros h.answers

-- all of the bytes are taken; or just one write fails or takes nothing, with so many bytes taken, and bytes are left
abbrev pub IsHandedOver : (bytes : List ℕ) → (old : History) → Result (Unit {0}) ℕ → (new : History) → Type 0
IsHandedOver bytes old (Ok done) new = (new.bytes ≡ old.bytes ++ bytes) × (fruitless new ≡ fruitless old)
IsHandedOver bytes old (Err count) new =
    (count < length bytes) × (new.bytes ≡ old.bytes ++ take count bytes) × (fruitless new ≡ fruitless old + 1)
