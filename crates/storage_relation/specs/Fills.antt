-- Signatures that a run fills in: which it may, and that a table has no others behind those that it had. So it is known
-- how many there are at most.
use Rattle.std.specs.Prelude.{ℕ, ◌+◌, ◌<◌, ◌≡◌, ◌⊎◌, ⊤, List, [], ◌∷◌, ◌++◌, length}
use Rattle.pli_types.specs.Templates.{Template}
use Rattle.pli_serving.specs.SignatureService.{number_of}

-- so many, by number
pub record Fills : Type 0 where
  pub most : ℕ
  pub template : (number : ℕ) → Template

-- one of these
abbrev pub IsFill : List Fills → Template → Type 0
IsFill [] u = ⊥
IsFill (f ∷ fs) u = ((n : ℕ) × (n < f.most) × (u ≡ f.template n)) ⊎ IsFill fs u

abbrev pub most_filled : List Fills → ℕ
most_filled [] = 0
most_filled (f ∷ fs) = f.most + most_filled fs

-- filled in one after the other, each where none like it was there
abbrev pub AreFilled : List Fills → (old more : List Template) → Type 0
AreFilled fills old [] = ⊤
AreFilled fills old (u ∷ us) =
    ((number_of u old ≡ length old) × IsFill fills u) × AreFilled fills (old ++ u ∷ []) us

-- so a table grows, while the same ones may be filled in
pub record Grows (fills still : List Fills) (old new : List Template) : Type 0 where
  pub same : still ≡ fills
  pub more : List Template
  pub behind : new ≡ old ++ more
  pub filled : AreFilled fills old more
