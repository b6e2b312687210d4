-- Readers of lists, and of what may stand in parentheses, out of readers of their parts.
use Rattle.std.specs.Prelude.{ℕ, zero, suc, List, [], ◌∷◌, length, if◌then◌else◌, Ok, Err}
use Rattle.pli_language.specs.declared.token.Symbol.TheVariants as S
use Rattle.pli_language.specs.declared.token.Kind.TheVariants as K
use Rattle.pli_phrase.specs.Cursor.{Cursor, Ended, Read, ◌>>=◌}
use Rattle.pli_phrase.specs.Tokens.{begins, taken}

-- in parentheses
abbrev pub enclosed_from : {X : Type 0} → (Cursor → Read X) → Cursor → Read X
enclosed_from inner c = do
  open_token ← taken (K.Symbol S.OpenParenthesis) c
  x ← inner open_token.1
  close_token ← taken (K.Symbol S.CloseParenthesis) x.1
  Ok (x.0, close_token.1)

-- in parentheses, where they stand
abbrev pub optional_from : {X : Type 0} → X → (Cursor → Read X) → Cursor → Read X
optional_from absent inner c =
    if begins (K.Symbol S.OpenParenthesis) c then enclosed_from inner c else Ok (absent, c)

-- reads an element before which so many stand
abbrev pub One : Type 0 → Type 0
One X = ℕ → Cursor → Read X

-- further elements behind one
abbrev pub further_from : {X : Type 0} → (Cursor → Read (List X)) → Cursor → Read (List X)
further_from more c =
    if begins (K.Symbol S.Comma) c then (taken (K.Symbol S.Comma) c >>= λ comma. more comma.1) else Ok ([], c)

-- elements with commas between them, before which so many stand
unfoldable pub list_at : {X : Type 0} → One X → ℕ → ℕ → Cursor → Read (List X)
list_at one zero before c = Err Ended
list_at one (suc n) before c = do
  x ← one before c
  xs ← further_from (list_at one n (suc before)) x.1
  Ok (x.0 ∷ xs.0, xs.1)

-- one element or more, with commas between them
unfoldable pub list_from : {X : Type 0} → One X → Cursor → Read (List X)
list_from one c = list_at one (suc (length c.tokens)) 0 c
