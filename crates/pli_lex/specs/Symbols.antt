-- The symbols by their first byte, and those of two bytes.
use Rattle.std.specs.Prelude.{ℕ, List, [], ◌∷◌, ◌==◌, ◌&&◌, if◌then◌else◌, Option, Some, None}
use Rattle.pli_language.specs.declared.token.Symbol.{Symbol}
use Rattle.pli_language.specs.declared.token.Symbol.TheVariants as S

abbrev pub single_bytes : List (ℕ × Symbol)
single_bytes =
    (43, S.Plus)
    ∷ (45, S.Minus)
    ∷ (42, S.Times)
    ∷ (47, S.Divide)
    ∷ (61, S.Equal)
    ∷ (60, S.Less)
    ∷ (62, S.Greater)
    ∷ (38, S.And)
    ∷ (124, S.Or)
    ∷ (94, S.Not)
    ∷ (40, S.OpenParenthesis)
    ∷ (41, S.CloseParenthesis)
    ∷ (44, S.Comma)
    ∷ (59, S.Semicolon)
    ∷ (58, S.Colon)
    ∷ (46, S.Point)
    ∷ []

abbrev pub byte_pairs : List (ℕ × ℕ × Symbol)
byte_pairs =
    (94, 61, S.NotEqual)
    ∷ (60, 61, S.LessOrEqual)
    ∷ (94, 62, S.LessOrEqual)
    ∷ (62, 61, S.GreaterOrEqual)
    ∷ (94, 60, S.GreaterOrEqual)
    ∷ (124, 124, S.Join)
    ∷ (45, 62, S.Arrow)
    ∷ []

abbrev pub single_in : List (ℕ × Symbol) → ℕ → Option Symbol
single_in [] b = None
single_in (e ∷ es) b = if b == e.0 then Some e.1 else single_in es b

abbrev pub pair_in : List (ℕ × ℕ × Symbol) → ℕ → ℕ → Option Symbol
pair_in [] b c = None
pair_in (e ∷ es) b c = if b == e.0 && c == e.1 then Some e.2 else pair_in es b c

-- the symbol of one byte
abbrev pub single : ℕ → Option Symbol
single b = single_in single_bytes b

-- the symbol of two bytes
abbrev pub pair : ℕ → ℕ → Option Symbol
pair b c = pair_in byte_pairs b c
