-- Lists of expressions, item by item.
use Rattle.std.specs.Prelude.{List, [], ◌∷◌, Bool, true, false, if◌then◌else◌}
use Rattle.pli_language.specs.declared.token.Symbol.TheVariants as S
use Rattle.pli_language.specs.declared.token.Kind.TheVariants as K
use Rattle.pli_language.specs.declared.token.Token.{Token}
use Rattle.pli_phrase.specs.Cursor.{Cursor, onto}
use Rattle.pli_phrase.specs.Tokens.{starts}

abbrev pub behind_first : List Token → List Token
behind_first [] = []
behind_first (t ∷ ts) = ts

-- the cursor behind a comma, where one stands
abbrev pub past_comma : Cursor → Cursor × Bool
past_comma c = if starts (K.Symbol S.Comma) c.tokens then (onto (behind_first c.tokens) c, true) else (c, false)
