-- Readers of single tokens.
use Rattle.std.specs.Prelude.{ℕ, List, [], ◌∷◌, Bool, true, false, ◌==◌, if◌then◌else◌, Option, Some, None, Ok, Err}
use denote.Enum.Bare.{sameb}
use Rattle.pli_language.specs.declared.token.Word.{Word}
use Rattle.pli_language.specs.contracts.token.Word.{the_type as the_word}
use Rattle.pli_language.specs.declared.token.Symbol.{Symbol}
use Rattle.pli_language.specs.contracts.token.Symbol.{the_type as the_symbol}
use Rattle.pli_language.specs.declared.token.Symbol.TheVariants as S
use Rattle.pli_language.specs.declared.token.Kind.{Kind}
use Rattle.pli_language.specs.declared.token.Kind.TheVariants as K
use Rattle.pli_language.specs.declared.token.Token.{Token}
use Rattle.pli_language.specs.Spells.{name_at}
use Rattle.pli_language.specs.Tokens.{quote, is_line_end}
use Rattle.pli_language.specs.Tree as T
use Rattle.pli_phrase.specs.Cursor.{Cursor, Stuck, Ended, Read, ◌>>=◌, onto}

abbrev pub same_word : Word → Word → Bool
same_word = sameb the_word

abbrev pub same_symbol : Symbol → Symbol → Bool
same_symbol = sameb the_symbol

-- a kind is this word or symbol
abbrev pub is_terminal : Kind → Kind → Bool
is_terminal (K.Name w) (K.Name v) = same_word v w
is_terminal (K.Symbol y) (K.Symbol z) = same_symbol z y
is_terminal _ _ = false

-- the first of the tokens is this word or symbol
abbrev pub starts : Kind → List Token → Bool
starts terminal [] = false
starts terminal (t ∷ ts) = is_terminal terminal t.kind

abbrev pub begins : Kind → Cursor → Bool
begins terminal c = starts terminal c.tokens

abbrev pub taken_at : Kind → List Token → Cursor → Read Token
taken_at terminal [] c = Err Ended
taken_at terminal (t ∷ ts) c = if is_terminal terminal t.kind then Ok (t, onto ts c) else Err Stuck

-- a token that has to be this word or symbol
unfoldable pub taken : Kind → Cursor → Read Token
taken terminal c = taken_at terminal c.tokens c

-- ---- names

abbrev pub starts_name : Option Kind → Bool
starts_name (Some (K.Name w)) = true
starts_name _ = false

abbrev pub named : List ℕ → Token → Kind → Cursor → Read T.Name
named s t (K.Name word) c = Ok (name_at s t word, c)
named s t _ c = Err Stuck

abbrev pub name_at_front : List ℕ → List Token → Cursor → Read T.Name
name_at_front s [] c = Err Ended
name_at_front s (t ∷ ts) c = named s t t.kind (onto ts c)

unfoldable pub name_from : List ℕ → Cursor → Read T.Name
name_from s c = name_at_front s c.tokens c

-- ---- numbers

abbrev pub numbered : Token → Kind → Cursor → Read ℕ
numbered t (K.Number n) c = Ok (n, c)
numbered t _ c = Err Stuck

abbrev pub number_at_front : List Token → Cursor → Read ℕ
number_at_front [] c = Err Ended
number_at_front (t ∷ ts) c = numbered t t.kind (onto ts c)

unfoldable pub number_from : Cursor → Read ℕ
number_from c = number_at_front c.tokens c

-- a number in parentheses
unfoldable pub count_from : Cursor → Read ℕ
count_from c = do
  open_token ← taken (K.Symbol S.OpenParenthesis) c
  n ← number_from open_token.1
  close_token ← taken (K.Symbol S.CloseParenthesis) n.1
  Ok (n.0, close_token.1)

-- ---- texts

abbrev pub before : ℕ → Option (List ℕ) → Option (List ℕ)
before b None = None
before b (Some v) = Some (b ∷ v)

abbrev pub is_last_quote : List ℕ → Bool
is_last_quote [] = false
is_last_quote (b ∷ []) = b == quote
is_last_quote (b ∷ d ∷ rest) = false

-- the text before the quote that closes it, none where the bytes are no such text
unfoldable pub closed_text : List ℕ → Option (List ℕ)
closed_text [] = None
closed_text (b ∷ []) = if b == quote then Some [] else None
closed_text (b ∷ d ∷ rest) =
    if b == quote then (if d == quote then before quote (closed_text rest) else None) else (if is_line_end b then None else before b (closed_text (d ∷ rest)))

-- the text that the bytes spell between quotes, none where they spell none
abbrev pub text_of : List ℕ → Option (List ℕ)
text_of [] = None
text_of (b ∷ rest) = if b == quote then closed_text rest else None
