-- The tokens of a source: each the longest at its place, with only separators between them.
use Rattle.std.specs.Prelude.{◌≡◌, ◌≢◌, ℕ, ◌+◌, ◌-◌, ◌*◌, ◌^◌, ◌<◌, ◌≤◌, ◌⊎◌, List, [], ◌∷◌, ◌++◌, length, take, drop, reverse, count_by, take_while, Bool, false, ◌==◌, ◌||◌, ◌&&◌, not, nat_le, if◌then◌else◌, IsTrue, slice_range, Contains, ⊤}
use Rattle.std.specs.List.{list_all}
use lib.Chars.{codes}
use Rattle.pli_language.specs.declared.token.Symbol.{Symbol}
use Rattle.pli_language.specs.declared.token.Symbol.TheVariants as S
use Rattle.pli_language.specs.declared.token.Kind.{Kind}
use Rattle.pli_language.specs.declared.token.Kind.TheVariants as K
use Rattle.pli_language.specs.declared.token.Token.{Token}
use Rattle.pli_language.specs.declared.fault.SourceKind.{SourceKind}
use Rattle.pli_language.specs.declared.fault.SourceKind.TheVariants.{BadByte, UnclosedComment, UnclosedText, TooLong, LeftOut}
use Rattle.pli_language.specs.Keywords.{word_named, in_upper_case}

-- ---- bytes

abbrev pub is_within : ℕ → ℕ → ℕ → Bool
is_within low high b = nat_le low b && nat_le b high

abbrev pub is_digit : ℕ → Bool
is_digit b = is_within 48 57 b

-- a letter, `$`, `#` or `@`
abbrev pub is_name_start : ℕ → Bool
is_name_start b = is_within 65 90 b || (is_within 97 122 b || (b == 36 || (b == 35 || b == 64)))

-- what may follow in a name: these, digits and `_`
abbrev pub is_name_byte : ℕ → Bool
is_name_byte b = is_name_start b || (is_digit b || b == 95)

-- blank, tab, CR and LF
abbrev pub is_blank : ℕ → Bool
is_blank b = b == 32 || (b == 9 || (b == 13 || b == 10))

abbrev pub is_line_end : ℕ → Bool
is_line_end b = b == 13 || b == 10

abbrev pub quote : ℕ
quote = 39

-- ---- separators

-- the bytes hold `*/` somewhere
abbrev pub has_close : List ℕ → Bool
has_close [] = false
has_close (b ∷ []) = false
has_close (b ∷ c ∷ rest) = (b == 42 && c == 47) || has_close (c ∷ rest)

-- a comment is `/*`, bytes, and the first `*/` after them
pub record IsComment (w : List ℕ) : Type 0 where
  pub inside : List ℕ
  pub spelled : w ≡ 47 ∷ 42 ∷ (inside ++ 42 ∷ 47 ∷ [])
  pub first : has_close (inside ++ 42 ∷ []) ≡ false

-- blanks and comments in a row
pub data IsSeparation : List ℕ → Type 0 where
  nothing : IsSeparation []
  blank : (b : ℕ) (w : List ℕ) → IsTrue (is_blank b) → IsSeparation w → IsSeparation (b ∷ w)
  comment : (c w : List ℕ) → IsComment c → IsSeparation w → IsSeparation (c ++ w)

-- a comment begins here
abbrev pub opens_comment : List ℕ → Bool
opens_comment [] = false
opens_comment (b ∷ []) = false
opens_comment (b ∷ c ∷ rest) = b == 47 && c == 42

-- ---- what bytes spell

abbrev pub symbol_spellings : Symbol → List (List ℕ)
symbol_spellings S.Plus = codes "+" ∷ []
symbol_spellings S.Minus = codes "-" ∷ []
symbol_spellings S.Times = codes "*" ∷ []
symbol_spellings S.Divide = codes "/" ∷ []
symbol_spellings S.Equal = codes "=" ∷ []
symbol_spellings S.NotEqual = codes "^=" ∷ []
symbol_spellings S.Less = codes "<" ∷ []
symbol_spellings S.Greater = codes ">" ∷ []
symbol_spellings S.LessOrEqual = codes "<=" ∷ codes "^>" ∷ []
symbol_spellings S.GreaterOrEqual = codes ">=" ∷ codes "^<" ∷ []
symbol_spellings S.Join = codes "||" ∷ []
symbol_spellings S.And = codes "&" ∷ []
symbol_spellings S.Or = codes "|" ∷ []
symbol_spellings S.Not = codes "^" ∷ []
symbol_spellings S.OpenParenthesis = codes "(" ∷ []
symbol_spellings S.CloseParenthesis = codes ")" ∷ []
symbol_spellings S.Comma = codes "," ∷ []
symbol_spellings S.Semicolon = codes ";" ∷ []
symbol_spellings S.Colon = codes ":" ∷ []
symbol_spellings S.Point = codes "." ∷ []
symbol_spellings S.Arrow = codes "->" ∷ []

abbrev pub IsName : List ℕ → Type 0
IsName [] = ⊥
IsName (b ∷ rest) = IsTrue (is_name_start b) × IsTrue (list_all is_name_byte rest)

abbrev pub IsDigits : List ℕ → Type 0
IsDigits [] = ⊥
IsDigits (b ∷ rest) = IsTrue (list_all is_digit (b ∷ rest))

-- the number whose decimal digits follow those of n
abbrev pub number_from : ℕ → List ℕ → ℕ
number_from n [] = n
number_from n (b ∷ rest) = number_from (n * 10 + (b - 48)) rest

-- a text's bytes between quotes, each quote inside doubled
abbrev pub doubled : List ℕ → List ℕ
doubled [] = []
doubled (b ∷ rest) = if b == quote then quote ∷ quote ∷ doubled rest else b ∷ doubled rest

pub record IsTextOf (v w : List ℕ) : Type 0 where
  pub spelled : w ≡ quote ∷ (doubled v ++ quote ∷ [])
  pub on_one_line : IsTrue (list_all (λ b. not (is_line_end b)) v)

-- the next byte is no part of a name
abbrev pub NameEnds : List ℕ → Type 0
NameEnds [] = ⊤
NameEnds (b ∷ rest) = is_name_byte b ≡ false

-- what stands at a place, limits aside: a token, `**`, or a text that stands as a bit constant but is none
pub data Lexeme : Type 0 where
  Read : Kind → Lexeme
  Power : Lexeme
  OtherBits : (v : List ℕ) → Lexeme

-- the bytes w, followed by rest, spell a lexeme
pub data Spelled (w rest : List ℕ) : Lexeme → Type 0 where
  name : IsName w → Spelled w rest (Read (K.Name (word_named (in_upper_case w))))
  number : IsDigits w → Spelled w rest (Read (K.Number (number_from 0 w)))
  text : (v : List ℕ) → IsTextOf v w → Spelled w rest (Read K.Text)
  bit : (v : Bool) (b : ℕ) → (b ≡ 66) ⊎ (b ≡ 98) → NameEnds rest → w ≡ quote ∷ (if v then 49 else 48) ∷ quote ∷ b ∷ [] → Spelled w rest (Read (K.Bit v))
  symbol : (s : Symbol) → Contains (symbol_spellings s) w → Spelled w rest (Read (K.Symbol s))
  power : w ≡ codes "**" → Spelled w rest Power
  other_bits : (v t : List ℕ) (b : ℕ) → IsTextOf v t → v ≢ 48 ∷ [] → v ≢ 49 ∷ [] → (b ≡ 66) ⊎ (b ≡ 98) → NameEnds rest → w ≡ t ++ b ∷ [] → Spelled w rest (OtherBits v)

-- the first n of the bytes spell a lexeme, no comment begins there, and no more of them spell one
pub record IsLongest (s : List ℕ) (n : ℕ) (x : Lexeme) : Type 0 where
  pub inside : n ≤ length s
  pub no_comment : opens_comment s ≡ false
  pub spelled : Spelled (take n s) (drop n s) x
  pub longest : (m : ℕ) (y : Lexeme) → m ≤ length s → Spelled (take m s) (drop m s) y → m ≤ n

-- the limits: 31 bytes of a name, the greatest number of 31 bits, 1,024 bytes of a text
abbrev pub IsShort : Kind → List ℕ → Type 0
IsShort (K.Name word) w = length w ≤ 31
IsShort (K.Number n) w = n ≤ 2147483647
IsShort K.Text w = (v : List ℕ) × IsTextOf v w × (length v ≤ 1024)
IsShort (K.Bit v) w = ⊤
IsShort (K.Symbol s) w = ⊤

-- past the limits
abbrev pub IsOver : Kind → List ℕ → Type 0
IsOver (K.Name word) w = 31 < length w
IsOver (K.Number n) w = 2147483647 < n
IsOver K.Text w = (v : List ℕ) × IsTextOf v w × (1024 < length v)
IsOver (K.Bit v) w = ⊥
IsOver (K.Symbol s) w = ⊥

-- ---- places

-- one more than the LF bytes before
abbrev pub line_after : List ℕ → ℕ
line_after before = 1 + count_by (λ b. b == 10) before

-- one more than the bytes after the last LF before, or after the start
abbrev pub column_after : List ℕ → ℕ
column_after before = 1 + length (take_while (λ b. not (b == 10)) (reverse before))

-- ---- the whole list

pub record IsTokenAt (s : List ℕ) (t : Token) : Type 0 where
  pub rising : t.start < t.end
  pub spelled : IsLongest (drop t.start s) (t.end - t.start) (Read t.kind)
  pub short : IsShort t.kind (slice_range s t.start t.end)
  pub line_is : t.line ≡ line_after (take t.start s)
  pub column_is : t.column ≡ column_after (take t.start s)

-- from place p up to place q the source is these tokens, each with its separators before it
pub data Reads (s : List ℕ) : ℕ → List Token → ℕ → Type 0 where
  no_more : (p : ℕ) → Reads s p [] p
  one_more : (p q : ℕ) (t : Token) (ts : List Token) → p ≤ t.start → IsSeparation (slice_range s p t.start) → IsTokenAt s t → Reads s t.end ts q → Reads s p (t ∷ ts) q

abbrev pub most_bytes : ℕ
most_bytes = 2 ^ 20

abbrev pub most_tokens : ℕ
most_tokens = 10000

-- the tokens of a source
pub record Tokens (s : List ℕ) (ts : List Token) : Type 0 where
  pub end : ℕ
  pub bytes : length s ≤ most_bytes
  pub reads : Reads s 0 ts end
  pub rest : IsSeparation (drop end s)
  pub number : length ts ≤ most_tokens

-- no lexeme begins here
abbrev pub BeginsNone : List ℕ → Type 0
BeginsNone s = (n : ℕ) (x : Lexeme) → n ≤ length s → ¬ Spelled (take n s) (drop n s) x

-- what stands behind this many tokens and their separators is no further token: the kind of refusal
pub data Breaks (s : List ℕ) (read : ℕ) : SourceKind → Type 0 where
  bad_byte : (b : ℕ) (rest : List ℕ) → s ≡ b ∷ rest → is_blank b ≡ false → b ≢ quote → opens_comment s ≡ false → BeginsNone s → Breaks s read BadByte
  unclosed_comment : IsTrue (opens_comment s) → has_close (drop 2 s) ≡ false → Breaks s read UnclosedComment
  unclosed_text : (rest : List ℕ) → s ≡ quote ∷ rest → BeginsNone s → Breaks s read UnclosedText
  too_long : (n : ℕ) (k : Kind) → IsLongest s n (Read k) → IsOver k (take n s) → Breaks s read TooLong
  one_too_many : (n : ℕ) (k : Kind) → IsLongest s n (Read k) → read ≡ most_tokens → Breaks s read TooLong
  too_long_bits : (n : ℕ) (v : List ℕ) → IsLongest s n (OtherBits v) → 1024 < length v → Breaks s read TooLong
  power : (n : ℕ) → IsLongest s n Power → Breaks s read LeftOut
  other_bits : (n : ℕ) (v : List ℕ) → IsLongest s n (OtherBits v) → length v ≤ 1024 → Breaks s read LeftOut

-- the source is refused in this way at this line and column: it is too long, or after the longest list of tokens,
-- and the separators behind it, stands what is none
pub data Refuses (s : List ℕ) : ℕ → ℕ → SourceKind → Type 0 where
  source_too_long : most_bytes < length s → Refuses s 1 1 TooLong
  at_place : (ts : List Token) (p q : ℕ) (kind : SourceKind) → length s ≤ most_bytes → Reads s 0 ts p → length ts ≤ most_tokens → p ≤ q → IsSeparation (slice_range s p q) → q < length s → Breaks (drop q s) (length ts) kind → Refuses s (line_after (take q s)) (column_after (take q s)) kind
