-- Numbers that a typed tree says, and format lists: all in range.
use Rattle.std.specs.Prelude.{◌≡◌, ℕ, ◌<◌, ◌≤◌, ◌^◌, ℤ, pos, negsuc, Option, Some, None, true, ⊤}
use Rattle.pli_language.specs.Tree as T
use Rattle.pli_language.specs.Formats.{Direction, Getting, Putting, formats_move_data}

abbrev pub IsLine : ℕ → Type 0
IsLine line = line < 2 ^ 31

-- a constant of an expression, which has no sign
abbrev pub IsConstant : ℕ → Type 0
IsConstant n = n < 2 ^ 31

-- a constant of a declaration, with a sign or without one
abbrev pub IsInteger : ℤ → Type 0
IsInteger (pos n) = n < 2 ^ 31
IsInteger (negsuc n) = n < 2 ^ 31

abbrev pub IsPrecision : ℕ → Type 0
IsPrecision p = (1 ≤ p) × (p ≤ 31)

-- the bytes of a text
abbrev pub IsLength : ℕ → Type 0
IsLength n = n ≤ 1024

-- ---- format lists (chapter 8)

abbrev pub IsTimes : ℕ → Type 0
IsTimes n = (1 ≤ n) × (n ≤ 1000)

abbrev pub IsTimesIf : Option ℕ → Type 0
IsTimesIf None = ⊤
IsTimesIf (Some n) = IsTimes n

abbrev pub IsWidth : ℕ → Type 0
IsWidth n = (1 ≤ n) × (n ≤ 1024)

-- A without a width is PUT's alone
abbrev pub IsTextWidth : Direction → Option ℕ → Type 0
IsTextWidth d (Some n) = IsWidth n
IsTextWidth Putting None = ⊤
IsTextWidth Getting None = ⊥

abbrev pub HasFormat : T.Formats → Type 0
HasFormat T.NoFormat = ⊥
HasFormat (T.FormatThen place repetition first rest) = ⊤

abbrev mutual
  pub IsFormat : Direction → T.Format → Type 0
  IsFormat d (T.FormatList formats) = HasFormat formats × AreFormats d formats
  IsFormat d (T.FixedFormat width) = IsWidth width
  IsFormat d (T.TextFormat width) = IsTextWidth d width
  IsFormat d (T.SpaceFormat n) = IsTimes n
  IsFormat d (T.SkipFormat n) = IsTimes n
  IsFormat d (T.ColumnFormat n) = IsTimes n

  pub AreFormats : Direction → T.Formats → Type 0
  AreFormats d T.NoFormat = ⊤
  AreFormats d (T.FormatThen place repetition first rest) = IsTimes repetition × (IsFormat d first × AreFormats d rest)

-- a format list with a data item, at any depth
pub record IsFormatList (d : Direction) (formats : T.Formats) : Type 0 where
  pub formats_are : AreFormats d formats
  pub moves_data : formats_move_data formats ≡ true
