-- Which tokens spell which format lists, and data lists with them.
use Rattle.std.specs.Prelude.{◌≡◌, ◌≢◌, ℕ, List, [], ◌∷◌, Option, Some, None, Bool, true, false, not, ◌&&◌, ◌||◌, nat_le}
use Rattle.pli_language.specs.declared.token.Word.TheVariants as W
use Rattle.pli_language.specs.declared.token.Symbol.TheVariants as S
use Rattle.pli_language.specs.declared.token.Kind.{Kind}
use Rattle.pli_language.specs.declared.token.Kind.TheVariants as K
use Rattle.pli_language.specs.declared.token.Token.{Token}
use Rattle.pli_language.specs.declared.expr.Place.{Place}
use Rattle.pli_language.specs.declared.fault.SourceKind.TheVariants.{BadFormat}
use Rattle.pli_language.specs.Spells.{Takes, next_kind, place_of, SpellsCount, SpellsExprs}
use Rattle.pli_language.specs.Marks.{Marks, note_if, exprs_marks}
use Rattle.pli_language.specs.Tree.{Exprs, Format, FormatList, FixedFormat, TextFormat, SpaceFormat, SkipFormat, ColumnFormat, Formats, NoFormat, FormatThen, EditPair, Skip}

abbrev pub are_count : Kind → Kind → Kind → Bool
are_count (K.Symbol S.OpenParenthesis) (K.Number n) (K.Symbol S.CloseParenthesis) = true
are_count _ _ _ = false

-- a number in parentheses stands here
abbrev pub is_count : List Token → Bool
is_count (t ∷ u ∷ v ∷ rest) = are_count t.kind u.kind v.kind
is_count _ = false

-- a number where one stands, else 1
pub data SpellsNumberOrOne : List Token → ℕ → List Token → Type 0 where
  one : (ts : List Token) → next_kind ts ≢ Some (K.Symbol S.OpenParenthesis) → SpellsNumberOrOne ts 1 ts
  given : (ts rest : List Token) (n : ℕ) → SpellsCount ts n rest → SpellsNumberOrOne ts n rest

-- a number where one stands
pub data SpellsWidth : List Token → Option ℕ → List Token → Type 0 where
  no_width : (ts : List Token) → next_kind ts ≢ Some (K.Symbol S.OpenParenthesis) → SpellsWidth ts None ts
  width : (ts rest : List Token) (n : ℕ) → SpellsCount ts n rest → SpellsWidth ts (Some n) rest

-- how often an item stands: a number, or one in parentheses, else once
pub data SpellsTimes : List Token → ℕ → List Token → Type 0 where
  once : (ts : List Token) → ((n : ℕ) → next_kind ts ≢ Some (K.Number n)) → is_count ts ≡ false → SpellsTimes ts 1 ts
  number : (ts rest : List Token) (t : Token) (n : ℕ) → Takes ts (K.Number n) t rest → SpellsTimes ts n rest
  in_parentheses : (ts rest : List Token) (n : ℕ) → SpellsCount ts n rest → SpellsTimes ts n rest

mutual
  -- an item behind its repetition
  pub data SpellsFormat : List Token → Format → List Token → Type 0 where
    nested : (ts rest : List Token) (fs : Formats) → SpellsFormats ts fs rest → SpellsFormat ts (FormatList fs) rest
    fixed : (ts after rest : List Token) (t : Token) (w : ℕ) → Takes ts (K.Name W.F) t after → SpellsCount after w rest → SpellsFormat ts (FixedFormat w) rest
    text : (ts after rest : List Token) (t : Token) (w : Option ℕ) → Takes ts (K.Name W.A) t after → SpellsWidth after w rest → SpellsFormat ts (TextFormat w) rest
    space : (ts after rest : List Token) (t : Token) (n : ℕ) → Takes ts (K.Name W.X) t after → SpellsCount after n rest → SpellsFormat ts (SpaceFormat n) rest
    skip : (ts after rest : List Token) (t : Token) (n : ℕ) → Takes ts (K.Name W.Skip) t after → SpellsNumberOrOne after n rest → SpellsFormat ts (SkipFormat n) rest
    column : (ts after rest : List Token) (t : Token) (n : ℕ) → Takes ts (K.Name W.Column) t after → SpellsCount after n rest → SpellsFormat ts (ColumnFormat n) rest

  -- one item or more with commas between them, behind the open parenthesis and up to the one that closes them
  pub data SpellsFormatItems : List Token → Formats → List Token → Type 0 where
    last_item : (ts behind mid rest : List Token) (t u : Token) (n : ℕ) (f : Format) → ts ≡ t ∷ behind → (at : List Token) → SpellsTimes ts n at → SpellsFormat at f mid → Takes mid (K.Symbol S.CloseParenthesis) u rest → SpellsFormatItems ts (FormatThen (place_of t) n f NoFormat) rest
    further_items : (ts behind mid after rest : List Token) (t u : Token) (n : ℕ) (f : Format) (fs : Formats) → ts ≡ t ∷ behind → (at : List Token) → SpellsTimes ts n at → SpellsFormat at f mid → Takes mid (K.Symbol S.Comma) u after → SpellsFormatItems after fs rest → SpellsFormatItems ts (FormatThen (place_of t) n f fs) rest

  -- a format list in parentheses
  pub data SpellsFormats : List Token → Formats → List Token → Type 0 where
    formats : (ts after rest : List Token) (t : Token) (fs : Formats) → Takes ts (K.Symbol S.OpenParenthesis) t after → SpellsFormatItems after fs rest → SpellsFormats ts fs rest

-- a data list in parentheses and the format list that it goes by
pub data SpellsPair (s : List ℕ) : List Token → EditPair → List Token → Type 0 where
  pair : (ts after mid behind inside rest : List Token) (t u v : Token) (es : Exprs) (fs : Formats) → Takes ts (K.Symbol S.OpenParenthesis) t after → SpellsExprs s after es mid → Takes mid (K.Symbol S.CloseParenthesis) u behind → behind ≡ v ∷ inside → SpellsFormats behind fs rest → SpellsPair s ts (record { items = es; formats = fs; place = place_of v }) rest

-- one pair or more
pub data SpellsPairs (s : List ℕ) : List Token → List EditPair → List Token → Type 0 where
  one_pair : (ts rest : List Token) (p : EditPair) → SpellsPair s ts p rest → next_kind rest ≢ Some (K.Symbol S.OpenParenthesis) → SpellsPairs s ts (p ∷ []) rest
  further_pairs : (ts mid rest : List Token) (p : EditPair) (ps : List EditPair) → SpellsPair s ts p mid → next_kind mid ≡ Some (K.Symbol S.OpenParenthesis) → SpellsPairs s mid ps rest → SpellsPairs s ts (p ∷ ps) rest

-- ---- the ranges of numbers

abbrev pub is_width : ℕ → Bool
is_width n = nat_le 1 n && nat_le n 1024

abbrev pub is_times : ℕ → Bool
is_times n = nat_le 1 n && nat_le n 1000

abbrev pub width_marks : ℕ → Place → Marks → Marks
width_marks n p m = note_if (not (is_width n)) p BadFormat m

abbrev pub times_marks : ℕ → Place → Marks → Marks
times_marks n p m = note_if (not (is_times n)) p BadFormat m

-- which statement goes by the formats
pub data Direction : Type 0 where
  Getting Putting : Direction

abbrev pub text_marks : Direction → Option ℕ → Place → Marks → Marks
text_marks d (Some w) p m = width_marks w p m
text_marks Getting None p m = note_if true p BadFormat m
text_marks Putting None p m = m

unfoldable mutual
  pub format_marks : Direction → Format → Place → Marks → Marks
  format_marks d (FormatList fs) p m = formats_marks d fs m
  format_marks d (FixedFormat w) p m = width_marks w p m
  format_marks d (TextFormat w) p m = text_marks d w p m
  format_marks d (SpaceFormat n) p m = times_marks n p m
  format_marks d (SkipFormat n) p m = times_marks n p m
  format_marks d (ColumnFormat n) p m = times_marks n p m

  pub formats_marks : Direction → Formats → Marks → Marks
  formats_marks d NoFormat m = m
  formats_marks d (FormatThen p n f fs) m = formats_marks d fs (format_marks d f p (times_marks n p m))

-- the list holds an F or an A, at any depth
unfoldable mutual
  pub format_moves_data : Format → Bool
  format_moves_data (FormatList fs) = formats_move_data fs
  format_moves_data (FixedFormat w) = true
  format_moves_data (TextFormat w) = true
  format_moves_data _ = false

  pub formats_move_data : Formats → Bool
  formats_move_data NoFormat = false
  formats_move_data (FormatThen p n f fs) = format_moves_data f || formats_move_data fs

abbrev pub pair_marks : Direction → EditPair → Marks → Marks
pair_marks d p m =
    note_if (not (formats_move_data p.formats)) p.place BadFormat (formats_marks d p.formats (exprs_marks p.items m))

abbrev pub pairs_marks : Direction → List EditPair → Marks → Marks
pairs_marks d [] m = m
pairs_marks d (p ∷ ps) m = pairs_marks d ps (pair_marks d p m)

abbrev pub skip_marks : Option Skip → Marks → Marks
skip_marks None m = m
skip_marks (Some k) m = times_marks k.number k.place m
