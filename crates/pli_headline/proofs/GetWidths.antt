-- What the items of a format list of GET are: F and A items of which the code knows, and A items with a width.
use Rattle.std.proofs.Common.{ℕ, zero, suc, List, [], ◌∷◌, ◌++◌, Some, None, Bool}
use Rattle.pli_language.specs.Tree as T
use Rattle.pli_meaning.specs.Streaming.{FormatItem, DataFormat, ControlFormat, DataItem, FixedItem, TextItem, repeated, format_items, format_item}
use Rattle.pli_coding.specs.Streams.{has_fixed, has_text}
use Rattle.pli_headline.specs.ProvedSoFar.{HasWidths, HaveWidths}
use Rattle.pli_headline.proofs.FormatData.{Suit, formats_suit}

abbrev pub IsWide : DataItem → Type 0
IsWide (FixedItem width) = Unit {0}
IsWide (TextItem None) = ⊥
IsWide (TextItem (Some width)) = Unit {0}

abbrev pub AllWide : List FormatItem → Type 0
AllWide [] = Unit {0}
AllWide (DataFormat d ∷ rest) = IsWide d × AllWide rest
AllWide (ControlFormat c ∷ rest) = AllWide rest

-- the items of a list that is read by
abbrev pub Suits : (fixed text : Bool) → List FormatItem → Type 0
Suits fixed text items = Suit fixed text items × AllWide items

both_wide : (xs ys : List FormatItem) → AllWide xs → AllWide ys → AllWide (xs ++ ys)
both_wide [] ys h k = k
both_wide (DataFormat d ∷ xs) ys h k = (h.0, both_wide xs ys h.1 k)
both_wide (ControlFormat c ∷ xs) ys h k = both_wide xs ys h k

repeated_wide : (n : ℕ) (xs : List FormatItem) → AllWide xs → AllWide (repeated n xs)
repeated_wide zero xs h = tt
repeated_wide (suc n) xs h = both_wide xs (repeated n xs) h (repeated_wide n xs h)

mutual
  formats_wide : (fs : T.Formats) → HaveWidths fs → AllWide (format_items fs)
  formats_wide T.NoFormat h = tt
  formats_wide (T.FormatThen place r first rest) h =
      both_wide (repeated r (format_item first)) (format_items rest) (repeated_wide r (format_item first) (format_wide first h.0)) (formats_wide rest h.1)

  format_wide : (f : T.Format) → HasWidths f → AllWide (format_item f)
  format_wide (T.FormatList fs) h = formats_wide fs h
  format_wide (T.FixedFormat w) h = (tt, tt)
  format_wide (T.TextFormat None) h = absurd h
  format_wide (T.TextFormat (Some w)) h = (tt, tt)
  format_wide (T.SpaceFormat n) h = tt
  format_wide (T.SkipFormat n) h = tt
  format_wide (T.ColumnFormat n) h = tt

pub formats_suited : (fs : T.Formats) → HaveWidths fs → Suits (has_fixed fs) (has_text fs) (format_items fs)
formats_suited fs h = (formats_suit fs, formats_wide fs h)
