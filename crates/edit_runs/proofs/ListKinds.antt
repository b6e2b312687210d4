-- The items of a format list are of the kinds that it has.
use Rattle.std.proofs.Common.{◌≡◌, ℕ, zero, suc, List, [], ◌∷◌, ◌++◌, true, refl}
use Rattle.std.proofs.lemmas.Bool.{or_left, or_right}
use Rattle.pli_language.specs.Tree as T
use Rattle.pli_meaning.specs.Streaming.{ControlFormat, DataFormat, FixedItem, FormatItem, TextItem, format_item}
use Rattle.pli_meaning.specs.Streaming.{format_items, repeated}
use Rattle.pli_coding.specs.Streams.{has_fixed, has_text, is_fixed, is_text}
use Rattle.edit_runs.specs.Edits.{AreItems, Kinds, kinds_of}

-- where a list may have more kinds of them
kinds_more :
    (k l : Kinds) (xs : List FormatItem) → (k.fixed ≡ true → l.fixed ≡ true) → (k.text ≡ true → l.text ≡ true) →
    AreItems k xs → AreItems l xs
kinds_more k l [] fixed text are = tt
kinds_more k l (DataFormat (FixedItem width) ∷ xs) fixed text are =
    (fixed are.0, kinds_more k l xs fixed text are.1)
kinds_more k l (DataFormat (TextItem width) ∷ xs) fixed text are = (text are.0, kinds_more k l xs fixed text are.1)
kinds_more k l (ControlFormat item ∷ xs) fixed text are = kinds_more k l xs fixed text are

items_append : (k : Kinds) (xs ys : List FormatItem) → AreItems k xs → AreItems k ys → AreItems k (xs ++ ys)
items_append k [] ys h g = g
items_append k (DataFormat item ∷ xs) ys h g = (h.0, items_append k xs ys h.1 g)
items_append k (ControlFormat item ∷ xs) ys h g = items_append k xs ys h g

items_repeated : (k : Kinds) (n : ℕ) (xs : List FormatItem) → AreItems k xs → AreItems k (repeated n xs)
items_repeated k zero xs h = tt
items_repeated k (suc n) xs h = items_append k xs (repeated n xs) h (items_repeated k n xs h)

abbrev kinds_in : T.Format → Kinds
kinds_in f = record { fixed = is_fixed f; text = is_text f }

-- the items of each are of its kinds
mutual
  pub formats_are : (fs : T.Formats) → AreItems (kinds_of fs) (format_items fs)
  formats_are T.NoFormat = tt
  formats_are (T.FormatThen place n first rest) =
      items_append (kinds_of (T.FormatThen place n first rest)) (repeated n (format_item first)) (format_items rest)
      (items_repeated (kinds_of (T.FormatThen place n first rest)) n (format_item first)
      (kinds_more (kinds_in first) (kinds_of (T.FormatThen place n first rest)) (format_item first)
      (λ e. or_left (is_fixed first) (has_fixed rest) e) (λ e. or_left (is_text first) (has_text rest) e)
      (format_is first)))
      (kinds_more (kinds_of rest) (kinds_of (T.FormatThen place n first rest)) (format_items rest)
      (λ e. or_right (is_fixed first) (has_fixed rest) e) (λ e. or_right (is_text first) (has_text rest) e)
      (formats_are rest))

  format_is : (f : T.Format) → AreItems (kinds_in f) (format_item f)
  format_is (T.FormatList fs) = formats_are fs
  format_is (T.FixedFormat width) = (refl, tt)
  format_is (T.TextFormat width) = (refl, tt)
  format_is (T.SpaceFormat n) = tt
  format_is (T.SkipFormat n) = tt
  format_is (T.ColumnFormat n) = tt
