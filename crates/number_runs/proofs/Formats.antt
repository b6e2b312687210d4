-- Format lists of the class: which data items they have, and that there is one.
use Rattle.std.proofs.Common.{◌≡◌, ◌⊎◌, inl, inr, ℕ, zero, suc, List, [], ◌∷◌, ◌++◌, true, false, refl, ap, ◌∙◌}
use Rattle.std.specs.Prelude.{◌&&◌, ◌||◌}
use Rattle.std.proofs.lemmas.Bool.{and_parts, or_cases, or_left, or_right}
use Rattle.pli_language.specs.Formats.{is_times}
use Rattle.pli_language.specs.Tree as T
use Rattle.pli_meaning.specs.Streaming.{ControlFormat, DataFormat, FixedItem, FormatItem, TextItem, format_item}
use Rattle.pli_meaning.specs.Streaming.{format_items, repeated}
use Rattle.pli_coding.specs.Streams.{has_fixed, has_text, is_fixed, is_text}
use Rattle.edit_runs.specs.Edits.{AreItems, has_data, kinds_of}
use Rattle.edit_runs.proofs.ListKinds.{formats_are}
use Rattle.number_runs.specs.Puts.{are_formats, has_format, is_list, is_format}

-- ---- items

data_front : (xs ys : List FormatItem) → has_data xs ≡ true → has_data (xs ++ ys) ≡ true
data_front [] ys h = absurd (cc h)
data_front (DataFormat item ∷ xs) ys h = refl
data_front (ControlFormat item ∷ xs) ys h = data_front xs ys h

data_back : (xs ys : List FormatItem) → has_data ys ≡ true → has_data (xs ++ ys) ≡ true
data_back [] ys h = h
data_back (DataFormat item ∷ xs) ys h = refl
data_back (ControlFormat item ∷ xs) ys h = data_back xs ys h

-- one is repeated once at least
data_repeated :
    (n : ℕ) (xs : List FormatItem) → is_times n ≡ true → has_data xs ≡ true → has_data (repeated n xs) ≡ true
data_repeated zero xs some h = absurd (cc some)
data_repeated (suc n) xs some h = data_front xs (repeated n xs) h

-- ---- lists

mutual
  formats_data :
      (fs : T.Formats) → are_formats fs ≡ true → (has_fixed fs ≡ true) ⊎ (has_text fs ≡ true) →
      has_data (format_items fs) ≡ true
  formats_data T.NoFormat h (inl g) = absurd (cc g)
  formats_data T.NoFormat h (inr g) = absurd (cc g)
  formats_data (T.FormatThen place n first rest) h g =
      let a = and_parts (is_times n) (is_format first && are_formats rest) h in
      let b = and_parts (is_format first) (are_formats rest) a.1 in
      by a.0 (split g) (format_data first b.0) (formats_data rest b.1)
    where
      split :
          ((is_fixed first || has_fixed rest) ≡ true) ⊎ ((is_text first || has_text rest) ≡ true) →
          ((is_fixed first ≡ true) ⊎ (is_text first ≡ true)) ⊎ ((has_fixed rest ≡ true) ⊎ (has_text rest ≡ true))
      split (inl e) = fixed (or_cases (is_fixed first) (has_fixed rest) e)
        where
          fixed :
              (is_fixed first ≡ true) ⊎ (has_fixed rest ≡ true) →
              ((is_fixed first ≡ true) ⊎ (is_text first ≡ true)) ⊎ ((has_fixed rest ≡ true) ⊎ (has_text rest ≡ true))
          fixed (inl x) = inl (inl x)
          fixed (inr x) = inr (inl x)
      split (inr e) = text (or_cases (is_text first) (has_text rest) e)
        where
          text :
              (is_text first ≡ true) ⊎ (has_text rest ≡ true) →
              ((is_fixed first ≡ true) ⊎ (is_text first ≡ true)) ⊎ ((has_fixed rest ≡ true) ⊎ (has_text rest ≡ true))
          text (inl x) = inl (inr x)
          text (inr x) = inr (inr x)

      by :
          is_times n ≡ true →
          ((is_fixed first ≡ true) ⊎ (is_text first ≡ true)) ⊎ ((has_fixed rest ≡ true) ⊎ (has_text rest ≡ true)) →
          ((is_fixed first ≡ true) ⊎ (is_text first ≡ true) → has_data (format_item first) ≡ true) →
          ((has_fixed rest ≡ true) ⊎ (has_text rest ≡ true) → has_data (format_items rest) ≡ true) →
          has_data (repeated n (format_item first) ++ format_items rest) ≡ true
      by some (inl e) one more =
          data_front (repeated n (format_item first)) (format_items rest)
          (data_repeated n (format_item first) some (one e))
      by some (inr e) one more = data_back (repeated n (format_item first)) (format_items rest) (more e)

  format_data :
      (f : T.Format) → is_format f ≡ true → (is_fixed f ≡ true) ⊎ (is_text f ≡ true) →
      has_data (format_item f) ≡ true
  format_data (T.FormatList fs) h g = formats_data fs (and_parts (has_format fs) (are_formats fs) h).1 g
  format_data (T.FixedFormat width) h g = refl
  format_data (T.TextFormat width) h g = refl
  format_data (T.SpaceFormat n) h (inl g) = absurd (cc g)
  format_data (T.SpaceFormat n) h (inr g) = absurd (cc g)
  format_data (T.SkipFormat n) h (inl g) = absurd (cc g)
  format_data (T.SkipFormat n) h (inr g) = absurd (cc g)
  format_data (T.ColumnFormat n) h (inl g) = absurd (cc g)
  format_data (T.ColumnFormat n) h (inr g) = absurd (cc g)

-- a list of the class
pub record IsListed (fs : T.Formats) : Type 0 where
  pub are : AreItems (kinds_of fs) (format_items fs)
  pub some : has_data (format_items fs) ≡ true

pub list_is : (fs : T.Formats) → is_list fs ≡ true → IsListed fs
list_is fs h =
    let a = and_parts (are_formats fs) (has_fixed fs || has_text fs) h in
    record { are = formats_are fs; some = formats_data fs a.0 (or_cases (has_fixed fs) (has_text fs) a.1) }
