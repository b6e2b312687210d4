-- Which data items a format list has: in its tree, in what its code goes by, and among its items.
use Rattle.std.proofs.Common.{◌≡◌, ℕ, zero, suc, ◌≤◌, List, [], ◌∷◌, ◌++◌, Bool, true, false, refl, ap, ◌∙◌, arith}
use Rattle.std.specs.Prelude.{◌||◌}
use Rattle.pli_language.specs.Tree as T
use Rattle.pli_language.specs.Formats.{format_moves_data, formats_move_data}
use Rattle.pli_meaning.specs.Streaming.{FormatItem, DataFormat, ControlFormat, DataItem, FixedItem, TextItem, repeated, format_items, format_item}
use Rattle.pli_coding.specs.Streams.{has_fixed, is_fixed, has_text, is_text}
use Rattle.pli_headline.specs.ProvedSoFar.{IsProvedFormat, AreProvedFormats, HasFormat, HasData}

-- ---- one of two

pub true_false : {X : Type 0} (b : Bool) → b ≡ true → b ≡ false → X
true_false true h k = absurd (cc k)
true_false false h k = absurd (cc h)

or_front : (p q : Bool) → p ≡ true → (p || q) ≡ true
or_front p q h = ap (λ u. u || q) h

or_back : (p q : Bool) → q ≡ true → (p || q) ≡ true
or_back true q h = refl
or_back false q h = h

or_none : (p : Bool) → (p || false) ≡ p
or_none true = refl
or_none false = refl

or_same : (p : Bool) → (p || p) ≡ p
or_same true = refl
or_same false = refl

-- ---- in the tree

pub has_format : (fs : T.Formats) → HasData fs → HasFormat fs
unfolding formats_move_data
has_format T.NoFormat has = absurd (cc has)
has_format (T.FormatThen place r first rest) has = tt

-- ---- among the items

-- a list has a data item
abbrev pub has_data : List FormatItem → Bool
has_data [] = false
has_data (DataFormat d ∷ rest) = true
has_data (ControlFormat c ∷ rest) = has_data rest

data_both : (xs ys : List FormatItem) → has_data (xs ++ ys) ≡ (has_data xs || has_data ys)
data_both [] ys = refl
data_both (DataFormat d ∷ xs) ys = refl
data_both (ControlFormat c ∷ xs) ys = data_both xs ys

data_repeated : (n : ℕ) (xs : List FormatItem) → 1 ≤ n → has_data (repeated n xs) ≡ has_data xs
data_repeated zero xs h = absurd (omega (arith, h))
data_repeated (suc zero) xs h = data_both xs [] ∙ or_none (has_data xs)
data_repeated (suc (suc n)) xs h =
    data_both xs (repeated (suc n) xs) ∙ ap (λ u. has_data xs || u) (data_repeated (suc n) xs (omega arith)) ∙ or_same (has_data xs)

mutual
  unfolding formats_move_data format_moves_data

  data_moved : (fs : T.Formats) → AreProvedFormats fs → has_data (format_items fs) ≡ formats_move_data fs
  data_moved T.NoFormat are = refl
  data_moved (T.FormatThen place r first rest) are =
      data_both (repeated r (format_item first)) (format_items rest)
      ∙ ap (λ u. u || has_data (format_items rest)) (data_repeated r (format_item first) are.0.0 ∙ data_moves first are.1.0)
      ∙ ap (λ u. format_moves_data first || u) (data_moved rest are.1.1)

  data_moves : (f : T.Format) → IsProvedFormat f → has_data (format_item f) ≡ format_moves_data f
  data_moves (T.FormatList fs) is = data_moved fs is.0
  data_moves (T.FixedFormat w) is = refl
  data_moves (T.TextFormat w) is = refl
  data_moves (T.SpaceFormat n) is = refl
  data_moves (T.SkipFormat n) is = refl
  data_moves (T.ColumnFormat n) is = refl

pub items_data : (fs : T.Formats) → AreProvedFormats fs → HasData fs → has_data (format_items fs) ≡ true
items_data fs are has = data_moved fs are ∙ has

-- the code knows of each data item
abbrev pub IsOf : (fixed text : Bool) → DataItem → Type 0
IsOf fixed text (FixedItem width) = fixed ≡ true
IsOf fixed text (TextItem width) = text ≡ true

abbrev pub Suit : (fixed text : Bool) → List FormatItem → Type 0
Suit fixed text [] = Unit {0}
Suit fixed text (DataFormat d ∷ rest) = IsOf fixed text d × Suit fixed text rest
Suit fixed text (ControlFormat c ∷ rest) = Suit fixed text rest

is_of_more : (p q p' q' : Bool) (d : DataItem) → (p ≡ true → p' ≡ true) → (q ≡ true → q' ≡ true) → IsOf p q d → IsOf p' q' d
is_of_more p q p' q' (FixedItem width) h k is = h is
is_of_more p q p' q' (TextItem width) h k is = k is

suit_more : (p q p' q' : Bool) (xs : List FormatItem) → (p ≡ true → p' ≡ true) → (q ≡ true → q' ≡ true) → Suit p q xs → Suit p' q' xs
suit_more p q p' q' [] h k are = tt
suit_more p q p' q' (DataFormat d ∷ xs) h k are = (is_of_more p q p' q' d h k are.0, suit_more p q p' q' xs h k are.1)
suit_more p q p' q' (ControlFormat c ∷ xs) h k are = suit_more p q p' q' xs h k are

suit_both : (p q : Bool) (xs ys : List FormatItem) → Suit p q xs → Suit p q ys → Suit p q (xs ++ ys)
suit_both p q [] ys h k = k
suit_both p q (DataFormat d ∷ xs) ys h k = (h.0, suit_both p q xs ys h.1 k)
suit_both p q (ControlFormat c ∷ xs) ys h k = suit_both p q xs ys h k

suit_repeated : (p q : Bool) (n : ℕ) (xs : List FormatItem) → Suit p q xs → Suit p q (repeated n xs)
suit_repeated p q zero xs h = tt
suit_repeated p q (suc n) xs h = suit_both p q xs (repeated n xs) h (suit_repeated p q n xs h)

mutual
  pub formats_suit : (fs : T.Formats) → Suit (has_fixed fs) (has_text fs) (format_items fs)
  formats_suit T.NoFormat = tt
  formats_suit (T.FormatThen place r first rest) =
      let p = is_fixed first || has_fixed rest in
      let q = is_text first || has_text rest in
      let items = repeated r (format_item first) in
      suit_both p q items (format_items rest)
      (suit_more (is_fixed first) (is_text first) p q items (or_front (is_fixed first) (has_fixed rest)) (or_front (is_text first) (has_text rest)) (suit_repeated (is_fixed first) (is_text first) r (format_item first) (format_suits first)))
      (suit_more (has_fixed rest) (has_text rest) p q (format_items rest) (or_back (is_fixed first) (has_fixed rest)) (or_back (is_text first) (has_text rest)) (formats_suit rest))

  format_suits : (f : T.Format) → Suit (is_fixed f) (is_text f) (format_item f)
  format_suits (T.FormatList fs) = formats_suit fs
  format_suits (T.FixedFormat w) = (refl, tt)
  format_suits (T.TextFormat w) = (refl, tt)
  format_suits (T.SpaceFormat n) = tt
  format_suits (T.SkipFormat n) = tt
  format_suits (T.ColumnFormat n) = tt
