-- A format list as it is walked: an item by itself, what stands in it, and the lists that wait, the newest first.
use Rattle.std.specs.Prelude.{ℕ, suc, ◌+◌, List, [], ◌∷◌, ◌++◌}
use Rattle.std.specs.Borrow.{Bor}
use Rattle.pli_language.specs.declared.stmt.Formats.{Formats as Held}
use Rattle.pli_language.specs.Tree as T
use Rattle.pli_language.specs.View.{formats_of}
use Rattle.pli_coding.specs.StaticForms.{formats_length, formats_words, width_or_none}

abbrev pub item_words : ℕ → T.Format → List ℕ
item_words repetition (T.FixedFormat width) = 1 ∷ repetition ∷ width ∷ []
item_words repetition (T.TextFormat width) = 2 ∷ repetition ∷ width_or_none width ∷ []
item_words repetition (T.SpaceFormat n) = 3 ∷ repetition ∷ n ∷ []
item_words repetition (T.SkipFormat n) = 4 ∷ repetition ∷ n ∷ []
item_words repetition (T.ColumnFormat n) = 5 ∷ repetition ∷ n ∷ []
item_words repetition (T.FormatList formats) = 6 ∷ repetition ∷ formats_length formats ∷ []

abbrev pub inside_words : T.Format → List ℕ
inside_words (T.FormatList formats) = formats_words formats
inside_words _ = []

abbrev pub waiting_words : List (Bor Held) → List ℕ
waiting_words [] = []
waiting_words (x ∷ xs) = waiting_words xs ++ formats_words (formats_of x.now)

-- how many steps are left
abbrev mutual
  pub formats_weight : T.Formats → ℕ
  formats_weight T.NoFormat = 1
  formats_weight (T.FormatThen place repetition first rest) = suc (inside_weight first + formats_weight rest)

  pub inside_weight : T.Format → ℕ
  inside_weight (T.FormatList formats) = formats_weight formats
  inside_weight _ = 0

abbrev pub waiting_weight : List (Bor Held) → ℕ
waiting_weight [] = 0
waiting_weight (x ∷ xs) = waiting_weight xs + formats_weight (formats_of x.now)
