-- Format lists that wait: one more, and one taken.
use Rattle.std.proofs.Common.{◌≡◌, ℕ, ◌+◌, List, [], ◌∷◌, ◌++◌, refl, sym, ap, ◌∙◌, append_assoc, append-nil, arith}
use Rattle.std.specs.Borrow.{Bor}
use Rattle.rv_meaning.specs.Memory.{bytes_of_word, bytes_of_words}
use Rattle.pli_language.specs.declared.stmt.Formats.{Formats as Held}
use Rattle.pli_language.specs.View.{formats_of}
use Rattle.pli_language.specs.declared.expr.Place.{Place}
use Rattle.pli_language.specs.Tree as T
use Rattle.pli_coding.specs.StaticForms.{format_words, formats_words}
use Rattle.rv_data.specs.Waiting.{formats_weight, inside_words, item_words, waiting_weight, waiting_words}

pub one_waits : (xs ys : List (Bor Held)) (y : Bor Held) → ys ≡ xs ++ y ∷ [] → waiting_words ys ≡ formats_words (formats_of y.now) ++ waiting_words xs
one_waits xs ys y e = ap waiting_words e ∙ go xs
  where
    go : (zs : List (Bor Held)) → waiting_words (zs ++ y ∷ []) ≡ formats_words (formats_of y.now) ++ waiting_words zs
    go [] = sym (append-nil (formats_words (formats_of y.now)))
    go (z ∷ zs) = ap (λ u. u ++ formats_words (formats_of z.now)) (go zs) ∙ append_assoc (formats_words (formats_of y.now)) (waiting_words zs) (formats_words (formats_of z.now))

pub one_weighs : (xs ys : List (Bor Held)) (y : Bor Held) → ys ≡ xs ++ y ∷ [] → waiting_weight ys ≡ waiting_weight xs + formats_weight (formats_of y.now)
one_weighs xs ys y e = ap waiting_weight e ∙ go xs
  where
    go : (zs : List (Bor Held)) → waiting_weight (zs ++ y ∷ []) ≡ waiting_weight zs + formats_weight (formats_of y.now)
    go [] = omega arith
    go (z ∷ zs) =
        let more : waiting_weight (zs ++ y ∷ []) ≡ waiting_weight zs + formats_weight (formats_of y.now) = go zs in
        omega arith

pub words_joined : (us ws : List ℕ) → bytes_of_words (us ++ ws) ≡ bytes_of_words us ++ bytes_of_words ws
words_joined [] ws = refl
words_joined (u ∷ us) ws = ap (λ bs. bytes_of_word u ++ bs) (words_joined us ws) ∙ sym (append_assoc (bytes_of_word u) (bytes_of_words us) (bytes_of_words ws))

item_first : (repetition : ℕ) (f : T.Format) (rest : T.Formats) → format_words repetition f ++ formats_words rest ≡ item_words repetition f ++ (inside_words f ++ formats_words rest)
item_first n (T.FixedFormat width) rest = refl
item_first n (T.TextFormat width) rest = refl
item_first n (T.SpaceFormat number) rest = refl
item_first n (T.SkipFormat number) rest = refl
item_first n (T.ColumnFormat number) rest = refl
item_first n (T.FormatList formats) rest = refl

-- an item is put, the items behind it wait, and on them those in it
pub turn : (done before now : List ℕ) (repetition : ℕ) (place : Place) (f : T.Format) (rest : T.Formats) (waited : List ℕ)
    → now ≡ done ++ bytes_of_words (item_words repetition f) → before ≡ inside_words f ++ (formats_words rest ++ waited)
    → now ++ bytes_of_words before ≡ done ++ bytes_of_words (formats_words (T.FormatThen place repetition f rest) ++ waited)
turn done before now repetition place f rest waited e w =
    let all : formats_words (T.FormatThen place repetition f rest) ++ waited ≡ item_words repetition f ++ before =
    ap (λ u. u ++ waited) (item_first repetition f rest)
    ∙ append_assoc (item_words repetition f) (inside_words f ++ formats_words rest) waited
    ∙ ap (λ u. item_words repetition f ++ u) (append_assoc (inside_words f) (formats_words rest) waited ∙ sym w) in
    ap (λ u. u ++ bytes_of_words before) e
    ∙ append_assoc done (bytes_of_words (item_words repetition f)) (bytes_of_words before)
    ∙ ap (λ u. done ++ u) (sym (words_joined (item_words repetition f) before))
    ∙ ap (λ u. done ++ bytes_of_words u) (sym all)
