-- What variables hold when one more is made: it begins with what INITIAL gives it, or with 0, blank or empty, and the others hold the same.
use Rattle.std.proofs.Common.{◌≡◌, ℕ, Bool, true, false, List, refl}
use Rattle.std.specs.Prelude.{cond, ◌==◌}
use Rattle.std.proofs.lemmas.Bool.{eq-eqb}
use Rattle.pli_language.specs.Tree as T
use Rattle.pli_typing.specs.TypedTree as Y
use Rattle.pli_headline.proofs.Scalars.{Values, begin_of, begin_text, begin_texts}
use Rattle.pli_headline.proofs.ArrayInitial.{numbers_of}

-- a number, a text, or those of an array
pub record AreBegun (n : Values) (count : ℕ) (type : Y.LeafType) (items : List T.InitialItem) : Type 0 where
  pub number : n.numbers count ≡ begin_of items
  pub text : n.texts count ≡ begin_text type items
  pub array : n.arrays count ≡ numbers_of items
  pub texts : n.text_arrays count ≡ begin_texts type items

abbrev pub begun_values : Values → (count : ℕ) → Y.LeafType → List T.InitialItem → Values
begun_values n count type items =
    record {
      numbers = λ j. cond (j == count) (begin_of items) (n.numbers j);
      texts = λ j. cond (j == count) (begin_text type items) (n.texts j);
      arrays = λ j. cond (j == count) (numbers_of items) (n.arrays j);
      text_arrays = λ j. cond (j == count) (begin_texts type items) (n.text_arrays j);
    }

here : {A : Type 0} (q : Bool) (x y : A) → q ≡ true → cond q x y ≡ x
here true x y e = refl
here false x y e = absurd (cc e)

beside : {A : Type 0} (q : Bool) (x y : A) → q ≡ false → y ≡ cond q x y
beside true x y e = absurd (cc e)
beside false x y e = refl

pub begun_here : (n : Values) (count : ℕ) (type : Y.LeafType) (items : List T.InitialItem) → AreBegun (begun_values n count type items) count type items
begun_here n count type items =
    let same = eq-eqb count count refl in
    record {
      number = here (count == count) (begin_of items) (n.numbers count) same;
      text = here (count == count) (begin_text type items) (n.texts count) same;
      array = here (count == count) (numbers_of items) (n.arrays count) same;
      texts = here (count == count) (begin_texts type items) (n.text_arrays count) same;
    }

pub begun_beside : (n : Values) (count : ℕ) (type : Y.LeafType) (items : List T.InitialItem) (j : ℕ) → (j == count) ≡ false → (n.numbers j ≡ (begun_values n count type items).numbers j) × ((n.texts j ≡ (begun_values n count type items).texts j) × ((n.arrays j ≡ (begun_values n count type items).arrays j) × (n.text_arrays j ≡ (begun_values n count type items).text_arrays j)))
begun_beside n count type items j other = (
  beside (j == count) (begin_of items) (n.numbers j) other,
  (
    beside (j == count) (begin_text type items) (n.texts j) other,
    (beside (j == count) (numbers_of items) (n.arrays j) other, beside (j == count) (begin_texts type items) (n.text_arrays j) other),
  ),
)
