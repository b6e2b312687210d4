-- The laws of texts in expressions at the points of a block.
use Rattle.std.specs.Prelude.{ℕ, ℤ, suc, ◌<◌, ◌≤◌, List, [], ◌∷◌, max}
use Rattle.pli_typing.specs.TypedTree as Y
use Rattle.pli_meaning.specs.Evaluating.{number, text}
use Rattle.pli_serving.specs.ServiceState.{Entry, TextEntry}
use Rattle.pli_coding.specs.Expressions.{number_code, text_code}
use Rattle.expression_runs.specs.Laws as L
use Rattle.expression_runs.specs.Values.{Setting}
use Rattle.text_runs.specs.Texts.{ErrorComes, Evaluates, Pushes}
use Rattle.text_runs.specs.Waiting.{over}

-- the code of an expression does what it means while these wait, with so many registers
abbrev pub NumberDoes : List Entry → Setting → (need : ℕ) → Y.Number → Type 0
NumberDoes entries k need x =
    Evaluates entries k need (λ taken. number_code k.block.environment taken x) (number k.around x)

abbrev pub TextDoes : List Entry → Setting → (need : ℕ) → Y.Text → Type 0
TextDoes entries k need x =
    Pushes entries k need (λ taken. text_code k.block.environment taken x) (text k.around x)

pub record TextsDo : Type 0 where
  -- what is known of numbers where nothing waits, and jumps to no label of the block itself, holds in the block that
  -- has what waits
  pub above :
      (entries : List Entry) (k : Setting) (x : Y.Number) (need : ℕ) → L.Does (over entries k) need x →
      NumberDoes entries k need x
  pub alone : (k : Setting) (x : Y.Number) (need : ℕ) → NumberDoes [] k need x → L.Does k need x
  -- the text of a number
  pub number :
      (entries : List Entry) (k : Setting) (x : Y.Number) (precision need : ℕ) → 0 < precision → precision ≤ 31 →
      NumberDoes entries k need x → TextDoes entries k need (Y.TextOfNumber precision x)
  -- the left text waits while the right one is evaluated; where both are too long ERROR comes to what it means
  pub joined :
      (entries : List Entry) (k : Setting) (left right : Y.Text) (m n : ℕ) → ErrorComes (List ℕ) k →
      TextDoes entries k m left → ((s : List ℕ) → TextDoes (TextEntry s ∷ entries) k n right) →
      TextDoes entries k (max m n) (Y.Joined left right)
  -- the rest of a text from a place on; where it has no such place ERROR comes
  pub rest :
      (entries : List Entry) (k : Setting) (x : Y.Text) (start : Y.Number) (m n : ℕ) → ErrorComes (List ℕ) k →
      TextDoes entries k m x → ((s : List ℕ) → NumberDoes (TextEntry s ∷ entries) k n start) →
      TextDoes entries k (max m n) (Y.SubstringFrom x start)
  -- so many bytes from there; the place waits while the count is evaluated
  pub part :
      (entries : List Entry) (k : Setting) (x : Y.Text) (start count : Y.Number) (m n q : ℕ) →
      ErrorComes (List ℕ) k → TextDoes entries k m x →
      ((s : List ℕ) → NumberDoes (TextEntry s ∷ entries) k n start) →
      ((s : List ℕ) → NumberDoes (TextEntry s ∷ entries) k q count) →
      TextDoes entries k (max m (max n (suc q))) (Y.Substring x start count)
  -- a text is measured and dropped
  pub length :
      (entries : List Entry) (k : Setting) (x : Y.Text) (need : ℕ) → TextDoes entries k need x →
      NumberDoes entries k need (Y.LengthOf x)
  -- a place in the left one of two texts, which are dropped
  pub index :
      (entries : List Entry) (k : Setting) (searched sought : Y.Text) (m n : ℕ) → TextDoes entries k m searched →
      ((s : List ℕ) → TextDoes (TextEntry s ∷ entries) k n sought) →
      NumberDoes entries k (max m n) (Y.IndexOf searched sought)
  pub verify :
      (entries : List Entry) (k : Setting) (searched allowed : Y.Text) (m n : ℕ) → TextDoes entries k m searched →
      ((s : List ℕ) → TextDoes (TextEntry s ∷ entries) k n allowed) →
      NumberDoes entries k (max m n) (Y.VerifyOf searched allowed)
  -- the number that a text shows, or ERROR
  pub shown :
      (entries : List Entry) (k : Setting) (x : Y.Text) (need : ℕ) → ErrorComes ℤ k → TextDoes entries k need x →
      NumberDoes entries k need (Y.NumberOfText x)
