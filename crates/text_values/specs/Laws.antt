-- The laws of texts as values at the points of a block, while others wait.
use Rattle.std.specs.Prelude.{ℕ, Bool, List, ◌∷◌, max}
use Rattle.pli_typing.specs.TypedTree as Y
use Rattle.pli_serving.specs.ServiceState.{Entry, TextEntry}
use Rattle.program_runs.specs.Statements.{IsBegun}
use Rattle.expression_runs.specs.Values.{Setting}
use Rattle.expression_runs.specs.Variables.{Spot, whole}
use Rattle.text_runs.specs.Laws.{TextDoes}
use Rattle.text_runs.specs.Texts.{IsShort}
use Rattle.text_values.specs.Bits.{BitDoes}
use Rattle.text_values.specs.Variables.{IsText, KnowsText}

pub record TextValuesDo : Type 0 where
  pub constant :
      (entries : List Entry) (k : Setting) (bytes : List ℕ) → IsShort bytes → KnowsText k.block bytes →
      TextDoes entries k 0 (Y.TextConstant bytes)
  -- a variable of the block or of one around it
  pub variable :
      (entries : List Entry) (k : Setting) (x : Spot) (varying : Bool) (most : ℕ) → IsBegun k.block →
      IsText k.block x varying most → TextDoes entries k 0 (Y.TextIn (whole x))
  -- the left text waits while the right one is evaluated
  pub compared :
      (entries : List Entry) (k : Setting) (comparison : Y.Comparison) (left right : Y.Text) (m n : ℕ) →
      TextDoes entries k m left → ((s : List ℕ) → TextDoes (TextEntry s ∷ entries) k n right) →
      BitDoes entries k (max m n) (Y.TextsCompared comparison left right)
