-- What is known of texts of a block is known while others wait, while a place in a format list is in use, and in a
-- block that knows the same variables.
use Rattle.std.specs.Prelude.{ℕ, ◌≡◌, Bool, List}
use Rattle.pli_typing.specs.TypedTree as Y
use Rattle.pli_serving.specs.ServiceState.{EditPlace, Entry}
use Rattle.program_runs.specs.Statements.{Block, waiting}
use Rattle.expression_runs.specs.Variables.{Spot}
use Rattle.variable_runs.specs.Known.{IsKnown}
use Rattle.edit_runs.specs.Edits.{placing}
use Rattle.text_values.specs.Variables.{IsText, KnowsText}

pub record TextsKnown : Type 0 where
  pub waits :
      (k : Block) (entries : List Entry) (x : Spot) (varying : Bool) (most : ℕ) → IsText k x varying most →
      IsText (waiting entries k) x varying most
  pub constant_waits :
      (k : Block) (entries : List Entry) (bytes : List ℕ) → KnowsText k bytes → KnowsText (waiting entries k) bytes
  pub placed :
      (k : Block) (place : EditPlace) (x : Spot) (varying : Bool) (most : ℕ) → IsText k x varying most →
      IsText (placing place k) x varying most
  pub constant_placed :
      (k : Block) (place : EditPlace) (bytes : List ℕ) → KnowsText k bytes → KnowsText (placing place k) bytes
  -- as it is in what a block declares, by the laws of variables
  pub inner :
      (k inner : Block) (x : Spot) (varying : Bool) (most : ℕ) →
      ((d : Y.DeclaredVariable) → IsKnown k x d → IsKnown inner x d) → IsText k x varying most →
      IsText inner x varying most
  -- and constants are where as much is told
  pub constant_inner :
      (k inner : Block) (bytes : List ℕ) → inner.call.code ≡ k.call.code →
      inner.call.surroundings ≡ k.call.surroundings → inner.first.places.constants ≡ k.first.places.constants →
      KnowsText k bytes → KnowsText inner bytes
