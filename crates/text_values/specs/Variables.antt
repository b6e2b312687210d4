-- Text constants at the points of a block, and CHARACTER variables of it and of those around it.
use Rattle.std.specs.Prelude.{ℕ, ◌≤◌, Bool, List}
use Rattle.pli_language.specs.Tree as T
use Rattle.pli_typing.specs.TypedTree as Y
use Rattle.pli_meaning.specs.Texts.{most_text}
use Rattle.pli_coding.specs.Assembly.{ConstantBytes, DataPlace}
use Rattle.pli_coding.specs.Linking.{place_of}
use Rattle.pli_headline.specs.ProvedSoFar.{plain_variable, text_leaf}
use Rattle.program_runs.specs.Constants.{HasConstants}
use Rattle.program_runs.specs.Statements.{Block}
use Rattle.expression_runs.specs.Variables.{Spot}
use Rattle.variable_runs.specs.Known.{IsKnown}

-- its bytes are told where code looks for them
abbrev pub KnowsText : Block → List ℕ → Type 0
KnowsText k bytes = HasConstants k (place_of k.call.surroundings.links (DataPlace (ConstantBytes bytes))) bytes

-- AUTOMATIC, of a constant length, which may be VARYING
abbrev pub text_declared : (varying : Bool) → (most : ℕ) → List T.InitialItem → Y.DeclaredVariable
text_declared varying most initial = plain_variable (text_leaf varying most) initial

pub record IsText (k : Block) (x : Spot) (varying : Bool) (most : ℕ) : Type 0 where
  pub initial : List T.InitialItem
  pub known : IsKnown k x (text_declared varying most initial)
  pub short : most ≤ most_text
