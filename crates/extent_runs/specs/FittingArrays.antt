-- An array whose upper bound is evaluated fits wherever the stacks have room for all that may be AUTOMATIC, or it
-- passes that limit.
use Rattle.std.specs.Prelude.{ℕ, ℤ, ◌+◌, ◌%◌, ◌≤◌, ◌≡◌, ◌⊎◌, int_le, nat_lt, true}
use Rattle.pli_meaning.specs.StorageState.{most_automatic}
use Rattle.pli_serving.specs.Arguments.{own_signature}
use Rattle.pli_serving.specs.SignatureService.{number_of}
use Rattle.pli_coding.specs.Frames.{name_bytes}
use Rattle.activation_relation.specs.Layers.{Point}
use Rattle.run_steps.specs.Numbers.{IsWide}
use Rattle.program_runs.specs.Statements.{Block, IsAmong}
use Rattle.extent_runs.specs.MadeArrays.{EvaluatedArray, Fits, Passes, template_with}
use Rattle.extent_runs.specs.Signatures.{MayFill}

-- its name's place is the end of the frame, and there is that much room behind it
pub record HasRoom (k : Block) (x : EvaluatedArray) : Type 0 where
  pub precision : x.precision ≤ 31
  pub here : x.evaluated.layer.at + x.place ≡ x.evaluated.layer.top
  pub even : x.evaluated.layer.lower % 16 ≡ 0
  pub room : x.evaluated.layer.top + name_bytes + most_automatic ≤ x.evaluated.layer.lower
  pub low : k.first.places.low ≤ k.call.surroundings.parts.stack_start

abbrev pub ArraysFit : Type 0
ArraysFit =
    (k : Block) (x : EvaluatedArray) (upper : ℤ) (q : Point) (held : ℕ → ℕ) → HasRoom k x → IsAmong k held q →
    IsWide x.evaluated.extent.lower × IsWide upper → int_le x.evaluated.extent.lower upper ≡ true →
    nat_lt (number_of (template_with x upper) q.places.signatures) own_signature ≡ true →
    MayFill q (template_with x upper) → Fits k x upper q ⊎ Passes k x upper q
