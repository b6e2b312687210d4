-- Subscripts: what their code needs, and ERROR where one lies outside its bounds.
use Rattle.std.specs.Prelude.{ℕ, ◌+◌, ◌*◌, ◌^◌, ◌<◌, ◌≤◌, ◌≡◌, ◌⊎◌, List, false, max}
use Rattle.pli_language.specs.declared.condition.Condition.TheVariants as C
use Rattle.pli_typing.specs.TypedTree as Y
use Rattle.pli_meaning.specs.Codes.{subscript_code}
use Rattle.pli_meaning.specs.Control.{Label}
use Rattle.pli_meaning.specs.Raising.{error}
use Rattle.pli_meaning.specs.StorageState.{force}
use Rattle.pli_coding.specs.Assembly.{RaiseError, size_of}
use Rattle.pli_coding.specs.Instructions.{error_raised}
use Rattle.pli_coding.specs.Linking.{place_of}
use Rattle.pli_coding.specs.Locating.{is_simple}
use Rattle.activation_relation.specs.Layers.{Point, services_of}
use Rattle.activation_relation.specs.ServiceLaws.{IsSystem}
use Rattle.run_steps.specs.Items.{Linked}
use Rattle.run_steps.specs.Reach.{Aims, Comes, Family, cost}
use Rattle.block_runs.specs.Machines.{AreIn, limits_of}
use Rattle.program_runs.specs.Statements.{Block, IsAmong, JumpsTo}
use Rattle.expression_runs.specs.Laws as L
use Rattle.expression_runs.specs.Raises.{Routines}
use Rattle.expression_runs.specs.Values.{Setting}
use Rattle.expression_runs.specs.Variables.{IsNumber, Spot, whole}

-- ---- ERROR

-- nothing goes on behind it; a unit of it may jump
abbrev pub error_aims : Block → List Label → (acts : ℕ) → Aims (Unit {0})
error_aims k labels acts =
    record {
      limits = limits_of k.call.surroundings;
      done = λ c f v r s. ⊥;
      jumped = λ c f v height label s. JumpsTo k labels acts c f v height label s;
      returned = λ c f v r s. ⊥;
    }

-- the raise of a subscript outside its bounds comes to where its unit jumps, or the run ends: as it means
abbrev pub SubscriptComes : Setting → Type 0
SubscriptComes k =
    (p : Point) (numbers : ℕ → ℕ) (credits index : ℕ) (f : Family) → IsAmong k.block numbers p →
    p.control.line ≡ k.around.line →
    Linked k.block.call.surroundings.links k.block.call.code index (error_raised subscript_code) →
    credits + size_of (error_raised subscript_code) + k.most ≤ cost k.block.call.code →
    AreIn k.block.call.surroundings p numbers index f →
    Comes k.block.call.code credits f (services_of p) (error_aims k.block k.labels p.state.world.acts)
    (error {R = Unit {0}} k.around subscript_code k.block.call.surroundings.acts p.state)

-- where the block's first statement begins no unit is in force for it
pub record IsUncaught (k : Setting) : Type 0 where
  pub routines : Routines k.block.call.surroundings.links k.block.call.code
  pub place : place_of k.block.call.surroundings.links RaiseError ≡ 4 * (routines.at + 8)
  pub error : IsSystem (force k.block.first.state.activations C.Error)
  pub acts : k.block.call.surroundings.acts + 1 < 2 ^ 64
  pub most : 18 < k.most

-- ---- subscripts

-- a constant, or a FIXED BINARY(31) variable of the block, comes into its register by itself
pub record IsConstant (x : Y.Number) : Type 0 where
  pub value : ℕ
  pub is : x ≡ Y.NumberConstant value
  pub few : value < 2 ^ 31

pub record IsVariable (k : Block) (x : Y.Number) : Type 0 where
  pub spot : Spot
  pub is : x ≡ Y.NumberIn (whole spot)
  pub number : IsNumber k spot

-- any other does what it means, and waits in a register until it is tested; so many hold temporaries before it
pub record IsWaiting (k : Setting) (taken need : ℕ) (x : Y.Number) : Type 0 where
  pub waits : is_simple k.block.environment x ≡ false
  pub first : ℕ
  pub does : L.Does k first x
  pub enough : taken + max first 1 ≤ need

abbrev pub IsSubscript : Setting → (taken need : ℕ) → Y.Number → Type 0
IsSubscript k taken need x = IsWaiting k taken need x ⊎ (IsConstant x ⊎ IsVariable k.block x)
