-- OFFSET values in expressions at the points of a block: what their code leaves, and where it goes on. (X3.53-1976,
-- chapter 7, locator data.)
use Rattle.std.specs.Prelude.{ℕ, suc, max, ◌+◌, ◌≤◌, ◌≡◌, Bool, List, [], Option}
use Rattle.pli_typing.specs.TypedTree as Y
use Rattle.pli_meaning.specs.Control.{Label}
use Rattle.pli_meaning.specs.Evaluating.{offset}
use Rattle.pli_serving.specs.Bytes.{offset_word}
use Rattle.pli_coding.specs.Assembly.{size_of}
use Rattle.pli_coding.specs.Expressions.{offset_code}
use Rattle.storage_relation.specs.Telling.{IsOffset}
use Rattle.activation_relation.specs.Layers.{Point, services_of}
use Rattle.run_steps.specs.Items.{Linked}
use Rattle.run_steps.specs.Reach.{Aims, Comes, Family, cost}
use Rattle.block_runs.specs.Machines.{AreIn, limits_of}
use Rattle.program_runs.specs.Statements.{Block, IsAmong, IsBegun, JumpsTo}
use Rattle.expression_runs.specs.Values.{HasRegisters, HasWord, Setting, Stretch, behind, in_registers}
use Rattle.expression_runs.specs.Variables.{Spot, whole}
use Rattle.test_runs.specs.Tests.{Tests}
use Rattle.area_runs.specs.Based.{Ends}
use Rattle.scalar_runs.specs.Scalars.{IsScalar, scalar_declared}
use Rattle.member_runs.specs.Members.{IsMember, IsStructure, member_of}

-- a scalar, which may be declared with an area
abbrev pub offset_declared : Option Y.Variable → Y.DeclaredVariable
offset_declared area = scalar_declared (Y.OffsetLeaf area) []

abbrev pub IsOffsetVariable : Block → Spot → Option Y.Variable → Type 0
IsOffsetVariable k x area = IsScalar k x (Y.OffsetLeaf area)

-- the word of an offset in a0; or it is left by a jump
abbrev pub offset_aims : Block → List Label → Stretch → Aims (Option ℕ)
offset_aims k labels x =
    record {
      limits = limits_of k.call.surroundings;
      done = λ c f v o s. IsOffset o × HasWord k x (offset_word o) c f v s;
      jumped = λ c f v height label s. JumpsTo k labels x.acts c f v height label s;
      returned = λ c f v r s. ⊥;
    }

-- the code of an offset does what it means, with so many registers beside those in use
abbrev pub Gives : Setting → (need : ℕ) → Y.Offset → Type 0
Gives k need x =
    (p : Point) (numbers : ℕ → ℕ) (taken credits index : ℕ) (f : Family) → IsAmong k.block numbers p →
    p.control.line ≡ k.around.line → HasRegisters k taken need →
    Linked k.block.call.surroundings.links k.block.call.code index
    (offset_code k.block.environment (in_registers k.words taken) x) →
    credits + size_of (offset_code k.block.environment (in_registers k.words taken) x) + k.most
    ≤ cost k.block.call.code →
    AreIn k.block.call.surroundings p numbers index f →
    Comes k.block.call.code credits f (services_of p)
    (offset_aims k.block k.labels
    (behind p numbers taken credits index (offset_code k.block.environment (in_registers k.words taken) x)))
    (offset k.around x k.block.call.surroundings.acts p.state)

-- ---- the laws

pub record OffsetsGiven : Type 0 where
  pub null : (k : Setting) → Gives k 0 Y.NullOffset
  -- a variable of the block or of one around it
  pub variable :
      (k : Setting) (x : Spot) (area : Option Y.Variable) → IsBegun k.block → IsOffsetVariable k.block x area →
      Gives k 0 (Y.OffsetIn (whole x))
  -- a member of what a pointer variable points to; where that doesn't live, ERROR ends the run
  pub member :
      (k : Setting) (p n : Spot) (members : List Y.Member) (leaves : List Y.Leaf) (member : ℕ)
      (area : Option Y.Variable) → IsStructure k.block p n members leaves → IsMember leaves member (Y.OffsetLeaf area) →
      Ends k → k.around.program ≡ k.block.around.program → Gives k 0 (Y.OffsetIn (member_of p n member))

-- equal, or not equal
abbrev pub OffsetsCompared : Type 0
OffsetsCompared =
    (k : Setting) (equal : Bool) (left right : Y.Offset) (m n : ℕ) → Gives k m left → Gives k n right →
    Tests k (max m (suc n)) (Y.OffsetsCompared equal left right)
