-- Bits while texts wait: what the code of a bit leaves, and where it goes on.
use Rattle.std.specs.Prelude.{ℕ, ◌+◌, ◌≤◌, ◌≡◌, Bool, List, []}
use Rattle.rv_meaning.specs.Words.{flag}
use Rattle.pli_typing.specs.TypedTree as Y
use Rattle.pli_meaning.specs.Control.{Meaning}
use Rattle.pli_meaning.specs.Evaluating.{bit}
use Rattle.pli_serving.specs.ServiceState.{Entry}
use Rattle.pli_coding.specs.Assembly.{Code, size_of}
use Rattle.pli_coding.specs.Environments.{Taken}
use Rattle.pli_coding.specs.Expressions.{bit_code}
use Rattle.activation_relation.specs.Layers.{Point, services_of}
use Rattle.run_steps.specs.Items.{Linked}
use Rattle.run_steps.specs.Reach.{Aims, Comes, Family, cost}
use Rattle.block_runs.specs.Machines.{AreIn, limits_of}
use Rattle.program_runs.specs.Statements.{IsAmong, JumpsTo, waiting}
use Rattle.expression_runs.specs.Values.{HasRegisters, HasWord, Setting, Stretch, behind, in_registers}
use Rattle.text_runs.specs.Laws.{NumberDoes, TextDoes}
use Rattle.text_runs.specs.Texts.{ErrorComes, IsErrorless}
use Rattle.text_runs.specs.Waiting.{over}
use Rattle.test_runs.specs.Tests.{Tests}

-- 1 or 0 in a0, with what waits as it was; or it is left by a jump, to a label of the block as it is without
abbrev pub bit_aims : List Entry → Setting → Stretch → Aims Bool
bit_aims entries k x =
    record {
      limits = limits_of k.block.call.surroundings;
      done = λ c f v b s. HasWord (waiting entries k.block) x (flag b) c f v s;
      jumped = λ c f v height label s. JumpsTo k.block k.labels x.acts c f v height label s;
      returned = λ c f v r s. ⊥;
    }

abbrev pub Decides : List Entry → Setting → (need : ℕ) → (part : Taken → Code) → Meaning Bool → Type 0
Decides entries k need part meaning =
    (p : Point) (numbers : ℕ → ℕ) (taken credits index : ℕ) (f : Family) →
    IsAmong (waiting entries k.block) numbers p → p.control.line ≡ k.around.line → HasRegisters k taken need →
    Linked k.block.call.surroundings.links k.block.call.code index (part (in_registers k.words taken)) →
    credits + size_of (part (in_registers k.words taken)) + k.most ≤ cost k.block.call.code →
    AreIn k.block.call.surroundings p numbers index f →
    Comes k.block.call.code credits f (services_of p)
    (bit_aims entries k (behind p numbers taken credits index (part (in_registers k.words taken))))
    (meaning k.block.call.surroundings.acts p.state)

-- the code of a bit does what it means while these wait, with so many registers
abbrev pub BitDoes : List Entry → Setting → (need : ℕ) → Y.Bit → Type 0
BitDoes entries k need x =
    Decides entries k need (λ taken. bit_code k.block.environment taken x) (bit k.around x)

pub record BitsAbove : Type 0 where
  -- what is a test in the block that has what waits, and jumps to no label of the block itself
  pub above : (entries : List Entry) (k : Setting) (x : Y.Bit) (need : ℕ) → Tests (over entries k) need x →
      BitDoes entries k need x
  pub alone : (k : Setting) (x : Y.Bit) (need : ℕ) → BitDoes [] k need x → Tests k need x

-- texts and numbers of bits, and bits of texts
pub record BitTextsDo : Type 0 where
  pub text :
      (entries : List Entry) (k : Setting) (x : Y.Bit) (need : ℕ) → BitDoes entries k need x →
      TextDoes entries k need (Y.TextOfBit x)
  pub number :
      (entries : List Entry) (k : Setting) (x : Y.Bit) (need : ℕ) → BitDoes entries k need x →
      NumberDoes entries k need (Y.NumberOfBit x)
  -- the bit that a text shows, or ERROR
  pub shown :
      (entries : List Entry) (k : Setting) (x : Y.Text) (need : ℕ) → ErrorComes Bool k → TextDoes entries k need x →
      BitDoes entries k need (Y.BitOfText x)
  -- which ends the run where no unit is in force for it
  pub ends : (k : Setting) → IsErrorless k → ErrorComes Bool k
