-- Bits at the points of a block: what the code of a test leaves, and where it goes on.
use Rattle.std.specs.Prelude.{ℕ, ◌+◌, ◌≤◌, ◌≡◌, Bool, List}
use Rattle.rv_meaning.specs.Words.{flag}
use Rattle.pli_typing.specs.TypedTree as Y
use Rattle.pli_meaning.specs.Control.{Label, Meaning}
use Rattle.pli_meaning.specs.Evaluating.{bit}
use Rattle.pli_coding.specs.Assembly.{Code, size_of}
use Rattle.pli_coding.specs.Environments.{Taken}
use Rattle.pli_coding.specs.Expressions.{bit_code}
use Rattle.activation_relation.specs.Layers.{Point, services_of}
use Rattle.run_steps.specs.Items.{Linked}
use Rattle.run_steps.specs.Reach.{Aims, Comes, Family, cost}
use Rattle.block_runs.specs.Machines.{AreIn, limits_of}
use Rattle.program_runs.specs.Statements.{Block, IsAmong, JumpsTo}
use Rattle.expression_runs.specs.Values.{HasRegisters, HasWord, Setting, Stretch, behind, in_registers}

-- 1 or 0 in a0; or it is left by a jump
abbrev pub bit_aims : Block → List Label → Stretch → Aims Bool
bit_aims k labels x =
    record {
      limits = limits_of k.call.surroundings;
      done = λ c f v b s. HasWord k x (flag b) c f v s;
      jumped = λ c f v height label s. JumpsTo k labels x.acts c f v height label s;
      returned = λ c f v r s. ⊥;
    }

-- the code of a part, with the registers that it needs beside those in use, leaves the bit that is meant
abbrev pub Decides : Setting → (need : ℕ) → (part : Taken → Code) → Meaning Bool → Type 0
Decides k need part meaning =
    (p : Point) (numbers : ℕ → ℕ) (taken credits index : ℕ) (f : Family) → IsAmong k.block numbers p →
    p.control.line ≡ k.around.line → HasRegisters k taken need →
    Linked k.block.call.surroundings.links k.block.call.code index (part (in_registers k.words taken)) →
    credits + size_of (part (in_registers k.words taken)) + k.most ≤ cost k.block.call.code →
    AreIn k.block.call.surroundings p numbers index f →
    Comes k.block.call.code credits f (services_of p)
    (bit_aims k.block k.labels (behind p numbers taken credits index (part (in_registers k.words taken))))
    (meaning k.block.call.surroundings.acts p.state)

-- the code of a bit does what it means, with so many registers
abbrev pub Tests : Setting → (need : ℕ) → Y.Bit → Type 0
Tests k need x = Decides k need (λ taken. bit_code k.block.environment taken x) (bit k.around x)
