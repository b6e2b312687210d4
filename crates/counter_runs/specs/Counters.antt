-- The variable of a DO that counts: at the points of a block it is read, and a number in a0 is assigned to it.
use Rattle.std.specs.Prelude.{ℕ, ◌+◌, ◌≤◌, ◌≡◌, ℤ, List}
use Rattle.rv_meaning.specs.Machine.{value}
use Rattle.rv_meaning.specs.Words.{word}
use Rattle.pli_typing.specs.TypedTree as Y
use Rattle.pli_meaning.specs.BasicValues.{BasicNumber}
use Rattle.pli_meaning.specs.Control.{Label}
use Rattle.pli_meaning.specs.Executing.{assigned}
use Rattle.pli_coding.specs.Assembly.{size_of}
use Rattle.pli_coding.specs.Registers.{a0}
use Rattle.pli_coding.specs.Storing.{word_stored}
use Rattle.activation_relation.specs.Layers.{Point, services_of}
use Rattle.run_steps.specs.Engine.{Base}
use Rattle.run_steps.specs.Items.{Linked}
use Rattle.run_steps.specs.Numbers.{IsWide}
use Rattle.run_steps.specs.Reach.{Aims, Comes, Family, cost}
use Rattle.block_runs.specs.Machines.{IsIn, limits_of}
use Rattle.program_runs.specs.Statements.{Block, GoesOn, IsAmong, JumpsTo}
use Rattle.expression_runs.specs.Laws as L
use Rattle.expression_runs.specs.Values.{HasRegisters, Setting, in_registers}

-- at the point behind it; or it is left by a jump
abbrev pub put_aims : Block → List Label → (acts index wanted : ℕ) → Aims (Unit {0})
put_aims k labels acts index wanted =
    record {
      limits = limits_of k.call.surroundings;
      done = λ c f v r s. GoesOn k acts index wanted c f v s;
      jumped = λ c f v height label s. JumpsTo k labels acts c f v height label s;
      returned = λ c f v r s. ⊥;
    }

-- the code that stores the number in a0 does what it means, with so many registers
abbrev pub Puts : Setting → (need : ℕ) → Y.Reference → Type 0
Puts k need r =
    (p : Point) (numbers : ℕ → ℕ) (credits index : ℕ) (f : Family) (z : ℤ) → IsWide z → IsAmong k.block numbers p →
    p.control.line ≡ k.around.line → HasRegisters k 0 need →
    Linked k.block.call.surroundings.links k.block.call.code index
    (word_stored k.block.environment (in_registers k.words 0) r) →
    credits + size_of (word_stored k.block.environment (in_registers k.words 0) r) + k.most ≤ cost k.block.call.code →
    ((b : Base) → IsIn k.block.call.surroundings p numbers index b (f b) × (value (f b).machine a0 ≡ word z)) →
    Comes k.block.call.code credits f (services_of p)
    (put_aims k.block k.labels p.state.world.acts
    (index + size_of (word_stored k.block.environment (in_registers k.words 0) r))
    (credits + size_of (word_stored k.block.environment (in_registers k.words 0) r)))
    (assigned k.around r (BasicNumber z) k.block.call.surroundings.acts p.state)

pub record IsCounter (k : Setting) (need : ℕ) (r : Y.Reference) : Type 0 where
  pub read : L.Does k need (Y.NumberIn r)
  pub put : Puts k need r
