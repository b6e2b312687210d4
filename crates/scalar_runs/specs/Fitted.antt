-- Numbers where so many bits are due, at the points of a block: what their code leaves, and where it goes on.
use Rattle.std.specs.Prelude.{ℕ, ℤ, ◌+◌, ◌≤◌, ◌≡◌, List, true}
use Rattle.rv_meaning.specs.Words.{word}
use Rattle.pli_typing.specs.TypedTree as Y
use Rattle.pli_meaning.specs.Control.{Label, Meaning, ◌>>=◌}
use Rattle.pli_meaning.specs.Evaluating.{number}
use Rattle.pli_meaning.specs.Numbers.{checked, is_of_precision}
use Rattle.pli_meaning.specs.Raising.{Around, value_of}
use Rattle.pli_coding.specs.Assembly.{Code, size_of}
use Rattle.pli_coding.specs.Environments.{Taken}
use Rattle.pli_coding.specs.Expressions.{stored_code}
use Rattle.activation_relation.specs.Layers.{Point, services_of}
use Rattle.run_steps.specs.Items.{Linked}
use Rattle.run_steps.specs.Reach.{Aims, Comes, Family, cost}
use Rattle.block_runs.specs.Machines.{AreIn, limits_of}
use Rattle.program_runs.specs.Statements.{Block, IsAmong, JumpsTo}
use Rattle.expression_runs.specs.Values.{HasRegisters, HasWord, Setting, Stretch, behind, in_registers}

-- the word of a number of so many bits in a0; or it is left by a jump
abbrev pub fitted_aims : Block → List Label → (precision : ℕ) → Stretch → Aims ℤ
fitted_aims k labels precision x =
    record {
      limits = limits_of k.call.surroundings;
      done = λ c f v z s. (is_of_precision precision z ≡ true) × HasWord k x (word z) c f v s;
      jumped = λ c f v height label s. JumpsTo k labels x.acts c f v height label s;
      returned = λ c f v r s. ⊥;
    }

-- the code of a part, with the registers that it needs beside those in use, leaves the number that is meant
abbrev pub Leaves : Setting → (need precision : ℕ) → (part : Taken → Code) → Meaning ℤ → Type 0
Leaves k need precision part meaning =
    (p : Point) (numbers : ℕ → ℕ) (taken credits index : ℕ) (f : Family) → IsAmong k.block numbers p →
    p.control.line ≡ k.around.line → HasRegisters k taken need →
    Linked k.block.call.surroundings.links k.block.call.code index (part (in_registers k.words taken)) →
    credits + size_of (part (in_registers k.words taken)) + k.most ≤ cost k.block.call.code →
    AreIn k.block.call.surroundings p numbers index f →
    Comes k.block.call.code credits f (services_of p)
    (fitted_aims k.block k.labels precision (behind p numbers taken credits index (part (in_registers k.words taken))))
    (meaning k.block.call.surroundings.acts p.state)

-- what a number means where so many bits are due
abbrev pub fitted : Around → (precision : ℕ) → Y.Number → Meaning ℤ
fitted around precision x = (number around x) >>= (λ z. value_of around (checked precision z))

-- the code of a number that is to be stored does what it means, with so many registers
abbrev pub Fits : Setting → (need precision : ℕ) → Y.Number → Type 0
Fits k need precision x =
    Leaves k need precision (λ taken. stored_code k.block.environment taken (Y.StoredNumber precision x))
    (fitted k.around precision x)
