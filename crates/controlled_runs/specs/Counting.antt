-- ALLOCATION of a CONTROLLED variable: how many generations it has.
use Rattle.std.specs.Prelude.{ℕ, ℤ, ◌+◌, ◌≤◌, ◌≡◌, List, Option}
use Rattle.rv_meaning.specs.Words.{word}
use Rattle.pli_typing.specs.TypedTree as Y
use Rattle.pli_meaning.specs.Control.{Label, Meaning}
use Rattle.pli_meaning.specs.Evaluating.{number}
use Rattle.pli_meaning.specs.StorageState.{State}
use Rattle.pli_serving.specs.ServiceState.{Services}
use Rattle.pli_coding.specs.Assembly.{Code, size_of}
use Rattle.pli_coding.specs.Environments.{Taken}
use Rattle.pli_coding.specs.Expressions.{number_code}
use Rattle.storage_relation.specs.Controlled.{Variable}
use Rattle.activation_relation.specs.Layers.{Point, services_of}
use Rattle.run_steps.specs.Items.{Linked}
use Rattle.run_steps.specs.Numbers.{IsWide}
use Rattle.run_steps.specs.Reach.{Aims, Comes, Family, cost}
use Rattle.block_runs.specs.Machines.{AreIn, limits_of}
use Rattle.program_runs.specs.Statements.{Block, IsAmong, JumpsTo}
use Rattle.expression_runs.specs.Values.{HasRegisters, HasWord, Setting, Stretch, behind, in_registers}
use Rattle.expression_runs.specs.Variables.{Spot}
use Rattle.controlled_runs.specs.Lists.{IsListed, ListsStand, controlled_of}

-- a word in a0, as `HasWord` says, at a point at which the lists stand
pub record HasWordListed (of : ℕ → Option Variable) (k : Block) (x : Stretch) (given credits : ℕ) (f : Family)
    (v : Services) (s : State) : Type 0
  where
    pub word : HasWord k x given credits f v s
    pub lists : ListsStand of word.point

abbrev pub listed_number_aims : (of : ℕ → Option Variable) → Block → List Label → Stretch → Aims ℤ
listed_number_aims of k labels x =
    record {
      limits = limits_of k.call.surroundings;
      done = λ c f v z s. IsWide z × HasWordListed of k x (word z) c f v s;
      jumped = λ c f v height label s. JumpsTo k labels x.acts c f v height label s;
      returned = λ c f v r s. ⊥;
    }

-- as `Evaluates`, between points at which the lists stand
abbrev pub EvaluatesListed :
    (of : ℕ → Option Variable) → Setting → (need : ℕ) → (part : Taken → Code) → Meaning ℤ → Type 0
EvaluatesListed of k need part meaning =
    (p : Point) (numbers : ℕ → ℕ) (taken credits index : ℕ) (f : Family) → IsAmong k.block numbers p →
    ListsStand of p → p.control.line ≡ k.around.line → HasRegisters k taken need →
    Linked k.block.call.surroundings.links k.block.call.code index (part (in_registers k.words taken)) →
    credits + size_of (part (in_registers k.words taken)) + k.most ≤ cost k.block.call.code →
    AreIn k.block.call.surroundings p numbers index f →
    Comes k.block.call.code credits f (services_of p)
    (listed_number_aims of k.block k.labels
    (behind p numbers taken credits index (part (in_registers k.words taken))))
    (meaning k.block.call.surroundings.acts p.state)

abbrev pub counted : Spot → Y.Number
counted x = Y.AllocationsOf (controlled_of x)

-- its word is that of the count
abbrev pub AllocationsCounted : Type 0
AllocationsCounted =
    (of : ℕ → Option Variable) (k : Setting) (x : Spot) → IsListed of k.block x →
    EvaluatesListed of k 0 (λ taken. number_code k.block.environment taken (counted x)) (number k.around (counted x))
