-- Values of expressions at the points of a block: what their code leaves, and where it goes on.
use Rattle.std.specs.Prelude.{ℕ, ℤ, ◌+◌, ◌*◌, ◌^◌, ◌<◌, ◌≤◌, ◌≡◌, List}
use Rattle.rv_meaning.specs.Machine.{value}
use Rattle.rv_meaning.specs.Words.{word}
use Rattle.pli_language.specs.declared.condition.Condition.TheVariants as C
use Rattle.pli_meaning.specs.BasicValues.{BasicValue}
use Rattle.pli_meaning.specs.Codes.{fixed_overflow_code}
use Rattle.pli_meaning.specs.Control.{Label, Meaning}
use Rattle.pli_meaning.specs.Raising.{Around, raised}
use Rattle.pli_meaning.specs.StorageState.{State}
use Rattle.pli_serving.specs.ServiceState.{Services}
use Rattle.pli_coding.specs.Arithmetic.{overflow_raised}
use Rattle.pli_coding.specs.Assembly.{Code, size_of}
use Rattle.pli_coding.specs.Environments.{Taken}
use Rattle.pli_coding.specs.Registers.{a0, held_registers}
use Rattle.activation_relation.specs.Layers.{Point, services_of}
use Rattle.run_steps.specs.Engine.{Base}
use Rattle.run_steps.specs.Items.{Linked}
use Rattle.run_steps.specs.Numbers.{IsWide}
use Rattle.run_steps.specs.Reach.{Aims, Comes, Family, Reach, cost}
use Rattle.block_runs.specs.Machines.{AreIn, IsIn, limits_of}
use Rattle.program_runs.specs.Statements.{Block, IsAmong, JumpsTo}

-- ---- a value

-- temporaries wait in so many registers; so many words of the frame are set aside, and none is taken by a temporary
abbrev pub in_registers : (words count : ℕ) → Taken
in_registers words count = record { registers = count; words = words }

-- where the code of an expression begins and ends, the line of its statement, how many registers hold temporaries, and
-- what they hold
pub record Stretch : Type 0 where
  pub acts : ℕ
  pub line : ℕ
  pub index : ℕ
  pub wanted : ℕ
  pub taken : ℕ
  pub numbers : ℕ → ℕ

-- a word in a0, at a point of the block, with the temporaries as they were; no fewer acts have been made
pub record HasWord (k : Block) (x : Stretch) (given : ℕ) (credits : ℕ) (f : Family) (v : Services)
    (s : State) : Type 0 where
  pub point : Point
  pub numbers : ℕ → ℕ
  pub among : IsAmong k numbers point
  pub since : x.acts ≤ point.state.world.acts
  pub line : point.control.line ≡ x.line
  pub stays : (n : ℕ) → n < x.taken → numbers n ≡ x.numbers n
  pub state : s ≡ point.state
  pub reach :
      Reach k.call.code credits f v x.wanted (services_of point)
      (λ b y. IsIn k.call.surroundings point numbers x.index b y × (value y.machine a0 ≡ given))

-- the word of a number; or it is left by a jump
abbrev pub number_aims : Block → List Label → Stretch → Aims ℤ
number_aims k labels x =
    record {
      limits = limits_of k.call.surroundings;
      done = λ c f v z s. IsWide z × HasWord k x (word z) c f v s;
      jumped = λ c f v height label s. JumpsTo k labels x.acts c f v height label s;
      returned = λ c f v r s. ⊥;
    }

-- a word that was there before
abbrev pub word_aims : Block → List Label → Stretch → (given : ℕ) → Aims (Unit {0})
word_aims k labels x given =
    record {
      limits = limits_of k.call.surroundings;
      done = λ c f v r s. HasWord k x given c f v s;
      jumped = λ c f v height label s. JumpsTo k labels x.acts c f v height label s;
      returned = λ c f v r s. ⊥;
    }

-- ---- expressions of numbers

-- what is known around the code of an expression in a block: the labels that a jump out of it may name, what stands
-- around its meaning, how many instructions come at most between a call in it and the first act of what is called, and
-- how many words of the frame are set aside around it, for lists of arguments
pub record Setting : Type 0 where
  pub block : Block
  pub labels : List Label
  pub around : Around
  pub most : ℕ
  pub words : ℕ

abbrev pub behind : Point → (numbers : ℕ → ℕ) → (taken credits index : ℕ) → (part : Code) → Stretch
behind p numbers taken credits index part =
    record {
      acts = p.state.world.acts;
      line = p.control.line;
      index = index + size_of part;
      wanted = credits + size_of part;
      taken = taken;
      numbers = numbers;
    }

-- so many registers more may be written by the block
abbrev pub HasRegisters : Setting → (taken need : ℕ) → Type 0
HasRegisters k taken need = (taken + need ≤ k.block.registers) × (k.block.registers ≤ held_registers)

-- the code of a part, with the registers that it needs beside those in use, leaves the value that is meant
abbrev pub Evaluates : Setting → (need : ℕ) → (part : Taken → Code) → Meaning ℤ → Type 0
Evaluates k need part meaning =
    (p : Point) (numbers : ℕ → ℕ) (taken credits index : ℕ) (f : Family) → IsAmong k.block numbers p →
    p.control.line ≡ k.around.line → HasRegisters k taken need →
    Linked k.block.call.surroundings.links k.block.call.code index (part (in_registers k.words taken)) →
    credits + size_of (part (in_registers k.words taken)) + k.most ≤ cost k.block.call.code →
    AreIn k.block.call.surroundings p numbers index f →
    Comes k.block.call.code credits f (services_of p)
    (number_aims k.block k.labels (behind p numbers taken credits index (part (in_registers k.words taken))))
    (meaning k.block.call.surroundings.acts p.state)

-- ---- FIXEDOVERFLOW

-- a raise with a word in a0 comes behind its code with that word, or to where its unit jumps, or the run ends: as it
-- means
abbrev pub OverflowComes : Setting → Type 0
OverflowComes k =
    (p : Point) (numbers : ℕ → ℕ) (taken credits index given : ℕ) (f : Family) → IsAmong k.block numbers p →
    p.control.line ≡ k.around.line → HasRegisters k taken 1 → given < 2 ^ 32 →
    Linked k.block.call.surroundings.links k.block.call.code index (overflow_raised (in_registers k.words taken)) →
    credits + size_of (overflow_raised (in_registers k.words taken)) + k.most ≤ cost k.block.call.code →
    ((b : Base) → IsIn k.block.call.surroundings p numbers index b (f b) × (value (f b).machine a0 ≡ given)) →
    Comes k.block.call.code credits f (services_of p)
    (word_aims k.block k.labels
    (behind p numbers taken credits index (overflow_raised (in_registers k.words taken))) given)
    (raised k.around C.FixedOverflow fixed_overflow_code k.block.call.surroundings.acts p.state)
