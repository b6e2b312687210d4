-- The laws of blocks whose words are told.
use Rattle.std.specs.Prelude.{ℕ, ◌+◌, ◌^◌, ◌<◌, ◌≡◌, List, ◌∷◌, Option}
use Rattle.rv_meaning.specs.declared.instr.Instr.{Instr}
use Rattle.rv_meaning.specs.Machine.{value}
use Rattle.pli_coding.specs.Assembly.{size_of}
use Rattle.pli_coding.specs.Frames.{words_place}
use Rattle.pli_coding.specs.Instructions.{store_word}
use Rattle.pli_coding.specs.Registers.{a0, frame_register}
use Rattle.activation_relation.specs.Layers.{Layer, Point, services_of}
use Rattle.activation_relation.specs.Points.{Stands, Surroundings}
use Rattle.run_steps.specs.Engine.{Base}
use Rattle.run_steps.specs.Items.{Linked}
use Rattle.run_steps.specs.Reach.{Family, Reach}
use Rattle.block_runs.specs.Machines.{IsImage, IsIn}
use Rattle.program_runs.specs.Statements.{Block, IsAmong, IsBegun}
use Rattle.expression_runs.specs.Variables.{IsNumber, Spot}
use Rattle.argument_runs.specs.Lists.{layered, with_list}
use Rattle.word_runs.specs.Words.{telling, with_word}

pub record WordsTold : Type 0 where
  -- such a block is begun, and its variables are numbers
  pub begun :
      (k : Block) (φ : Layer) (φs : List Layer) (waits : ℕ → Option ℕ) → k.first.control.layers ≡ φ ∷ φs →
      IsBegun k → IsBegun (telling waits φ φs k)
  pub number :
      (k : Block) (φ : Layer) (φs : List Layer) (waits : ℕ → Option ℕ) → k.first.control.layers ≡ φ ∷ φs →
      (x : Spot) → IsNumber k x → IsNumber (telling waits φ φs k) x
  -- a point of the block is one of it, with the words told, and forgets them
  pub among :
      (k : Block) (φ : Layer) (φs : List Layer) (numbers : ℕ → ℕ) (p : Point) (waits : ℕ → Option ℕ) →
      k.first.control.layers ≡ φ ∷ φs → IsAmong k numbers p →
      IsAmong (telling waits φ φs k) numbers (with_list waits φ φs p)
  pub forgets :
      (k : Block) (φ : Layer) (φs : List Layer) (numbers : ℕ → ℕ) (p : Point) (waits : ℕ → Option ℕ) →
      k.first.control.layers ≡ φ ∷ φs → IsAmong (telling waits φ φs k) numbers p →
      IsAmong k numbers (with_list φ.waits φ φs p)
  -- a word that is stored is told
  pub kept :
      (w : Surroundings) (code : List Instr) (p : Point) (φ : Layer) (φs : List Layer) (n given credits index : ℕ)
      (numbers : ℕ → ℕ) (f : Family) →
      Stands w (layered (φ ∷ φs) p) × IsImage w code (layered (φ ∷ φs) p) →
      (n < φ.words) × (n < 2 ^ 16) × (given < 2 ^ 32) →
      Linked w.links code index (store_word frame_register a0 (words_place n 1)) →
      ((b : Base) → IsIn w (layered (φ ∷ φs) p) numbers index b (f b) × (value (f b).machine a0 ≡ given)) →
      Reach code credits f (services_of (layered (φ ∷ φs) p))
      (credits + size_of (store_word frame_register a0 (words_place n 1)))
      (services_of (with_list (with_word n given φ.waits) φ φs p))
      (λ b y. IsIn w (with_list (with_word n given φ.waits) φ φs p) numbers
      (index + size_of (store_word frame_register a0 (words_place n 1))) b y)
