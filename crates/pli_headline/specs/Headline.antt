-- What is promised of a program and its image: the outcome of every run, at every base and bound of instructions, is what the
-- storage machine comes to after the acts that the run reports.
use Rattle.std.specs.Prelude.{◌≡◌, ◌≢◌, ℕ, ◌+◌, ◌*◌, ◌/◌, ◌^◌, ◌<◌, ◌≤◌, List, length, Some}
use Rattle.rv_meaning.specs.Machine.{IsValidBase}
use Rattle.rv_meaning.specs.Tables.{TableSignature}
use Rattle.pli_typing.specs.TypedTree as Y
use Rattle.pli_meaning.specs.declared.outcome.End.TheVariants.{Running}
use Rattle.pli_meaning.specs.World.{World}
use Rattle.pli_meaning.specs.Executing.{meaning}
use Rattle.pli_meaning.specs.Pictures.{Picture, step_cost}
use Rattle.run_keeper.specs.RunKeeper.{run_keeper}
use Rattle.pli_coding.specs.Frames.{MemoryParts, usual_parts}
use Rattle.pli_coding.specs.SignatureTable.{table_of}
use Rattle.pli_coding.specs.Images.{picture_of}
use Rattle.image_runs.specs.Runs.{run_of, shown_by}
use Rattle.pli_headline.specs.ProvedSoFar.{IsProvedSoFar}

-- The world w is what a run of the image shows after a bound of instructions: the program comes to just this world when w's acts
-- are allowed, so output, raised conditions, end and number of acts are the program's; an image still running has done at least
-- the bound divided by the step cost acts; and where the program ends within m acts, the image ends within (m + 1) times the
-- step cost instructions.
pub record Keeps (program : Y.Program) (image : Picture) (input : List ℕ) (bound : ℕ) (w : World) : Type 0 where
  pub meant : meaning program input w.acts ≡ Some w
  pub worked : w.end ≡ Running → bound / step_cost image ≤ w.acts
  pub ends : (m : ℕ) (v : World) → meaning program input m ≡ Some v → v.end ≢ Running → (m + 1) * step_cost image ≤ bound → w.end ≢ Running

-- the world that a run shows at a valid base: it meets no fault, keeps the promise, and is the same at every valid base
pub record Shown (program : Y.Program) (image : Picture) (signatures : List TableSignature) (base : ℕ) (input : List ℕ) (bound : ℕ) : Type 0 where
  pub world : World
  pub shows : shown_by (run_of image signatures base input bound) ≡ Some world
  pub keeps : Keeps program image input bound world
  pub anywhere : (other : ℕ) → IsValidBase other → shown_by (run_of image signatures other input bound) ≡ Some world

-- the headline: for every input, valid base and bound of instructions that fits 64 bits
abbrev pub Headline : Y.Program → Picture → List TableSignature → Type 0
Headline program image signatures =
    (base : ℕ) (input : List ℕ) (bound : ℕ) → IsValidBase base → bound < 2 ^ 64 → Shown program image signatures base input bound

-- ---- how far it is proved

-- 7 MiB for code and static data, 7 MiB for the stacks, and then the heap
abbrev pub parts : MemoryParts
parts = usual_parts run_keeper.bytes_for

-- an image that a machine loads: 4 MiB of code and 3 MiB of static data at most
pub record FitsMemory (image : Picture) : Type 0 where
  pub code_fits : length image.code ≤ 2 ^ 20
  pub statics_fit : length image.statics ≤ 3 * 2 ^ 20

-- the goal of this crate
abbrev pub HeadlineSoFar : Type 0
HeadlineSoFar =
    (program : Y.Program) → IsProvedSoFar program → FitsMemory (picture_of parts program) → Headline program (picture_of parts program) (table_of program)
