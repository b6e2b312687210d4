-- Machines that have come to a point of a run, with their services.
use Rattle.std.specs.Prelude.{ℕ, ◌+◌, ◌*◌, ◌%◌, ◌^◌, ◌≤◌, ◌≡◌, List, [], ◌∷◌, length}
use Rattle.rv_meaning.specs.declared.instr.Instr.{Instr}
use Rattle.rv_meaning.specs.Machine.{memory_size}
use Rattle.run_keeper.specs.RunKeeper.{run_keeper}
use Rattle.pli_coding.specs.Frames.{MemoryParts}
use Rattle.image_runs.specs.Runs.{Whole, layout_of}
use Rattle.run_steps.specs.Engine.{Base}
use Rattle.run_steps.specs.Giving.{Limits}
use Rattle.run_steps.specs.Reach.{Family}
use Rattle.pli_meaning.specs.World.{counted}
use Rattle.activation_relation.specs.Changes.{with_act, with_line}
use Rattle.activation_relation.specs.Layers.{Layer, Point, services_of}
use Rattle.activation_relation.specs.Points.{Surroundings, IsAt, early_serials}

-- ---- where code runs

-- the stacks lie behind code and static data, and well before the end of memory
pub record HasParts (parts : MemoryParts) : Type 0 where
  pub high : 7 * 2 ^ 20 ≤ parts.stack_start
  pub inside : parts.stack_end + 2 ^ 12 ≤ 15 * 2 ^ 20

-- the upper stack grows by multiples of 16
abbrev pub AreEven : MemoryParts → List Layer → Type 0
AreEven parts [] = parts.stack_start % 16 ≡ 0
AreEven parts (φ ∷ φs) = (φ.top % 16 ≡ 0) × AreEven parts φs

-- services and memory are those of an image with this code
pub record IsImage (w : Surroundings) (code : List Instr) (p : Point) : Type 0 where
  pub keeper : p.keeper ≡ run_keeper
  pub layout : p.layout ≡ layout_of (4 * length code)
  pub parts : HasParts w.parts
  pub even : AreEven w.parts p.control.layers

-- ---- machines

pub record IsIn (w : Surroundings) (p : Point) (numbers : ℕ → ℕ) (index : ℕ) (b : Base) (x : Whole) : Type 0 where
  pub services : x.services ≡ services_of p
  pub at : IsAt w p numbers index b.at x.machine
  pub zero : x.machine.registers 0 ≡ 0
  pub bytes : length x.machine.memory ≡ memory_size

-- the acts that are allowed, and the serials before the last of them
abbrev pub limits_of : Surroundings → Limits
limits_of w = record { acts = w.acts; serials = early_serials }

abbrev pub AreIn : Surroundings → Point → (numbers : ℕ → ℕ) → (index : ℕ) → Family → Type 0
AreIn w p numbers index f = (b : Base) → IsIn w p numbers index b (f b)

-- ---- acts

-- the point behind an act of a line
abbrev pub acted : (line : ℕ) → Point → Point
acted line p = with_act counted (with_line line p)
