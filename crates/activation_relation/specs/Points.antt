-- What holds at a point, whatever the machine, and a machine that has come there.
use Rattle.std.specs.Prelude.{ℕ, ◌+◌, ◌-◌, ◌*◌, ◌^◌, ◌<◌, ◌≤◌, ◌≡◌, List, [], ◌∷◌, length, ⊤}
use Rattle.rv_meaning.specs.Machine as V
use Rattle.rv_meaning.specs.Machine.{IsValidBase}
use Rattle.pli_meaning.specs.declared.outcome.End.TheVariants.{Running}
use Rattle.pli_serving.specs.ServiceState as S
use Rattle.pli_coding.specs.Frames.{MemoryParts}
use Rattle.pli_coding.specs.Linking.{Links}
use Rattle.pli_coding.specs.Registers.{frame_register, stack_register, held, held_registers}
use Rattle.storage_relation.specs.Served.{Holds}
use Rattle.storage_relation.specs.Stored.{AreLow, Lives}
use Rattle.activation_relation.specs.Layers.{Layer, Point, now}
use Rattle.activation_relation.specs.Chains.{UnitPlaces, AreActive}
use Rattle.activation_relation.specs.Changes.{StandsOver}
use Rattle.activation_relation.specs.Owned.{AreOwned}
use Rattle.activation_relation.specs.Frames.{FramesStand, AreLaid, frame_under, upper_top}

-- around code: the parts of memory, where symbols and on-units stand, how many acts are allowed, and how many serials
-- may come between two
pub record Surroundings : Type 0 where
  pub parts : MemoryParts
  pub links : Links
  pub units : UnitPlaces
  pub acts : ℕ
  pub serials : ℕ

-- so many serials come before the last act of a run below 2^64 instructions at most, whatever its code: an instruction
-- makes an act or gives a serial, and acts come so often that 2^40 are left
abbrev pub early_serials : ℕ
early_serials = 2 ^ 64 - 2 ^ 40

abbrev pub IsEarly : Surroundings → Point → Type 0
IsEarly w p = p.state.world.acts < w.acts → p.state.serials ≤ early_serials

-- and no more behind it than between two
abbrev pub AreFew : Surroundings → Point → Type 0
AreFew w p = p.state.serials ≤ early_serials + w.serials

-- ---- the stacks of texts and of places in format lists

-- each block has above what stood below it what came since
abbrev pub AreOver : List S.Entry → List S.EditPlace → List Layer → Type 0
AreOver entries edits [] = ⊤
AreOver entries edits (φ ∷ φs) =
    (StandsOver φ.entries entries × StandsOver φ.edits edits) × AreOver φ.entries φ.edits φs

-- ---- points

pub record Stands (w : Surroundings) (p : Point) : Type 0 where
  pub active : AreActive w.units p.state.activations p.control.layers
  pub laid : AreLaid w.parts p.control.layers
  pub low : AreLow (length p.state.activations) p.state.living
  pub lives : Lives p.places p.state
  pub owned : AreOwned p.keeper p.places p.state w.parts p.control.layers
  pub over : AreOver p.control.entries p.control.edits p.control.layers
  pub running : p.state.world.end ≡ Running
  pub allowed : p.state.world.acts ≤ w.acts

-- ---- machines

-- before an instruction at a base: the frame and the stack of the newest block, whole numbers in registers, and memory
pub record IsAt (w : Surroundings) (p : Point) (numbers : ℕ → ℕ) (index base : ℕ) (s : V.State) : Type 0 where
  pub pc : s.pc ≡ base + 4 * index
  pub frame : V.value s frame_register ≡ base + frame_under w.parts p.control.layers
  pub top : V.value s stack_register ≡ base + upper_top w.parts p.control.layers
  pub registers : (n : ℕ) → n < held_registers → V.value s (held n) ≡ numbers n
  pub room : w.parts.stack_end ≤ length s.memory
  pub frames : FramesStand w.parts base s.memory p.state.activations p.control.layers
  pub storage : Holds (now p s.memory)

-- a machine at each base
abbrev pub Machines : Type 0
Machines = (base : ℕ) → IsValidBase base → V.State

abbrev pub AreAt : Surroundings → Point → (numbers : ℕ → ℕ) → (index : ℕ) → Machines → Type 0
AreAt w p numbers index f = (base : ℕ) (valid : IsValidBase base) → IsAt w p numbers index base (f base valid)
