-- A block that has been entered, behind the act of its extents and before it has any variable: it has begun, so what is
-- proved at the points of a block is proved of it.
use Rattle.std.specs.Prelude.{ℕ, ◌+◌, ◌^◌, ◌<◌, ◌≤◌, ◌≡◌, List, ◌∷◌, None}
use Rattle.rv_meaning.specs.declared.instr.Instr.{Instr}
use Rattle.pli_language.specs.declared.condition.Condition.{Condition}
use Rattle.pli_meaning.specs.Control.{Label}
use Rattle.pli_meaning.specs.StorageState.{Activation, OnUnit}
use Rattle.activation_relation.specs.Landing.{Changed, resumed, with_units}
use Rattle.activation_relation.specs.Layers.{Point}
use Rattle.activation_relation.specs.Points.{AreFew, Stands, Surroundings, IsEarly}
use Rattle.activation_relation.specs.Remaining.{Remains}
use Rattle.block_runs.specs.Machines.{IsImage, acted}
use Rattle.program_runs.specs.Calls.{Callee, IsCallee, begun_at}
use Rattle.program_runs.specs.Procedures.{HasRoom, layer_for}
use Rattle.program_runs.specs.Statements.{Block, IsAmong, IsBegun}
use Rattle.begin_runs.specs.BeginBlocks.{Inner, IsBegin, begun_in, inner_block}
use Rattle.begin_runs.specs.BehindLists.{from_point}
use Rattle.extent_runs.specs.Making.{block_from}

-- the point behind that act
abbrev pub entered_in : Block → Point → (numbers : ℕ → ℕ) → Inner → Point
entered_in k p numbers x = acted x.head.line (begun_in k p numbers x)

abbrev pub entered_at : Surroundings → Callee → Point → (numbers : ℕ → ℕ) → Point
entered_at w c p numbers = acted c.procedure.head.line (begun_at w c p numbers)

-- a procedure that is called has made variables by straight code, up to a point
pub record IsMadeUpTo (w : Surroundings) (code : List Instr) (c : Callee) (p : Point) (numbers : ℕ → ℕ) (q : Point) :
    Type 0
  where
    pub stands : Stands w q × IsImage w code q
    pub activation : Activation
    pub changed : Changed
    pub layers :
        q.control.layers ≡ resumed changed (layer_for w p numbers c.procedure c.calling) ∷ p.control.layers
    pub own : List (Condition × OnUnit)
    pub activations : q.state.activations ≡ with_units own activation ∷ p.state.activations
    pub idle : q.control.waiting ≡ None
    pub world : q.state.world ≡ p.state.world
    pub remains : Remains p q
    pub few : q.state.serials ≤ p.state.serials + w.serials

pub record BlocksEntered : Type 0 where
  -- a begin block
  pub begins :
      (k : Block) (labels : List Label) (x : Inner) (index more : ℕ) (p : Point) (numbers : ℕ → ℕ) →
      IsBegin k x index more → IsAmong k numbers p → p.state.world.acts < k.call.surroundings.acts →
      IsBegun (from_point (inner_block k labels p numbers x index) (entered_in k p numbers x))
      × IsAmong (from_point (inner_block k labels p numbers x index) (entered_in k p numbers x)) numbers
      (entered_in k p numbers x)
  -- a procedure that is called
  pub procedures :
      (w : Surroundings) (code : List Instr) (c : Callee) (p : Point) (numbers : ℕ → ℕ) →
      Stands w p × IsImage w code p → AreFew w p → IsCallee w code c × HasRoom w p c.procedure c.calling →
      ((n : ℕ) → numbers n < 2 ^ 32) → p.state.world.acts < w.acts →
      IsBegun (block_from w code c p numbers (entered_at w c p numbers))
      × IsAmong (block_from w code c p numbers (entered_at w c p numbers)) numbers (entered_at w c p numbers)
  -- and one that has made variables before those
  pub behind :
      (w : Surroundings) (code : List Instr) (c : Callee) (p q : Point) (numbers : ℕ → ℕ) → IsEarly w p →
      IsMadeUpTo w code c p numbers q → ((n : ℕ) → numbers n < 2 ^ 32) → q.state.world.acts < w.acts →
      IsBegun (block_from w code c p numbers (acted c.procedure.head.line q))
      × IsAmong (block_from w code c p numbers (acted c.procedure.head.line q)) numbers
      (acted c.procedure.head.line q)
