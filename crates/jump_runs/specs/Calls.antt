-- CALL of a procedure that may jump out to a label of the block that declares it, or of one around that.
use Rattle.std.specs.Prelude.{ℕ, ◌≡◌, List, ◌∷◌}
use Rattle.pli_meaning.specs.Control.{Label}
use Rattle.pli_meaning.specs.StorageState.{ancestor_at}
use Rattle.activation_relation.specs.Layers.{Point}
use Rattle.block_runs.specs.Machines.{HasParts}
use Rattle.program_runs.specs.Calls.{AreMade, Callee, IsCall, block_at, body_index, call_of, left_over}
use Rattle.program_runs.specs.Statements.{Block, Does, IsAmong, IsBegun, as_outer}
use Rattle.program_runs.specs.Variables.{Declared, IsOnly}
use Rattle.expression_runs.specs.OwnVariables.{IsOwn}
use Rattle.expression_runs.specs.Variables.{IsNumber, Spot}
use Rattle.function_runs.specs.OuterVariables.{IsInside}
use Rattle.unit_runs.specs.InnerLists.{IsList, ListDoes}

-- its block: further out are the block that calls it, with the labels that a jump may name there, and those around it
abbrev pub block_in : Block → List Label → Callee → Point → (numbers : ℕ → ℕ) → Block
block_in k labels c p numbers =
    record (block_at k.call.surroundings k.call.code c p numbers) { outers = as_outer k labels ∷ k.outers }

-- the call does what it means if the procedure's list does, however it is left and whatever units it establishes: it
-- goes on behind the call, or where the list jumps
abbrev pub JumpCallsDo : Type 0
JumpCallsDo =
    (k : Block) (labels : List Label) (c : Callee) (line index left' more : ℕ) → IsCall k c line index more →
    ((p : Point) (numbers : ℕ → ℕ) → IsAmong k numbers p →
    AreMade k.call.surroundings k.call.code c p numbers) →
    ((p : Point) (numbers : ℕ → ℕ) → IsAmong k numbers p →
    IsList (block_in k labels c p numbers) c.procedure.body (body_index c) →
    ListDoes (block_in k labels c p numbers) c.procedure.body (body_index c) left_over) → IsBegun k →
    Does k labels (call_of k c line) index left'

-- it has the variables and the static ancestors of the block that declares it, and may have a variable of its own
pub record CalledBlocks : Type 0 where
  pub outer :
      (k : Block) (labels : List Label) (c : Callee) (x : Spot) → IsInside k c x → IsNumber k x → (p : Point)
      (numbers : ℕ → ℕ) → IsAmong k numbers p → AreMade k.call.surroundings k.call.code c p numbers →
      IsBegun (block_in k labels c p numbers) → IsNumber (block_in k labels c p numbers) x
  pub ancestor :
      (k : Block) (labels : List Label) (c : Callee) (x : Spot) → IsInside k c x → (p : Point) (numbers : ℕ → ℕ) →
      IsAmong k numbers p → AreMade k.call.surroundings k.call.code c p numbers →
      IsBegun (block_in k labels c p numbers) →
      ancestor_at (block_in k labels c p numbers).first.state x.level ≡ ancestor_at k.first.state x.level
  pub own :
      (k : Block) (labels : List Label) (c : Callee) (p : Point) (numbers : ℕ → ℕ) (d : Declared) (x : Spot) →
      HasParts k.call.surroundings.parts → IsOnly k.call.surroundings c p numbers d → IsOwn c d x →
      IsBegun (block_in k labels c p numbers) → IsNumber (block_in k labels c p numbers) x
