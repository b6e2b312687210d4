-- A procedure's own list in which ON stands anywhere, also behind labels: what each statement is asked, whatever units
-- the block has by then.
use Rattle.std.specs.Prelude.{ℕ, suc, ◌+◌, ◌*◌, ◌^◌, ◌<◌, ◌≤◌, ◌≡◌, ◌⊎◌, ⊤, List, [], ◌∷◌, length, nat_lt, true}
use Rattle.pli_typing.specs.TypedTree as Y
use Rattle.pli_meaning.specs.Control.{Label}
use Rattle.pli_meaning.specs.Executing.{entered, labels_in, list}
use Rattle.pli_meaning.specs.StorageState.{State, ancestor_at, height_of, most_activations}
use Rattle.pli_serving.specs.ServiceState.{Services}
use Rattle.pli_coding.specs.Assembly.{size_of}
use Rattle.pli_coding.specs.Environments.{none_taken}
use Rattle.pli_coding.specs.Frames.{fixed_size, temporary_bytes}
use Rattle.pli_coding.specs.Registers.{held_registers}
use Rattle.pli_coding.specs.Statements.{marked, stmts_code}
use Rattle.activation_relation.specs.Chains.{StandsAt}
use Rattle.activation_relation.specs.CodeStores.{most_levels}
use Rattle.activation_relation.specs.Frames.{frame_under, lower_end, upper_top}
use Rattle.activation_relation.specs.Landing.{closed}
use Rattle.activation_relation.specs.Layers.{Point, services_of}
use Rattle.run_steps.specs.Items.{Linked}
use Rattle.run_steps.specs.Reach.{Aims, Comes, Family, cost}
use Rattle.block_runs.specs.Machines.{AreIn, limits_of}
use Rattle.program_runs.specs.Statements.{AreMarked, Block, Does, GoesOn, IsAmong, IsBegun, JumpsOut, ReturnsTo}
use Rattle.program_runs.specs.Statements.{own_height, size_in}
use Rattle.expression_runs.specs.Assignments.{setting_of}
use Rattle.expression_runs.specs.Raises.{Routines}
use Rattle.expression_runs.specs.Variables.{IsNumber, Spot}
use Rattle.unit_runs.specs.Bodies.{BodyDoes, IsBody}
use Rattle.unit_runs.specs.Establishing.{IsOn, OnUnit, on_of, unit_index, unit_of, with_unit}
use Rattle.unit_runs.specs.Raised.{IsRaised, IsUnitKind, Standing, list_index, standing_code}

-- the units that have become the block's own since its first statement, the newest first, each with the index of its ON
abbrev pub Past : Type 0
Past = List (OnUnit × ℕ)

abbrev pub past_point : Past → Point → Point
past_point [] p = p
past_point (e ∷ past) p = with_unit e.0 (unit_index e.0 e.1) (past_point past p)

-- the same block with them
abbrev pub after : Block → Past → Block
after k past = record k { first = past_point past k.first }

-- an ON is one of a list's statements
abbrev pub StandsIn : Block → Y.Stmts → (index : ℕ) → OnUnit × ℕ → Type 0
StandsIn k (Y.EndOfList own) index e = ⊥
StandsIn k (Y.StmtThen own first rest) index e =
    ((first ≡ on_of e.0) × (e.1 ≡ index + size_of (marked k.environment.block own)))
    ⊎ StandsIn k rest (index + size_of (marked k.environment.block own) + size_in k first) e

-- each of them is the unit of an ON of the list
abbrev pub IsPast : Block → Y.Stmts → (index : ℕ) → Past → Type 0
IsPast k body index [] = ⊤
IsPast k body index (e ∷ past) = IsOn (after k past) e.0 e.1 × StandsIn k body index e × IsPast k body index past

-- a statement of the list is an ON, or does what it means whatever units there are
abbrev pub StepDoes : Block → (body : Y.Stmts) (start : ℕ) → Y.Stmt → (index left' : ℕ) → Type 0
StepDoes k body start stmt index left' =
    ((x : OnUnit) × (stmt ≡ on_of x) × ((past : Past) → IsPast k body start past → IsOn (after k past) x index))
    ⊎ ((past : Past) → IsPast k body start past → Does (after k past) (labels_in body) stmt index left')

abbrev pub AllDo : Block → (body : Y.Stmts) (start : ℕ) → Y.Stmts → (index left' : ℕ) → Type 0
AllDo k body start (Y.EndOfList own) index left' = ⊤
AllDo k body start (Y.StmtThen own first rest) index left' =
    StepDoes k body start first (index + size_of (marked k.environment.block own)) left'
    × AllDo k body start rest (index + size_of (marked k.environment.block own) + size_in k first) left'

-- behind the list the block has the units that it has by then
pub record GoesPast (k : Block) (body : Y.Stmts) (start acts index wanted credits : ℕ) (f : Family) (v : Services)
    (s : State) : Type 0
  where
    pub past : Past
    pub known : IsPast k body start past
    pub goes : GoesOn (after k past) acts index wanted credits f v s

abbrev pub past_aims : Block → Y.Stmts → (start acts index wanted left' : ℕ) → Aims (Unit {0})
past_aims k body start acts index wanted left' =
    record {
      limits = limits_of k.call.surroundings;
      done = λ c f v r s. GoesPast k body start acts index wanted c f v s;
      jumped = λ c f v height label s.
          JumpsOut k.call.surroundings k.call.code k.outers acts c f v height label (closed s);
      returned = λ c f v r s. ReturnsTo k left' c f v r s;
    }

-- what is asked of a unit beside where its ON stands: what is said of the points of the block is said of the first one
pub record IsOwnRaise (k : Block) (x : Standing) (most more : ℕ) : Type 0 where
  pub routines : Routines k.call.surroundings.links k.call.code
  pub room :
      upper_top k.call.surroundings.parts k.first.control.layers + temporary_bytes x.words
      + fixed_size x.unit.head.level 0
      ≤ lower_end k.call.surroundings.parts k.first.control.layers
  pub shallow : nat_lt (length k.first.state.activations) most_activations ≡ true
  pub only : (at : ℕ) → StandsAt k.call.surroundings.units (unit_of x.unit) at → at ≡ 4 * x.entry
  pub some : 0 < x.entry
  pub stands : Linked k.call.surroundings.links k.call.code x.entry (standing_code x)
  pub labels : AreMarked k.call.surroundings.links x.environment x.unit.body (list_index x)
  pub kind : IsUnitKind x.unit.head.kind
  pub level : x.unit.head.level ≡ suc k.call.beginning.layer.level
  pub few : x.unit.head.level < most_levels
  pub line : x.unit.head.line < 2 ^ 31
  pub saved : x.saved ≤ held_registers
  pub acts : k.call.surroundings.acts + 1 < 2 ^ 64
  pub enter : k.around.enter ≡ entered k.around.program (suc more)
  pub around :
      x.around
      ≡ record { program = k.around.program; enter = entered k.around.program more; turns = suc more; line = 0 }
  pub enough : k.call.surroundings.acts < suc more + k.first.state.world.acts
  pub paid : 30 + size_of (standing_code x) ≤ most

-- units change neither stacks nor static ancestors
pub record IsLike (k : Block) (p : Point) : Type 0 where
  pub frame :
      frame_under k.call.surroundings.parts p.control.layers
      ≡ frame_under k.call.surroundings.parts k.first.control.layers
  pub top :
      upper_top k.call.surroundings.parts p.control.layers
      ≡ upper_top k.call.surroundings.parts k.first.control.layers
  pub entries : p.control.entries ≡ k.first.control.entries
  pub edits : p.control.edits ≡ k.first.control.edits
  pub ancestors :
      (level : ℕ) → height_of (ancestor_at p.state level) ≡ height_of (ancestor_at k.first.state level)

pub record ListsChange : Type 0 where
  -- from any point of a block such a list goes on behind it, with units of its own ONs alone, or leaves the block
  pub past :
      (k : Block) (body : Y.Stmts) (index wanted left' credits : ℕ) (p : Point) (numbers : ℕ → ℕ) (f : Family) →
      IsBegun k → k.call.surroundings.acts < k.around.turns + p.state.world.acts →
      AreMarked k.call.surroundings.links k.environment body index → AllDo k body index body index left' →
      IsAmong k numbers p →
      Linked k.call.surroundings.links k.call.code index (stmts_code k.environment none_taken body) →
      (credits ≤ wanted) × (credits + size_of (stmts_code k.environment none_taken body) ≤ cost k.call.code) →
      AreIn k.call.surroundings p numbers index f →
      Comes k.call.code credits f (services_of p)
      (past_aims k body index p.state.world.acts (index + size_of (stmts_code k.environment none_taken body)) wanted
      left')
      (list k.around body k.call.surroundings.acts p.state)
  -- so a procedure's own comes to the block's end, as it means
  pub ends :
      (k : Block) (body : Y.Stmts) (index left' : ℕ) → IsBody k body index →
      AreMarked k.call.surroundings.links k.environment body index → AllDo k body index body index left' →
      BodyDoes k body index left'
  -- the unit that was established last is in force, established by the block itself
  pub raised :
      (k : Block) (body : Y.Stmts) (start : ℕ) (labels : List Label) (x : Standing) (at line most more : ℕ)
      (past : Past) → IsBegun k → IsPast k body start ((x.unit, at) ∷ past) → IsOwnRaise k x most more →
      (h : IsRaised (setting_of (after k ((x.unit, at) ∷ past)) labels line most) x more)
      × (h.by.height ≡ own_height k)
  -- and all else is as it was
  pub begun :
      (k : Block) (body : Y.Stmts) (start : ℕ) (past : Past) → IsBegun k → IsPast k body start past →
      IsBegun (after k past)
  pub numbers :
      (k : Block) (past : Past) (spot : Spot) → IsNumber k spot → IsNumber (after k past) spot
  pub like : (k : Block) (past : Past) → IsLike k (past_point past k.first)
