-- Lists of statements with ON among them: a procedure's own list, whose first statements have no labels.
use Rattle.std.specs.Prelude.{ℕ, suc, ◌+◌, ◌<◌, ◌≤◌, ◌≡◌, List, [], ◌++◌, None, false}
use Rattle.pli_typing.specs.TypedTree as Y
use Rattle.pli_meaning.specs.Control.{Label}
use Rattle.pli_meaning.specs.Executing.{labels_in, list, run}
use Rattle.pli_meaning.specs.StorageState.{first_state}
use Rattle.pli_coding.specs.Assembly.{size_of}
use Rattle.pli_coding.specs.Environments.{none_taken}
use Rattle.pli_coding.specs.Statements.{stmts_code}
use Rattle.activation_relation.specs.Landing.{is_begin}
use Rattle.activation_relation.specs.Layers.{Point, services_of}
use Rattle.run_steps.specs.Items.{Linked}
use Rattle.run_steps.specs.Reach.{Comes, Family}
use Rattle.block_runs.specs.Bodies.{body_aims}
use Rattle.block_runs.specs.Machines.{AreIn}
use Rattle.program_runs.specs.Calls.{AreMade, Callee, IsCall, block_at, body_index, call_of, left_over}
use Rattle.program_runs.specs.Programs.{IsWhole, Whole, main_of}
use Rattle.program_runs.specs.Starts.{first_family, no_numbers, start_point, surroundings_of, never_in}
use Rattle.program_runs.specs.Statements.{AreMarked, Block, Does, EachDoes, IsAmong, IsBegun, size_in}
use Rattle.unit_runs.specs.Establishing.{IsOn, OnUnit, behind_on, on_of}

-- from any point of the block a list comes to the block's end, as it means
abbrev pub BodyDoes : Block → Y.Stmts → (index left' : ℕ) → Type 0
BodyDoes k body index left' =
    (p : Point) (numbers : ℕ → ℕ) (f : Family) → IsAmong k numbers p → AreIn k.call.surroundings p numbers index f →
    Comes k.call.code 0 f (services_of p) (body_aims k.call left')
    (list k.around body k.call.surroundings.acts p.state)

-- the block is a procedure's own, and the list the last of it; there are turns enough for the acts that are left
pub record IsBody (k : Block) (body : Y.Stmts) (index : ℕ) : Type 0 where
  pub begun : IsBegun k
  pub linked :
      Linked k.call.surroundings.links k.call.code index (stmts_code k.environment none_taken body)
  pub end : k.call.end ≡ index + size_of (stmts_code k.environment none_taken body)
  pub function : k.call.function ≡ None
  pub kind : is_begin k.call.beginning.layer.kind ≡ false
  pub registers : k.registers ≤ k.call.beginning.layer.saved
  pub outers : k.outers ≡ []
  pub enough : k.call.surroundings.acts < k.around.turns + k.first.state.world.acts

-- a statement without a label, before others
abbrev pub before_rest : Y.Stmt → Y.Stmts → Y.Stmts
before_rest first rest = Y.StmtThen [] first rest

pub record IsFirst (k : Block) (first : Y.Stmt) (rest : Y.Stmts) (index left' : ℕ) : Type 0 where
  pub body : IsBody k (before_rest first rest) index
  pub does : Does k [] first index left'
  pub goes : BodyDoes k rest (index + size_in k first) left'

-- behind ON the rest runs in the block that has the unit
pub record IsFirstOn (k : Block) (x : OnUnit) (rest : Y.Stmts) (index left' : ℕ) : Type 0 where
  pub body : IsBody k (before_rest (on_of x) rest) index
  pub on : IsOn k x index
  pub goes : BodyDoes (behind_on k x index) rest (index + size_in k (on_of x)) left'

pub record BodiesDo : Type 0 where
  -- a list of which each statement does what it means
  pub list :
      (k : Block) (body : Y.Stmts) (index left' : ℕ) → IsBody k body index →
      AreMarked k.call.surroundings.links k.environment body index →
      EachDoes k (labels_in body ++ []) body index left' → BodyDoes k body index left'
  -- one that begins with a statement that does what it means
  pub first :
      (k : Block) (first : Y.Stmt) (rest : Y.Stmts) (index left' : ℕ) → IsFirst k first rest index left' →
      BodyDoes k (before_rest first rest) index left'
  -- and one that begins with ON
  pub on :
      (k : Block) (x : OnUnit) (rest : Y.Stmts) (index left' : ℕ) → IsFirstOn k x rest index left' →
      BodyDoes k (before_rest (on_of x) rest) index left'

-- CALL of a procedure does what it means if the procedure's list comes to the block's end, wherever it is called
abbrev pub UnitCallsDo : Type 0
UnitCallsDo =
    (k : Block) (c : Callee) (line index left' more : ℕ) → IsCall k c line index more →
    ((p : Point) (numbers : ℕ → ℕ) → IsAmong k numbers p → AreMade k.call.surroundings k.call.code c p numbers) →
    ((p : Point) (numbers : ℕ → ℕ) → IsAmong k numbers p →
    IsBegun (block_at k.call.surroundings k.call.code c p numbers) →
    BodyDoes (block_at k.call.surroundings k.call.code c p numbers) c.procedure.body (body_index c) left_over) →
    IsBegun k → (labels : List Label) → Does k labels (call_of k c line) index left'

-- if the main procedure's list comes to the block's end, the run does what the program does
abbrev pub UnitProgramsRun : Type 0
UnitProgramsRun =
    (k : Whole) (first : List ℕ) → IsWhole k first →
    (IsBegun (block_at (surroundings_of k.image) k.image.code (main_of k) (start_point k.image) no_numbers) →
    BodyDoes (block_at (surroundings_of k.image) k.image.code (main_of k) (start_point k.image) no_numbers) k.main.body
    (body_index (main_of k)) left_over) →
    Comes k.image.code 0 (first_family first (services_of (start_point k.image))) (services_of (start_point k.image))
    (never_in k.image) (run k.program (suc k.image.acts) k.image.acts (first_state k.image.input))
