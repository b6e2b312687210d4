-- Lists with ON among them of any block: a procedure's, a begin block's or a unit's. The units are gone with the block.
use Rattle.std.specs.Prelude.{ℕ, ◌+◌, ◌^◌, ◌<◌, ◌≤◌, ◌≡◌, List, [], ◌++◌}
use Rattle.pli_language.specs.declared.condition.Condition.TheVariants as C
use Rattle.pli_typing.specs.TypedTree as Y
use Rattle.pli_meaning.specs.Control.{Label}
use Rattle.pli_meaning.specs.Executing.{labels_in, list}
use Rattle.pli_meaning.specs.Raising.{raised}
use Rattle.pli_coding.specs.Arithmetic as A
use Rattle.pli_coding.specs.Assembly.{size_of}
use Rattle.pli_coding.specs.Environments.{none_taken}
use Rattle.pli_coding.specs.Statements.{stmts_code}
use Rattle.activation_relation.specs.Layers.{Point, services_of}
use Rattle.run_steps.specs.Items.{Linked}
use Rattle.run_steps.specs.Reach.{Comes, Family, cost}
use Rattle.block_runs.specs.Machines.{AreIn}
use Rattle.program_runs.specs.Calls.{left_over}
use Rattle.program_runs.specs.Statements.{AreMarked, Block, Does, EachDoes, IsAmong, IsBegun, size_in}
use Rattle.expression_runs.specs.Values.{OverflowComes, Setting}
use Rattle.begin_runs.specs.BeginBlocks as G
use Rattle.begin_runs.specs.BeginBlocks.{Inner, IsBegin, begin_of, environment_of, inner_block}
use Rattle.begin_runs.specs.BehindLists.{list_aims}
use Rattle.unit_runs.specs.Bodies.{before_rest}
use Rattle.unit_runs.specs.Changing.{AllDo}
use Rattle.unit_runs.specs.Establishing.{IsOn, OnUnit, behind_on, on_of}
use Rattle.unit_runs.specs.Raised.{AreMade, IsRaiseOf, IsRaised, Raise, Standing, list_index, raise_aims, unit_block}

-- a list of a block where it stands; there are turns enough for the acts that are left
pub record IsList (k : Block) (body : Y.Stmts) (index : ℕ) : Type 0 where
  pub begun : IsBegun k
  pub linked :
      Linked k.call.surroundings.links k.call.code index (stmts_code k.environment none_taken body)
  pub enough : k.call.surroundings.acts < k.around.turns + k.first.state.world.acts

-- from any point of the block it goes on behind it, or leaves the block, as it means
abbrev pub ListDoes : Block → Y.Stmts → (index left' : ℕ) → Type 0
ListDoes k body index left' =
    (p : Point) (numbers : ℕ → ℕ) (credits wanted : ℕ) (f : Family) → IsAmong k numbers p →
    (credits ≤ wanted) × (credits + size_of (stmts_code k.environment none_taken body) ≤ cost k.call.code) →
    AreIn k.call.surroundings p numbers index f →
    Comes k.call.code credits f (services_of p)
    (list_aims k p.state.world.acts (index + size_of (stmts_code k.environment none_taken body)) wanted left')
    (list k.around body k.call.surroundings.acts p.state)

-- what is asked of a unit
abbrev pub UnitChanges : (k : Setting) (x : Standing) (more : ℕ) → IsRaised k x more → Type 0
UnitChanges k x more h =
    (r : Raise) → IsRaiseOf k x more h r →
    AreMade k x r
    × (IsList (unit_block k x r) x.unit.body (list_index x) →
    ListDoes (unit_block k x r) x.unit.body (list_index x) left_over)

pub record InnerListsChange : Type 0 where
  -- a list of which each statement does what it means
  pub each :
      (k : Block) (body : Y.Stmts) (index left' : ℕ) → IsList k body index →
      AreMarked k.call.surroundings.links k.environment body index →
      EachDoes k (labels_in body ++ []) body index left' → ListDoes k body index left'
  -- one that begins with a statement that does
  pub first :
      (k : Block) (first : Y.Stmt) (rest : Y.Stmts) (index left' : ℕ) → IsList k (before_rest first rest) index →
      Does k [] first index left' → ListDoes k rest (index + size_in k first) left' →
      ListDoes k (before_rest first rest) index left'
  -- one that begins with ON: the rest of it runs in the block that has the unit
  pub on :
      (k : Block) (x : OnUnit) (rest : Y.Stmts) (index left' : ℕ) → IsList k (before_rest (on_of x) rest) index →
      IsOn k x index → ListDoes (behind_on k x index) rest (index + size_in k (on_of x)) left' →
      ListDoes k (before_rest (on_of x) rest) index left'
  -- and one in which ON stands anywhere
  pub all :
      (k : Block) (body : Y.Stmts) (index left' : ℕ) → IsList k body index →
      AreMarked k.call.surroundings.links k.environment body index → AllDo k body index body index left' →
      ListDoes k body index left'
  -- a begin block with such a list does what it means
  pub begins :
      (k : Block) (labels : List Label) (x : Inner) (index left' more : ℕ) → IsBegin k x index more →
      ((p : Point) (numbers : ℕ → ℕ) → IsAmong k numbers p → k.first.state.world.acts < p.state.world.acts →
      G.AreMade k x index p numbers
      × AreMarked k.call.surroundings.links (environment_of k x) x.body (G.list_index k p numbers x index)) →
      ((p : Point) (numbers : ℕ → ℕ) → IsAmong k numbers p → k.first.state.world.acts < p.state.world.acts →
      IsList (inner_block k labels p numbers x index) x.body (G.list_index k p numbers x index) →
      ListDoes (inner_block k labels p numbers x index) x.body (G.list_index k p numbers x index) left') →
      Does k labels (begin_of x) index left'
  -- and so does a raise while a unit with one is in force
  pub raise :
      (k : Setting) (x : Standing) (more : ℕ) (h : IsRaised k x more) → UnitChanges k x more h → (code : ℕ) →
      (0 < code) × (code < 2 ^ 16) → (p : Point) (numbers : ℕ → ℕ) (credits wanted index : ℕ) (f : Family) →
      IsAmong k.block numbers p → p.control.line ≡ k.around.line →
      Linked k.block.call.surroundings.links k.block.call.code index (A.raised x.unit.condition code) →
      credits + size_of (A.raised x.unit.condition code) + k.most ≤ cost k.block.call.code →
      AreIn k.block.call.surroundings p numbers index f →
      Comes k.block.call.code credits f (services_of p)
      (raise_aims k p numbers (index + size_of (A.raised x.unit.condition code)) wanted)
      (raised k.around x.unit.condition code k.block.call.surroundings.acts p.state)
  pub overflow :
      (k : Setting) (x : Standing) (more : ℕ) (h : IsRaised k x more) → UnitChanges k x more h →
      x.unit.condition ≡ C.FixedOverflow → OverflowComes k
