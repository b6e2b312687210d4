-- Variables whose making may come to more than straight code: an extent is evaluated in the block that has been
-- entered, where a call or a raise in it comes behind it, or leaves the block, or ends the run.
use Rattle.std.specs.Prelude.{ℕ, ◌+◌, ◌*◌, ◌^◌, ◌<◌, ◌≤◌, List, [], ◌++◌}
use Rattle.rv_meaning.specs.declared.instr.Instr.{Instr}
use Rattle.pli_meaning.specs.Control.{Label, Meaning}
use Rattle.pli_meaning.specs.Executing.{begun, block_run, block_variables_made, labels_in}
use Rattle.pli_meaning.specs.Raising.{at_line}
use Rattle.pli_coding.specs.Assembly.{Code, size_of}
use Rattle.activation_relation.specs.Layers.{Point, services_of}
use Rattle.activation_relation.specs.Points.{Stands, Surroundings, early_serials}
use Rattle.run_steps.specs.Engine.{Base}
use Rattle.run_steps.specs.Items.{Linked}
use Rattle.run_steps.specs.Reach.{Comes, Family, cost}
use Rattle.block_runs.specs.Beginnings.{IsCalling}
use Rattle.block_runs.specs.Bodies.{behind_aims}
use Rattle.block_runs.specs.Machines.{AreIn, IsImage}
use Rattle.program_runs.specs.Calls.{Callee, IsCallee, begun_at, block_at, body_index, called_at, labels_of, left_over}
use Rattle.program_runs.specs.Calls as C
use Rattle.program_runs.specs.Procedures.{HasRoom, beginning_for, block_of, procedure_code}
use Rattle.program_runs.specs.Statements.{AreMarked, Block, Does, EachDoes, IsAmong, IsBegun}
use Rattle.begin_runs.specs.BeginBlocks.{AreMade, Inner, IsBegin, begin_of, begun_in, environment_of, inner_block}
use Rattle.begin_runs.specs.BeginBlocks.{list_index}
use Rattle.begin_runs.specs.BeginBlocks.{variables_index}
use Rattle.begin_runs.specs.BehindLists.{from_point, list_aims}

-- where variables of a block are made: from the point behind its beginning, with numbers in registers and their code
-- at an index
pub record Site : Type 0 where
  pub block : Block
  pub start : Point
  pub numbers : ℕ → ℕ
  pub variables : Code
  pub index : ℕ

-- the code comes to a point from which the block's statements go on, as a list comes behind itself; or out of the block
-- by GOTO, or the run ends: as it means. A point behind it may have more acts, and what they left.
abbrev pub Makes : Site → (left' : ℕ) → Meaning (Unit {0}) → Type 0
Makes z left' made =
    (credits wanted : ℕ) (f : Family) →
    Stands z.block.call.surroundings z.start × IsImage z.block.call.surroundings z.block.call.code z.start →
    Linked z.block.call.surroundings.links z.block.call.code z.index z.variables →
    (credits + size_of z.variables ≤ wanted) × (credits + size_of z.variables ≤ cost z.block.call.code) →
    AreIn z.block.call.surroundings z.start z.numbers z.index f →
    Comes z.block.call.code credits f (services_of z.start)
    (list_aims z.block z.start.state.world.acts (z.index + size_of z.variables) wanted left')
    (made z.block.call.surroundings.acts z.start.state)

-- ---- begin blocks

-- the variables of one, wherever its statement stands
abbrev pub site_in : Block → List Label → Point → (numbers : ℕ → ℕ) → Inner → (index : ℕ) → Site
site_in k labels p numbers x index =
    record {
      block = inner_block k labels p numbers x index;
      start = begun_in k p numbers x;
      numbers = numbers;
      variables = x.variables;
      index = variables_index k p numbers x index;
    }

-- what it makes comes behind an act of its statement
abbrev pub IsPaid : Point → Type 0
IsPaid p = p.state.serials ≤ early_serials

abbrev pub made_in : Inner → Meaning (Unit {0})
made_in x = block_variables_made (at_line x.around x.head.line) x.head x.head.kind

-- it does what it means if making them does, and then each of its statements, from whatever point they go on
abbrev pub MakingBeginsDo : Type 0
MakingBeginsDo =
    (k : Block) (labels : List Label) (x : Inner) (index left' more : ℕ) → IsBegin k x index more →
    ((p : Point) (numbers : ℕ → ℕ) → IsAmong k numbers p → k.first.state.world.acts < p.state.world.acts → IsPaid p →
    Makes (site_in k labels p numbers x index) left' (made_in x)
    × AreMarked k.call.surroundings.links (environment_of k x) x.body (list_index k p numbers x index)) →
    ((p first : Point) (numbers : ℕ → ℕ) → IsAmong k numbers p → k.first.state.world.acts < p.state.world.acts →
    IsBegun (from_point (inner_block k labels p numbers x index) first) →
    EachDoes (from_point (inner_block k labels p numbers x index) first) (labels_in x.body ++ []) x.body
    (list_index k p numbers x index) left') → Does k labels (begin_of x) index left'

-- what straight code makes is made so
abbrev pub StraightMakes : Type 0
StraightMakes =
    (k : Block) (labels : List Label) (x : Inner) (index left' more : ℕ) (p : Point) (numbers : ℕ → ℕ) →
    IsBegin k x index more → IsAmong k numbers p → IsPaid p → AreMade k x index p numbers →
    Makes (site_in k labels p numbers x index) left' (made_in x)

-- ---- procedures

abbrev pub site_at : Surroundings → List Instr → Callee → Point → (numbers : ℕ → ℕ) → Site
site_at w code c p numbers =
    record {
      block = block_at w code c p numbers;
      start = begun_at w c p numbers;
      numbers = numbers;
      variables = c.procedure.variables;
      index = C.variables_index c;
    }

abbrev pub made_at : Callee → Meaning (Unit {0})
made_at c = block_variables_made (at_line c.around c.procedure.head.line) c.procedure.head c.procedure.head.kind

-- the block of one that is called, whose variables have been made where its point says: the act of its entry follows
abbrev pub block_from : Surroundings → List Instr → Callee → Point → (numbers : ℕ → ℕ) → (first : Point) → Block
block_from w code c p numbers first = from_point (block_at w code c p numbers) first

-- it comes behind its call if making them does what it means, and then each of its statements
abbrev pub MakingProceduresRun : Type 0
MakingProceduresRun =
    (w : Surroundings) (code : List Instr) (c : Callee) (p : Point) (numbers : ℕ → ℕ) (credits wanted : ℕ)
    (f : Family) → Stands w p × IsImage w code p → IsCallee w code c × HasRoom w p c.procedure c.calling →
    Makes (site_at w code c p numbers) left_over (made_at c) → ((n : ℕ) → numbers n < 2 ^ 32) →
    ((first : Point) → IsBegun (block_from w code c p numbers first) →
    EachDoes (block_from w code c p numbers first) (labels_of c) c.procedure.body (body_index c) left_over) →
    w.acts < c.around.turns + (p.state.world.acts + 1) →
    credits + 4 + size_of (procedure_code c.environment c.procedure) ≤ cost code →
    AreIn w p numbers c.calling.call f →
    ((b : Base) → IsCalling p (beginning_for w p numbers c.procedure c.calling) b (f b)) →
    Comes code credits f (services_of p) (behind_aims (called_at w code c p numbers) wanted)
    (block_run c.around (block_of c.procedure) (begun (block_of c.procedure) c.calling.parent) w.acts p.state)
