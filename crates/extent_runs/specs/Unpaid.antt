-- Variables of a procedure of which some are made behind an act of their own extents: where the act of the procedure's
-- entry, which follows, is allowed, what came since is early.
use Rattle.std.specs.Prelude.{ℕ, ◌+◌, ◌*◌, ◌^◌, ◌<◌, ◌≤◌, ◌≡◌, List, [], ◌∷◌, Option, None, Some, ⊤}
use Rattle.rv_meaning.specs.declared.instr.Instr.{Instr}
use Rattle.pli_meaning.specs.Control.{Meaning}
use Rattle.pli_meaning.specs.Executing.{begun, block_run}
use Rattle.pli_meaning.specs.StorageState.{Activation, State}
use Rattle.pli_serving.specs.ServiceState.{Services}
use Rattle.pli_coding.specs.Assembly.{size_of}
use Rattle.activation_relation.specs.Landing.{closed}
use Rattle.activation_relation.specs.Layers.{Point, services_of}
use Rattle.activation_relation.specs.Points.{Stands, Surroundings}
use Rattle.run_steps.specs.Engine.{Base}
use Rattle.run_steps.specs.Items.{Linked}
use Rattle.run_steps.specs.Reach.{Aims, Comes, Family, Reach, cost}
use Rattle.block_runs.specs.Beginnings.{IsCalling}
use Rattle.block_runs.specs.Bodies.{behind_aims}
use Rattle.block_runs.specs.Machines.{AreIn, IsImage, IsIn, limits_of}
use Rattle.program_runs.specs.Calls.{Callee, IsCallee, body_index, called_at, labels_of, left_over}
use Rattle.program_runs.specs.Procedures.{HasRoom, beginning_for, block_of, procedure_code}
use Rattle.program_runs.specs.Statements.{Block, EachDoes, IsBegun, JumpsOut, ReturnsTo}
use Rattle.begin_runs.specs.BehindLists.{from_point}
use Rattle.extent_runs.specs.Making.{Makes, Site, block_from, made_at, site_at}

-- ---- what is left as it was

-- the newest activation has more bindings, and nothing else has changed among them
abbrev pub unbound : List Activation → List Activation
unbound [] = []
unbound (a ∷ as') = record a { bindings = [] } ∷ as'

-- if it is said of which point
abbrev pub AreBound : Option Point → (first : Point) → Type 0
AreBound None first = ⊤
AreBound (Some p) first = unbound first.state.activations ≡ unbound p.state.activations

-- ---- the variables

-- a first point of the block, at an index, with as many credits as are wanted, and what it has of another point
pub record GoesUnpaid (like : Option Point) (k : Block) (acts index wanted credits : ℕ) (f : Family) (v : Services)
    (s : State) : Type 0
  where
    pub first : Point
    pub begun : IsBegun (from_point k first)
    pub bound : AreBound like first
    pub image : IsImage k.call.surroundings k.call.code first
    pub numbers : ℕ → ℕ
    pub others : (n : ℕ) → k.registers ≤ n → numbers n ≡ k.call.numbers n
    pub words : (n : ℕ) → numbers n < 2 ^ 32
    pub since : acts ≤ first.state.world.acts
    pub state : s ≡ first.state
    pub reach :
        Reach k.call.code credits f v wanted (services_of first)
        (λ b y. IsIn k.call.surroundings first numbers index b y)

-- there, or out of the block by GOTO
abbrev pub unpaid_aims : (like : Option Point) → Block → (acts index wanted left' : ℕ) → Aims (Unit {0})
unpaid_aims like k acts index wanted left' =
    record {
      limits = limits_of k.call.surroundings;
      done = λ c f v r s. GoesUnpaid like k acts index wanted c f v s;
      jumped = λ c f v height label s.
          JumpsOut k.call.surroundings k.call.code k.outers acts c f v height label (closed s);
      returned = λ c f v r s. ReturnsTo k left' c f v r s;
    }

-- the code of the variables comes there, or the run ends: as it means
abbrev pub MakesUnpaid : (like : Option Point) → Site → (left' : ℕ) → Meaning (Unit {0}) → Type 0
MakesUnpaid like z left' made =
    (credits wanted : ℕ) (f : Family) →
    Stands z.block.call.surroundings z.start × IsImage z.block.call.surroundings z.block.call.code z.start →
    Linked z.block.call.surroundings.links z.block.call.code z.index z.variables →
    (credits + size_of z.variables ≤ wanted) × (credits + size_of z.variables ≤ cost z.block.call.code) →
    AreIn z.block.call.surroundings z.start z.numbers z.index f →
    Comes z.block.call.code credits f (services_of z.start)
    (unpaid_aims like z.block z.start.state.world.acts (z.index + size_of z.variables) wanted left')
    (made z.block.call.surroundings.acts z.start.state)

pub record UnpaidProceduresRun : Type 0 where
  -- what is paid already is made so, too
  pub paid :
      (z : Site) (left' : ℕ) (made : Meaning (Unit {0})) → Makes z left' made →
      MakesUnpaid None z left' made
  -- a procedure comes behind its call if making them does what it means, and then each statement
  pub runs :
      (like : Option Point) (w : Surroundings) (code : List Instr) (c : Callee) (p : Point) (numbers : ℕ → ℕ)
      (credits wanted : ℕ) (f : Family) → Stands w p × IsImage w code p → IsCallee w code c × HasRoom w p c.procedure c.calling →
      MakesUnpaid like (site_at w code c p numbers) left_over (made_at c) → ((n : ℕ) → numbers n < 2 ^ 32) →
      ((first : Point) → IsBegun (block_from w code c p numbers first) → AreBound like first →
      EachDoes (block_from w code c p numbers first) (labels_of c) c.procedure.body (body_index c) left_over) →
      w.acts < c.around.turns + (p.state.world.acts + 1) →
      credits + 4 + size_of (procedure_code c.environment c.procedure) ≤ cost code →
      AreIn w p numbers c.calling.call f →
      ((b : Base) → IsCalling p (beginning_for w p numbers c.procedure c.calling) b (f b)) →
      Comes code credits f (services_of p) (behind_aims (called_at w code c p numbers) wanted)
      (block_run c.around (block_of c.procedure) (begun (block_of c.procedure) c.calling.parent) w.acts p.state)
