-- What is aimed at behind an item of GET: the point behind it, or the exit where the input has ended.
use Rattle.std.proofs.Common.{◌≡◌, ℕ, ◌+◌, ◌^◌, ◌<◌, ◌≤◌, List, [], ◌∷◌, Option, Some, None, true, false, length}
use Rattle.std.specs.Prelude.{ℤ}
use Rattle.rv_meaning.specs.declared.instr.Instr.{Instr}
use Rattle.pli_language.specs.Tree as T
use Rattle.pli_meaning.specs.Control.{Label}
use Rattle.pli_meaning.specs.StorageState.{State}
use Rattle.pli_meaning.specs.Streaming.{FormatItem}
use Rattle.pli_serving.specs.ServiceState.{EditPlace, Services}
use Rattle.pli_coding.specs.Registers.{held_registers}
use Rattle.pli_coding.specs.Streams.{has_fixed, has_text}
use Rattle.activation_relation.specs.Layers.{Point, services_of}
use Rattle.activation_relation.specs.Points.{AreOver}
use Rattle.image_runs.specs.Runs.{Whole}
use Rattle.run_steps.specs.Engine.{Base}
use Rattle.run_steps.specs.Reach.{Aims, Closed, Family, Reach, cost, reached}
use Rattle.run_steps.proofs.Reach.{reach_then}
use Rattle.block_runs.specs.Machines.{AreIn, IsIn, limits_of}
use Rattle.program_runs.specs.Statements.{Block, IsAmong, JumpsTo}
use Rattle.program_runs.proofs.JumpsOut.{jumps_later}
use Rattle.expression_runs.specs.Assignments.{setting_around}
use Rattle.expression_runs.specs.Values.{Setting}
use Rattle.text_runs.specs.Texts.{ErrorComes}
use Rattle.edit_runs.specs.Edits.{AreItems, has_data, kinds_of, placing, within}
use Rattle.get_runs.specs.Gets.{EndfileComes, getting}

-- what is read, where, how many words are set aside there, how much a call in it may take to its first act, where the
-- statement's exit stands, and how many credits may be used up to there
pub record Reads : Type 0 where
  pub words : ℕ
  pub block : Block
  pub labels : List Label
  pub line : ℕ
  pub most : ℕ
  pub need : ℕ
  pub formats : T.Formats
  pub first : FormatItem
  pub more : List FormatItem
  pub exit : ℕ
  pub debt : ℕ

abbrev pub setting_in : Reads → Setting
setting_in u = setting_around u.words u.block u.labels u.line u.most

abbrev pub whole_in : Reads → List FormatItem
whole_in u = u.first ∷ u.more

pub record AreRead (u : Reads) : Type 0 where
  pub acts : u.block.call.surroundings.acts + 1 < 2 ^ 64
  pub over : AreOver u.block.first.control.entries u.block.first.control.edits u.block.first.control.layers
  pub fixed : has_fixed u.formats ≡ true
  pub text : has_text u.formats ≡ false
  pub are : AreItems (kinds_of u.formats) (whole_in u)
  pub some : has_data (whole_in u) ≡ true
  pub registers : u.need ≤ u.block.registers
  pub held : u.block.registers ≤ held_registers
  pub endfile : (place : EditPlace) → EndfileComes (within place (setting_in u))
  pub error : (place : EditPlace) → ErrorComes ℤ (within place (setting_in u))
  pub inside : u.exit ≤ length u.block.call.code

-- behind an item: so much of the list is left at the newest place
pub record HasLeft (u : Reads) (acts index wanted : ℕ) (left : List FormatItem) (c : ℕ) (f : Family) (v : Services)
    (s : State) : Type 0
  where
    pub point : Point
    pub numbers : ℕ → ℕ
    pub among : IsAmong (placing (getting (whole_in u) left) u.block) numbers point
    pub since : acts ≤ point.state.world.acts
    pub line : point.control.line ≡ u.line
    pub state : s ≡ point.state
    pub are : AreItems (kinds_of u.formats) left
    pub reach :
        Reach u.block.call.code c f v wanted (services_of point)
        (λ b y. IsIn u.block.call.surroundings point numbers index b y)

-- at the exit, where the place is still the newest
pub record HasEnded (u : Reads) (acts : ℕ) (c : ℕ) (f : Family) (v : Services) (s : State) : Type 0 where
  pub point : Point
  pub numbers : ℕ → ℕ
  pub rest : List FormatItem
  pub among : IsAmong (placing (getting (whole_in u) rest) u.block) numbers point
  pub since : acts ≤ point.state.world.acts
  pub state : s ≡ point.state
  pub reach :
      Reach u.block.call.code c f v u.debt (services_of point)
      (λ b y. IsIn u.block.call.surroundings point numbers u.exit b y)

abbrev pub Got : Reads → (acts index wanted : ℕ) → (c : ℕ) → Family → Services → Option (List FormatItem) → State →
    Type 0
Got u acts index wanted c f v None s = HasEnded u acts c f v s
Got u acts index wanted c f v (Some left) s = HasLeft u acts index wanted left c f v s

abbrev pub got_aims : Reads → (acts index wanted : ℕ) → Aims (Option (List FormatItem))
got_aims u acts index wanted =
    record {
      limits = limits_of u.block.call.surroundings;
      done = λ c f v o s. Got u acts index wanted c f v o s;
      jumped = λ c f v height label s. JumpsTo u.block u.labels acts c f v height label s;
      returned = λ c f v r s. ⊥;
    }

pub ended_later :
    (u : Reads) (acts : ℕ) {i i' : ℕ} {f : Family} {v v' : Services} {Q : Base → Whole → Type 0}
    (r : Reach u.block.call.code i f v i' v' Q) (s : State) →
    HasEnded u acts i' (reached r) v' s → HasEnded u acts i f v s
ended_later u acts r s o =
    record {
      point = o.point;
      numbers = o.numbers;
      rest = o.rest;
      among = o.among;
      since = o.since;
      state = o.state;
      reach = reach_then r o.reach;
    }

got_later :
    (u : Reads) (acts index wanted : ℕ) {i i' : ℕ} {f : Family} {v v' : Services} {Q : Base → Whole → Type 0}
    (r : Reach u.block.call.code i f v i' v' Q) (o : Option (List FormatItem)) (s : State) →
    Got u acts index wanted i' (reached r) v' o s → Got u acts index wanted i f v o s
got_later u acts index wanted r None s o = ended_later u acts r s o
got_later u acts index wanted r (Some left) s o =
    record {
      point = o.point;
      numbers = o.numbers;
      among = o.among;
      since = o.since;
      line = o.line;
      state = o.state;
      are = o.are;
      reach = reach_then r o.reach;
    }

pub got_closed : (u : Reads) (acts index wanted : ℕ) → Closed u.block.call.code (got_aims u acts index wanted)
got_closed u acts index wanted =
    record {
      done = λ r o s q. got_later u acts index wanted r o s q;
      jumped = λ r height label s q. jumps_later r q;
      returned = λ r x s q. absurd q;
    }

-- ---- where an item is due

-- a point, and so much of the list
pub record Due : Type 0 where
  pub rest : List FormatItem
  pub point : Point
  pub numbers : ℕ → ℕ
  pub credits : ℕ
  pub index : ℕ
  pub family : Family

pub record IsDue (u : Reads) (d : Due) (acts' size : ℕ) : Type 0 where
  pub among : IsAmong (placing (getting (whole_in u) d.rest) u.block) d.numbers d.point
  pub line : d.point.control.line ≡ u.line
  pub are : AreItems (kinds_of u.formats) d.rest
  pub since : acts' ≤ d.point.state.world.acts
  pub paid : d.credits + size + u.most ≤ cost u.block.call.code
  pub owed : d.credits + u.exit ≤ u.debt + d.index
  pub there : AreIn u.block.call.surroundings d.point d.numbers d.index d.family
