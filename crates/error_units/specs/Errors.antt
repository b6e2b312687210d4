-- ERROR while a unit of the program is in force for it: its unit runs, and behind that the run ends, unless the
-- unit is left by a jump. (X3.53-1976, chapter 6, ERROR.)
use Rattle.std.specs.Prelude.{ℕ, ◌+◌, ◌*◌, ◌^◌, ◌<◌, ◌≤◌, ◌≡◌, List, [], false}
use Rattle.pli_serving.specs.ServiceState.{Entry}
use Rattle.rv_meaning.specs.Machine.{value}
use Rattle.rv_meaning.specs.declared.instr.Instr.{Instr}
use Rattle.pli_language.specs.declared.condition.Condition.{Condition}
use Rattle.pli_language.specs.declared.condition.Condition.TheVariants as C
use Rattle.pli_typing.specs.TypedTree as Y
use Rattle.pli_meaning.specs.Control.{Label}
use Rattle.pli_meaning.specs.Raising.{error, raised}
use Rattle.pli_meaning.specs.StorageState.{force}
use Rattle.pli_coding.specs.Arithmetic as A
use Rattle.pli_coding.specs.Assembly.{ErrorEnd, RaiseError, size_of}
use Rattle.pli_coding.specs.Environments.{none_taken}
use Rattle.pli_coding.specs.Linking.{Links, place_of}
use Rattle.pli_coding.specs.Procedures.{no_value}
use Rattle.pli_coding.specs.Registers.{a1}
use Rattle.pli_coding.specs.Statements.{stmt_code}
use Rattle.activation_relation.specs.Layers.{Point, services_of}
use Rattle.activation_relation.specs.ServiceLaws.{IsSystem}
use Rattle.run_steps.specs.Engine.{Base}
use Rattle.run_steps.specs.Items.{Linked}
use Rattle.run_steps.specs.Reach.{Comes, Family, cost}
use Rattle.block_runs.specs.Machines.{AreIn, IsIn}
use Rattle.program_runs.specs.Statements.{Block, Does, HasAct, IsAmong, size_in}
use Rattle.expression_runs.specs.Assignments.{setting_of}
use Rattle.expression_runs.specs.Raises.{Routines}
use Rattle.expression_runs.specs.Values.{OverflowComes, Setting}
use Rattle.element_runs.specs.Subscripts.{SubscriptComes}
use Rattle.jump_runs.specs.Functions.{EndDoes, IsFunctionList, behind_list}
use Rattle.operator_runs.specs.Divisors.{ZeroDivideComes}
use Rattle.text_runs.specs.Texts.{ErrorComes, error_aims}
use Rattle.text_runs.specs.Waiting.{over}
use Rattle.unit_runs.specs.Raised.{IsRaised, IsRaisedAt, Standing, UnitDoes, raise_aims}

-- where the routines stand
pub record ErrorRoutines (links : Links) (code : List Instr) : Type 0 where
  pub routines : Routines links code
  pub error : place_of links RaiseError ≡ 4 * (routines.at + 8)
  pub end : place_of links ErrorEnd ≡ 4 * (routines.at + 16)

-- from the first instruction of ERROR's routine, with a code in a1, the run ends or comes to where the unit jumps,
-- as it means
abbrev pub ErrorGoes :
    (X : Type 0) → (k : Setting) → ErrorRoutines k.block.call.surroundings.links k.block.call.code → Type 0
ErrorGoes X k r =
    (p : Point) (numbers : ℕ → ℕ) (credits code : ℕ) (f : Family) → IsAmong k.block numbers p →
    p.control.line ≡ k.around.line → (0 < code) × (code < 2 ^ 16) → credits + k.most ≤ cost k.block.call.code + 2 →
    ((b : Base) →
    IsIn k.block.call.surroundings p numbers (r.routines.at + 8) b (f b) × (value (f b).machine a1 ≡ code)) →
    Comes k.block.call.code credits f (services_of p) (error_aims X k p.state.world.acts)
    (error {R = X} k.around code k.block.call.surroundings.acts p.state)

-- where a SIGNAL of it stands, and that one act pays for it
pub record IsErrorSignal (k : Block) (line index most : ℕ) : Type 0 where
  pub act : HasAct k line
  pub statement :
      Linked k.call.surroundings.links k.call.code index (stmt_code k.environment none_taken (Y.Signal C.Error line))
  pub paid : size_in k (Y.Signal C.Error line) + most ≤ cost k.call.code

-- what is asked of the code around, and that an act pays for what ends the run
pub record IsPaid (k : Setting) : Type 0 where
  pub acts : k.block.call.surroundings.acts + 1 < 2 ^ 64
  pub most : 18 < k.most

-- a raise of a condition comes behind it, or to where a unit jumps
abbrev pub Raises : Setting → Condition → (code : ℕ) → Type 0
Raises k c code =
    (p : Point) (numbers : ℕ → ℕ) (credits wanted index : ℕ) (f : Family) → IsAmong k.block numbers p →
    p.control.line ≡ k.around.line →
    Linked k.block.call.surroundings.links k.block.call.code index (A.raised c code) →
    credits + size_of (A.raised c code) + k.most ≤ cost k.block.call.code →
    AreIn k.block.call.surroundings p numbers index f →
    Comes k.block.call.code credits f (services_of p)
    (raise_aims k p numbers (index + size_of (A.raised c code)) wanted)
    (raised k.around c code k.block.call.surroundings.acts p.state)

-- ERROR comes to what it means
pub record ErrorsGo : Type 0 where
  -- by its unit, wherever that is raised
  pub unit :
      (k : Setting) (x : Standing) (more : ℕ) (h : IsRaised k x more) → UnitDoes k x more h →
      x.unit.condition ≡ C.Error → (r : ErrorRoutines k.block.call.surroundings.links k.block.call.code) →
      ErrorGoes (Unit {0}) k r
  -- where as many blocks are active as may be the raise ends the run, whatever the unit's statements are
  pub deep :
      (k : Setting) (x : Standing) (more : ℕ) → IsRaisedAt false k x more → x.unit.condition ≡ C.Error →
      (r : ErrorRoutines k.block.call.surroundings.links k.block.call.code) → ErrorGoes (Unit {0}) k r
  -- and so does one without a unit
  pub system :
      (k : Setting) (r : ErrorRoutines k.block.call.surroundings.links k.block.call.code) →
      IsSystem (force k.block.first.state.activations C.Error) → IsPaid k → ErrorGoes (Unit {0}) k r

-- so does what raises it, if it does
pub record ErrorsAround : Type 0 where
  -- a condition for which no unit is in force
  pub condition :
      (k : Setting) (r : ErrorRoutines k.block.call.surroundings.links k.block.call.code) →
      ErrorGoes (Unit {0}) k r → (c : Condition) → IsSystem (force k.block.first.state.activations c) → IsPaid k →
      (code : ℕ) → (0 < code) × (code < 2 ^ 16) → Raises k c code
  pub overflow :
      (k : Setting) (r : ErrorRoutines k.block.call.surroundings.links k.block.call.code) →
      ErrorGoes (Unit {0}) k r → IsSystem (force k.block.first.state.activations C.FixedOverflow) → IsPaid k →
      OverflowComes k
  pub divisor :
      (k : Setting) (r : ErrorRoutines k.block.call.surroundings.links k.block.call.code) →
      ErrorGoes (Unit {0}) k r → IsSystem (force k.block.first.state.activations C.ZeroDivide) → IsPaid k →
      ZeroDivideComes k
  -- a subscript outside its bounds
  pub subscript :
      (k : Setting) (r : ErrorRoutines k.block.call.surroundings.links k.block.call.code) →
      ErrorGoes (Unit {0}) k r → SubscriptComes k
  -- a service's status, if ERROR comes to what it means whatever texts wait
  pub status :
      (k : Setting) (r : ErrorRoutines k.block.call.surroundings.links k.block.call.code) →
      ((entries : List Entry) → ErrorGoes (List ℕ) (over entries k) r) → ErrorComes (List ℕ) k
  -- SIGNAL ERROR
  pub signal :
      (k : Block) (labels : List Label) (line index left' most : ℕ)
      (r : ErrorRoutines k.call.surroundings.links k.call.code) → IsErrorSignal k line index most →
      ErrorGoes (Unit {0}) (setting_of k labels line most) r → Does k labels (Y.Signal C.Error line) index left'
  -- a function's end without a value
  pub function :
      (k : Block) (body : Y.Stmts) (index most : ℕ) → IsFunctionList k body index →
      (r : ErrorRoutines k.call.surroundings.links k.call.code) →
      ErrorGoes (Unit {0}) (setting_of k [] k.around.line most) r →
      size_of (no_value k.around.line) + most ≤ cost k.call.code → EndDoes k (behind_list k body index)
