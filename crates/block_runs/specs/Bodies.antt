-- A procedure or function with any body that comes to its end: what is asked of the body, and what follows of the call.
use Rattle.std.specs.Prelude.{ℕ, List, ◌+◌, ◌≤◌, ◌≡◌, true, Option, None, Some}
use Rattle.rv_meaning.specs.declared.instr.Instr.{Instr}
use Rattle.pli_meaning.specs.BasicValues.{BasicValue, BasicNumber, BasicBit, BasicOffset}
use Rattle.rv_meaning.specs.Machine.{value}
use Rattle.rv_meaning.specs.Words.{word, flag}
use Rattle.pli_serving.specs.Bytes.{offset_word}
use Rattle.pli_typing.specs.Signatures.{Bit, Fixed, LeafKind, Offset}
use Rattle.pli_coding.specs.Registers.{a0}
use Rattle.pli_meaning.specs.Control.{Meaning, left}
use Rattle.pli_meaning.specs.Numbers.{is_of_precision}
use Rattle.pli_meaning.specs.StorageState.{State, Activation, newest_ended}
use Rattle.pli_serving.specs.ServiceState as S
use Rattle.pli_serving.specs.ServiceState.{Services}
use Rattle.pli_coding.specs.Assembly.{size_of}
use Rattle.run_steps.specs.Engine.{Base, most_code}
use Rattle.run_steps.specs.Items.{Linked}
use Rattle.run_steps.specs.Reach.{Family, Reach, Aims, Comes}
use Rattle.activation_relation.specs.Entering.{Later}
use Rattle.activation_relation.specs.Landing.{Resumes}
use Rattle.activation_relation.specs.Layers.{Point, services_of}
use Rattle.activation_relation.specs.Points.{AreFew, Stands, Surroundings}
use Rattle.activation_relation.specs.Remaining.{Remains}
use Rattle.block_runs.specs.Beginnings.{Beginning, IsBeginning, IsCalling, CallStands, begun_point, beginning_code}
use Rattle.block_runs.specs.Endings.{IsWord, HasGiven, ending_code}
use Rattle.block_runs.specs.Machines.{IsImage, IsIn, AreIn, limits_of}

-- a function leaves its word at a place of its frame: a value of a kind
pub record Function : Type 0 where
  pub place : ℕ
  pub kind : LeafKind

abbrev pub place_in : Option Function → Option ℕ
place_in None = None
place_in (Some x) = Some x.place

-- a call: what is around it, its point, what waits in registers, what is called, where the call, the beginning and the
-- end stand, and whether it is a function
pub record Called : Type 0 where
  pub surroundings : Surroundings
  pub code : List Instr
  pub point : Point
  pub numbers : ℕ → ℕ
  pub beginning : Beginning
  pub call : ℕ
  pub entry : ℕ
  pub end : ℕ
  pub function : Option Function

pub record IsCall (k : Called) : Type 0 where
  pub stands : Stands k.surroundings k.point
  pub image : IsImage k.surroundings k.code k.point
  pub beginning : IsBeginning k.surroundings k.point k.numbers k.beginning
  pub code : CallStands k.surroundings k.code k.beginning k.call k.entry
  pub ending : Linked k.surroundings.links k.code k.end (ending_code k.beginning.layer (place_in k.function))
  pub word : IsWord (place_in k.function)

-- what the end of its block asks of it alone
pub record IsEnding (k : Called) : Type 0 where
  pub stands : Stands k.surroundings k.point
  pub kind : k.beginning.layer.kind ≡ S.ProcedureBlock
  pub held : k.beginning.layer.held ≡ k.numbers
  pub back : k.beginning.layer.back ≤ most_code
  pub edits : k.beginning.layer.edits ≡ k.point.control.edits
  pub idle : k.point.control.waiting ≡ None
  pub ending : Linked k.surroundings.links k.code k.end (ending_code k.beginning.layer (place_in k.function))
  pub word : IsWord (place_in k.function)

-- a function's result as the word that it leaves, by its kind: a number, a bit or an offset
abbrev pub IsOfKind : LeafKind → Option BasicValue → (given : ℕ) → Type 0
IsOfKind (Fixed p) (Some (BasicNumber z)) given = (given ≡ word z) × (is_of_precision p z ≡ true)
IsOfKind Bit (Some (BasicBit b)) given = given ≡ flag b
IsOfKind Offset (Some (BasicOffset o)) given = given ≡ offset_word o
IsOfKind _ _ _ = ⊥

abbrev pub IsResult : Option Function → Option BasicValue → (given : ℕ) → Type 0
IsResult None None given = given ≡ 0
IsResult (Some x) r given = IsOfKind x.kind r given
IsResult _ _ _ = ⊥

-- ---- what is asked of a body

-- it has come to its end: its block is the newest, over those that were there, and registers that it doesn't save hold
-- what they held; so many credits are left
pub record AtEnd (k : Called) (left' credits : ℕ) (f : Family) (v : Services) (r : Option BasicValue)
    (s : State) : Type 0
  where
    pub point : Point
    pub after : ℕ → ℕ
    pub activation : Activation
    pub resumes :
        Resumes k.surroundings k.point.state.world.acts activation k.point.state.activations k.beginning.layer
        k.point.control.layers point
    pub image : IsImage k.surroundings k.code point
    -- what lived where it was called lives on
    pub remains : Remains k.point point
    pub few : AreFew k.surroundings point
    pub others : (n : ℕ) → k.beginning.layer.saved ≤ n → after n ≡ k.numbers n
    pub state : s ≡ point.state
    pub given : ℕ
    pub result : IsResult k.function r given
    pub reach :
        Reach k.code credits f v left' (services_of point)
        (λ b y. IsIn k.surroundings point after k.end b y × HasGiven k.beginning.layer (place_in k.function) given y)

abbrev pub body_aims : Called → (left' : ℕ) → Aims (Unit {0})
body_aims k left' =
    record {
      limits = limits_of k.surroundings;
      done = λ c f v r s. AtEnd k left' c f v None s;
      jumped = λ c f v height label s. ⊥;
      returned = λ c f v r s. AtEnd k left' c f v r s;
    }

-- ---- what follows

-- behind the call, at a later point, with the numbers in registers as they were, and a function's word in a0
pub record IsBehind (k : Called) (wanted credits : ℕ) (f : Family) (v : Services) (r : Option BasicValue)
    (s : State) : Type 0 where
  pub point : Point
  pub stands : Stands k.surroundings point
  pub image : IsImage k.surroundings k.code point
  pub later : Later k.point point
  pub few : AreFew k.surroundings point
  -- the stack of texts is that which stood below the call
  pub entries : point.control.entries ≡ k.beginning.layer.entries
  -- and the line is that of the call
  pub line : point.control.line ≡ k.beginning.layer.line
  pub state : s ≡ point.state
  pub given : ℕ
  pub result : IsResult k.function r given
  pub reach :
      Reach k.code credits f v wanted (services_of point)
      (λ b y. IsIn k.surroundings point k.numbers k.beginning.layer.back b y × (value y.machine a0 ≡ given))

abbrev pub behind_aims : Called → (wanted : ℕ) → Aims (Option BasicValue)
behind_aims k wanted =
    record {
      limits = limits_of k.surroundings;
      done = λ c f v r s. IsBehind k wanted c f v r s;
      jumped = λ c f v height label s. ⊥;
      returned = λ c f v r s. ⊥;
    }

-- with as many credits more as are left at the end and as the end costs, which is paid back there
abbrev pub CallsReturn : Type 0
CallsReturn =
    (k : Called) (part : Meaning (Unit {0})) (credits left' wanted : ℕ) (f : Family) → IsCall k →
    ((g : Family) →
    AreIn k.surroundings (begun_point k.beginning k.point) k.numbers
    (k.entry + size_of (beginning_code k.beginning)) g →
    Comes k.code
    (credits + (left' + size_of (ending_code k.beginning.layer (place_in k.function))) + 2 + size_of
    (beginning_code k.beginning)) g
    (services_of (begun_point k.beginning k.point)) (body_aims k left')
    (part k.surroundings.acts (begun_point k.beginning k.point).state)) →
    AreIn k.surroundings k.point k.numbers k.call f → ((b : Base) → IsCalling k.point k.beginning b (f b)) →
    Comes k.code credits f (services_of k.point) (behind_aims k wanted)
    (left true newest_ended (part k.surroundings.acts (begun_point k.beginning k.point).state))
