-- A condition is raised while a unit is in force: the unit's block, and what the raise comes to. (X3.53-1976,
-- chapter 6, conditions and on-units.)
use Rattle.std.specs.Prelude.{ℕ, suc, ◌+◌, ◌*◌, ◌^◌, ◌<◌, ◌≤◌, ◌≡◌, ◌⊎◌, List, [], ◌∷◌, ◌++◌, nat_lt, false, true}
use Rattle.std.specs.Prelude.{Bool, length, None, Some}
use Rattle.pli_language.specs.declared.condition.Condition.{Condition}
use Rattle.pli_language.specs.declared.condition.Condition.TheVariants as C
use Rattle.pli_typing.specs.TypedTree as Y
use Rattle.pli_meaning.specs.Control.{Normal}
use Rattle.pli_meaning.specs.Executing.{block_variables_made, entered, labels_in}
use Rattle.pli_meaning.specs.Raising.{Around, Entry, at_line, raised}
use Rattle.pli_meaning.specs.StorageState as M
use Rattle.pli_meaning.specs.StorageState.{Activation, BlockUnit, State, force, most_activations}
use Rattle.pli_serving.specs.ServiceState as S
use Rattle.pli_serving.specs.ServiceState.{Services}
use Rattle.pli_coding.specs.Allocating.{act_code}
use Rattle.pli_coding.specs.Arithmetic as A
use Rattle.pli_coding.specs.Assembly.{Code, size_of}
use Rattle.pli_coding.specs.Entries.{entered_without_texts, frame_begun}
use Rattle.pli_coding.specs.Environments.{Environment, none_taken}
use Rattle.pli_coding.specs.Frames.{fixed_size, temporary_bytes}
use Rattle.pli_coding.specs.Registers.{held_registers}
use Rattle.pli_coding.specs.Statements.{stmts_code, unit_left, unit_mark}
use Rattle.activation_relation.specs.Chains.{HasParent, StandsAt}
use Rattle.activation_relation.specs.CodeStores.{most_levels}
use Rattle.activation_relation.specs.Frames.{lower_end, upper_top}
use Rattle.activation_relation.specs.Landing.{Changed, resumed, with_units}
use Rattle.activation_relation.specs.Layers.{Layer, Point, services_of}
use Rattle.activation_relation.specs.Points.{Stands, Surroundings}
use Rattle.activation_relation.specs.Remaining.{Remains}
use Rattle.run_steps.specs.Items.{Linked}
use Rattle.run_steps.specs.Reach.{Aims, Comes, Family, Reach, cost}
use Rattle.block_runs.specs.Beginnings.{Beginning, begun_point}
use Rattle.block_runs.specs.Bodies.{Called}
use Rattle.block_runs.specs.Machines.{AreIn, IsImage, IsIn, acted, limits_of}
use Rattle.program_runs.specs.Calls.{left_over}
use Rattle.program_runs.specs.Statements.{AreMarked, Block, EachDoes, IsAmong, IsBegun, JumpsTo, as_outer}
use Rattle.expression_runs.specs.Raises.{Routines}
use Rattle.expression_runs.specs.Values.{OverflowComes, Setting}
use Rattle.unit_runs.specs.Establishing.{OnUnit, unit_of}

-- ---- a unit where it stands

-- a single statement, or a BEGIN block
abbrev pub IsUnitKind : Y.BlockKind → Type 0
IsUnitKind kind = (kind ≡ Y.SimpleUnit) ⊎ (kind ≡ Y.UnitBlock)

-- the words for temporaries of its frame, how many registers it saves, the code that makes its variables, the index of
-- its first instruction, the environment of its code, what is around its meaning, and what becomes of the point where
-- its variables are made
pub record Standing : Type 0 where
  pub unit : OnUnit
  pub words : ℕ
  pub saved : ℕ
  pub variables : Code
  pub entry : ℕ
  pub environment : Environment
  pub around : Around
  pub made : Point → Point

-- a raise of a condition with a code, behind which the program goes on at an index; the height of the block that
-- established the unit; the point behind the act of the raise, and the numbers in registers
pub record Raise : Type 0 where
  pub code : ℕ
  pub back : ℕ
  pub height : ℕ
  pub point : Point
  pub numbers : ℕ → ℕ

-- its frame lies above all that is there; it is entered for its condition's code, and goes on where the raise said
abbrev pub unit_layer : Surroundings → Standing → Raise → Layer
unit_layer w x r =
    record {
      block = x.unit.head.number;
      level = x.unit.head.level;
      kind = S.OnUnitBlock r.code (4 * r.back);
      units = [];
      at = upper_top w.parts r.point.control.layers + temporary_bytes x.words;
      words = x.words;
      parameters = 0;
      back = r.back;
      saved = x.saved;
      held = r.numbers;
      waits = λ n. None;
      told = λ n. None;
      list = None;
      top = upper_top w.parts r.point.control.layers + temporary_bytes x.words + fixed_size x.unit.head.level 0;
      lower = lower_end w.parts r.point.control.layers;
      entries = r.point.control.entries;
      edits = r.point.control.edits;
      line = r.point.control.line;
      carried = λ label. None;
    }

-- its static parent is the block that established it
abbrev pub unit_entry : Standing → Raise → Entry
unit_entry x r =
    record {
      block = unit_of x.unit;
      parent = r.height;
      oncode = r.code;
      parameters = [];
      arguments = [];
      is_function = false;
    }

abbrev pub unit_beginning : Surroundings → Standing → Raise → Beginning
unit_beginning w x r = record { head = x.unit.head; entry = unit_entry x r; layer = unit_layer w x r; texts = 0 }

abbrev pub begun_unit : Surroundings → Standing → Raise → Point
begun_unit w x r = begun_point (unit_beginning w x r) r.point

-- ---- where its code stands: the beginning, the variables, the act of its entry, the list and the end

abbrev pub begin_of : Standing → Code
begin_of x =
    frame_begun x.words x.unit.head.level 0 (Some x.saved) ++ entered_without_texts 2 x.unit.head.line

abbrev pub list_code : Standing → Code
list_code x = stmts_code x.environment none_taken x.unit.body

abbrev pub standing_code : Standing → Code
standing_code x =
    begin_of x
    ++ (x.variables
    ++ (act_code x.unit.head.line
    ++ (list_code x ++ (unit_mark x.unit.head x.unit.head.kind ++ unit_left x.words x.saved))))

abbrev pub variables_index : Standing → ℕ
variables_index x = x.entry + size_of (begin_of x)

abbrev pub act_index : Standing → ℕ
act_index x = variables_index x + size_of x.variables

abbrev pub list_index : Standing → ℕ
list_index x = act_index x + size_of (act_code x.unit.head.line)

abbrev pub end_index : Standing → ℕ
end_index x = list_index x + size_of (list_code x)

-- ---- the block in which its statements run

abbrev pub unit_call : Setting → Standing → Raise → Called
unit_call k x r =
    record {
      surroundings = k.block.call.surroundings;
      code = k.block.call.code;
      point = r.point;
      numbers = r.numbers;
      beginning = unit_beginning k.block.call.surroundings x r;
      call = r.back;
      entry = x.entry;
      end = end_index x;
      function = None;
    }

-- further out are the block in which the condition is raised, with the labels that a jump may name there, and those
-- around it
abbrev pub unit_block : Setting → Standing → Raise → Block
unit_block k x r =
    record {
      call = unit_call k x r;
      first = acted x.unit.head.line (x.made (begun_unit k.block.call.surroundings x r));
      environment = x.environment;
      around = at_line x.around x.unit.head.line;
      registers = x.saved;
      outers = as_outer k.block k.labels ∷ k.block.outers;
    }

-- its variables are made as they are meant, and nothing else changes
pub record AreMade (k : Setting) (x : Standing) (r : Raise) : Type 0 where
  pub stands :
      Stands k.block.call.surroundings (begun_unit k.block.call.surroundings x r)
      × IsImage k.block.call.surroundings k.block.call.code (begun_unit k.block.call.surroundings x r) →
      Stands k.block.call.surroundings (x.made (begun_unit k.block.call.surroundings x r))
      × IsImage k.block.call.surroundings k.block.call.code (x.made (begun_unit k.block.call.surroundings x r))
  pub comes :
      (credits : ℕ) (f : Family) →
      Stands k.block.call.surroundings (begun_unit k.block.call.surroundings x r)
      × IsImage k.block.call.surroundings k.block.call.code (begun_unit k.block.call.surroundings x r) →
      Linked k.block.call.surroundings.links k.block.call.code (variables_index x) x.variables →
      AreIn k.block.call.surroundings (begun_unit k.block.call.surroundings x r) r.numbers (variables_index x) f →
      Reach k.block.call.code credits f (services_of (begun_unit k.block.call.surroundings x r))
      (credits + size_of x.variables) (services_of (x.made (begun_unit k.block.call.surroundings x r)))
      (λ b y. IsIn k.block.call.surroundings (x.made (begun_unit k.block.call.surroundings x r)) r.numbers (act_index x)
      b y)
  pub means :
      block_variables_made (at_line x.around x.unit.head.line) x.unit.head x.unit.head.kind
      k.block.call.surroundings.acts (begun_unit k.block.call.surroundings x r).state
      ≡ Normal tt (x.made (begun_unit k.block.call.surroundings x r)).state
  pub activation : Activation
  pub parent : activation.parent ≡ r.height
  pub changed : Changed
  pub layers :
      (x.made (begun_unit k.block.call.surroundings x r)).control.layers
      ≡ resumed changed (unit_layer k.block.call.surroundings x r) ∷ r.point.control.layers
  pub own : List (Condition × M.OnUnit)
  pub activations :
      (x.made (begun_unit k.block.call.surroundings x r)).state.activations
      ≡ with_units own activation ∷ r.point.state.activations
  pub idle : (x.made (begun_unit k.block.call.surroundings x r)).control.waiting ≡ None
  pub acts :
      (x.made (begun_unit k.block.call.surroundings x r)).state.world.acts ≡ r.point.state.world.acts
  -- what lived where it was raised lives on, and an act pays for the serials
  pub remains :
      Stands k.block.call.surroundings (begun_unit k.block.call.surroundings x r) →
      Remains r.point (x.made (begun_unit k.block.call.surroundings x r))
  pub few :
      (x.made (begun_unit k.block.call.surroundings x r)).state.serials
      ≤ r.point.state.serials + k.block.call.surroundings.serials

-- ---- the raise

-- where the block's first statement begins the unit is in force, and its frame fits between the stacks; one more block
-- may be active there, or not
pub record IsRaisedAt (may : Bool) (k : Setting) (x : Standing) (more : ℕ) : Type 0 where
  pub begun : IsBegun k.block
  pub routines : Routines k.block.call.surroundings.links k.block.call.code
  pub by : Activation
  pub force : force k.block.first.state.activations x.unit.condition ≡ Some (by, BlockUnit (unit_of x.unit))
  pub parent : HasParent x.unit.head.level by.height k.block.first.state.activations
  pub room :
      upper_top k.block.call.surroundings.parts k.block.first.control.layers + temporary_bytes x.words
      + fixed_size x.unit.head.level 0
      ≤ lower_end k.block.call.surroundings.parts k.block.first.control.layers
  pub shallow : nat_lt (length k.block.first.state.activations) most_activations ≡ may
  -- the program has it at no other place
  pub only :
      (at : ℕ) → StandsAt k.block.call.surroundings.units (unit_of x.unit) at → at ≡ 4 * x.entry
  pub some : 0 < x.entry
  pub stands : Linked k.block.call.surroundings.links k.block.call.code x.entry (standing_code x)
  pub labels : AreMarked k.block.call.surroundings.links x.environment x.unit.body (list_index x)
  pub kind : IsUnitKind x.unit.head.kind
  pub level : x.unit.head.level < most_levels
  pub line : x.unit.head.line < 2 ^ 31
  pub saved : x.saved ≤ held_registers
  pub acts : k.block.call.surroundings.acts + 1 < 2 ^ 64
  pub enter : k.around.enter ≡ entered k.around.program (suc more)
  pub around :
      x.around
      ≡ record { program = k.around.program; enter = entered k.around.program more; turns = suc more; line = 0 }
  -- in which there are turns enough for the acts that are left
  pub enough : k.block.call.surroundings.acts < suc more + k.block.first.state.world.acts
  -- what comes before its first act, and its end, have room among the credits
  pub most : 30 + size_of (standing_code x) ≤ k.most

abbrev pub IsRaised : Setting → Standing → (more : ℕ) → Type 0
IsRaised k x more = IsRaisedAt true k x more

-- a raise of the condition in the block, behind its act
pub record IsRaiseOf (k : Setting) (x : Standing) (more : ℕ) (h : IsRaised k x more) (r : Raise) : Type 0 where
  pub among : IsAmong k.block r.numbers r.point
  pub later : k.block.first.state.world.acts < r.point.state.world.acts
  pub height : r.height ≡ h.by.height
  pub some : 0 < r.code
  pub near : r.code < 2 ^ 16

-- behind the raise, at a point of the block with the numbers in registers as they were, or it is left by a jump
pub record IsBehind (k : Setting) (p : Point) (numbers : ℕ → ℕ) (index wanted credits : ℕ) (f : Family)
    (v : Services) (s : State) : Type 0 where
  pub point : Point
  pub among : IsAmong k.block numbers point
  pub since : p.state.world.acts ≤ point.state.world.acts
  pub line : point.control.line ≡ p.control.line
  pub state : s ≡ point.state
  pub reach :
      Reach k.block.call.code credits f v wanted (services_of point)
      (λ b y. IsIn k.block.call.surroundings point numbers index b y)

abbrev pub raise_aims : Setting → Point → (numbers : ℕ → ℕ) → (index wanted : ℕ) → Aims (Unit {0})
raise_aims k p numbers index wanted =
    record {
      limits = limits_of k.block.call.surroundings;
      done = λ c f v r s. IsBehind k p numbers index wanted c f v s;
      jumped = λ c f v height label s. JumpsTo k.block k.labels p.state.world.acts c f v height label s;
      returned = λ c f v r s. ⊥;
    }

-- what is asked of the unit: its variables are made and its statements do what they mean, wherever it is raised
abbrev pub UnitDoes : (k : Setting) (x : Standing) (more : ℕ) → IsRaised k x more → Type 0
UnitDoes k x more h =
    (r : Raise) → IsRaiseOf k x more h r →
    AreMade k x r
    × (IsBegun (unit_block k x r) →
    EachDoes (unit_block k x r) (labels_in x.unit.body ++ []) x.unit.body (list_index x) left_over)

pub record RaisesReturn : Type 0 where
  -- a raise comes behind it, or to where the unit jumps
  pub raise :
      (k : Setting) (x : Standing) (more : ℕ) (h : IsRaised k x more) → UnitDoes k x more h → (code : ℕ) →
      (0 < code) × (code < 2 ^ 16) → (p : Point) (numbers : ℕ → ℕ) (credits wanted index : ℕ) (f : Family) →
      IsAmong k.block numbers p → p.control.line ≡ k.around.line →
      Linked k.block.call.surroundings.links k.block.call.code index (A.raised x.unit.condition code) →
      credits + size_of (A.raised x.unit.condition code) + k.most ≤ cost k.block.call.code →
      AreIn k.block.call.surroundings p numbers index f →
      Comes k.block.call.code credits f (services_of p)
      (raise_aims k p numbers (index + size_of (A.raised x.unit.condition code)) wanted)
      (raised k.around x.unit.condition code k.block.call.surroundings.acts p.state)
  -- so FIXEDOVERFLOW in an expression goes on with the value that was saved
  pub overflow :
      (k : Setting) (x : Standing) (more : ℕ) (h : IsRaised k x more) → UnitDoes k x more h →
      x.unit.condition ≡ C.FixedOverflow → OverflowComes k

-- where as many blocks are active as may be the raise ends the run, whatever the unit's statements are
pub record DeepRaisesEnd : Type 0 where
  pub raise :
      (k : Setting) (x : Standing) (more : ℕ) → IsRaisedAt false k x more → (code : ℕ) →
      (0 < code) × (code < 2 ^ 16) → (p : Point) (numbers : ℕ → ℕ) (credits wanted index : ℕ) (f : Family) →
      IsAmong k.block numbers p → Linked k.block.call.surroundings.links k.block.call.code index
      (A.raised x.unit.condition code) →
      credits + size_of (A.raised x.unit.condition code) + k.most ≤ cost k.block.call.code →
      AreIn k.block.call.surroundings p numbers index f →
      Comes k.block.call.code credits f (services_of p)
      (raise_aims k p numbers (index + size_of (A.raised x.unit.condition code)) wanted)
      (raised k.around x.unit.condition code k.block.call.surroundings.acts p.state)
  pub overflow :
      (k : Setting) (x : Standing) (more : ℕ) → IsRaisedAt false k x more → x.unit.condition ≡ C.FixedOverflow →
      OverflowComes k
