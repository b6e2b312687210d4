-- BEGIN among the statements of a block: its layer, the block in which its statements run, and what they come to.
use Rattle.std.specs.Prelude.{ℕ, suc, ◌+◌, ◌<◌, ◌≤◌, ◌≡◌, List, [], ◌∷◌, ◌++◌, nat_lt, true, length, None}
use Rattle.pli_language.specs.declared.condition.Condition.{Condition}
use Rattle.pli_typing.specs.TypedTree as Y
use Rattle.pli_meaning.specs.Control.{Label, Normal}
use Rattle.pli_meaning.specs.Executing.{begun, block_variables_made, entered, labels_in}
use Rattle.pli_meaning.specs.Raising.{Around, at_line}
use Rattle.pli_meaning.specs.StorageState.{Activation, OnUnit, most_activations}
use Rattle.pli_serving.specs.ServiceState as S
use Rattle.pli_coding.specs.Allocating.{act_code}
use Rattle.pli_coding.specs.Assembly.{Code, size_of}
use Rattle.pli_coding.specs.Entries.{variables_code}
use Rattle.pli_coding.specs.Environments.{Environment, none_taken}
use Rattle.pli_coding.specs.Frames.{fixed_size, temporary_bytes}
use Rattle.pli_coding.specs.Statements.{begin_environment, block_words, stmt_code, stmts_code}
use Rattle.activation_relation.specs.CodeStores.{most_levels}
use Rattle.activation_relation.specs.Frames.{lower_end, upper_top}
use Rattle.activation_relation.specs.Landing.{Changed, resumed, with_units}
use Rattle.activation_relation.specs.Layers.{Layer, Point, services_of}
use Rattle.activation_relation.specs.Points.{Surroundings, Stands}
use Rattle.activation_relation.specs.Remaining.{Remains}
use Rattle.run_steps.specs.Items.{Linked}
use Rattle.run_steps.specs.Reach.{Family, Reach}
use Rattle.block_runs.specs.Beginnings.{Beginning, begun_point}
use Rattle.block_runs.specs.Bodies.{Called}
use Rattle.block_runs.specs.InnerBeginnings.{inner_code}
use Rattle.block_runs.specs.Machines.{AreIn, IsImage, IsIn}
use Rattle.program_runs.specs.Statements.{AreMarked, Block, Does, EachDoes, HasAct, IsAmong, IsBegun, as_outer}
use Rattle.program_runs.specs.Statements.{own_height}

-- ---- a begin block

-- its head and its list, the words for temporaries of its frame, the code that makes its variables, what is around its
-- meaning, and what becomes of the point where they are made
pub record Inner : Type 0 where
  pub head : Y.BlockHead
  pub body : Y.Stmts
  pub words : ℕ
  pub variables : Code
  pub around : Around
  pub made : Point → Point

abbrev pub begin_of : Inner → Y.Stmt
begin_of x = Y.Begin (Y.BlockOf x.head x.body)

-- its frame lies above all that the block around it has; it saves no registers, and is left by no call
abbrev pub inner_layer : Surroundings → Point → (numbers : ℕ → ℕ) → Inner → Layer
inner_layer w p numbers x =
    record {
      block = x.head.number;
      level = x.head.level;
      kind = S.BeginBlock;
      units = [];
      at = upper_top w.parts p.control.layers + temporary_bytes x.words;
      words = x.words;
      parameters = 0;
      back = 0;
      saved = 0;
      held = numbers;
      waits = λ n. None;
      told = λ n. None;
      list = None;
      top = upper_top w.parts p.control.layers + temporary_bytes x.words + fixed_size x.head.level 0;
      lower = lower_end w.parts p.control.layers;
      entries = p.control.entries;
      edits = p.control.edits;
      line = p.control.line;
      carried = λ label. None;
    }

-- its static parent is the block around it
abbrev pub inner_beginning : Block → Point → (numbers : ℕ → ℕ) → Inner → Beginning
inner_beginning k p numbers x =
    record {
      head = x.head;
      entry = begun (Y.BlockOf x.head x.body) (own_height k);
      layer = inner_layer k.call.surroundings p numbers x;
      texts = 0;
    }

abbrev pub begun_in : Block → Point → (numbers : ℕ → ℕ) → Inner → Point
begun_in k p numbers x = begun_point (inner_beginning k p numbers x) p

-- ---- where its code stands: behind the act of the statement, the beginning, the variables, the list and the end

abbrev pub entry_index : Inner → (index : ℕ) → ℕ
entry_index x index = index + size_of (act_code x.head.line)

abbrev pub beginning_size : Block → Point → (numbers : ℕ → ℕ) → Inner → ℕ
beginning_size k p numbers x = size_of (inner_code (inner_beginning k p numbers x))

abbrev pub variables_index : Block → Point → (numbers : ℕ → ℕ) → Inner → (index : ℕ) → ℕ
variables_index k p numbers x index = entry_index x index + beginning_size k p numbers x

abbrev pub list_index : Block → Point → (numbers : ℕ → ℕ) → Inner → (index : ℕ) → ℕ
list_index k p numbers x index = variables_index k p numbers x index + size_of x.variables

abbrev pub environment_of : Block → Inner → Environment
environment_of k x = begin_environment x.head k.environment

abbrev pub list_code : Block → Inner → Code
list_code k x = stmts_code (environment_of k x) none_taken x.body

abbrev pub end_index : Block → Point → (numbers : ℕ → ℕ) → Inner → (index : ℕ) → ℕ
end_index k p numbers x index = list_index k p numbers x index + size_of (list_code k x)

-- ---- the block in which its statements run

abbrev pub inner_call : Block → Point → (numbers : ℕ → ℕ) → Inner → (index : ℕ) → Called
inner_call k p numbers x index =
    record {
      surroundings = k.call.surroundings;
      code = k.call.code;
      point = p;
      numbers = k.call.numbers;
      beginning = inner_beginning k p numbers x;
      call = index;
      entry = entry_index x index;
      end = end_index k p numbers x index;
      function = None;
    }

-- registers are those of the procedure around it; a jump may name labels of the blocks around it
abbrev pub inner_block : Block → List Label → Point → (numbers : ℕ → ℕ) → Inner → (index : ℕ) → Block
inner_block k labels p numbers x index =
    record {
      call = inner_call k p numbers x index;
      first = x.made (begun_in k p numbers x);
      environment = environment_of k x;
      around = at_line x.around x.head.line;
      registers = k.registers;
      outers = as_outer k labels ∷ k.outers;
    }

-- ---- its variables

-- they are made as they are meant, and nothing else changes
pub record AreMade (k : Block) (x : Inner) (index : ℕ) (p : Point) (numbers : ℕ → ℕ) : Type 0 where
  pub stands :
      Stands k.call.surroundings (begun_in k p numbers x)
      × IsImage k.call.surroundings k.call.code (begun_in k p numbers x) →
      Stands k.call.surroundings (x.made (begun_in k p numbers x))
      × IsImage k.call.surroundings k.call.code (x.made (begun_in k p numbers x))
  pub comes :
      (credits : ℕ) (f : Family) →
      Stands k.call.surroundings (begun_in k p numbers x)
      × IsImage k.call.surroundings k.call.code (begun_in k p numbers x) →
      Linked k.call.surroundings.links k.call.code (variables_index k p numbers x index) x.variables →
      AreIn k.call.surroundings (begun_in k p numbers x) numbers (variables_index k p numbers x index) f →
      Reach k.call.code credits f (services_of (begun_in k p numbers x)) (credits + size_of x.variables)
      (services_of (x.made (begun_in k p numbers x)))
      (λ b y. IsIn k.call.surroundings (x.made (begun_in k p numbers x)) numbers (list_index k p numbers x index) b y)
  pub means :
      block_variables_made (at_line x.around x.head.line) x.head x.head.kind k.call.surroundings.acts
      (begun_in k p numbers x).state
      ≡ Normal tt (x.made (begun_in k p numbers x)).state
  pub activation : Activation
  pub parent : activation.parent ≡ own_height k
  pub changed : Changed
  pub layers :
      (x.made (begun_in k p numbers x)).control.layers
      ≡ resumed changed (inner_layer k.call.surroundings p numbers x) ∷ p.control.layers
  pub own : List (Condition × OnUnit)
  pub activations :
      (x.made (begun_in k p numbers x)).state.activations ≡ with_units own activation ∷ p.state.activations
  pub idle : (x.made (begun_in k p numbers x)).control.waiting ≡ None
  pub acts : (x.made (begun_in k p numbers x)).state.world.acts ≡ p.state.world.acts
  -- what lived where it was called lives on, and an act pays for the serials
  pub remains : Stands k.call.surroundings (begun_in k p numbers x) → Remains p (x.made (begun_in k p numbers x))
  pub few : (x.made (begun_in k p numbers x)).state.serials ≤ p.state.serials + k.call.surroundings.serials

-- ---- the statement

pub record IsBegin (k : Block) (x : Inner) (index more : ℕ) : Type 0 where
  pub act : HasAct k x.head.line
  pub begun : IsBegun k
  pub statement :
      Linked k.call.surroundings.links k.call.code index (stmt_code k.environment none_taken (begin_of x))
  pub kind : x.head.kind ≡ Y.BeginBlock
  -- the words and the code of its variables are those that the program's block has
  pub words : block_words k.environment x.head.number x.body ≡ x.words
  pub variables : variables_code (environment_of k x) x.head.line ≡ x.variables
  -- it stands in the running block, and its frame fits between the stacks
  pub level : x.head.level ≡ suc k.call.beginning.layer.level
  pub few : x.head.level < most_levels
  pub room :
      upper_top k.call.surroundings.parts k.first.control.layers + temporary_bytes x.words + fixed_size x.head.level 0
      ≤ lower_end k.call.surroundings.parts k.first.control.layers
  pub shallow : nat_lt (length k.first.state.activations) most_activations ≡ true
  pub enter : k.around.enter ≡ entered k.around.program (suc more)
  pub around :
      x.around
      ≡ record { program = k.around.program; enter = entered k.around.program more; turns = suc more; line = 0 }
  -- in which there are turns enough for the acts that are left
  pub enough : k.call.surroundings.acts < suc more + k.first.state.world.acts

-- it does what it means if each of its statements does, behind the act of the statement; they may name the labels of
-- the blocks around it, and return from their procedure
abbrev pub BeginsDo : Type 0
BeginsDo =
    (k : Block) (labels : List Label) (x : Inner) (index left' more : ℕ) → IsBegin k x index more →
    ((p : Point) (numbers : ℕ → ℕ) → IsAmong k numbers p → k.first.state.world.acts < p.state.world.acts →
    AreMade k x index p numbers
    × AreMarked k.call.surroundings.links (environment_of k x) x.body (list_index k p numbers x index)) →
    ((p : Point) (numbers : ℕ → ℕ) → IsAmong k numbers p → k.first.state.world.acts < p.state.world.acts →
    IsBegun (inner_block k labels p numbers x index) →
    EachDoes (inner_block k labels p numbers x index) (labels_in x.body ++ []) x.body (list_index k p numbers x index)
    left') → Does k labels (begin_of x) index left'
