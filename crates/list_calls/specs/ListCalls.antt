-- CALL with a list of arguments, of a procedure that the running block declares, or a block around it, while words of the
-- frame are set aside.
use Rattle.std.specs.Prelude.{ℕ, suc, ◌+◌, ◌*◌, ◌%◌, ◌^◌, ◌<◌, ◌≤◌, ◌≡◌, List, [], ◌∷◌, ◌++◌, length, None, Some, ⊤}
use Rattle.std.specs.Prelude.{nat_le, nat_lt, pos, true, false, Option}
use Rattle.pli_typing.specs.Signatures.{Fixed}
use Rattle.pli_typing.specs.TypedTree as Y
use Rattle.pli_meaning.specs.Contents.{Shape, footprint_of}
use Rattle.pli_meaning.specs.Control.{Label}
use Rattle.pli_meaning.specs.DeclaredShapes.{procedure_numbered}
use Rattle.pli_meaning.specs.Executing.{entered, labels_in}
use Rattle.pli_meaning.specs.Making.{plain}
use Rattle.pli_meaning.specs.StorageState.{automatic_in_use, most_activations, most_automatic}
use Rattle.pli_serving.specs.Templates.{shape_at}
use Rattle.pli_coding.specs.Frames.{fixed_size}
use Rattle.pli_coding.specs.Registers.{held_registers}
use Rattle.pli_coding.specs.Statements.{stmt_code}
use Rattle.activation_relation.specs.Frames.{lower_end}
use Rattle.activation_relation.specs.Layers.{Layer, Point}
use Rattle.activation_relation.specs.Points.{Surroundings}
use Rattle.run_steps.specs.Items.{Linked}
use Rattle.run_steps.specs.Reach.{cost}
use Rattle.program_runs.specs.Calls.{left_over}
use Rattle.program_runs.specs.Procedures.{block_of, frame_for}
use Rattle.program_runs.specs.Statements.{Block, DoesWith, EachDoes, HasAct, IsAmong, IsBegun, set_aside, size_with}
use Rattle.expression_runs.specs.Assignments.{setting_around}
use Rattle.argument_runs.specs.Copies.{copy_generation}
use Rattle.nested_calls.specs.Nested.{IsNested, parent_at}
use Rattle.list_calls.specs.Arguments.{ComeTo, EachGives, Way, arguments_of, copies_among}
use Rattle.list_calls.specs.Lists.{Parameter, Passing, indices_of}
use Rattle.list_calls.specs.Taking.{AreBeside, AreFullBeside, IsTaking, ListCall, Taking, body_index, list_block}

-- ---- what is called

-- declared by the block of a level, with its arguments; the newest layers where it is called, how many words are set
-- aside there already, and what becomes of the point where its variables are made
pub record Listed : Type 0 where
  pub callee : Taking
  pub level : ℕ
  pub ways : List Way
  pub words : ℕ
  pub layer : Layer
  pub others : List Layer
  pub made : Point → Point

abbrev pub calling_of : Listed → Y.Call
calling_of u = Y.Calling u.callee.procedure.head.number u.level (arguments_of u.ways)

abbrev pub listed_call : Listed → (line : ℕ) → Y.Stmt
listed_call u line = Y.CallProcedure (calling_of u) line

-- the words that are set aside around its arguments
abbrev pub all_words : Listed → ℕ
all_words u = u.words + 6 * length u.ways

-- at a point of the block, with what is passed
abbrev pub called_with : Block → Listed → Point → (numbers : ℕ → ℕ) → List Passing → ListCall
called_with k u p numbers ys =
    record {
      surroundings = k.call.surroundings;
      code = k.call.code;
      callee = u.callee;
      point = p;
      numbers = numbers;
      words = u.words;
      passed = ys;
      layer = u.layer;
      others = u.others;
    }

-- ---- what is asked of the point where the block's first statement begins

-- the table has the parameters' signatures
abbrev pub AreNumbered : (ℕ → Option Shape) → List Parameter → Type 0
AreNumbered shapes [] = ⊤
AreNumbered shapes (x ∷ xs) =
    (shapes x.number ≡ Some (plain (Fixed 31))) × (x.number < 2 ^ 31) × AreNumbered shapes xs

-- words of the list in which nothing waits, and room for the frame and the copies between the stacks
pub record HasSpace (w : Surroundings) (p : Point) (u : Listed) : Type 0 where
  pub newest : p.control.layers ≡ u.layer ∷ u.others
  pub words : u.words + 6 * length u.ways ≤ u.layer.words
  pub near : u.words + 6 * length u.ways < 2 ^ 20
  pub free : (n v : ℕ) → u.layer.waits n ≡ Some v → n < u.words
  pub room :
      frame_for w.parts p.control.layers u.callee.procedure
      + fixed_size u.callee.procedure.head.level (length u.callee.parameters) + 16 * copies_among u.ways
      ≤ lower_end w.parts p.control.layers
  pub even : lower_end w.parts p.control.layers % 16 ≡ 0
  pub idle : p.control.waiting ≡ None
  pub low : p.places.low ≤ w.parts.stack_start
  pub numbered : AreNumbered (λ n. shape_at p.places.signatures n) u.callee.parameters

-- one more block may be active
abbrev pub IsShallow : Point → Type 0
IsShallow p = nat_lt (length p.state.activations) most_activations ≡ true

-- what the copies take of AUTOMATIC storage
abbrev pub copies_take : List Way → ℕ
copies_take us =
    footprint_of (copy_generation (record { index = 0; number = 0; value = pos 0 })) * copies_among us

-- it may, and the copies pass no limit on what is AUTOMATIC
pub record PassesNone (p : Point) (us : List Way) : Type 0 where
  pub shallow : IsShallow p
  pub limit : nat_le (automatic_in_use p.state.living + copies_take us) most_automatic ≡ true

-- it may, but the copies pass the limit on what is AUTOMATIC
pub record PassesLimit (p : Point) (us : List Way) : Type 0 where
  pub shallow : IsShallow p
  pub used : nat_le (automatic_in_use p.state.living) most_automatic ≡ true
  pub limit : nat_le (automatic_in_use p.state.living + copies_take us) most_automatic ≡ false

-- there are as many arguments as parameters; the static parent is the block's ancestor at the level, one around that of
-- the procedure; there are turns enough for the acts that are left, and the copies' serial numbers have 8 bytes
pub record IsDeclared (k : Block) (u : Listed) (more : ℕ) : Type 0 where
  pub begun : IsBegun k
  pub many : length u.ways ≡ length u.callee.parameters
  pub space : HasSpace k.call.surroundings k.first u
  pub small : k.call.surroundings.serials + copies_among u.ways < 2 ^ 40
  pub nested : IsNested k
  pub around_it : u.level ≤ k.environment.level
  pub inner : u.callee.procedure.head.level ≡ suc u.level
  pub parent : u.callee.calling.parent ≡ parent_at k u.level
  pub enough : k.call.surroundings.acts < suc more + k.first.state.world.acts

pub record IsListedCall (k : Block) (u : Listed) (line index need most more : ℕ) : Type 0 where
  pub act : HasAct k line
  pub callee : IsTaking k.call.surroundings k.call.code u.callee
  pub declared : IsDeclared k u more
  pub found :
      procedure_numbered u.callee.procedure.head.number k.around.program.procedures
      ≡ Some (record {
        block = block_of u.callee.procedure;
        parameters = indices_of u.callee.parameters;
        result = None;
      })
  pub enter : k.around.enter ≡ entered k.around.program (suc more)
  pub around :
      u.callee.around
      ≡ record { program = k.around.program; enter = entered k.around.program more; turns = suc more; line = 0 }
  pub registers : need ≤ k.registers
  pub held : k.registers ≤ held_registers
  pub statement :
      Linked k.call.surroundings.links k.call.code index
      (stmt_code k.environment (set_aside u.words) (listed_call u line))
  pub call : u.callee.calling.call + 2 ≡ index + size_with u.words k (listed_call u line)
  pub paid : size_with u.words k (listed_call u line) + most ≤ cost k.call.code

-- its arguments do what they mean
abbrev pub ArgumentsGive : Block → Listed → List Label → (line need most : ℕ) → Type 0
ArgumentsGive k u labels line need most =
    EachGives (setting_around u.words k labels line most) need u.layer u.others u.words (all_words u) u.layer.waits
    u.ways

pub record ListCallsDo : Type 0 where
  -- it does what it means if its arguments and the procedure's statements do, wherever it is called
  pub does :
      (k : Block) (u : Listed) (labels : List Label) (line index left' need most more : ℕ) →
      IsListedCall k u line index need most more → PassesNone k.first u.ways →
      ArgumentsGive k u labels line need most →
      ((p : Point) (numbers : ℕ → ℕ) (ys : List Passing) → IsAmong k numbers p → ComeTo u.ways ys →
      AreBeside None (called_with k u p numbers ys) u.made) →
      ((p : Point) (numbers : ℕ → ℕ) (ys : List Passing) → IsAmong k numbers p → ComeTo u.ways ys →
      IsBegun (list_block None (called_with k u p numbers ys) u.made) →
      EachDoes (list_block None (called_with k u p numbers ys) u.made) (labels_in u.callee.procedure.body ++ [])
      u.callee.procedure.body (body_index u.callee) left_over) →
      DoesWith u.words k labels (listed_call u line) index left'
  -- where as many blocks are active as may be the run ends, whatever the procedure's statements are
  pub ends :
      (k : Block) (u : Listed) (labels : List Label) (line index left' need most more : ℕ) →
      IsListedCall k u line index need most more →
      nat_lt (length k.first.state.activations) most_activations ≡ false →
      ArgumentsGive k u labels line need most → DoesWith u.words k labels (listed_call u line) index left'
  -- and so it does where the copies pass the limit on what is AUTOMATIC
  pub full :
      (k : Block) (u : Listed) (labels : List Label) (line index left' need most more : ℕ) →
      IsListedCall k u line index need most more → PassesLimit k.first u.ways →
      ArgumentsGive k u labels line need most → DoesWith u.words k labels (listed_call u line) index left'
  -- or the variables behind them
  pub beside :
      (k : Block) (u : Listed) (labels : List Label) (line index left' need most more : ℕ) →
      IsListedCall k u line index need most more → PassesNone k.first u.ways →
      ArgumentsGive k u labels line need most →
      ((p : Point) (numbers : ℕ → ℕ) (ys : List Passing) → IsAmong k numbers p → ComeTo u.ways ys →
      AreFullBeside None (called_with k u p numbers ys)) → DoesWith u.words k labels (listed_call u line) index left'
