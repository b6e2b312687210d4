-- DO with a FIXED BINARY(31) variable that counts up to a limit, by a step that is a constant, with WHILE or without.
use Rattle.std.specs.Prelude.{ℕ, ◌+◌, ◌^◌, ◌<◌, ◌≤◌, ◌≡◌, ℤ, List, ◌∷◌, ◌++◌, ⊤, None, Option, Some}
use Rattle.rv_meaning.specs.Words.{word}
use Rattle.pli_typing.specs.TypedTree as Y
use Rattle.pli_meaning.specs.Control.{Label, Normal}
use Rattle.pli_meaning.specs.Evaluating.{number}
use Rattle.pli_meaning.specs.Executing.{list}
use Rattle.pli_meaning.specs.Raising.{Around}
use Rattle.pli_meaning.specs.StorageState.{State}
use Rattle.pli_coding.specs.Allocating.{act_code}
use Rattle.pli_coding.specs.Assembly.{Code, size_of}
use Rattle.pli_coding.specs.Registers.{held_registers}
use Rattle.pli_coding.specs.Statements.{Turn, constant_step, in_turns, limit_code, start_code, started_code}
use Rattle.pli_coding.specs.Statements.{stmt_code, stmts_code, turn_of}
use Rattle.activation_relation.specs.Layers.{Layer, Point, services_of}
use Rattle.run_steps.specs.Items.{Linked}
use Rattle.run_steps.specs.Numbers.{IsWide}
use Rattle.run_steps.specs.Reach.{Comes, Family, cost}
use Rattle.block_runs.specs.Machines.{AreIn}
use Rattle.program_runs.specs.Statements.{Block, HasAct, IsAmong, IsBegun, set_aside, size_with, statement_aims}
use Rattle.expression_runs.specs.Assignments.{setting_around}
use Rattle.expression_runs.specs.Values.{Setting}
use Rattle.test_runs.specs.Tests.{Tests}
use Rattle.counter_runs.specs.Words.{telling, with_word}

-- its parts; the precision is that of the start, and the step is a constant that comes to so much
pub record Counting : Type 0 where
  pub counter : Y.Reference
  pub precision : ℕ
  pub start : Y.Number
  pub limit : Y.Number
  pub step : Y.Number
  pub by : ℤ
  pub condition : Option Y.Bit
  pub body : Y.Stmts
  pub line : ℕ

abbrev pub counter_of : Counting → Y.Counter
counter_of c = Y.NumberCounter 31 c.counter

abbrev pub value_of_start : Counting → Y.Value
value_of_start c = Y.NumberValue c.precision c.start

abbrev pub count_of : Counting → Y.Stmt
count_of c =
    Y.DoCount (counter_of c) (value_of_start c) (Some c.limit) c.step c.condition c.body c.line

-- a step that is a constant of the code
pub record IsStep (x : Y.Number) (z : ℤ) : Type 0 where
  pub constant : constant_step x ≡ Some z
  pub wide : IsWide z
  pub means : (around : Around) (acts : ℕ) (s : State) → number around x acts s ≡ Normal z s

-- ---- where limit and start wait: in the first and the third of the words behind those that loops around it have set
-- aside

abbrev pub starting : (words : ℕ) → Layer → List Layer → Block → (start : ℤ) → Block
starting words φ φs k z = telling (with_word (words + 2) (word z) φ.waits) φ φs k

abbrev pub turning : (words : ℕ) → Layer → List Layer → Block → (limit : ℤ) → Block
turning words φ φs k y = telling (with_word words (word y) φ.waits) φ φs k

-- around its expressions, with so many words set aside
abbrev pub setting_with : Block → List Label → (line most words : ℕ) → Setting
setting_with k labels line most words = setting_around words k labels line most

-- ---- its code

abbrev pub turn_in : (words : ℕ) → Block → Counting → Turn
turn_in words k c =
    turn_of k.environment (set_aside words) (counter_of c) (Some c.limit) (Some c.by) c.condition c.line
    (stmts_code k.environment (in_turns (set_aside words)) c.body)

abbrev pub begun_in : (words : ℕ) → Block → Counting → Code
begun_in words k c =
    act_code c.line
    ++ (start_code k.environment (set_aside words) (value_of_start c)
    ++ (limit_code k.environment (set_aside words) (Some c.limit)
    ++ started_code (set_aside words) (counter_of c) (value_of_start c)))

-- where the first turn begins, and its statements
abbrev pub turns_index : (words : ℕ) → Block → Counting → (index : ℕ) → ℕ
turns_index words k c index = index + size_of (begun_in words k c)

abbrev pub body_index : (words : ℕ) → Block → Counting → (index : ℕ) → ℕ
body_index words k c index =
    turns_index words k c index + size_of (turn_in words k c).begun + size_of ((turn_in words k c).limit 0)
    + size_of ((turn_in words k c).condition 0)

-- ---- WHILE

-- where it is there, its test comes to what it means
abbrev pub IsTested : Setting → (need : ℕ) → Option Y.Bit → Type 0
IsTested k need None = ⊤
IsTested k need (Some x) = Tests k need x

-- ---- the statements of a turn

-- from any such point their code does what it means, while two words more are set aside
abbrev pub TurnDoes : (words : ℕ) → Block → List Label → Y.Stmts → (index left' : ℕ) → Type 0
TurnDoes words k labels body index left' =
    (p : Point) (numbers : ℕ → ℕ) (credits wanted : ℕ) (f : Family) → IsAmong k numbers p →
    Linked k.call.surroundings.links k.call.code index (stmts_code k.environment (in_turns (set_aside words)) body) →
    (credits ≤ wanted)
    × (credits + size_of (stmts_code k.environment (in_turns (set_aside words)) body) ≤ cost k.call.code) →
    AreIn k.call.surroundings p numbers index f →
    Comes k.call.code credits f (services_of p)
    (statement_aims k labels p.state.world.acts
    (index + size_of (stmts_code k.environment (in_turns (set_aside words)) body)) wanted left')
    (list k.around body k.call.surroundings.acts p.state)

-- ---- the statement

-- where it stands while so many words are set aside, how many registers its expressions need, that one act pays for it,
-- and that nothing waits in the words that it sets aside; turns enough, since each of them makes an act
pub record IsCount (words : ℕ) (k : Block) (c : Counting) (φ : Layer) (φs : List Layer) (index need most : ℕ) : Type 0
  where
    pub act : HasAct k c.line
    pub begun : IsBegun k
    pub turns : k.call.surroundings.acts < k.around.turns + k.first.state.world.acts
    pub newest : k.first.control.layers ≡ φ ∷ φs
    pub inside : words + 3 ≤ φ.words
    pub low : φ.words ≤ 2 ^ 16
    pub free : (φ.waits words ≡ None) × (φ.waits (words + 2) ≡ None)
    pub step : IsStep c.step c.by
    pub some : 1 ≤ need
    pub registers : need ≤ k.registers
    pub held : k.registers ≤ held_registers
    pub statement :
        Linked k.call.surroundings.links k.call.code index (stmt_code k.environment (set_aside words) (count_of c))
    pub paid : size_with words k (count_of c) + most ≤ cost k.call.code
