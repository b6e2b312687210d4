-- Functions that may jump out of the expression that calls them, to a label of the block that declares them, or of one
-- around that.
use Rattle.std.specs.Prelude.{ℕ, ◌+◌, ◌*◌, ◌^◌, ◌<◌, ◌≤◌, ◌≡◌, ⊤, true, false, List, [], ◌∷◌, ◌++◌}
use Rattle.pli_language.specs.declared.condition.Condition.TheVariants as C
use Rattle.pli_typing.specs.TypedTree as Y
use Rattle.pli_meaning.specs.Codes.{no_value_code}
use Rattle.pli_meaning.specs.Executing.{block_list, labels_in}
use Rattle.pli_meaning.specs.Raising.{error}
use Rattle.pli_meaning.specs.StorageState.{ancestor_at, force}
use Rattle.pli_serving.specs.ServiceState.{Entry}
use Rattle.pli_coding.specs.Assembly.{RaiseError, size_of}
use Rattle.pli_coding.specs.Environments.{none_taken}
use Rattle.pli_coding.specs.Linking.{place_of}
use Rattle.pli_coding.specs.Procedures.{no_value}
use Rattle.pli_coding.specs.Statements.{stmts_code}
use Rattle.activation_relation.specs.Landing.{is_begin}
use Rattle.activation_relation.specs.Layers.{Point, services_of}
use Rattle.activation_relation.specs.ServiceLaws.{IsSystem}
use Rattle.run_steps.specs.Items.{Linked}
use Rattle.run_steps.specs.Reach.{Comes, Family}
use Rattle.block_runs.specs.Machines.{AreIn, HasParts}
use Rattle.program_runs.specs.Calls.{AreMade, Callee, body_index, left_over}
use Rattle.program_runs.specs.Statements.{AreMarked, Block, EachDoes, IsAmong, IsBegun, as_outer, waiting}
use Rattle.program_runs.specs.Variables.{Declared, IsOnly}
use Rattle.expression_runs.specs.OwnVariables.{IsOwn}
use Rattle.expression_runs.specs.Raises.{Routines}
use Rattle.expression_runs.specs.Values.{Setting}
use Rattle.expression_runs.specs.Variables.{IsNumber, Spot}
use Rattle.function_runs.specs.FunctionCalls.{IsFunctionCall, call_of, called_from}
use Rattle.function_runs.specs.Functions.{function_block}
use Rattle.function_runs.specs.OuterVariables.{IsInside}
use Rattle.text_runs.specs.Laws.{NumberDoes}
use Rattle.unit_runs.specs.Changing.{AllDo, IsPast, Past, after, past_point}
use Rattle.unit_runs.specs.Signals.{IsResumed}
use Rattle.jump_runs.specs.Exits.{exit_aims}

-- its block: further out are the block of the expression, with the labels that a jump may name there, and those around
abbrev pub function_in : Setting → Callee → Point → (numbers : ℕ → ℕ) → Block
function_in k c p numbers =
    record (function_block k.block.call.surroundings k.block.call.code c p numbers) {
      outers = as_outer k.block k.labels ∷ k.block.outers;
    }

-- ---- its list, behind which ERROR is raised

abbrev pub behind_list : Block → Y.Stmts → (index : ℕ) → ℕ
behind_list k body index = index + size_of (stmts_code k.environment none_taken body)

-- a function's block, its list where it stands, and the raise behind that; there are turns enough for the acts that are
-- left
pub record IsFunctionList (k : Block) (body : Y.Stmts) (index : ℕ) : Type 0 where
  pub begun : IsBegun k
  pub among : IsAmong k k.call.numbers k.first
  pub linked :
      Linked k.call.surroundings.links k.call.code index
      (stmts_code k.environment none_taken body ++ no_value k.around.line)
  pub kind : is_begin k.call.beginning.layer.kind ≡ false
  pub line : k.around.line < 2 ^ 31
  pub acts : k.call.surroundings.acts + 1 < 2 ^ 64
  pub called : k.call.point.state.world.acts ≤ k.first.state.world.acts
  pub enough : k.call.surroundings.acts < k.around.turns + k.first.state.world.acts
  pub routines : Routines k.call.surroundings.links k.call.code
  pub raises : place_of k.call.surroundings.links RaiseError ≡ 4 * (routines.at + 8)

-- from any point of the block the raise does what it means
abbrev pub EndDoes : Block → (index : ℕ) → Type 0
EndDoes k index =
    (p : Point) (numbers : ℕ → ℕ) (f : Family) → IsAmong k numbers p → AreIn k.call.surroundings p numbers index f →
    Comes k.call.code 0 f (services_of p) (exit_aims k p.state.world.acts left_over)
    (error k.around no_value_code k.call.surroundings.acts p.state)

-- from its first statement the function comes to its end, or jumps out
abbrev pub FunctionDoes : Block → Y.Stmts → (index : ℕ) → Type 0
FunctionDoes k body index =
    (f : Family) → AreIn k.call.surroundings k.first k.call.numbers index f →
    Comes k.call.code 0 f (services_of k.first) (exit_aims k k.call.point.state.world.acts left_over)
    (block_list k.around body true k.call.surroundings.acts k.first.state)

-- no ON of the list is for ERROR
abbrev pub IsResumedOn : Y.Stmt → Type 0
IsResumedOn (Y.OnUnit condition unit line) = IsResumed condition
IsResumedOn _ = ⊤

abbrev pub AreResumed : Y.Stmts → Type 0
AreResumed (Y.EndOfList own) = ⊤
AreResumed (Y.StmtThen own first rest) = IsResumedOn first × AreResumed rest

pub record FunctionListsDo : Type 0 where
  -- if each statement does what it means, and so does the raise
  pub each :
      (k : Block) (body : Y.Stmts) (index : ℕ) → IsFunctionList k body index →
      AreMarked k.call.surroundings.links k.environment body index →
      EachDoes k (labels_in body ++ []) body index left_over → EndDoes k (behind_list k body index) →
      FunctionDoes k body index
  -- also with ON among them, if the raise does what it means whatever units there are behind them
  pub all :
      (k : Block) (body : Y.Stmts) (index : ℕ) → IsFunctionList k body index →
      AreMarked k.call.surroundings.links k.environment body index → AllDo k body index body index left_over →
      ((past : Past) → IsPast k body index past → EndDoes (after k past) (behind_list k body index)) →
      FunctionDoes k body index
  -- which it does where no unit is in force for ERROR
  pub system :
      (k : Block) (body : Y.Stmts) (index : ℕ) (past : Past) → IsFunctionList k body index →
      IsSystem (force (past_point past k.first).state.activations C.Error) →
      EndDoes (after k past) (behind_list k body index)
  -- so none may be in force before the list, and no unit of it may be for ERROR
  pub unraised :
      (k : Block) (body : Y.Stmts) (index : ℕ) (past : Past) → AreResumed body → IsPast k body index past →
      IsSystem (force k.first.state.activations C.Error) →
      IsSystem (force (past_point past k.first).state.activations C.Error)

-- ---- its call

-- a call leaves the function's value while texts wait, or goes on where the function jumps, which drops them
abbrev pub JumpFunctionsDo : Type 0
JumpFunctionsDo =
    (entries : List Entry) (k : Setting) (c : Callee) (more : ℕ) → IsFunctionCall k c more →
    ((call : ℕ) (p : Point) (numbers : ℕ → ℕ) → IsAmong (waiting entries k.block) numbers p →
    AreMade k.block.call.surroundings k.block.call.code (called_from c call) p numbers) →
    ((call : ℕ) (p : Point) (numbers : ℕ → ℕ) → IsAmong (waiting entries k.block) numbers p →
    IsFunctionList (function_in k (called_from c call) p numbers) c.procedure.body (body_index c) →
    FunctionDoes (function_in k (called_from c call) p numbers) c.procedure.body (body_index c)) →
    NumberDoes entries k 0 (call_of k c)

-- it has the variables and the static ancestors of the block that declares it, and may have a variable of its own
pub record FunctionBlocks : Type 0 where
  pub outer :
      (entries : List Entry) (k : Setting) (c : Callee) (x : Spot) → IsInside k.block c x → IsNumber k.block x →
      (p : Point) (numbers : ℕ → ℕ) → IsAmong (waiting entries k.block) numbers p →
      AreMade k.block.call.surroundings k.block.call.code c p numbers →
      IsBegun (function_in k c p numbers) → IsNumber (function_in k c p numbers) x
  pub ancestor :
      (entries : List Entry) (k : Setting) (c : Callee) (x : Spot) → IsInside k.block c x → (p : Point)
      (numbers : ℕ → ℕ) → IsAmong (waiting entries k.block) numbers p →
      AreMade k.block.call.surroundings k.block.call.code c p numbers →
      IsBegun (function_in k c p numbers) →
      ancestor_at (function_in k c p numbers).first.state x.level ≡ ancestor_at k.block.first.state x.level
  pub own :
      (k : Setting) (c : Callee) (p : Point) (numbers : ℕ → ℕ) (d : Declared) (x : Spot) →
      HasParts k.block.call.surroundings.parts → IsOnly k.block.call.surroundings c p numbers d → IsOwn c d x →
      IsBegun (function_in k c p numbers) → IsNumber (function_in k c p numbers) x
