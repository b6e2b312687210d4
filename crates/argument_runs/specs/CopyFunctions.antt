-- A function whose one variable is a parameter that is copied: its call in an expression of the block that declares it.
use Rattle.std.specs.Prelude.{ℕ, ℤ, suc, ◌+◌, ◌*◌, ◌^◌, ◌<◌, ◌≤◌, ◌≡◌, List, [], ◌∷◌, ◌++◌, length, true, Some}
use Rattle.rv_meaning.specs.declared.instr.Instr.{Instr}
use Rattle.pli_language.specs.declared.condition.Condition.TheVariants as C
use Rattle.pli_typing.specs.Signatures.{Fixed}
use Rattle.pli_typing.specs.TypedTree as Y
use Rattle.pli_meaning.specs.Control.{Normal}
use Rattle.pli_meaning.specs.DeclaredShapes.{procedure_numbered}
use Rattle.pli_meaning.specs.Executing.{block_variables_made, entered, labels_in}
use Rattle.pli_meaning.specs.Numbers.{is_of_precision}
use Rattle.pli_meaning.specs.Raising.{at_line}
use Rattle.pli_meaning.specs.StorageState.{State, force}
use Rattle.pli_coding.specs.Allocating.{act_code}
use Rattle.pli_coding.specs.Assembly.{Code, ProcedureEntry, RaiseError, size_of}
use Rattle.pli_coding.specs.Entries.{arguments_copied}
use Rattle.pli_coding.specs.Environments.{Environment, none_taken}
use Rattle.pli_coding.specs.Frames.{result}
use Rattle.pli_coding.specs.Linking.{place_of}
use Rattle.pli_coding.specs.Procedures.{no_value}
use Rattle.pli_coding.specs.Registers.{held_registers}
use Rattle.pli_coding.specs.Statements.{stmts_code}
use Rattle.activation_relation.specs.CodeStores.{most_levels}
use Rattle.activation_relation.specs.Layers.{Layer, Point}
use Rattle.activation_relation.specs.Points.{Surroundings}
use Rattle.activation_relation.specs.ServiceLaws.{IsSystem}
use Rattle.run_steps.specs.Items.{Linked}
use Rattle.block_runs.specs.Bodies.{Function}
use Rattle.program_runs.specs.Calls.{left_over}
use Rattle.program_runs.specs.Procedures.{Procedure, block_of}
use Rattle.program_runs.specs.Statements.{AreMarked, Block, EachDoes, IsAmong, IsBegun}
use Rattle.expression_runs.specs.Laws as L
use Rattle.expression_runs.specs.Raises.{Routines}
use Rattle.expression_runs.specs.Values.{Setting}
use Rattle.expression_runs.specs.Variables.{IsNumber, Spot}
use Rattle.function_runs.specs.Functions.{function_tail}
use Rattle.argument_runs.specs.Copies.{IsCopied}
use Rattle.argument_runs.specs.CopyCalls.{Copying, HasRoomFor, IsFurther, IsOwnParameter, body_index, call_at}
use Rattle.argument_runs.specs.CopyCalls.{copy_block, copy_for, listing_of}
use Rattle.argument_runs.specs.Parameters.{IsParameter}

-- ---- the function

-- it leaves a number
abbrev pub number_function : Function
number_function = record { place = result; kind = Fixed 31 }

abbrev pub function_copying : Environment → Procedure → Code
function_copying e x =
    listing_of x
    ++ (arguments_copied e (0 ∷ [])
    ++ (act_code x.head.line ++ (stmts_code e none_taken x.body ++ function_tail x)))

-- wherever it is called
pub record IsCopyFunction (w : Surroundings) (code : List Instr) (c : Copying) : Type 0 where
  pub level : c.procedure.head.level < most_levels
  pub line : c.procedure.head.line < 2 ^ 31
  pub saved : c.procedure.saved ≤ held_registers
  pub place : place_of w.links (ProcedureEntry c.procedure.head.number) ≡ 4 * c.calling.entry
  pub stands : Linked w.links code c.calling.entry (function_copying c.environment c.procedure)
  pub end :
      c.calling.end
      ≡ body_index c + size_of (stmts_code c.environment none_taken c.procedure.body)
      + size_of (no_value c.procedure.head.line)
  pub kind : c.procedure.head.kind ≡ Y.ProcedureBlock
  pub labels : AreMarked w.links c.environment c.procedure.body (body_index c)
  pub acts : w.acts + 1 < 2 ^ 64
  -- where ERROR is raised
  pub routines : Routines w.links code
  pub raises : place_of w.links RaiseError ≡ 4 * (routines.at + 8)
  pub copied : (z : ℤ) → IsCopied c.environment (0 ∷ []) c.declared (copy_for c z)
  pub variables :
      (k : ℕ) (s : State) →
      block_variables_made (at_line c.around c.procedure.head.line) c.procedure.head c.procedure.head.kind k s
      ≡ Normal tt s

-- ---- its call

-- called from an index
abbrev pub called_by : Copying → (call : ℕ) → Copying
called_by c call =
    record {
      procedure = c.procedure;
      calling = record {
        parent = c.calling.parent;
        call = call;
        entry = c.calling.entry;
        end = c.calling.end;
      };
      environment = c.environment;
      around = c.around;
      declared = c.declared;
      number = c.number;
    }

abbrev pub function_with : Setting → Copying → Y.Number → Y.Number
function_with k c source =
    Y.NumberFrom
    (Y.Calling c.procedure.head.number k.block.environment.level
    (Y.ArgumentThen (Y.ByCopy (Y.FixedLeaf 31) (Y.StoredNumber 31 source)) Y.NoArgument))

-- six words are set aside around its argument
abbrev pub setting_in : Setting → Setting
setting_in k = record { block = k.block; labels = k.labels; around = k.around; most = k.most; words = 6 }

abbrev pub block_with :
    Setting → Copying → Layer → List Layer → (call : ℕ) → Point → (numbers : ℕ → ℕ) → ℤ → Block
block_with k c φ φs call p numbers z =
    copy_block (Some number_function) (call_at k.block (called_by c call) φ φs p numbers z)

-- the running block declares it, and the program has it; no words are set aside around the call itself
pub record IsCopyFunctionCall (k : Setting) (c : Copying) (φ : Layer) (φs : List Layer) (more : ℕ) : Type 0 where
  pub begun : IsBegun k.block
  pub function : IsCopyFunction k.block.call.surroundings k.block.call.code c
  pub room : HasRoomFor k.block.call.surroundings k.block.first c φ φs
  pub words : k.words ≡ 0
  pub few : 1 ≤ k.block.call.surroundings.serials
  pub small : k.block.call.surroundings.serials + 1 < 2 ^ 40
  pub level : k.block.environment.level ≡ k.block.call.beginning.layer.level
  pub parent : c.calling.parent ≡ length k.block.call.point.state.activations + 1
  pub found :
      procedure_numbered c.procedure.head.number k.around.program.procedures
      ≡ Some (record { block = block_of c.procedure; parameters = 0 ∷ []; result = Some (Y.FixedLeaf 31) })
  pub enter : k.around.enter ≡ entered k.around.program (suc more)
  pub around :
      c.around
      ≡ record { program = k.around.program; enter = entered k.around.program more; turns = suc more; line = 0 }
  pub enough : k.block.call.surroundings.acts < suc more + k.block.first.state.world.acts
  pub most : 4 + size_of (function_copying c.environment c.procedure) ≤ k.most

-- it leaves the function's value if its argument and its statements do what they mean, wherever it is called
abbrev pub CopyFunctionsDo : Type 0
CopyFunctionsDo =
    (k : Setting) (c : Copying) (source : Y.Number) (φ : Layer) (φs : List Layer) (need more : ℕ) →
    IsCopyFunctionCall k c φ φs more → L.Does (setting_in k) need source →
    ((call : ℕ) (p : Point) (numbers : ℕ → ℕ) (z : ℤ) → IsAmong k.block numbers p →
    IsSystem (force (block_with k c φ φs call p numbers z).first.state.activations C.Error)) →
    ((call : ℕ) (p : Point) (numbers : ℕ → ℕ) (z : ℤ) → IsAmong k.block numbers p → is_of_precision 31 z ≡ true →
    IsBegun (block_with k c φ φs call p numbers z) →
    EachDoes (block_with k c φ φs call p numbers z) (labels_in c.procedure.body ++ []) c.procedure.body (body_index c)
    left_over) →
    L.Does k need (function_with k c source)

-- what its statements know, as a procedure's do
pub record CopyFunctionsKnow : Type 0 where
  pub own :
      (k : Setting) (c : Copying) (φ : Layer) (φs : List Layer) (more call : ℕ) (p : Point) (numbers : ℕ → ℕ) (z : ℤ)
      (x : Spot) → IsCopyFunctionCall k c φ φs more → IsAmong k.block numbers p → IsOwnParameter c x →
      IsBegun (block_with k c φ φs call p numbers z) → IsParameter (block_with k c φ φs call p numbers z) x
  pub outer :
      (k : Setting) (c : Copying) (φ : Layer) (φs : List Layer) (more call : ℕ) (p : Point) (numbers : ℕ → ℕ) (z : ℤ)
      (x : Spot) → IsCopyFunctionCall k c φ φs more → IsAmong k.block numbers p → IsFurther k.block c x →
      IsNumber k.block x → IsBegun (block_with k c φ φs call p numbers z) →
      IsNumber (block_with k c φ φs call p numbers z) x
