-- Procedures without parameters as a program has them: their code, and the layer that a call makes.
use Rattle.std.specs.Prelude.{ℕ, ◌+◌, ◌^◌, ◌<◌, ◌≤◌, ◌≡◌, ◌++◌, List, [], ◌∷◌, nat_lt, true, length, None, Some}
use Rattle.rv_meaning.specs.declared.instr.Instr.{Instr}
use Rattle.pli_typing.specs.TypedTree as Y
use Rattle.pli_meaning.specs.Executing.{begun}
use Rattle.pli_meaning.specs.StorageState.{most_activations}
use Rattle.pli_serving.specs.ServiceState as S
use Rattle.pli_coding.specs.Allocating.{act_code}
use Rattle.pli_coding.specs.Assembly.{Code, Mark, ProcedureEntry, ReturnPlace}
use Rattle.pli_coding.specs.Entries.{frame_begun, block_entered, block_left, variables_code}
use Rattle.pli_coding.specs.Environments.{Environment, none_taken}
use Rattle.pli_coding.specs.Frames.{MemoryParts, fixed_size, temporary_bytes}
use Rattle.pli_coding.specs.Instructions.{move}
use Rattle.pli_coding.specs.Procedures.{procedure_with, frame_returned}
use Rattle.pli_coding.specs.Registers.{held_registers, a1, a2, a3, u5}
use Rattle.pli_coding.specs.Statements.{stmts_code}
use Rattle.run_steps.specs.Engine.{most_code}
use Rattle.activation_relation.specs.Chains.{HasParent}
use Rattle.activation_relation.specs.CodeStores.{most_levels}
use Rattle.activation_relation.specs.Frames.{upper_top, lower_end}
use Rattle.activation_relation.specs.Layers.{Layer, Point}
use Rattle.activation_relation.specs.Points.{Surroundings, Stands}
use Rattle.block_runs.specs.Beginnings.{Beginning, IsBeginning}
use Rattle.block_runs.specs.Machines.{IsImage}

-- its block, the words for temporaries of its frame, how many registers it saves, and the code that makes its variables
pub record Procedure : Type 0 where
  pub head : Y.BlockHead
  pub body : Y.Stmts
  pub words : ℕ
  pub saved : ℕ
  pub variables : Code

abbrev pub block_of : Procedure → Y.Block
block_of x = Y.BlockOf x.head x.body

-- ---- its code: its beginning, its variables, the act of its entry, its statements and its end

abbrev pub end_of : Procedure → Code
end_of x = block_left 0 ++ frame_returned x.words x.saved

abbrev pub begin_of : Procedure → Code
begin_of x =
    frame_begun x.words x.head.level 0 (Some x.saved)
    ++ (move u5 a1 ∷ move a3 a2 ∷ block_entered 0 x.head.line)

abbrev pub procedure_code : Environment → Procedure → Code
procedure_code e x =
    begin_of x
    ++ (x.variables
    ++ (act_code x.head.line
    ++ (stmts_code e none_taken x.body ++ (Mark (ReturnPlace x.head.number) ∷ end_of x))))

-- ---- the layer of a call

-- the height of its static parent, and the indices of the call, of its code, and of its end
pub record Calling : Type 0 where
  pub parent : ℕ
  pub call : ℕ
  pub entry : ℕ
  pub end : ℕ

abbrev pub frame_for : MemoryParts → List Layer → Procedure → ℕ
frame_for parts φs x = upper_top parts φs + temporary_bytes x.words

abbrev pub layer_for : Surroundings → Point → (numbers : ℕ → ℕ) → Procedure → Calling → Layer
layer_for w p numbers x y =
    record {
      block = x.head.number;
      level = x.head.level;
      kind = S.ProcedureBlock;
      units = [];
      at = frame_for w.parts p.control.layers x;
      words = x.words;
      parameters = 0;
      back = y.call + 2;
      saved = x.saved;
      held = numbers;
      waits = λ n. None;
      told = λ n. None;
      list = None;
      top = frame_for w.parts p.control.layers x + fixed_size x.head.level 0;
      lower = lower_end w.parts p.control.layers;
      entries = p.control.entries;
      edits = p.control.edits;
      line = p.control.line;
      carried = λ label. None;
    }

abbrev pub beginning_for : Surroundings → Point → (numbers : ℕ → ℕ) → Procedure → Calling → Beginning
beginning_for w p numbers x y =
    record {
      head = x.head;
      entry = begun (block_of x) y.parent;
      layer = layer_for w p numbers x y;
      texts = 0;
    }

-- it fits what code can say
pub record IsCoded (x : Procedure) (y : Calling) : Type 0 where
  pub level : x.head.level < most_levels
  pub line : x.head.line < 2 ^ 31
  pub saved : x.saved ≤ held_registers
  pub back : y.call + 2 ≤ most_code

-- and the point: one more block may be active, its frame fits between the stacks, and its static parent is active
pub record HasRoom (w : Surroundings) (p : Point) (x : Procedure) (y : Calling) : Type 0 where
  pub room : frame_for w.parts p.control.layers x + fixed_size x.head.level 0 ≤ lower_end w.parts p.control.layers
  pub shallow : nat_lt (length p.state.activations) most_activations ≡ true
  pub parent : HasParent x.head.level y.parent p.state.activations
  pub idle : p.control.waiting ≡ None

pub record ProceduresBegin : Type 0 where
  -- the layer is what the code of its beginning makes
  pub begins :
      (w : Surroundings) (code : List Instr) (p : Point) (numbers : ℕ → ℕ) (x : Procedure) (y : Calling) →
      Stands w p × IsImage w code p → IsCoded x y × HasRoom w p x y → ((n : ℕ) → numbers n < 2 ^ 32) →
      IsBeginning w p numbers (beginning_for w p numbers x y)
  -- and its code is that which the program's procedure has
  pub coded :
      (e : Environment) (x : Procedure) → variables_code e x.head.line ≡ x.variables →
      procedure_with e x.head x.body x.words x.saved [] None ≡ Mark (ProcedureEntry x.head.number) ∷ procedure_code e x
