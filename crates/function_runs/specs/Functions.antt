-- Functions without parameters that return FIXED BINARY(31): their code, how they are called, and what they come to.
use Rattle.std.specs.Prelude.{ℕ, ◌+◌, ◌*◌, ◌^◌, ◌<◌, ◌≤◌, ◌≡◌, true, pos, List, [], ◌∷◌, ◌++◌, Some}
use Rattle.rv_meaning.specs.declared.instr.Instr.{Instr}
use Rattle.pli_language.specs.declared.condition.Condition.TheVariants as C
use Rattle.pli_typing.specs.Signatures.{Fixed}
use Rattle.pli_typing.specs.TypedTree as Y
use Rattle.pli_meaning.specs.Executing.{block_run}
use Rattle.pli_meaning.specs.Raising.{Entry, at_line}
use Rattle.pli_meaning.specs.StorageState.{force}
use Rattle.pli_coding.specs.Allocating.{act_code}
use Rattle.pli_coding.specs.Assembly.{CallTo, Code, Mark, ProcedureEntry, RaiseError, ReturnPlace, size_of}
use Rattle.pli_coding.specs.Entries.{block_left}
use Rattle.pli_coding.specs.Environments.{Environment, none_taken}
use Rattle.pli_coding.specs.Frames.{result}
use Rattle.pli_coding.specs.Instructions.{load_word}
use Rattle.pli_coding.specs.Linking.{place_of}
use Rattle.pli_coding.specs.Procedures.{frame_returned, no_value}
use Rattle.pli_coding.specs.Registers.{a0, frame_register, held_registers}
use Rattle.pli_coding.specs.Statements.{stmts_code}
use Rattle.activation_relation.specs.CodeStores.{most_levels}
use Rattle.activation_relation.specs.Layers.{Point, services_of}
use Rattle.activation_relation.specs.Points.{AreFew, Stands, Surroundings}
use Rattle.activation_relation.specs.ServiceLaws.{IsSystem}
use Rattle.run_steps.specs.Engine.{Base}
use Rattle.run_steps.specs.Items.{Linked}
use Rattle.run_steps.specs.Reach.{Comes, Family, cost}
use Rattle.block_runs.specs.Beginnings.{Beginning, IsCalling}
use Rattle.block_runs.specs.Bodies.{Called, behind_aims}
use Rattle.block_runs.specs.Machines.{AreIn, IsImage, acted}
use Rattle.program_runs.specs.Calls.{AreMade, Callee, begun_at, body_index, labels_of, left_over}
use Rattle.program_runs.specs.Procedures.{Calling, HasRoom, Procedure, begin_of, block_of, layer_for}
use Rattle.program_runs.specs.Statements.{AreMarked, Block, EachDoes, IsBegun}
use Rattle.expression_runs.specs.Raises.{Routines}

-- ---- its code

-- its end: its word into a0, and back
abbrev pub function_end : Procedure → Code
function_end x = block_left 0 ++ (load_word a0 frame_register (pos result) ++ frame_returned x.words x.saved)

-- behind its statements it is ERROR that no value was returned
abbrev pub function_tail : Procedure → Code
function_tail x = no_value x.head.line ++ (Mark (ReturnPlace x.head.number) ∷ function_end x)

abbrev pub function_code : Environment → Procedure → Code
function_code e x =
    begin_of x
    ++ (x.variables ++ (act_code x.head.line ++ (stmts_code e none_taken x.body ++ function_tail x)))

-- ---- its call

abbrev pub function_entry : Procedure → (parent : ℕ) → Entry
function_entry x parent =
    record {
      block = block_of x;
      parent = parent;
      oncode = 0;
      parameters = [];
      arguments = [];
      is_function = true;
    }

abbrev pub function_beginning : Surroundings → Point → (numbers : ℕ → ℕ) → Procedure → Calling → Beginning
function_beginning w p numbers x y =
    record {
      head = x.head;
      entry = function_entry x y.parent;
      layer = layer_for w p numbers x y;
      texts = 0;
    }

abbrev pub function_at : Surroundings → List Instr → Callee → Point → (numbers : ℕ → ℕ) → Called
function_at w code c p numbers =
    record {
      surroundings = w;
      code = code;
      point = p;
      numbers = numbers;
      beginning = function_beginning w p numbers c.procedure c.calling;
      call = c.calling.call;
      entry = c.calling.entry;
      end = c.calling.end;
      function = Some (record { place = result; kind = Fixed 31 });
    }

-- its block, whose statements have its line
abbrev pub function_block : Surroundings → List Instr → Callee → Point → (numbers : ℕ → ℕ) → Block
function_block w code c p numbers =
    record {
      call = function_at w code c p numbers;
      first = acted c.procedure.head.line (c.made (begun_at w c p numbers));
      environment = c.environment;
      around = at_line c.around c.procedure.head.line;
      registers = c.procedure.saved;
      outers = [];
    }

-- wherever it is called
pub record IsFunction (w : Surroundings) (code : List Instr) (c : Callee) : Type 0 where
  pub level : c.procedure.head.level < most_levels
  pub line : c.procedure.head.line < 2 ^ 31
  pub saved : c.procedure.saved ≤ held_registers
  pub place : place_of w.links (ProcedureEntry c.procedure.head.number) ≡ 4 * c.calling.entry
  pub stands : Linked w.links code c.calling.entry (function_code c.environment c.procedure)
  pub end :
      c.calling.end
      ≡ body_index c + size_of (stmts_code c.environment none_taken c.procedure.body)
      + size_of (no_value c.procedure.head.line)
  pub kind : c.procedure.head.kind ≡ Y.ProcedureBlock
  pub labels : AreMarked w.links c.environment c.procedure.body (body_index c)
  pub acts : w.acts + 1 < 2 ^ 64
  -- where ERROR is raised
  pub routines : Routines w.links code
  pub raises : place_of w.links RaiseError ≡ 4 * (routines.at + 8)

-- it comes behind its call, with its word in a0, if each of its statements does what it means; no unit is in force for
-- ERROR
abbrev pub FunctionsRun : Type 0
FunctionsRun =
    (w : Surroundings) (code : List Instr) (c : Callee) (p : Point) (numbers : ℕ → ℕ) (credits wanted : ℕ)
    (f : Family) → Stands w p × IsImage w code p → AreFew w p →
    IsFunction w code c × HasRoom w p c.procedure c.calling →
    Linked w.links code c.calling.call (CallTo (ProcedureEntry c.procedure.head.number) ∷ []) →
    AreMade w code c p numbers → ((n : ℕ) → numbers n < 2 ^ 32) →
    (IsBegun (function_block w code c p numbers) →
    EachDoes (function_block w code c p numbers) (labels_of c) c.procedure.body (body_index c) left_over) →
    IsSystem (force (function_block w code c p numbers).first.state.activations C.Error) →
    w.acts < c.around.turns + (p.state.world.acts + 1) →
    credits + 4 + size_of (function_code c.environment c.procedure) ≤ cost code →
    AreIn w p numbers c.calling.call f →
    ((b : Base) → IsCalling p (function_beginning w p numbers c.procedure c.calling) b (f b)) →
    Comes code credits f (services_of p) (behind_aims (function_at w code c p numbers) wanted)
    (block_run c.around (block_of c.procedure) (function_entry c.procedure c.calling.parent) w.acts p.state)
