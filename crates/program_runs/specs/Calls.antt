-- Calls of procedures whose statements are known: a whole block, and the statement CALL.
use Rattle.std.specs.Prelude.{ℕ, suc, List, ◌+◌, ◌*◌, ◌^◌, ◌<◌, ◌≤◌, ◌≡◌, [], ◌∷◌, ◌++◌, length, Some, None}
use Rattle.rv_meaning.specs.declared.instr.Instr.{Instr}
use Rattle.pli_typing.specs.TypedTree as Y
use Rattle.pli_meaning.specs.DeclaredShapes.{variables_of_block, procedure_numbered}
use Rattle.pli_language.specs.declared.condition.Condition.{Condition}
use Rattle.pli_meaning.specs.Control.{Label, Normal}
use Rattle.pli_meaning.specs.Executing.{block_run, block_variables_made, begun, entered, labels_in}
use Rattle.pli_meaning.specs.Raising.{Around, at_line}
use Rattle.pli_meaning.specs.StorageState.{Activation, OnUnit}
use Rattle.pli_coding.specs.Allocating.{act_code}
use Rattle.pli_coding.specs.Assembly.{CallTo, ProcedureEntry, size_of}
use Rattle.pli_coding.specs.Environments.{Environment, none_taken}
use Rattle.pli_coding.specs.Linking.{place_of}
use Rattle.pli_coding.specs.Statements.{stmt_code, stmts_code}
use Rattle.activation_relation.specs.Landing.{Changed, resumed, with_units}
use Rattle.activation_relation.specs.Layers.{Point, services_of}
use Rattle.activation_relation.specs.Points.{AreFew, Stands, Surroundings}
use Rattle.activation_relation.specs.Remaining.{Remains}
use Rattle.run_steps.specs.Engine.{Base}
use Rattle.run_steps.specs.Items.{Linked}
use Rattle.run_steps.specs.Reach.{Family, Reach, Comes, cost}
use Rattle.block_runs.specs.Beginnings.{IsCalling, begun_point}
use Rattle.block_runs.specs.Bodies.{Called, behind_aims}
use Rattle.block_runs.specs.Machines.{IsImage, IsIn, AreIn, acted}
use Rattle.program_runs.specs.Procedures.{Procedure, Calling, IsCoded, HasRoom, beginning_for, block_of, begin_of}
use Rattle.program_runs.specs.Procedures.{layer_for, procedure_code}
use Rattle.program_runs.specs.Statements.{AreMarked, Block, DoesWith, EachDoes, IsAmong, IsBegun, set_aside}

-- ---- a procedure where it is called

-- with the environment of its code, what is around its meaning, and what becomes of the point where its variables are
-- made
pub record Callee : Type 0 where
  pub procedure : Procedure
  pub calling : Calling
  pub environment : Environment
  pub around : Around
  pub made : Point → Point

-- the point behind its beginning
abbrev pub begun_at : Surroundings → Callee → Point → (numbers : ℕ → ℕ) → Point
begun_at w c p numbers = begun_point (beginning_for w p numbers c.procedure c.calling) p

abbrev pub called_at : Surroundings → List Instr → Callee → Point → (numbers : ℕ → ℕ) → Called
called_at w code c p numbers =
    record {
      surroundings = w;
      code = code;
      point = p;
      numbers = numbers;
      beginning = beginning_for w p numbers c.procedure c.calling;
      call = c.calling.call;
      entry = c.calling.entry;
      end = c.calling.end;
      function = None;
    }

-- its block, whose statements have its line
abbrev pub block_at : Surroundings → List Instr → Callee → Point → (numbers : ℕ → ℕ) → Block
block_at w code c p numbers =
    record {
      call = called_at w code c p numbers;
      first = acted c.procedure.head.line (c.made (begun_at w c p numbers));
      environment = c.environment;
      around = at_line c.around c.procedure.head.line;
      registers = c.procedure.saved;
      outers = [];
    }

-- the indices of its variables, of the act of its entry, and of its first statement
abbrev pub variables_index : Callee → ℕ
variables_index c = c.calling.entry + size_of (begin_of c.procedure)

abbrev pub act_index : Callee → ℕ
act_index c = variables_index c + size_of c.procedure.variables

abbrev pub body_index : Callee → ℕ
body_index c = act_index c + size_of (act_code c.procedure.head.line)

pub record IsCallee (w : Surroundings) (code : List Instr) (c : Callee) : Type 0 where
  pub coded : IsCoded c.procedure c.calling
  pub calls : Linked w.links code c.calling.call (CallTo (ProcedureEntry c.procedure.head.number) ∷ [])
  pub place : place_of w.links (ProcedureEntry c.procedure.head.number) ≡ 4 * c.calling.entry
  pub stands : Linked w.links code c.calling.entry (procedure_code c.environment c.procedure)
  pub end : c.calling.end ≡ body_index c + size_of (stmts_code c.environment none_taken c.procedure.body)
  pub kind : c.procedure.head.kind ≡ Y.ProcedureBlock
  pub labels : AreMarked w.links c.environment c.procedure.body (body_index c)
  pub acts : w.acts + 1 < 2 ^ 64

-- its variables are made as they are meant, and nothing else changes
pub record AreMade (w : Surroundings) (code : List Instr) (c : Callee) (p : Point) (numbers : ℕ → ℕ) : Type 0 where
  pub stands :
      Stands w (begun_at w c p numbers) × IsImage w code (begun_at w c p numbers) →
      Stands w (c.made (begun_at w c p numbers)) × IsImage w code (c.made (begun_at w c p numbers))
  pub comes :
      (credits : ℕ) (f : Family) → Stands w (begun_at w c p numbers) × IsImage w code (begun_at w c p numbers) →
      Linked w.links code (variables_index c) c.procedure.variables →
      AreIn w (begun_at w c p numbers) numbers (variables_index c) f →
      Reach code credits f (services_of (begun_at w c p numbers)) (credits + size_of c.procedure.variables)
      (services_of (c.made (begun_at w c p numbers)))
      (λ b y. IsIn w (c.made (begun_at w c p numbers)) numbers (act_index c) b y)
  pub means :
      block_variables_made (at_line c.around c.procedure.head.line) c.procedure.head c.procedure.head.kind w.acts
      (begun_at w c p numbers).state
      ≡ Normal tt (c.made (begun_at w c p numbers)).state
  pub activation : Activation
  pub parent : activation.parent ≡ c.calling.parent
  pub changed : Changed
  pub layers :
      (c.made (begun_at w c p numbers)).control.layers
      ≡ resumed changed (layer_for w p numbers c.procedure c.calling) ∷ p.control.layers
  pub own : List (Condition × OnUnit)
  pub activations :
      (c.made (begun_at w c p numbers)).state.activations ≡ with_units own activation ∷ p.state.activations
  pub idle : (c.made (begun_at w c p numbers)).control.waiting ≡ None
  pub world : (c.made (begun_at w c p numbers)).state.world ≡ p.state.world
  -- what lived where it was called lives on, and an act pays for the serials
  pub remains : Stands w (begun_at w c p numbers) → Remains p (c.made (begun_at w c p numbers))
  pub few : (c.made (begun_at w c p numbers)).state.serials ≤ p.state.serials + w.serials

-- the labels that its statements may name
abbrev pub labels_of : Callee → List Label
labels_of c = labels_in c.procedure.body ++ []

-- what its statements leave of credits at its end
abbrev pub left_over : ℕ
left_over = 2

-- it comes behind its call if each of its statements does what it means
abbrev pub ProceduresRun : Type 0
ProceduresRun =
    (w : Surroundings) (code : List Instr) (c : Callee) (p : Point) (numbers : ℕ → ℕ) (credits wanted : ℕ)
    (f : Family) → Stands w p × IsImage w code p → AreFew w p →
    IsCallee w code c × HasRoom w p c.procedure c.calling → AreMade w code c p numbers →
    ((n : ℕ) → numbers n < 2 ^ 32) →
    (IsBegun (block_at w code c p numbers) →
    EachDoes (block_at w code c p numbers) (labels_of c) c.procedure.body (body_index c) left_over) →
    w.acts < c.around.turns + (p.state.world.acts + 1) →
    credits + 4 + size_of (procedure_code c.environment c.procedure) ≤ cost code →
    AreIn w p numbers c.calling.call f →
    ((b : Base) → IsCalling p (beginning_for w p numbers c.procedure c.calling) b (f b)) →
    Comes code credits f (services_of p) (behind_aims (called_at w code c p numbers) wanted)
    (block_run c.around (block_of c.procedure) (begun (block_of c.procedure) c.calling.parent) w.acts p.state)

-- a procedure that has none makes none
abbrev pub NoneMade : Type 0
NoneMade =
    (w : Surroundings) (code : List Instr) (c : Callee) (p : Point) (numbers : ℕ → ℕ) →
    c.procedure.head.kind ≡ Y.ProcedureBlock → variables_of_block c.around.program c.procedure.head.number ≡ [] →
    (c.procedure.variables ≡ []) × (c.made ≡ (λ q. q)) → AreMade w code c p numbers

-- ---- CALL, in the block that declares the procedure

abbrev pub call_of : Block → Callee → (line : ℕ) → Y.Stmt
call_of k c line = Y.CallProcedure (Y.Calling c.procedure.head.number k.environment.level Y.NoArgument) line

-- while so many words are set aside
pub record IsCallWith (words : ℕ) (k : Block) (c : Callee) (line index more : ℕ) : Type 0 where
  pub line_fits : line < 2 ^ 31
  pub callee : IsCallee k.call.surroundings k.call.code c
  pub room : HasRoom k.call.surroundings k.first c.procedure c.calling
  -- its code; the call is the last of it
  pub statement :
      Linked k.call.surroundings.links k.call.code index
      (stmt_code k.environment (set_aside words) (call_of k c line))
  pub call : c.calling.call + 2 ≡ index + size_of (stmt_code k.environment (set_aside words) (call_of k c line))
  -- its static parent is the running block
  pub level : k.environment.level ≡ k.call.beginning.layer.level
  pub parent : c.calling.parent ≡ length k.call.point.state.activations + 1
  -- and the program has it
  pub found :
      procedure_numbered c.procedure.head.number k.around.program.procedures
      ≡ Some (record { block = block_of c.procedure; parameters = []; result = None })
  pub enter : k.around.enter ≡ entered k.around.program (suc more)
  pub around :
      c.around
      ≡ record { program = k.around.program; enter = entered k.around.program more; turns = suc more; line = 0 }
  -- in which there are turns enough for the acts that are left
  pub enough : k.call.surroundings.acts < suc more + k.first.state.world.acts

abbrev pub IsCall : Block → Callee → (line index more : ℕ) → Type 0
IsCall k c line index more = IsCallWith 0 k c line index more

-- it does what it means if the procedure's statements do, wherever it is called
abbrev pub CallsDo : Type 0
CallsDo =
    (words : ℕ) → words < 2 ^ 20 → (k : Block) (c : Callee) (line index left' more : ℕ) →
    IsCallWith words k c line index more →
    ((p : Point) (numbers : ℕ → ℕ) → IsAmong k numbers p →
    AreMade k.call.surroundings k.call.code c p numbers) →
    ((p : Point) (numbers : ℕ → ℕ) → IsAmong k numbers p →
    IsBegun (block_at k.call.surroundings k.call.code c p numbers) →
    EachDoes (block_at k.call.surroundings k.call.code c p numbers) (labels_of c) c.procedure.body (body_index c)
    left_over) → IsBegun k → (labels : List Label) → DoesWith words k labels (call_of k c line) index left'
