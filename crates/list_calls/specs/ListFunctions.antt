-- Calls in expressions with a list of arguments, of a function that the running block or one around it declares, while
-- words of the frame are set aside.
use Rattle.std.specs.Prelude.{ℕ, suc, ◌+◌, ◌^◌, ◌<◌, ◌≤◌, ◌≡◌, List, [], ◌++◌, Some, false, nat_lt, length, ◌*◌}
use Rattle.rv_meaning.specs.declared.instr.Instr.{Instr}
use Rattle.pli_language.specs.declared.condition.Condition.TheVariants as C
use Rattle.pli_typing.specs.TypedTree as Y
use Rattle.pli_meaning.specs.DeclaredShapes.{procedure_numbered}
use Rattle.pli_meaning.specs.Executing.{entered, labels_in}
use Rattle.pli_meaning.specs.StorageState.{force, most_activations}
use Rattle.pli_coding.specs.Assembly.{ProcedureEntry, RaiseError, size_of}
use Rattle.pli_coding.specs.Environments.{none_taken}
use Rattle.pli_coding.specs.Linking.{place_of}
use Rattle.pli_coding.specs.Procedures.{no_value}
use Rattle.pli_coding.specs.Registers.{held_registers}
use Rattle.pli_coding.specs.Statements.{stmts_code}
use Rattle.activation_relation.specs.CodeStores.{most_levels}
use Rattle.activation_relation.specs.Layers.{Point}
use Rattle.activation_relation.specs.Points.{Surroundings}
use Rattle.activation_relation.specs.ServiceLaws.{IsSystem}
use Rattle.run_steps.specs.Items.{Linked}
use Rattle.program_runs.specs.Calls.{left_over}
use Rattle.program_runs.specs.Procedures.{IsCoded, block_of}
use Rattle.program_runs.specs.Statements.{AreMarked, Block, EachDoes, IsAmong, IsBegun}
use Rattle.expression_runs.specs.Laws as L
use Rattle.expression_runs.specs.Raises.{Routines}
use Rattle.expression_runs.specs.Values.{Setting}
use Rattle.function_runs.specs.Functions.{function_tail}
use Rattle.argument_runs.specs.CopyFunctions.{number_function}
use Rattle.list_calls.specs.Arguments.{ComeTo, EachGives}
use Rattle.list_calls.specs.ListCalls.{IsDeclared, Listed, PassesLimit, PassesNone, all_words, called_with, calling_of}
use Rattle.list_calls.specs.Lists.{Passing, indices_of}
use Rattle.list_calls.specs.Taking.{AreBeside, AreFullBeside, HasParameters, ListCall, Taking, body_index, list_block}
use Rattle.list_calls.specs.Taking.{taking_code}

abbrev pub listed_value : Listed → Y.Number
listed_value u = Y.NumberFrom (calling_of u)

-- ---- the function

-- wherever it is called
pub record IsTakingFunction (w : Surroundings) (code : List Instr) (c : Taking) : Type 0 where
  pub level : c.procedure.head.level < most_levels
  pub line : c.procedure.head.line < 2 ^ 31
  pub saved : c.procedure.saved ≤ held_registers
  pub place : place_of w.links (ProcedureEntry c.procedure.head.number) ≡ 4 * c.calling.entry
  pub stands : Linked w.links code c.calling.entry (taking_code c (function_tail c.procedure))
  pub end :
      c.calling.end
      ≡ body_index c + size_of (stmts_code c.environment none_taken c.procedure.body)
      + size_of (no_value c.procedure.head.line)
  pub kind : c.procedure.head.kind ≡ Y.ProcedureBlock
  pub labels : AreMarked w.links c.environment c.procedure.body (body_index c)
  pub acts : w.acts + 1 < 2 ^ 64
  -- where ERROR is raised
  pub routines : Routines w.links code
  pub raises : place_of w.links RaiseError ≡ 4 * (routines.at + 8)
  pub parameters : HasParameters c

-- ---- its call

-- called from an index
abbrev pub taking_by : Taking → (call : ℕ) → Taking
taking_by c call =
    record {
      procedure = c.procedure;
      calling = record {
        parent = c.calling.parent;
        call = call;
        entry = c.calling.entry;
        end = c.calling.end;
      };
      environment = c.environment;
      around = c.around;
      parameters = c.parameters;
    }

abbrev pub listed_there : Listed → (call : ℕ) → Listed
listed_there u call = record u { callee = taking_by u.callee call }

abbrev pub value_with : Setting → Listed → (call : ℕ) → Point → (numbers : ℕ → ℕ) → List Passing → ListCall
value_with k u call p numbers ys = called_with k.block (listed_there u call) p numbers ys

abbrev pub value_block : Setting → Listed → (call : ℕ) → Point → (numbers : ℕ → ℕ) → List Passing → Block
value_block k u call p numbers ys = list_block (Some number_function) (value_with k u call p numbers ys) u.made

-- behind the words that are set aside around it
pub record IsListedValue (k : Setting) (u : Listed) (more : ℕ) : Type 0 where
  pub function : IsTakingFunction k.block.call.surroundings k.block.call.code u.callee
  pub declared : IsDeclared k.block u more
  pub words : k.words ≡ u.words
  -- whatever type its declaration has
  pub type : Y.LeafType
  pub found :
      procedure_numbered u.callee.procedure.head.number k.around.program.procedures
      ≡ Some (record {
        block = block_of u.callee.procedure;
        parameters = indices_of u.callee.parameters;
        result = Some type;
      })
  pub enter : k.around.enter ≡ entered k.around.program (suc more)
  pub around :
      u.callee.around
      ≡ record { program = k.around.program; enter = entered k.around.program more; turns = suc more; line = 0 }
  pub most : 4 + size_of (taking_code u.callee (function_tail u.callee.procedure)) ≤ k.most

-- its arguments do what they mean
abbrev pub ValuesGive : Setting → Listed → (need : ℕ) → Type 0
ValuesGive k u need = EachGives k need u.layer u.others u.words (all_words u) u.layer.waits u.ways

pub record ListFunctionsDo : Type 0 where
  -- it leaves the function's value if its arguments and its statements do what they mean, wherever it is called; no
  -- unit is in force for ERROR
  pub does :
      (k : Setting) (u : Listed) (need more : ℕ) → IsListedValue k u more → PassesNone k.block.first u.ways →
      ValuesGive k u need →
      ((call : ℕ) (p : Point) (numbers : ℕ → ℕ) (ys : List Passing) → IsAmong k.block numbers p → ComeTo u.ways ys →
      AreBeside (Some number_function) (value_with k u call p numbers ys) u.made
      × IsSystem (force (value_block k u call p numbers ys).first.state.activations C.Error)) →
      ((call : ℕ) (p : Point) (numbers : ℕ → ℕ) (ys : List Passing) → IsAmong k.block numbers p → ComeTo u.ways ys →
      IsCoded u.callee.procedure (listed_there u call).callee.calling →
      IsBegun (value_block k u call p numbers ys) →
      EachDoes (value_block k u call p numbers ys) (labels_in u.callee.procedure.body ++ []) u.callee.procedure.body
      (body_index u.callee) left_over) →
      L.Does k need (listed_value u)
  pub ends :
      (k : Setting) (u : Listed) (need more : ℕ) → IsListedValue k u more →
      nat_lt (length k.block.first.state.activations) most_activations ≡ false → ValuesGive k u need →
      L.Does k need (listed_value u)
  pub full :
      (k : Setting) (u : Listed) (need more : ℕ) → IsListedValue k u more → PassesLimit k.block.first u.ways →
      ValuesGive k u need → L.Does k need (listed_value u)
  pub beside :
      (k : Setting) (u : Listed) (need more : ℕ) → IsListedValue k u more → PassesNone k.block.first u.ways →
      ValuesGive k u need →
      ((call : ℕ) (p : Point) (numbers : ℕ → ℕ) (ys : List Passing) → IsAmong k.block numbers p → ComeTo u.ways ys →
      AreFullBeside (Some number_function) (value_with k u call p numbers ys)) → L.Does k need (listed_value u)
