-- Calls in expressions with an argument that is copied, of a function that the running block or one around it declares.
use Rattle.std.specs.Prelude.{ℕ, ℤ, suc, ◌+◌, ◌*◌, ◌^◌, ◌<◌, ◌≤◌, ◌≡◌, List, [], ◌∷◌, ◌++◌, Some, true, false, length}
use Rattle.std.specs.Prelude.{nat_lt}
use Rattle.rv_meaning.specs.declared.instr.Instr.{Instr}
use Rattle.pli_language.specs.declared.condition.Condition.TheVariants as C
use Rattle.pli_typing.specs.TypedTree as Y
use Rattle.pli_meaning.specs.DeclaredShapes.{procedure_numbered}
use Rattle.pli_meaning.specs.Executing.{entered, labels_in}
use Rattle.pli_meaning.specs.Numbers.{is_of_precision}
use Rattle.pli_meaning.specs.StorageState.{force, most_activations}
use Rattle.pli_coding.specs.Assembly.{ProcedureEntry, RaiseError, size_of}
use Rattle.pli_coding.specs.Environments.{none_taken}
use Rattle.pli_coding.specs.Linking.{place_of}
use Rattle.pli_coding.specs.Procedures.{no_value}
use Rattle.pli_coding.specs.Registers.{held_registers}
use Rattle.pli_coding.specs.Statements.{stmts_code}
use Rattle.activation_relation.specs.CodeStores.{most_levels}
use Rattle.activation_relation.specs.Layers.{Point}
use Rattle.activation_relation.specs.Points.{Surroundings}
use Rattle.activation_relation.specs.ServiceLaws.{IsSystem}
use Rattle.run_steps.specs.Items.{Linked}
use Rattle.program_runs.specs.Calls.{left_over}
use Rattle.program_runs.specs.Procedures.{block_of}
use Rattle.program_runs.specs.Statements.{AreMarked, Block, EachDoes, IsAmong, IsBegun}
use Rattle.expression_runs.specs.Laws as L
use Rattle.expression_runs.specs.Raises.{Routines}
use Rattle.expression_runs.specs.Values.{Setting}
use Rattle.function_runs.specs.Functions.{function_tail}
use Rattle.argument_runs.specs.Copies.{IsCopied}
use Rattle.argument_runs.specs.CopyCalls.{CopyCall, Copying, copy_for}
use Rattle.argument_runs.specs.CopyFunctions.{called_by, number_function, setting_in}
use Rattle.given_calls.specs.Given.{AreBeside, AreFullBeside, body_index, given_block, given_code}
use Rattle.given_calls.specs.GivenCalls.{GivenCall, IsDeclared, PassesLimit, PassesNone, called_with, calling_of}

abbrev pub given_value : GivenCall → Y.Number
given_value u = Y.NumberFrom (calling_of u)

-- ---- the function

-- wherever it is called
pub record IsGivenFunction (w : Surroundings) (code : List Instr) (c : Copying) : Type 0 where
  pub level : c.procedure.head.level < most_levels
  pub line : c.procedure.head.line < 2 ^ 31
  pub saved : c.procedure.saved ≤ held_registers
  pub place : place_of w.links (ProcedureEntry c.procedure.head.number) ≡ 4 * c.calling.entry
  pub stands :
      Linked w.links code c.calling.entry (given_code c.environment c.procedure (function_tail c.procedure))
  pub end :
      c.calling.end
      ≡ body_index c + size_of (stmts_code c.environment none_taken c.procedure.body)
      + size_of (no_value c.procedure.head.line)
  pub kind : c.procedure.head.kind ≡ Y.ProcedureBlock
  pub labels : AreMarked w.links c.environment c.procedure.body (body_index c)
  pub acts : w.acts + 1 < 2 ^ 64
  -- where ERROR is raised
  pub routines : Routines w.links code
  pub raises : place_of w.links RaiseError ≡ 4 * (routines.at + 8)
  pub copied : (z : ℤ) → IsCopied c.environment (0 ∷ []) c.declared (copy_for c z)

-- ---- its call

-- called from an index
abbrev pub called_there : GivenCall → (call : ℕ) → GivenCall
called_there u call = record u { callee = called_by u.callee call }

abbrev pub value_with : Setting → GivenCall → (call : ℕ) → Point → (numbers : ℕ → ℕ) → ℤ → CopyCall
value_with k u call p numbers z = called_with k.block (called_there u call) p numbers z

abbrev pub value_block : Setting → GivenCall → (call : ℕ) → Point → (numbers : ℕ → ℕ) → ℤ → Block
value_block k u call p numbers z = given_block (Some number_function) (value_with k u call p numbers z) u.made

-- no words are set aside around it
pub record IsGivenValue (k : Setting) (u : GivenCall) (more : ℕ) : Type 0 where
  pub function : IsGivenFunction k.block.call.surroundings k.block.call.code u.callee
  pub declared : IsDeclared k.block u more
  pub words : k.words ≡ 0
  pub found :
      procedure_numbered u.callee.procedure.head.number k.around.program.procedures
      ≡ Some (record {
        block = block_of u.callee.procedure;
        parameters = 0 ∷ [];
        result = Some (Y.FixedLeaf 31);
      })
  pub enter : k.around.enter ≡ entered k.around.program (suc more)
  pub around :
      u.callee.around
      ≡ record { program = k.around.program; enter = entered k.around.program more; turns = suc more; line = 0 }
  pub most :
      4 + size_of (given_code u.callee.environment u.callee.procedure (function_tail u.callee.procedure)) ≤ k.most

pub record GivenFunctionsDo : Type 0 where
  -- it leaves the function's value if its argument and its statements do what they mean, wherever it is called; no unit
  -- is in force for ERROR
  pub does :
      (k : Setting) (u : GivenCall) (need more : ℕ) → IsGivenValue k u more → PassesNone k.block.first u.callee →
      L.Does (setting_in k) need u.source →
      ((call : ℕ) (p : Point) (numbers : ℕ → ℕ) (z : ℤ) → IsAmong k.block numbers p → is_of_precision 31 z ≡ true →
      AreBeside (Some number_function) (value_with k u call p numbers z) u.made
      × IsSystem (force (value_block k u call p numbers z).first.state.activations C.Error)) →
      ((call : ℕ) (p : Point) (numbers : ℕ → ℕ) (z : ℤ) → IsAmong k.block numbers p → is_of_precision 31 z ≡ true →
      IsBegun (value_block k u call p numbers z) →
      EachDoes (value_block k u call p numbers z) (labels_in u.callee.procedure.body ++ []) u.callee.procedure.body
      (body_index u.callee) left_over) →
      L.Does k need (given_value u)
  pub ends :
      (k : Setting) (u : GivenCall) (need more : ℕ) → IsGivenValue k u more →
      nat_lt (length k.block.first.state.activations) most_activations ≡ false →
      L.Does (setting_in k) need u.source → L.Does k need (given_value u)
  pub full :
      (k : Setting) (u : GivenCall) (need more : ℕ) → IsGivenValue k u more → PassesLimit k.block.first u.callee →
      L.Does (setting_in k) need u.source → L.Does k need (given_value u)
  pub beside :
      (k : Setting) (u : GivenCall) (need more : ℕ) → IsGivenValue k u more → PassesNone k.block.first u.callee →
      L.Does (setting_in k) need u.source →
      ((call : ℕ) (p : Point) (numbers : ℕ → ℕ) (z : ℤ) → IsAmong k.block numbers p → is_of_precision 31 z ≡ true →
      AreFullBeside (Some number_function) (value_with k u call p numbers z)) → L.Does k need (given_value u)
