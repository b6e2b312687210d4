-- The laws of such blocks: each expression leaves what it means, and each statement does what it means.
use Rattle.pli_language.specs.declared.condition.Condition.TheVariants as C
use Rattle.std.specs.Prelude.{ℕ, ◌≤◌, ◌≡◌, ◌++◌, Bool, true, List, []}
use Rattle.pli_typing.specs.TypedTree as Y
use Rattle.pli_meaning.specs.Control.{Label}
use Rattle.pli_meaning.specs.StorageState.{force}
use Rattle.activation_relation.specs.ServiceLaws.{IsSystem}
use Rattle.pli_meaning.specs.DeclaredShapes.{variables_of_block}
use Rattle.pli_meaning.specs.Executing.{labels_in}
use Rattle.pli_serving.specs.ServiceState.{Entry}
use Rattle.pli_coding.specs.Environments.{Environment}
use Rattle.pli_coding.specs.Registers.{held_registers}
use Rattle.pli_coding.specs.Statements.{block_held, block_words}
use Rattle.program_runs.specs.Statements.{AreMarked, Block, Does, EachDoes, IsBegun, waiting}
use Rattle.condition_codes.specs.Codes.{HasCode}
use Rattle.expression_runs.specs.Assignments.{setting_around}
use Rattle.expression_runs.specs.Laws as L
use Rattle.expression_runs.specs.Values.{Setting}
use Rattle.expression_runs.specs.Variables.{IsNumber, Spot}
use Rattle.parameter_runs.specs.Around.{IsParameterAround}
use Rattle.array_runs.specs.Arrays.{IsArray}
use Rattle.test_runs.specs.Tests.{Tests}
use Rattle.number_runs.specs.Knowledge.{AreAround, AreStanding, HasFrame, HasLists, IsReady, IsUnraised, KnowsLists}
use Rattle.number_runs.specs.Knowledge.{KnowsNumbers, KnowsPuts, KnowsRaises, Standing, KnowsAroundTexts}
use Rattle.number_runs.specs.Knowledge.{KnowsConstants, KnowsPlaced, MayBeSet, call_number, KnowsReads}
use Rattle.text_runs.specs.Laws.{TextDoes}
use Rattle.number_runs.specs.Numbers.{Scope, grid_known, is_array_known, is_known, is_number, is_received, is_test}
use Rattle.number_runs.specs.Numbers.{is_narrow_known, number_needs, number_sets, test_needs, test_sets, type_known}
use Rattle.number_runs.specs.Numbers.{is_text, text_needs, IsBare}
use Rattle.scalar_runs.specs.Scalars.{IsScalar}
use Rattle.number_runs.specs.Statements.{are_statements, begin_needs, begins_need, is_statement, statement_needs}
use Rattle.number_runs.specs.Statements.{statement_sets, statements_need, statements_set}
use Rattle.number_runs.specs.Variables.{are_known}

pub record ExpressionsDo : Type 0 where
  pub numbers :
      (s : Scope) (k : Setting) (x : Y.Number) (h : KnowsNumbers s k) → is_number s x ≡ true →
      HasLists h (number_sets x) → L.Does k (number_needs x) x
  pub tests :
      (s : Scope) (k : Setting) (x : Y.Bit) (h : KnowsNumbers s k) → is_test s x ≡ true → HasLists h (test_sets x) →
      Tests k (test_needs x) x
  -- texts, above those that wait
  pub texts :
      (entries : List Entry) (s : Scope) (k : Setting) (x : Y.Text) → KnowsNumbers s k → IsBare s →
      s.texts ≡ true → is_text s x ≡ true → TextDoes entries k (text_needs x) x

pub record BodiesDo : Type 0 where
  -- a statement does what it means, whatever lists of its block are around it
  pub statement :
      (s : Scope) (valued : Bool) (k : Block) (own labels : List Label) (stmt : Y.Stmt) (index most left' : ℕ)
      (r : IsReady s valued k own most left') → AreAround k own labels → is_statement s valued labels stmt ≡ true →
      statement_needs stmt ≤ k.registers → begin_needs stmt ≤ k.registers → HasFrame r 0 (statement_sets stmt) →
      Standing k stmt index →
      Does k labels stmt index left'
  -- so does each statement of a block's own list
  pub each :
      (s : Scope) (valued : Bool) (k : Block) (body : Y.Stmts) (index most left' : ℕ)
      (r : IsReady s valued k (labels_in body ++ []) most left') →
      are_statements s valued (labels_in body ++ []) body ≡ true →
      statements_need body ≤ k.registers → begins_need body ≤ k.registers → HasFrame r 0 (statements_set body) →
      AreStanding k body index →
      EachDoes k (labels_in body ++ []) body index left'
  -- and its labels stand where its statements do
  pub marked :
      (k : Block) (body : Y.Stmts) (index : ℕ) → AreStanding k body index →
      AreMarked k.call.surroundings.links k.environment body index
  -- and raises end the run where no unit is in force
  pub unraised :
      (s : Scope) (k : Block) (own : List Label) (most : ℕ) → IsUnraised k most → KnowsRaises s k own most
  -- there numbers may be written by the lists that are known
  pub written :
      (s : Scope) (k : Block) (most : ℕ) → IsBegun k → IsUnraised k most →
      ((x : Spot) → is_known s x ≡ true → IsNumber k x) →
      (s.elements ≡ true → (x : Spot) → is_array_known s x ≡ true → IsArray k x (grid_known s x)) →
      (s.narrows ≡ true → (x : Spot) → is_narrow_known s x ≡ true → IsScalar k x (type_known s x)) →
      ((x : Spot) → is_received s x ≡ true → IsParameterAround k x) → (s.codes ≡ true → HasCode k) →
      (s.texts ≡ true → KnowsConstants k) → KnowsLists k → (s.locates ≡ true → KnowsPlaced s k most) →
      KnowsPuts s k most
  -- and read
  pub read :
      (s : Scope) (k : Block) (most : ℕ) → IsUnraised k most → IsSystem (force k.first.state.activations C.Endfile) →
      k.around.program ≡ k.environment.program → KnowsReads s k most
  -- and texts may wait, if functions are called above them
  pub texts :
      (s : Scope) (k : Block) (own : List Label) (most : ℕ) → IsUnraised k most → KnowsConstants k →
      (s.waits ≡ true → (words : ℕ) → MayBeSet s words → (line : ℕ) (entries : List Entry) (level n : ℕ) →
      s.is_function level n ≡ true →
      L.Does (setting_around words (waiting entries k) [] line most) 0 (call_number level n)) →
      KnowsAroundTexts s k own most

-- a block whose variables and statements are these, and whose temporaries fit registers: its frame has the words that
-- loops set aside, and those of lists of arguments, and no others, and they take no register that it doesn't save
pub record TemporariesFit : Type 0 where
  pub words :
      (s : Scope) (valued : Bool) (e : Environment) (block : ℕ) (body : Y.Stmts) →
      are_known (variables_of_block e.program block) ≡ true →
      are_statements s valued (labels_in body ++ []) body ≡ true → statements_need body ≤ held_registers →
      block_words e block body ≡ statements_set body
  pub registers :
      (s : Scope) (valued : Bool) (e : Environment) (block : ℕ) (body : Y.Stmts) →
      are_known (variables_of_block e.program block) ≡ true →
      are_statements s valued (labels_in body ++ []) body ≡ true → statements_need body ≤ held_registers →
      statements_need body ≤ block_held e block body
  -- nor do those of the begin blocks among them
  pub begins :
      (s : Scope) (valued : Bool) (e : Environment) (block : ℕ) (body : Y.Stmts) →
      are_statements s valued (labels_in body ++ []) body ≡ true → begins_need body ≤ held_registers →
      begins_need body ≤ block_held e block body
