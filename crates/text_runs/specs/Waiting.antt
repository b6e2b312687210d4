-- What is known of a block and around its expressions, while texts wait above those that stood on the stack at its
-- first statement.
use Rattle.std.specs.Prelude.{ℕ, List, []}
use Rattle.pli_serving.specs.ServiceState.{Entry}
use Rattle.program_runs.specs.Calls.{Callee}
use Rattle.program_runs.specs.Statements.{Block, IsBegun, waiting}
use Rattle.expression_runs.specs.Raises.{IsUnraised}
use Rattle.expression_runs.specs.Values.{Setting}
use Rattle.expression_runs.specs.Variables.{IsNumber, Spot}
use Rattle.function_runs.specs.FunctionCalls.{IsFunctionCall}

-- around what is evaluated while these wait, and names no label of the block itself: a jump to one drops them
abbrev pub over : List Entry → Setting → Setting
over entries k = record k { block = waiting entries k.block; labels = [] }

pub record TextsWait : Type 0 where
  pub begun : (k : Block) (entries : List Entry) → IsBegun k → IsBegun (waiting entries k)
  pub number : (k : Block) (entries : List Entry) (x : Spot) → IsNumber k x → IsNumber (waiting entries k) x
  pub unraised : (k : Setting) (entries : List Entry) → IsUnraised k → IsUnraised (over entries k)
  pub call :
      (k : Setting) (entries : List Entry) (c : Callee) (more : ℕ) → IsFunctionCall k c more →
      IsFunctionCall (over entries k) c more
