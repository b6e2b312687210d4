-- The laws of expressions at the points of a block.
use Rattle.std.specs.Prelude.{ℕ, suc, ◌^◌, ◌<◌, max}
use Rattle.pli_typing.specs.TypedTree as Y
use Rattle.pli_meaning.specs.Evaluating.{number}
use Rattle.pli_coding.specs.Expressions.{number_code}
use Rattle.program_runs.specs.Statements.{IsBegun}
use Rattle.expression_runs.specs.Raises.{IsUnraised}
use Rattle.expression_runs.specs.Values.{Evaluates, OverflowComes, Setting}
use Rattle.expression_runs.specs.Variables.{IsNumber, Spot, whole}

-- the code of an expression does what it means, with so many registers
abbrev pub Does : Setting → (need : ℕ) → Y.Number → Type 0
Does k need x = Evaluates k need (λ taken. number_code k.block.environment taken x) (number k.around x)

pub record NumbersDo : Type 0 where
  pub constant : (k : Setting) (n : ℕ) → n < 2 ^ 31 → Does k 0 (Y.NumberConstant n)
  -- a variable of the block or of one around it
  pub variable : (k : Setting) (x : Spot) → IsBegun k.block → IsNumber k.block x → Does k 0 (Y.NumberIn (whole x))
  -- a left operand waits in a register; FIXEDOVERFLOW comes to what it means
  pub sum :
      (k : Setting) (left right : Y.Number) (m n : ℕ) → OverflowComes k → Does k m left → Does k n right →
      Does k (max m (suc n)) (Y.Calculated Y.Sum left right)
  pub difference :
      (k : Setting) (left right : Y.Number) (m n : ℕ) → OverflowComes k → Does k m left → Does k n right →
      Does k (max m (suc n)) (Y.Calculated Y.Difference left right)

-- without a unit in force it ends the run
abbrev pub OverflowEnds : Type 0
OverflowEnds = (k : Setting) → IsUnraised k → OverflowComes k
