-- The laws of operators on numbers at the points of a block.
use Rattle.std.specs.Prelude.{ℕ, suc, max}
use Rattle.pli_typing.specs.TypedTree as Y
use Rattle.expression_runs.specs.Laws.{Does}
use Rattle.expression_runs.specs.Values.{OverflowComes, Setting}
use Rattle.operator_runs.specs.Divisors.{IsUndivided, ZeroDivideComes}
use Rattle.operator_runs.specs.Extremes.{AllDo}

-- each does what it means if its operands do, where FIXEDOVERFLOW and ZERODIVIDE come to what they mean
pub record OperatorsDo : Type 0 where
  pub product :
      (k : Setting) (left right : Y.Number) (m n : ℕ) → OverflowComes k → Does k m left → Does k n right →
      Does k (max m (suc n)) (Y.Calculated Y.Product left right)
  pub quotient :
      (k : Setting) (left right : Y.Number) (m n : ℕ) → OverflowComes k → ZeroDivideComes k → Does k m left →
      Does k n right → Does k (max m (suc n)) (Y.Calculated Y.Quotient left right)
  -- DIVIDE to 31 bits
  pub divided :
      (k : Setting) (left right : Y.Number) (m n : ℕ) → OverflowComes k → ZeroDivideComes k → Does k m left →
      Does k n right → Does k (max m (suc n)) (Y.Divided 31 left right)
  -- MOD
  pub modulo :
      (k : Setting) (left right : Y.Number) (m n : ℕ) → ZeroDivideComes k → Does k m left → Does k n right →
      Does k (max m (suc n)) (Y.Modulo left right)
  pub positive : (k : Setting) (operand : Y.Number) (m : ℕ) → Does k m operand → Does k m (Y.Signed Y.Positive operand)
  pub negative :
      (k : Setting) (operand : Y.Number) (m : ℕ) → OverflowComes k → Does k m operand →
      Does k (max m 1) (Y.Signed Y.Negative operand)
  -- ABS
  pub absolute :
      (k : Setting) (operand : Y.Number) (m : ℕ) → OverflowComes k → Does k m operand →
      Does k (max m 1) (Y.Absolute operand)
  -- MAX and MIN
  pub extreme :
      (k : Setting) (extremum : Y.Extremum) (first : Y.Number) (more : Y.Numbers) (m n : ℕ) → Does k m first →
      AllDo k n more → Does k (max m (suc n)) (Y.Extreme extremum first more)
  -- SIGN
  pub sign : (k : Setting) (operand : Y.Number) (m : ℕ) → Does k m operand → Does k m (Y.SignOf operand)

-- without a unit in force ZERODIVIDE ends the run
abbrev pub ZeroDivideEnds : Type 0
ZeroDivideEnds = (k : Setting) → IsUndivided k → ZeroDivideComes k
