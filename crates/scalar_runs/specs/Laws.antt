-- The laws of scalars in expressions at the points of a block.
use Rattle.std.specs.Prelude.{ℕ, suc, ◌<◌, ◌≤◌, max}
use Rattle.pli_typing.specs.TypedTree as Y
use Rattle.program_runs.specs.Statements.{IsBegun}
use Rattle.expression_runs.specs.Laws.{Does}
use Rattle.expression_runs.specs.Values.{OverflowComes, Setting}
use Rattle.expression_runs.specs.Variables.{Spot, whole}
use Rattle.operator_runs.specs.Divisors.{ZeroDivideComes}
use Rattle.test_runs.specs.Tests.{Tests}
use Rattle.scalar_runs.specs.Fitted.{Fits}
use Rattle.scalar_runs.specs.Scalars.{IsBit, IsFixed}

pub record ScalarsDo : Type 0 where
  -- a variable of the block or of one around it
  pub number :
      (k : Setting) (x : Spot) (precision : ℕ) → IsBegun k.block → IsFixed k.block x precision →
      Does k 0 (Y.NumberIn (whole x))
  pub bit : (k : Setting) (x : Spot) → IsBegun k.block → IsBit k.block x → Tests k 0 (Y.BitIn (whole x))
  -- a bit as a number
  pub converted : (k : Setting) (x : Y.Bit) (m : ℕ) → Tests k m x → Does k m (Y.NumberOfBit x)
  -- DIVIDE; FIXEDOVERFLOW and ZERODIVIDE come to what they mean
  pub divided :
      (k : Setting) (left right : Y.Number) (precision m n : ℕ) → precision ≤ 31 → OverflowComes k →
      ZeroDivideComes k → Does k m left → Does k n right →
      Does k (max m (suc n)) (Y.Divided precision left right)

pub record NumbersFit : Type 0 where
  -- a number where fewer bits are due: FIXEDOVERFLOW where it has more, behind which it is cut to so many
  pub fewer :
      (k : Setting) (x : Y.Number) (precision m : ℕ) → precision < 31 → OverflowComes k → Does k m x →
      Fits k (max m 1) precision x
  -- each has 31
  pub all : (k : Setting) (x : Y.Number) (m : ℕ) → Does k m x → Fits k m 31 x
