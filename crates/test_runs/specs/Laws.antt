-- The laws of tests at the points of a block.
use Rattle.std.specs.Prelude.{ℕ, suc, Bool, max}
use Rattle.pli_typing.specs.TypedTree as Y
use Rattle.expression_runs.specs.Laws.{Does}
use Rattle.expression_runs.specs.Values.{Setting}
use Rattle.test_runs.specs.Tests.{Tests}

-- each does what it means if its operands do
pub record BitsDo : Type 0 where
  pub constant : (k : Setting) (b : Bool) → Tests k 0 (Y.BitConstant b)
  -- a left operand waits in a register
  pub numbers :
      (k : Setting) (comparison : Y.Comparison) (left right : Y.Number) (m n : ℕ) → Does k m left → Does k n right →
      Tests k (max m (suc n)) (Y.NumbersCompared comparison left right)
  pub bits :
      (k : Setting) (comparison : Y.Comparison) (left right : Y.Bit) (m n : ℕ) → Tests k m left → Tests k n right →
      Tests k (max m (suc n)) (Y.BitsCompared comparison left right)
  pub conjunction :
      (k : Setting) (left right : Y.Bit) (m n : ℕ) → Tests k m left → Tests k n right →
      Tests k (max m (suc n)) (Y.Combined Y.Conjunction left right)
  pub disjunction :
      (k : Setting) (left right : Y.Bit) (m n : ℕ) → Tests k m left → Tests k n right →
      Tests k (max m (suc n)) (Y.Combined Y.Disjunction left right)
  pub negated : (k : Setting) (operand : Y.Bit) (m : ℕ) → Tests k m operand → Tests k m (Y.Negated operand)
