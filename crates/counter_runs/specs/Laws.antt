-- The laws of DO with a variable that counts.
use Rattle.std.specs.Prelude.{ℕ, ℤ, ◌+◌, ◌^◌, ◌<◌, ◌≡◌, ◌∷◌, ◌++◌, List, Option, neg_ℤ, pos}
use Rattle.pli_typing.specs.Signatures.{Bounds}
use Rattle.pli_typing.specs.TypedTree as Y
use Rattle.pli_meaning.specs.Control.{Label}
use Rattle.pli_meaning.specs.Executing.{labels_in}
use Rattle.activation_relation.specs.Layers.{Layer}
use Rattle.run_steps.specs.Numbers.{IsWide}
use Rattle.program_runs.specs.Statements.{Block, DoesWith, EachDoesWith, IsBegun}
use Rattle.expression_runs.specs.Laws as L
use Rattle.expression_runs.specs.Values.{OverflowComes, Setting}
use Rattle.expression_runs.specs.Variables.{IsNumber, Spot, whole}
use Rattle.variable_runs.specs.Known.{IsKnown}
use Rattle.element_runs.specs.Arrays.{IsArray, element}
use Rattle.element_runs.specs.Subscripts.{IsSubscript, SubscriptComes}
use Rattle.test_runs.specs.Choices.{IsInnerWith}
use Rattle.counter_runs.specs.Counters.{IsCounter}
use Rattle.counter_runs.specs.Counts.{IsStep}
use Rattle.counter_runs.specs.Counts.{Counting, IsCount, IsTested, TurnDoes, body_index, count_of, setting_with}
use Rattle.counter_runs.specs.Counts.{starting}
use Rattle.counter_runs.specs.Counts.{turning}
use Rattle.counter_runs.specs.Words.{telling}

-- it does what it means if its start and its limit do, its variable is read and assigned, and its test and its
-- statements do, whatever its limit is; it may stand in the turns of another one
abbrev pub CountsDo : Type 0
CountsDo =
    (words : ℕ) (k : Block) (c : Counting) (φ : Layer) (φs : List Layer) (labels : List Label)
    (index left' need most : ℕ) →
    IsCount words k c φ φs index need most → L.Does (setting_with k labels c.line most (words + 3)) need c.start →
    ((z : ℤ) → IsWide z → L.Does (setting_with (starting words φ φs k z) labels c.line most (words + 3)) need c.limit) →
    ((y : ℤ) → IsWide y → IsCounter (setting_with (turning words φ φs k y) labels c.line most (words + 2)) need
    c.counter) →
    ((y : ℤ) → IsWide y → OverflowComes (setting_with (turning words φ φs k y) labels c.line most (words + 2))) →
    ((y : ℤ) → IsWide y → IsTested (setting_with (turning words φ φs k y) labels c.line most (words + 2)) need
    c.condition) →
    ((y : ℤ) → IsWide y → TurnDoes words (turning words φ φs k y) labels c.body (body_index words k c index) left') →
    DoesWith words k labels (count_of c) index left'

-- statements do what they mean in a turn, if each of them does while two words more are set aside
abbrev pub TurnsDo : Type 0
TurnsDo =
    (words : ℕ) (k : Block) (labels : List Label) (body : Y.Stmts) (index left' : ℕ) →
    IsInnerWith (words + 2) k body index → EachDoesWith (words + 2) k (labels_in body ++ labels) body index left' →
    TurnDoes words k labels body index left'

-- ---- the variable

-- a FIXED BINARY(31) variable of the block, or an element whose subscript does what it means, counts
pub record CountersDo : Type 0 where
  pub number :
      (k : Setting) (x : Spot) (need : ℕ) → IsBegun k.block → IsNumber k.block x → IsCounter k need (whole x)
  pub element :
      (k : Setting) (x : Spot) (b : Bounds) (subscript : Y.Number) (need : ℕ) → IsBegun k.block →
      IsArray k.block x b → SubscriptComes k → IsSubscript k 0 need subscript → IsSubscript k 1 need subscript →
      IsCounter k need (element x subscript)

-- ---- the step

-- a constant of the code, with which turns go up or down
pub record StepsCount : Type 0 where
  pub up : (n : ℕ) → n < 2 ^ 31 → IsStep (Y.NumberConstant n) (pos n)
  pub down : (n : ℕ) → n < 2 ^ 31 → IsStep (Y.Signed Y.Negative (Y.NumberConstant n)) (neg_ℤ (pos n))

-- ---- the block in a turn

-- it is begun, and knows the variables that it knows without the words that are told
pub record TurnsKnow : Type 0 where
  pub begun :
      (k : Block) (φ : Layer) (φs : List Layer) (waits : ℕ → Option ℕ) → k.first.control.layers ≡ φ ∷ φs →
      IsBegun k → IsBegun (telling waits φ φs k)
  pub number :
      (k : Block) (φ : Layer) (φs : List Layer) (waits : ℕ → Option ℕ) → k.first.control.layers ≡ φ ∷ φs →
      (x : Spot) → IsNumber k x → IsNumber (telling waits φ φs k) x
  pub variable :
      (k : Block) (φ : Layer) (φs : List Layer) (waits : ℕ → Option ℕ) → k.first.control.layers ≡ φ ∷ φs →
      (x : Spot) (d : Y.DeclaredVariable) → IsKnown k x d → IsKnown (telling waits φ φs k) x d
