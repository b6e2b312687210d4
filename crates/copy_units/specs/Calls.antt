-- ON in procedures and functions whose one variable is a parameter that is copied.
use Rattle.std.specs.Prelude.{ℕ, ℤ, ◌≡◌, List, None, true}
use Rattle.pli_typing.specs.TypedTree as Y
use Rattle.pli_meaning.specs.Control.{Label}
use Rattle.pli_meaning.specs.Numbers.{is_of_precision}
use Rattle.activation_relation.specs.Layers.{Layer, Point}
use Rattle.program_runs.specs.Calls.{left_over}
use Rattle.program_runs.specs.Statements.{Block, Does, IsAmong}
use Rattle.expression_runs.specs.Laws as L
use Rattle.expression_runs.specs.Values.{Setting}
use Rattle.expression_runs.specs.Variables.{Spot}
use Rattle.unit_runs.specs.Bodies.{BodyDoes, IsBody}
use Rattle.unit_runs.specs.Changing.{IsPast, Past, after}
use Rattle.jump_runs.specs.Functions.{FunctionDoes, IsFunctionList}
use Rattle.argument_runs.specs.CopyCalls.{Copying, IsCopyCall, body_index, call_at, call_with, copy_block, setting_for}
use Rattle.argument_runs.specs.CopyFunctions.{IsCopyFunctionCall, block_with, function_with, setting_in}
use Rattle.argument_runs.specs.Parameters.{IsParameter}

pub record CopyUnitsDo : Type 0 where
  -- CALL does what it means if its argument does, and the procedure's list comes to the block's end, wherever it is
  -- called
  pub procedure :
      (k : Block) (c : Copying) (labels : List Label) (source : Y.Number) (φ : Layer) (φs : List Layer)
      (line index left' need most more : ℕ) → IsCopyCall k c source φ φs line index need most more →
      L.Does (setting_for k labels line most) need source →
      ((p : Point) (numbers : ℕ → ℕ) (z : ℤ) → IsAmong k numbers p → is_of_precision 31 z ≡ true →
      IsBody (copy_block None (call_at k c φ φs p numbers z)) c.procedure.body (body_index c) →
      BodyDoes (copy_block None (call_at k c φ φs p numbers z)) c.procedure.body (body_index c) left_over) →
      Does k labels (call_with k c source line) index left'
  -- and the call of a function leaves its value
  pub function :
      (k : Setting) (c : Copying) (source : Y.Number) (φ : Layer) (φs : List Layer) (need more : ℕ) →
      IsCopyFunctionCall k c φ φs more → L.Does (setting_in k) need source →
      ((call : ℕ) (p : Point) (numbers : ℕ → ℕ) (z : ℤ) → IsAmong k.block numbers p → is_of_precision 31 z ≡ true →
      IsFunctionList (block_with k c φ φs call p numbers z) c.procedure.body (body_index c) →
      FunctionDoes (block_with k c φ φs call p numbers z) c.procedure.body (body_index c)) →
      L.Does k need (function_with k c source)

-- whatever units the list has established by then, the parameter is one
abbrev pub CopyUnitsKnow : Type 0
CopyUnitsKnow =
    (k : Block) (body : Y.Stmts) (start : ℕ) (past : Past) (x : Spot) → IsPast k body start past → IsParameter k x →
    IsParameter (after k past) x
