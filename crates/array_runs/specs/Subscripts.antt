-- Subscripts: what the code of each needs.
use Rattle.std.specs.Prelude.{ℕ, ◌+◌, ◌≤◌, ◌≡◌, ◌⊎◌, List, [], ◌∷◌, true, max, ⊤}
use Rattle.pli_typing.specs.Signatures.{Bounds}
use Rattle.pli_typing.specs.TypedTree as Y
use Rattle.pli_coding.specs.Locating.{is_simple}
use Rattle.program_runs.specs.Statements.{Block}
use Rattle.expression_runs.specs.Laws as L
use Rattle.expression_runs.specs.Values.{Setting}
use Rattle.expression_runs.specs.Variables.{Spot, whole}
use Rattle.element_runs.specs.Subscripts.{IsConstant, IsVariable}
use Rattle.scalar_runs.specs.Scalars.{IsFixed}

-- a FIXED BINARY variable of any precision
pub record IsNarrow (k : Block) (x : Y.Number) : Type 0 where
  pub spot : Spot
  pub is : x ≡ Y.NumberIn (whole spot)
  pub precision : ℕ
  pub fixed : IsFixed k spot precision

-- what comes into its register by itself
abbrev pub IsSimple : Block → Y.Number → Type 0
IsSimple k x = IsConstant x ⊎ (IsVariable k x ⊎ IsNarrow k x)

-- one does what it means; so many registers hold temporaries before it, and it may wait in one more
pub record IsSubscript (k : Setting) (taken need : ℕ) (x : Y.Number) : Type 0 where
  pub simple : is_simple k.block.environment x ≡ true → IsSimple k.block x
  pub first : ℕ
  pub does : L.Does k first x
  pub enough : taken + max first 1 ≤ need

-- one for each dimension
abbrev pub AreSubscripts : Setting → (taken need : ℕ) → List Bounds → Y.Numbers → Type 0
AreSubscripts k taken need [] Y.NoNumber = ⊤
AreSubscripts k taken need (b ∷ bs) (Y.NumberThen first rest) =
    IsSubscript k taken need first × AreSubscripts k (taken + 1) need bs rest
AreSubscripts k taken need _ _ = ⊥
