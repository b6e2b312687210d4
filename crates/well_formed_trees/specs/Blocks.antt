-- The blocks of a typed tree: their numbers, and the labels that each of them has.
use Rattle.std.specs.Prelude.{◌≡◌, ℕ, suc, ◌==◌, false, List, [], ◌∷◌, ◌++◌, if◌then◌else◌, ⊤}
use Rattle.pli_typing.specs.TypedTree as Y
use Rattle.well_formed_trees.specs.Surroundings.{Label, is_among}

-- ---- numbers

-- the number of an on-unit's block, where it has one of its own
abbrev pub own_number : Y.BlockHead → Y.BlockKind → List ℕ
own_number head Y.SimpleUnit = []
own_number head _ = head.number ∷ []

-- the numbers of the blocks inside, in the order in which they stand
abbrev mutual
  pub numbers_in : Y.Stmt → List ℕ
  numbers_in (Y.If condition unit line) = numbers_in unit
  numbers_in (Y.IfElse condition unit otherwise line) = numbers_in unit ++ numbers_in otherwise
  numbers_in (Y.Do body line) = numbers_among body
  numbers_in (Y.DoWhile condition body line) = numbers_among body
  numbers_in (Y.DoOnce target start condition body line) = numbers_among body
  numbers_in (Y.DoCount counter start limit step condition body line) = numbers_among body
  numbers_in (Y.Begin block) = numbers_of block
  numbers_in (Y.OnUnit condition block line) = numbers_of block
  numbers_in _ = []

  pub numbers_among : Y.Stmts → List ℕ
  numbers_among (Y.EndOfList labels) = []
  numbers_among (Y.StmtThen labels first rest) = numbers_in first ++ numbers_among rest

  pub numbers_of : Y.Block → List ℕ
  numbers_of (Y.BlockOf head body) = own_number head head.kind ++ numbers_among body

abbrev pub procedure_numbers : List Y.Procedure → List ℕ
procedure_numbers [] = []
procedure_numbers (p ∷ ps) = numbers_of p.block ++ procedure_numbers ps

-- how often a number stands among these
abbrev pub times : ℕ → List ℕ → ℕ
times n [] = 0
times n (m ∷ ms) = if n == m then suc (times n ms) else times n ms

-- ---- labels

abbrev pub if_simple : Y.BlockKind → List Label → List Label
if_simple Y.SimpleUnit labels = labels
if_simple _ labels = []

-- the labels of the lists of a block, those of groups in it and of a single statement of an on-unit among them
abbrev mutual
  pub own_labels : Y.Stmt → List Label
  own_labels (Y.If condition unit line) = own_labels unit
  own_labels (Y.IfElse condition unit otherwise line) = own_labels unit ++ own_labels otherwise
  own_labels (Y.Do body line) = block_labels body
  own_labels (Y.DoWhile condition body line) = block_labels body
  own_labels (Y.DoOnce target start condition body line) = block_labels body
  own_labels (Y.DoCount counter start limit step condition body line) = block_labels body
  own_labels (Y.OnUnit condition (Y.BlockOf head body) line) = if_simple head.kind (block_labels body)
  own_labels _ = []

  pub block_labels : Y.Stmts → List Label
  block_labels (Y.EndOfList labels) = labels
  block_labels (Y.StmtThen labels first rest) = labels ++ (own_labels first ++ block_labels rest)

-- a label stands once among these
abbrev pub IsOnce : List Label → Type 0
IsOnce [] = ⊤
IsOnce (l ∷ ls) = (is_among l ls ≡ false) × IsOnce ls

-- the labels of each block that has a number of its own
abbrev pub OnceIfOwn : Y.BlockKind → Y.Stmts → Type 0
OnceIfOwn Y.SimpleUnit body = ⊤
OnceIfOwn _ body = IsOnce (block_labels body)

abbrev mutual
  pub LabelsOnce : Y.Stmt → Type 0
  LabelsOnce (Y.If condition unit line) = LabelsOnce unit
  LabelsOnce (Y.IfElse condition unit otherwise line) = LabelsOnce unit × LabelsOnce otherwise
  LabelsOnce (Y.Do body line) = AllLabelsOnce body
  LabelsOnce (Y.DoWhile condition body line) = AllLabelsOnce body
  LabelsOnce (Y.DoOnce target start condition body line) = AllLabelsOnce body
  LabelsOnce (Y.DoCount counter start limit step condition body line) = AllLabelsOnce body
  LabelsOnce (Y.Begin (Y.BlockOf head body)) = OnceIfOwn head.kind body × AllLabelsOnce body
  LabelsOnce (Y.OnUnit condition (Y.BlockOf head body) line) = OnceIfOwn head.kind body × AllLabelsOnce body
  LabelsOnce _ = ⊤

  pub AllLabelsOnce : Y.Stmts → Type 0
  AllLabelsOnce (Y.EndOfList labels) = ⊤
  AllLabelsOnce (Y.StmtThen labels first rest) = LabelsOnce first × AllLabelsOnce rest

abbrev pub BlockLabelsOnce : Y.Block → Type 0
BlockLabelsOnce (Y.BlockOf head body) = OnceIfOwn head.kind body × AllLabelsOnce body
