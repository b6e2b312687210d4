-- The programs of the first path among those for which the headline is proved.
use Rattle.std.specs.Prelude.{ℕ, ◌+◌, ◌*◌, ◌<◌, ◌≤◌, ◌^◌, List, [], ◌∷◌, length, ⊤}
use Rattle.pli_language.specs.Tree as T
use Rattle.pli_typing.specs.TypedTree as Y
use Rattle.pli_meaning.specs.Pictures.{step_cost}
use Rattle.pli_typing.specs.Resolving.{typed_tree}
use Rattle.pli_coding.specs.SignatureTable.{table_of}
use Rattle.pli_coding.specs.Images.{code_of, linked_code, picture_of}
use Rattle.pli_headline.specs.ProvedSoFar.{IsProvedSoFar}
use Rattle.pli_headline.specs.FirstPathTrees.{IsFirstPath}
use Rattle.pli_headline.specs.Headline.{parts, FitsMemory, Headline}

-- ---- weights: expressions' nodes, statements and declared names

abbrev pub expr_weight : T.Expr → ℕ
expr_weight (T.Parenthesized e place) = 1 + expr_weight e
expr_weight (T.Prefix op e place) = 1 + expr_weight e
expr_weight (T.Infix op l r) = 1 + expr_weight l + expr_weight r
expr_weight _ = 1

abbrev pub exprs_weight : T.Exprs → ℕ
exprs_weight T.NoExpr = 0
exprs_weight (T.ExprThen e es) = expr_weight e + exprs_weight es

abbrev pub pairs_weight : List T.EditPair → ℕ
pairs_weight [] = 0
pairs_weight (p ∷ ps) = exprs_weight p.items + pairs_weight ps

abbrev pub stmt_weight : T.Stmt → ℕ
stmt_weight (T.Assign target source place) = 1 + expr_weight source
stmt_weight (T.Put skip pairs place) = 1 + pairs_weight pairs
stmt_weight _ = 1

abbrev pub declared_weight : List T.DeclareItem → ℕ
declared_weight [] = 0
declared_weight (d ∷ ds) = length d.names + declared_weight ds

abbrev mutual
  pub item_weight : T.Item → ℕ
  item_weight (T.Procedure head body) = items_weight body
  item_weight (T.Declare declared place) = declared_weight declared
  item_weight (T.Statement labels statement) = stmt_weight statement
  item_weight (T.EndLabels labels place) = 0

  pub items_weight : T.Items → ℕ
  items_weight T.NoItem = 0
  items_weight (T.ItemThen first rest) = item_weight first + items_weight rest

abbrev pub weight : T.Tree → ℕ
weight tree = items_weight tree.procedures

-- ---- lines

-- the line that a statement's code names
abbrev pub stmt_line : T.Stmt → ℕ
stmt_line (T.Assign target source place) = place.line
stmt_line (T.Put skip pairs place) = place.line
stmt_line _ = 0

-- the lines of procedures and statements have 31 bits, as those of a source of at most 1 MiB have
abbrev mutual
  pub ItemLines : T.Item → Type 0
  ItemLines (T.Procedure head body) = (head.place.line < 2 ^ 31) × SmallLines body
  ItemLines (T.Declare declared place) = ⊤
  ItemLines (T.Statement labels statement) = stmt_line statement < 2 ^ 31
  ItemLines (T.EndLabels labels place) = ⊤

  pub SmallLines : T.Items → Type 0
  SmallLines T.NoItem = ⊤
  SmallLines (T.ItemThen first rest) = ItemLines first × SmallLines rest

-- ---- the laws

-- a program of the first path is one for which the headline is proved
abbrev pub FirstPathProved : Type 0
FirstPathProved =
    (tree : T.Tree) → IsFirstPath tree → SmallLines tree.procedures → IsProvedSoFar (typed_tree tree)

-- the words that the code of a tree takes at most, by its weight
abbrev pub most_words : ℕ → ℕ
most_words weight = 4000 + 104 * weight

-- the code of a program of the first path is short
abbrev pub FirstPathSmall : Type 0
FirstPathSmall =
    (tree : T.Tree) → IsFirstPath tree → SmallLines tree.procedures
    → length (linked_code (code_of parts (typed_tree tree))) ≤ most_words (weight tree)

-- a source has no more tokens, and its tree weighs no more than these
abbrev pub most_weight : ℕ
most_weight = 10000

-- its image fits a machine's memory
abbrev pub FirstPathFits : Type 0
FirstPathFits =
    (tree : T.Tree) → IsFirstPath tree → SmallLines tree.procedures → weight tree ≤ most_weight
    → FitsMemory (picture_of parts (typed_tree tree))

-- the image of a typed tree keeps the headline, and its step cost is small for a tree of this weight
pub record IsKept (program : Y.Program) (weight : ℕ) : Type 0 where
  pub keeps : Headline program (picture_of parts program) (table_of program)
  pub cheap : step_cost (picture_of parts program) ≤ 8002 + 208 * weight

-- so a program of the first path keeps the headline
abbrev pub FirstPathKeeps : Type 0
FirstPathKeeps =
    (tree : T.Tree) → IsFirstPath tree → SmallLines tree.procedures → weight tree ≤ most_weight
    → IsKept (typed_tree tree) (weight tree)
