-- Held: each block of a typed tree stands where the table of blocks has it, one level further in than the block that
-- holds it; with its lines, and with RETURN, SKIP and format lists as they may be. The table of a tree, and laws of it.
use Rattle.std.specs.Prelude.{◌≡◌, ℕ, suc, ◌<◌, ◌≤◌, ◌+◌, false, Some, None, List, [], ◌∷◌, ◌++◌, length, ⊤}
use Rattle.pli_language.specs.Tree as T
use Rattle.pli_language.specs.Declarations.{blocks_of}
use Rattle.pli_language.specs.Declaring.{declaring_faults}
use Rattle.pli_language.specs.Formats.{Getting, Putting}
use Rattle.pli_typing.specs.TypedTree as Y
use Rattle.pli_typing.specs.SingleStatements as S
use Rattle.pli_typing.specs.Resolving.{letters_of, typing_faults, typed_tree}
use Rattle.well_formed_trees.specs.Surroundings.{Around, Table, Returning, NoReturn, Returns, with_inner}
use Rattle.well_formed_trees.specs.Surroundings.{without_inner, level_here, number_here}
use Rattle.well_formed_trees.specs.Statements.{labels_in, IsListed, IsListedUnit}
use Rattle.well_formed_trees.specs.Every.{Every}
use Rattle.well_formed_trees.specs.Written.{IsShaped}
use Rattle.well_formed_trees.specs.Ranges.{IsLine, IsTimesIf, IsFormatList}
use Rattle.well_formed_trees.specs.Spelled.{IsRanged, ItemsHave}
use Rattle.well_formed_trees.specs.WellFormed.{IsHeld, IsEntry, AreNested, HasMain, IsResultIf, IsParameter, AreApart}

abbrev pub own_around : Y.BlockHead → Y.Stmts → List Around → List Around
own_around head body around =
    record { number = head.number; level = head.level; outermost = labels_in body; inner = [] } ∷ around

-- one level further in, with a line
abbrev pub IsHeldBlock : List Around → Y.BlockHead → Type 0
IsHeldBlock around head = IsLine head.line × (head.level ≡ suc (level_here around))

abbrev pub IsUnitOf : List Around → Y.BlockHead → Y.BlockKind → Type 0
IsUnitOf around head Y.UnitBlock = ⊤
IsUnitOf around head Y.SimpleUnit = head.number ≡ number_here around
IsUnitOf around head _ = ⊥

-- what `SoundStmt` says of lines, of blocks, of RETURN, and of SKIP and format lists
abbrev mutual
  pub HeldStmt : Table → Returning → List Around → Y.Stmt → Type 0
  HeldStmt table r around (Y.If condition unit line) = HeldStmt table r around unit × IsLine line
  HeldStmt table r around (Y.IfElse condition unit otherwise line) =
      HeldStmt table r around unit × (HeldStmt table r around otherwise × IsLine line)
  HeldStmt table r around (Y.Do body line) =
      HeldStmts table r (with_inner (labels_in body) around) body × IsLine line
  HeldStmt table r around (Y.DoWhile condition body line) =
      HeldStmts table r (with_inner (labels_in body) around) body × IsLine line
  HeldStmt table r around (Y.DoOnce target start condition body line) =
      HeldStmts table r (with_inner (labels_in body) around) body × IsLine line
  HeldStmt table r around (Y.DoCount counter start limit step condition body line) =
      HeldStmts table r (with_inner (labels_in body) around) body × IsLine line
  HeldStmt table r around (Y.Begin (Y.BlockOf head body)) =
      ((head.kind ≡ Y.BeginBlock)
      × (IsHeldBlock around head × IsListed table head (own_around head body around)))
      × HeldStmts table r (own_around head body around) body
  HeldStmt table r around (Y.OnUnit condition (Y.BlockOf head body) line) =
      (IsUnitOf around head head.kind
      × (IsHeldBlock around head
      × IsListedUnit table head (own_around head body (without_inner around)) head.kind))
      × (HeldStmts table NoReturn (own_around head body (without_inner around)) body × IsLine line)
  HeldStmt table r around (Y.Return line) = (r ≡ Returns None) × IsLine line
  HeldStmt table r around (Y.ReturnValue type s line) = (r ≡ Returns (Some type)) × IsLine line
  HeldStmt table r around (Y.Get skip pairs line) =
      IsTimesIf skip × (Every (λ p. IsFormatList Getting p.formats) pairs × IsLine line)
  HeldStmt table r around (Y.Put skip pairs line) =
      IsTimesIf skip × (Every (λ p. IsFormatList Putting p.formats) pairs × IsLine line)
  HeldStmt table r around (Y.Null line) = IsLine line
  HeldStmt table r around (Y.Assign target source line) = IsLine line
  HeldStmt table r around (Y.AssignElements target source line) = IsLine line
  HeldStmt table r around (Y.AssignAggregate target source line) = IsLine line
  HeldStmt table r around (Y.AssignArea target source line) = IsLine line
  HeldStmt table r around (Y.EmptyArea target line) = IsLine line
  HeldStmt table r around (Y.OnSystem condition line) = IsLine line
  HeldStmt table r around (Y.CallProcedure c line) = IsLine line
  HeldStmt table r around (Y.Goto level label line) = IsLine line
  HeldStmt table r around (Y.Stop line) = IsLine line
  HeldStmt table r around (Y.Signal condition line) = IsLine line
  HeldStmt table r around (Y.Revert condition line) = IsLine line
  HeldStmt table r around (Y.Allocate allocations line) = IsLine line
  HeldStmt table r around (Y.Free freeings line) = IsLine line

  pub HeldStmts : Table → Returning → List Around → Y.Stmts → Type 0
  HeldStmts table r around (Y.EndOfList labels) = ⊤
  HeldStmts table r around (Y.StmtThen labels first rest) =
      HeldStmt table r around first × HeldStmts table r around rest

pub record HeldProcedure (table : Table) (p : Y.Procedure) : Type 0 where
  pub head : Y.BlockHead
  pub body : Y.Stmts
  pub is : p.block ≡ Y.BlockOf head body
  pub kind : head.kind ≡ Y.ProcedureBlock
  pub line : IsLine head.line
  pub outer : List Around
  pub held : IsHeld table head.level outer
  pub listed : IsListed table head (own_around head body outer)
  pub statements : HeldStmts table (Returns p.result) (own_around head body outer) body

-- ---- the table of a tree

-- a block's own entry: its level is how many blocks are around
abbrev pub entry : (number : ℕ) → List T.Name → List Around → List Around
entry number labels around =
    record { number = number; level = length around; outermost = letters_of labels; inner = [] } ∷ around

-- what is around the first statements of the blocks inside, where the next one has a number
unfoldable mutual
  pub entries_in : List Around → ℕ → T.Items → Table
  entries_in around next T.NoItem = []
  entries_in around next (T.ItemThen i is) =
      entries_in_item around next i ++ entries_in around (next + length (entries_in_item around next i)) is

  -- a procedure can name no label of groups
  pub entries_in_item : List Around → ℕ → T.Item → Table
  entries_in_item around next (T.Procedure head body) =
      entry next (S.labels_in body) (without_inner around)
      ∷ entries_in (entry next (S.labels_in body) (without_inner around)) (next + 1) body
  entries_in_item around next (T.Statement labels s) = entries_in_stmt around next s
  entries_in_item around next _ = []

  pub entries_in_stmt : List Around → ℕ → T.Stmt → Table
  entries_in_stmt around next (T.If e unit p) = entries_in_stmt around next unit
  entries_in_stmt around next (T.IfElse e unit otherwise p) =
      entries_in_stmt around next unit ++ entries_in_stmt around (next + length (entries_in_stmt around next unit))
      otherwise
  entries_in_stmt around next (T.Do body p) = entries_in (with_inner (letters_of (S.labels_in body)) around) next body
  entries_in_stmt around next (T.DoWhile e body p) =
      entries_in (with_inner (letters_of (S.labels_in body)) around) next body
  entries_in_stmt around next (T.DoCount c body p) =
      entries_in (with_inner (letters_of (S.labels_in body)) around) next body
  entries_in_stmt around next (T.OnUnit c unit p) = entries_in_stmt (without_inner around) next unit
  entries_in_stmt around next (T.Begin body p) =
      entry next (S.labels_in body) around ∷ entries_in (entry next (S.labels_in body) around) (next + 1) body
  entries_in_stmt around next _ = []

abbrev pub table_of : T.Tree → Table
table_of tree = [] ∷ entries_in [] 1 tree.procedures

-- the law: blocks are held, where tokens and spelling gave the tree and typing breaks no rule
abbrev pub BlocksKept : Type 0
BlocksKept =
    (tree : T.Tree) → IsShaped tree → ItemsHave IsRanged 0 0 false tree.procedures → typing_faults tree ≡ []
    → Every (HeldProcedure (table_of tree)) (typed_tree tree).procedures

-- the table nests: the block that holds another one is the last of its level before it
abbrev pub NestingKept : Type 0
NestingKept = (tree : T.Tree) → AreNested (table_of tree)

-- as many entries as blocks
abbrev pub TableKept : Type 0
TableKept = (tree : T.Tree) → length (table_of tree) ≡ length (blocks_of tree)

-- each entry has its number first, at the level of as many blocks as are around
abbrev pub HasNumber : ℕ → List Around → Type 0
HasNumber number [] = ⊥
HasNumber number (a ∷ more) = (a.number ≡ number) × (a.level ≡ length more)

abbrev pub AreNumberedFrom : ℕ → Table → Type 0
AreNumberedFrom number [] = ⊤
AreNumberedFrom number (e ∷ es) = HasNumber number e × AreNumberedFrom (number + 1) es

abbrev pub EntriesKept : Type 0
EntriesKept = (tree : T.Tree) → AreNumberedFrom 1 (entries_in [] 1 tree.procedures)

-- each number but 0 has an entry, which is no deeper than a block may be
abbrev pub DepthsKept : Type 0
DepthsKept =
    (tree : T.Tree) → ItemsHave IsRanged 0 0 false tree.procedures → (number : ℕ) → 1 ≤ number
    → number < length (table_of tree) → IsEntry (table_of tree) number

-- the first procedure is the main one, and all others stand in it
abbrev pub MainKept : Type 0
MainKept =
    (tree : T.Tree) → IsShaped tree → ItemsHave IsRanged 0 0 false tree.procedures → declaring_faults tree ≡ []
    → typing_faults tree ≡ [] → HasMain (typed_tree tree).procedures

-- what RETURNS says is no area, and its extents are constants
abbrev pub ResultsKept : Type 0
ResultsKept =
    (tree : T.Tree) → IsShaped tree → ItemsHave IsRanged 0 0 false tree.procedures → declaring_faults tree ≡ []
    → typing_faults tree ≡ [] → Every (λ p. IsResultIf p.result) (typed_tree tree).procedures

-- parameters are variables of their procedure's block, and no two are the same one
abbrev pub TakesParameters : Y.Program → Y.Procedure → Type 0
TakesParameters program p = Every (IsParameter program p) p.parameters × AreApart p.parameters

abbrev pub ParametersKept : Type 0
ParametersKept =
    (tree : T.Tree) → IsShaped tree → ItemsHave IsRanged 0 0 false tree.procedures → declaring_faults tree ≡ []
    → typing_faults tree ≡ [] → Every (TakesParameters (typed_tree tree)) (typed_tree tree).procedures
