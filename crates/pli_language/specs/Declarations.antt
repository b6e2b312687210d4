-- The blocks of a program and what is declared in each.
--
-- Blocks are numbered in the order in which they begin in the source: 0 is the whole program, then each procedure and each
-- BEGIN block, those of on-units among them. Block 0 declares nothing: an outer procedure's labels stand in no block.
use Rattle.std.specs.Prelude.{ℕ, ◌+◌, List, [], ◌∷◌, ◌++◌, map, length, Option, Some, None, unwrap_or, if◌then◌else◌, nat_lt}
use Rattle.std.specs.List.{flat_map}
use Rattle.pli_language.specs.Tree.{Name, Bound, DeclaredName, DeclareItem, ProcedureHead, Stmt, If, IfElse, Do, DoWhile, DoCount, Begin, OnUnit, Item, Procedure, Declare, Statement, EndLabels, Items, NoItem, ItemThen, Tree}

-- ---- variables

-- a declared name with the item that it stands in
pub record Variable : Type 0 where
  pub declared : DeclaredName
  pub item : DeclareItem

abbrev pub level_of : Variable → ℕ
level_of v = unwrap_or v.item.level 1

-- the dimensions behind the name, and those behind the list that it stands in
abbrev pub dimensions_of : Variable → List Bound
dimensions_of v = v.declared.dimensions ++ v.item.dimensions

-- an item's names, each with the item
abbrev pub variables_of : DeclareItem → List Variable
variables_of item = map (λ d. record { declared = d; item = item }) item.names

-- a variable with the structures that hold it, outermost first
pub record Held : Type 0 where
  pub variable : Variable
  pub above : List Variable

-- what holds a variable of this level, where the chain is the last variable before it behind what holds that: those of smaller
-- level. A variable of level 1 stands alone.
abbrev pub smaller : List Variable → ℕ → List Variable
smaller [] level = []
smaller (a ∷ chain) level = if nat_lt (level_of a) level then a ∷ smaller chain level else []

abbrev pub holders_at : List Variable → ℕ → List Variable
holders_at chain level = if nat_lt 1 level then smaller chain level else []

abbrev pub holders : List Variable → Variable → List Variable
holders chain v = holders_at chain (level_of v)

-- variables of a DECLARE, each with what holds it; what may hold the next one
unfoldable pub held : List Variable → List Variable → List Held
held chain [] = []
held chain (v ∷ vs) = record { variable = v; above = holders chain v } ∷ held (holders chain v ++ v ∷ []) vs

unfoldable pub chain_after : List Variable → List Variable → List Variable
chain_after chain [] = chain
chain_after chain (v ∷ vs) = chain_after (holders chain v ++ v ∷ []) vs

-- ---- what a block declares

pub data What : Type 0 where
  Variable' : Held → What
  Label : What
  ProcedureName : ProcedureHead → What

pub record Declaration : Type 0 where
  pub name : Name
  pub what : What

abbrev pub variable_declared : Held → Declaration
variable_declared h = record { name = h.variable.declared.name; what = Variable' h }

abbrev pub labels_declared : List Name → List Declaration
labels_declared names = map (λ n. record { name = n; what = Label }) names

abbrev pub procedure_declared : ProcedureHead → List Declaration
procedure_declared head = map (λ n. record { name = n; what = ProcedureName head }) head.labels

abbrev pub declared_by : List DeclareItem → List Declaration
declared_by items = map variable_declared (held [] (flat_map variables_of items))

-- what a block's list declares in that block, in source order
unfoldable mutual
  pub declared_in : Items → List Declaration
  declared_in NoItem = []
  declared_in (ItemThen i is) = declared_in_item i ++ declared_in is

  pub declared_in_item : Item → List Declaration
  declared_in_item (Procedure head body) = procedure_declared head
  declared_in_item (Declare items place) = declared_by items
  declared_in_item (Statement labels s) = labels_declared labels ++ declared_in_stmt s
  declared_in_item (EndLabels labels place) = labels_declared labels

  pub declared_in_stmt : Stmt → List Declaration
  declared_in_stmt (If e unit p) = declared_in_stmt unit
  declared_in_stmt (IfElse e unit otherwise p) = declared_in_stmt unit ++ declared_in_stmt otherwise
  declared_in_stmt (Do body p) = declared_in body
  declared_in_stmt (DoWhile e body p) = declared_in body
  declared_in_stmt (DoCount c body p) = declared_in body
  declared_in_stmt (OnUnit c unit p) = declared_in_stmt unit
  declared_in_stmt _ = []

-- ---- blocks

-- a block: its number and those of the blocks around it, innermost first; its procedure, where it is one; its declarations
pub record Block : Type 0 where
  pub around : List ℕ
  pub head : Option ProcedureHead
  pub declarations : List Declaration

-- the blocks inside a list, where the blocks around it are these and the next one has this number
unfoldable mutual
  pub blocks_in : List ℕ → ℕ → Items → List Block
  blocks_in around next NoItem = []
  blocks_in around next (ItemThen i is) =
      blocks_in_item around next i ++ blocks_in around (next + length (blocks_in_item around next i)) is

  pub blocks_in_item : List ℕ → ℕ → Item → List Block
  blocks_in_item around next (Procedure head body) =
      record { around = next ∷ around; head = Some head; declarations = declared_in body } ∷ blocks_in (next ∷ around) (next + 1) body
  blocks_in_item around next (Statement labels s) = blocks_in_stmt around next s
  blocks_in_item around next _ = []

  pub blocks_in_stmt : List ℕ → ℕ → Stmt → List Block
  blocks_in_stmt around next (If e unit p) = blocks_in_stmt around next unit
  blocks_in_stmt around next (IfElse e unit otherwise p) =
      blocks_in_stmt around next unit ++ blocks_in_stmt around (next + length (blocks_in_stmt around next unit)) otherwise
  blocks_in_stmt around next (Do body p) = blocks_in around next body
  blocks_in_stmt around next (DoWhile e body p) = blocks_in around next body
  blocks_in_stmt around next (DoCount c body p) = blocks_in around next body
  blocks_in_stmt around next (OnUnit c unit p) = blocks_in_stmt around next unit
  blocks_in_stmt around next (Begin body p) =
      record { around = next ∷ around; head = None; declarations = declared_in body } ∷ blocks_in (next ∷ around) (next + 1) body
  blocks_in_stmt around next _ = []

-- the whole program, which holds its outer procedures
abbrev pub outermost : Block
outermost = record { around = 0 ∷ []; head = None; declarations = [] }

unfoldable pub blocks_of : Tree → List Block
blocks_of tree = outermost ∷ blocks_in (0 ∷ []) 1 tree.procedures
