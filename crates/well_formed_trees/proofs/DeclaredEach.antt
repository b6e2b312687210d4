-- What is so of each variable that DECLARE statements say is so of all that blocks declare, and of their members.
use Rattle.std.proofs.Common.{ℕ, suc, ◌+◌, Bool, true, false, ◌&&◌, not, List, [], ◌∷◌, ◌++◌, map, length}
use Rattle.std.proofs.Common.{if◌then◌else◌}
use Rattle.std.specs.Prelude.{⊤}
use Rattle.std.specs.List.{flat_map}
use Rattle.pli_language.specs.declared.expr.Place.{Place}
use Rattle.pli_language.specs.Heads as H
use Rattle.pli_language.specs.Tree as T
use Rattle.pli_language.specs.Declarations.{Variable, variables_of, Held, holders, held, What}
use Rattle.pli_language.specs.Declarations.{Variable', Label, ProcedureName, Declaration, variable_declared}
use Rattle.pli_language.specs.Declarations.{labels_declared, declared_in, declared_in_item, declared_in_stmt, Block}
use Rattle.pli_language.specs.Declarations.{blocks_in, blocks_in_item, blocks_in_stmt, blocks_of}
use Rattle.pli_language.specs.Declaring.{has, own_attributes, stands_alone}
use Rattle.pli_typing.specs.Variables.{members_first, member_then, variable_then, variables_in}
use Rattle.well_formed_trees.specs.Every.{Every}
use Rattle.well_formed_trees.specs.Spelled.{ItemsHave, ItemHas, StmtHas}
use Rattle.well_formed_trees.proofs.Lists.{every_both}

abbrev pub HeldHas : (Variable → Type 0) → Held → Type 0
HeldHas V h = V h.variable

abbrev WhatHas : (Variable → Type 0) → What → Type 0
WhatHas V (Variable' h) = HeldHas V h
WhatHas V Label = ⊤
WhatHas V (ProcedureName head) = ⊤

abbrev pub DeclarationHas : (Variable → Type 0) → Declaration → Type 0
DeclarationHas V d = WhatHas V d.what

abbrev pub BlockHas : (Variable → Type 0) → Block → Type 0
BlockHas V b = Every (DeclarationHas V) b.declarations

abbrev pub OfHeads : Type 1
OfHeads = ℕ → ℕ → Bool → H.Head → Type 0

-- a property of heads by which each variable of a DECLARE has another
abbrev pub KeepsEach : (Variable → Type 0) → OfHeads → Type 0
KeepsEach V P =
    (b u : ℕ) (r : Bool) (items : List T.DeclareItem) (place : Place) → P b u r (H.Declaring items place)
    → Every V (flat_map variables_of items)

-- ---- each DECLARE

helds_have : (V : Variable → Type 0) → (chain vs : List Variable) → Every V vs
    → Every (DeclarationHas V) (map variable_declared (held chain vs))
unfolding held
helds_have V chain [] h = tt
helds_have V chain (v ∷ vs) h = (h.0, helds_have V (holders chain v ++ v ∷ []) vs h.1)

labels_have : (V : Variable → Type 0) → (names : List T.Name) → Every (DeclarationHas V) (labels_declared names)
labels_have V [] = tt
labels_have V (n ∷ ns) = (tt, labels_have V ns)

procedure_have : (V : Variable → Type 0) → (head : T.ProcedureHead) (names : List T.Name)
    → Every (DeclarationHas V) (map (λ n. record { name = n; what = ProcedureName head }) names)
procedure_have V head [] = tt
procedure_have V head (n ∷ ns) = (tt, procedure_have V head ns)

-- ---- each block

mutual
  unfolding declared_in declared_in_item declared_in_stmt

  list_have : (V : Variable → Type 0) (P : OfHeads) → KeepsEach V P
      → (b u : ℕ) (r : Bool) (is : T.Items) → ItemsHave P b u r is
      → Every (DeclarationHas V) (declared_in is)
  list_have V P f b u r T.NoItem h = tt
  list_have V P f b u r (T.ItemThen i is) h =
      every_both (DeclarationHas V) (declared_in_item i) (declared_in is) (item_have V P f b u r i h.0)
      (list_have V P f b u r is h.1)

  item_have : (V : Variable → Type 0) (P : OfHeads) → KeepsEach V P
      → (b u : ℕ) (r : Bool) (i : T.Item) → ItemHas P b u r i
      → Every (DeclarationHas V) (declared_in_item i)
  item_have V P f b u r (T.Procedure head body) h = procedure_have V head head.labels
  item_have V P f b u r (T.Declare items place) h =
      helds_have V [] (flat_map variables_of items) (f b u r items place h)
  item_have V P f b u r (T.Statement labels s) h =
      every_both (DeclarationHas V) (labels_declared labels) (declared_in_stmt s) (labels_have V labels)
      (stmt_have V P f b u r s h)
  item_have V P f b u r (T.EndLabels labels place) h = labels_have V labels

  stmt_have : (V : Variable → Type 0) (P : OfHeads) → KeepsEach V P
      → (b u : ℕ) (r : Bool) (s : T.Stmt) → StmtHas P b u r s
      → Every (DeclarationHas V) (declared_in_stmt s)
  stmt_have V P f b u r (T.If e unit p) h = stmt_have V P f b (suc u) r unit h.1
  stmt_have V P f b u r (T.IfElse e unit otherwise p) h =
      every_both (DeclarationHas V) (declared_in_stmt unit) (declared_in_stmt otherwise)
      (stmt_have V P f b (suc u) r unit h.1.0) (stmt_have V P f b (suc u) r otherwise h.1.1)
  stmt_have V P f b u r (T.Do body p) h = list_have V P f b (suc u) r body h.1
  stmt_have V P f b u r (T.DoWhile e body p) h = list_have V P f b (suc u) r body h.1
  stmt_have V P f b u r (T.DoCount c body p) h = list_have V P f b (suc u) r body h.1
  stmt_have V P f b u r (T.OnUnit c unit p) h = stmt_have V P f b (suc u) false unit h.1
  stmt_have V P f b u r _ h = tt

mutual
  unfolding blocks_in blocks_in_item blocks_in_stmt

  blocks_have : (V : Variable → Type 0) (P : OfHeads) → KeepsEach V P
      → (around : List ℕ) (n b u : ℕ) (r : Bool) (is : T.Items) → ItemsHave P b u r is
      → Every (BlockHas V) (blocks_in around n is)
  blocks_have V P f around n b u r T.NoItem h = tt
  blocks_have V P f around n b u r (T.ItemThen i is) h =
      let bs = blocks_in_item around n i in
      every_both (BlockHas V) bs (blocks_in around (n + length bs) is) (item_blocks_have V P f around n b u r i h.0)
      (blocks_have V P f around (n + length bs) b u r is h.1)

  item_blocks_have : (V : Variable → Type 0) (P : OfHeads) → KeepsEach V P
      → (around : List ℕ) (n b u : ℕ) (r : Bool) (i : T.Item) → ItemHas P b u r i
      → Every (BlockHas V) (blocks_in_item around n i)
  item_blocks_have V P f around n b u r (T.Procedure head body) h =
      (list_have V P f (suc b) u true body h.1, blocks_have V P f (n ∷ around) (n + 1) (suc b) u true body h.1)
  item_blocks_have V P f around n b u r (T.Declare items place) h = tt
  item_blocks_have V P f around n b u r (T.Statement labels s) h = stmt_blocks_have V P f around n b u r s h
  item_blocks_have V P f around n b u r (T.EndLabels labels place) h = tt

  stmt_blocks_have : (V : Variable → Type 0) (P : OfHeads) → KeepsEach V P
      → (around : List ℕ) (n b u : ℕ) (r : Bool) (s : T.Stmt) → StmtHas P b u r s
      → Every (BlockHas V) (blocks_in_stmt around n s)
  stmt_blocks_have V P f around n b u r (T.If e unit p) h = stmt_blocks_have V P f around n b (suc u) r unit h.1
  stmt_blocks_have V P f around n b u r (T.IfElse e unit otherwise p) h =
      let bs = blocks_in_stmt around n unit in
      every_both (BlockHas V) bs (blocks_in_stmt around (n + length bs) otherwise)
      (stmt_blocks_have V P f around n b (suc u) r unit h.1.0)
      (stmt_blocks_have V P f around (n + length bs) b (suc u) r otherwise h.1.1)
  stmt_blocks_have V P f around n b u r (T.Do body p) h = blocks_have V P f around n b (suc u) r body h.1
  stmt_blocks_have V P f around n b u r (T.DoWhile e body p) h = blocks_have V P f around n b (suc u) r body h.1
  stmt_blocks_have V P f around n b u r (T.DoCount c body p) h = blocks_have V P f around n b (suc u) r body h.1
  stmt_blocks_have V P f around n b u r (T.OnUnit c unit p) h = stmt_blocks_have V P f around n b (suc u) false unit h.1
  stmt_blocks_have V P f around n b u r (T.Begin body p) h =
      (list_have V P f (suc b) u r body h.1, blocks_have V P f (n ∷ around) (n + 1) (suc b) u r body h.1)
  stmt_blocks_have V P f around n b u r _ h = tt

pub all_blocks_have : (V : Variable → Type 0) (P : OfHeads) → KeepsEach V P
    → (tree : T.Tree) → ItemsHave P 0 0 false tree.procedures
    → Every (BlockHas V) (blocks_of tree)
unfolding blocks_of
all_blocks_have V P f tree h = (tt, blocks_have V P f (0 ∷ []) 1 0 0 false tree.procedures h)

-- ---- each variable with its members

member_have : (V : Variable → Type 0) → (w : What) (hs : List Held) → WhatHas V w → Every (HeldHas V) hs
    → Every (HeldHas V) (member_then w hs)
member_have V (Variable' h) hs r k = by (stands_alone h) where
  by : (b : Bool) → Every (HeldHas V) (if b then [] else h ∷ hs)
  by true = tt
  by false = (r, k)
member_have V Label hs r k = tt
member_have V (ProcedureName head) hs r k = tt

members_have : (V : Variable → Type 0) → (ds : List Declaration) → Every (DeclarationHas V) ds
    → Every (HeldHas V) (members_first ds)
members_have V [] h = tt
members_have V (d ∷ ds) h = member_have V d.what (members_first ds) h.0 (members_have V ds h.1)

variable_have : (V : Variable → Type 0) → (w : What) (hs : List Held) (vs : List (List Held)) → WhatHas V w
    → Every (HeldHas V) hs
    → Every (Every (HeldHas V)) vs → Every (Every (HeldHas V)) (variable_then w hs vs)
variable_have V (Variable' h) hs vs r k l = by (stands_alone h && not (has 13 (own_attributes h))) where
  by : (b : Bool) → Every (Every (HeldHas V)) (if b then (h ∷ hs) ∷ vs else vs)
  by true = ((r, k), l)
  by false = l
variable_have V Label hs vs r k l = l
variable_have V (ProcedureName head) hs vs r k l = l

pub variables_have : (V : Variable → Type 0) → (ds : List Declaration) → Every (DeclarationHas V) ds
    → Every (Every (HeldHas V)) (variables_in ds)
variables_have V [] h = tt
variables_have V (d ∷ ds) h =
    variable_have V d.what (members_first ds) (variables_in ds) h.0 (members_have V ds h.1) (variables_have V ds h.1)
