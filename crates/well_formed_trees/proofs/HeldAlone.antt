-- What blocks declare at level 1 is held by nothing.
use Rattle.std.proofs.Common.{◌≡◌, ℕ, ◌+◌, ◌≤◌, Bool, true, false, List, [], ◌∷◌, ◌++◌, map, length, refl, arith}
use Rattle.std.proofs.Common.{if◌then◌else◌}
use Rattle.std.specs.Prelude.{nat_lt, ⊤}
use Rattle.std.specs.List.{flat_map}
use Rattle.std.proofs.lemmas.Bool.Decides.{nat_tests}
use Rattle.pli_language.specs.Tree as T
use Rattle.pli_language.specs.Declarations.{Variable, level_of, variables_of, Held, smaller, holders, held, What}
use Rattle.pli_language.specs.Declarations.{Variable', Label, ProcedureName, Declaration, variable_declared}
use Rattle.pli_language.specs.Declarations.{labels_declared, declared_in, declared_in_item, declared_in_stmt, Block}
use Rattle.pli_language.specs.Declarations.{blocks_in, blocks_in_item, blocks_in_stmt, blocks_of}
use Rattle.well_formed_trees.specs.Every.{Every}
use Rattle.well_formed_trees.proofs.Lists.{every_both}

abbrev pub HeldWell : Held → Type 0
HeldWell h = level_of h.variable ≤ 1 → h.above ≡ []

-- a variable's declaration has its name
abbrev pub WhatWell : T.Name → What → Type 0
WhatWell name (Variable' h) = HeldWell h × (name ≡ h.variable.declared.name)
WhatWell name Label = ⊤
WhatWell name (ProcedureName head) = ⊤

abbrev pub IsWell : Declaration → Type 0
IsWell d = WhatWell d.name d.what

abbrev pub AllWell : List Declaration → Type 0
AllWell ds = Every IsWell ds

none_held : (chain : List Variable) (level : ℕ) (b : Bool) → nat_lt 1 level ≡ b → level ≤ 1
    → (if b then smaller chain level else []) ≡ []
none_held chain level true e h = absurd (over level e h) where
  over : (level : ℕ) → nat_lt 1 level ≡ true → level ≤ 1 → ⊥
  over level e h = grind (arith, nat_tests)
none_held chain level false e h = refl

helds_well : (chain vs : List Variable) → Every HeldWell (held chain vs)
unfolding held
helds_well chain [] = tt
helds_well chain (v ∷ vs) =
    (λ h. none_held chain (level_of v) (nat_lt 1 (level_of v)) refl h, helds_well (holders chain v ++ v ∷ []) vs)

variables_well : (hs : List Held) → Every HeldWell hs → AllWell (map variable_declared hs)
variables_well [] h = tt
variables_well (x ∷ hs) h = ((h.0, refl), variables_well hs h.1)

labels_well : (names : List T.Name) → AllWell (labels_declared names)
labels_well [] = tt
labels_well (n ∷ ns) = (tt, labels_well ns)

procedure_well : (head : T.ProcedureHead) (names : List T.Name)
    → AllWell (map (λ n. record { name = n; what = ProcedureName head }) names)
procedure_well head [] = tt
procedure_well head (n ∷ ns) = (tt, procedure_well head ns)

mutual
  unfolding declared_in declared_in_item declared_in_stmt

  pub list_well : (is : T.Items) → AllWell (declared_in is)
  list_well T.NoItem = tt
  list_well (T.ItemThen i is) = every_both IsWell (declared_in_item i) (declared_in is) (item_well i) (list_well is)

  item_well : (i : T.Item) → AllWell (declared_in_item i)
  item_well (T.Procedure head body) = procedure_well head head.labels
  item_well (T.Declare items place) =
      let vs = flat_map variables_of items in
      variables_well (held [] vs) (helds_well [] vs)
  item_well (T.Statement labels s) =
      every_both IsWell (labels_declared labels) (declared_in_stmt s) (labels_well labels) (stmt_well s)
  item_well (T.EndLabels labels place) = labels_well labels

  stmt_well : (s : T.Stmt) → AllWell (declared_in_stmt s)
  stmt_well (T.If e unit p) = stmt_well unit
  stmt_well (T.IfElse e unit otherwise p) =
      every_both IsWell (declared_in_stmt unit) (declared_in_stmt otherwise) (stmt_well unit) (stmt_well otherwise)
  stmt_well (T.Do body p) = list_well body
  stmt_well (T.DoWhile e body p) = list_well body
  stmt_well (T.DoCount c body p) = list_well body
  stmt_well (T.OnUnit c unit p) = stmt_well unit
  stmt_well _ = tt

abbrev pub BlockWell : Block → Type 0
BlockWell b = AllWell b.declarations

mutual
  unfolding blocks_in blocks_in_item blocks_in_stmt

  blocks_well : (around : List ℕ) (n : ℕ) (is : T.Items) → Every BlockWell (blocks_in around n is)
  blocks_well around n T.NoItem = tt
  blocks_well around n (T.ItemThen i is) =
      let bs = blocks_in_item around n i in
      every_both BlockWell bs (blocks_in around (n + length bs) is) (item_blocks_well around n i)
      (blocks_well around (n + length bs) is)

  item_blocks_well : (around : List ℕ) (n : ℕ) (i : T.Item) → Every BlockWell (blocks_in_item around n i)
  item_blocks_well around n (T.Procedure head body) = (list_well body, blocks_well (n ∷ around) (n + 1) body)
  item_blocks_well around n (T.Declare items place) = tt
  item_blocks_well around n (T.Statement labels s) = stmt_blocks_well around n s
  item_blocks_well around n (T.EndLabels labels place) = tt

  stmt_blocks_well : (around : List ℕ) (n : ℕ) (s : T.Stmt) → Every BlockWell (blocks_in_stmt around n s)
  stmt_blocks_well around n (T.If e unit p) = stmt_blocks_well around n unit
  stmt_blocks_well around n (T.IfElse e unit otherwise p) =
      let bs = blocks_in_stmt around n unit in
      every_both BlockWell bs (blocks_in_stmt around (n + length bs) otherwise) (stmt_blocks_well around n unit)
      (stmt_blocks_well around (n + length bs) otherwise)
  stmt_blocks_well around n (T.Do body p) = blocks_well around n body
  stmt_blocks_well around n (T.DoWhile e body p) = blocks_well around n body
  stmt_blocks_well around n (T.DoCount c body p) = blocks_well around n body
  stmt_blocks_well around n (T.OnUnit c unit p) = stmt_blocks_well around n unit
  stmt_blocks_well around n (T.Begin body p) = (list_well body, blocks_well (n ∷ around) (n + 1) body)
  stmt_blocks_well around n _ = tt

pub all_blocks_well : (tree : T.Tree) → Every BlockWell (blocks_of tree)
unfolding blocks_of
all_blocks_well tree = (tt, blocks_well (0 ∷ []) 1 tree.procedures)
