-- No block of a source stands deeper than a block may.
use Rattle.std.proofs.Common.{◌≡◌, ℕ, suc, ◌+◌, ◌-◌, ◌≤◌, Bool, true, false, List, [], ◌∷◌, length, Option, Some, None}
use Rattle.std.proofs.Common.{refl, ap, arith}
use Rattle.std.specs.Prelude.{slice_get}
use Rattle.pli_language.specs.Tree as T
use Rattle.pli_language.specs.Declarations.{Block, blocks_in, blocks_in_item, blocks_in_stmt, blocks_of}
use Rattle.pli_typing.specs.Variables.{depth_of_block}
use Rattle.well_formed_trees.specs.Every.{Every}
use Rattle.well_formed_trees.specs.Spelled.{StmtHas, ItemHas, ItemsHave, IsRanged}
use Rattle.well_formed_trees.proofs.Lists.{every_both}
use Rattle.well_formed_trees.proofs.Places.{every_at}
use Rattle.program_lengths.specs.StatementLengths.{LevelsFew}

abbrev IsShallow : Block → Type 0
IsShallow b = length b.around ≤ 17

one_further : (n b : ℕ) → n ≡ suc b → suc n ≡ suc (suc b)
one_further n b e = ap suc e

mutual
  unfolding blocks_in blocks_in_item blocks_in_stmt

  list_shallow : (around : List ℕ) (n b u : ℕ) (r : Bool) → length around ≡ suc b → (is : T.Items)
      → ItemsHave IsRanged b u r is → Every IsShallow (blocks_in around n is)
  list_shallow around n b u r e T.NoItem h = tt
  list_shallow around n b u r e (T.ItemThen i is) h =
      let bs = blocks_in_item around n i in
      every_both IsShallow bs (blocks_in around (n + length bs) is) (item_shallow around n b u r e i h.0)
      (list_shallow around (n + length bs) b u r e is h.1)

  item_shallow : (around : List ℕ) (n b u : ℕ) (r : Bool) → length around ≡ suc b → (i : T.Item)
      → ItemHas IsRanged b u r i → Every IsShallow (blocks_in_item around n i)
  item_shallow around n b u r e (T.Procedure head body) h =
      let few = h.0.0.1.1 in
      (omega (arith, e, few), list_shallow (n ∷ around) (n + 1) (suc b) u true (one_further _ b e) body h.1)
  item_shallow around n b u r e (T.Declare items place) h = tt
  item_shallow around n b u r e (T.Statement labels s) h = stmt_shallow around n b u r e s h
  item_shallow around n b u r e (T.EndLabels labels place) h = tt

  stmt_shallow : (around : List ℕ) (n b u : ℕ) (r : Bool) → length around ≡ suc b → (s : T.Stmt)
      → StmtHas IsRanged b u r s → Every IsShallow (blocks_in_stmt around n s)
  stmt_shallow around n b u r e (T.If x unit place) h = stmt_shallow around n b (suc u) r e unit h.1
  stmt_shallow around n b u r e (T.IfElse x unit otherwise place) h =
      let bs = blocks_in_stmt around n unit in
      every_both IsShallow bs (blocks_in_stmt around (n + length bs) otherwise)
      (stmt_shallow around n b (suc u) r e unit h.1.0)
      (stmt_shallow around (n + length bs) b (suc u) r e otherwise h.1.1)
  stmt_shallow around n b u r e (T.Do body place) h = list_shallow around n b (suc u) r e body h.1
  stmt_shallow around n b u r e (T.DoWhile x body place) h = list_shallow around n b (suc u) r e body h.1
  stmt_shallow around n b u r e (T.DoCount c body place) h = list_shallow around n b (suc u) r e body h.1
  stmt_shallow around n b u r e (T.OnUnit on unit place) h = stmt_shallow around n b (suc u) false e unit h.1
  stmt_shallow around n b u r e (T.Begin body place) h =
      let few = h.0.1 in
      (omega (arith, e, few), list_shallow (n ∷ around) (n + 1) (suc b) u r (one_further _ b e) body h.1)
  stmt_shallow around n b u r e _ h = tt

all_shallow : (tree : T.Tree) → ItemsHave IsRanged 0 0 false tree.procedures → Every IsShallow (blocks_of tree)
unfolding blocks_of
all_shallow tree h = (omega arith, list_shallow (0 ∷ []) 1 0 0 false refl tree.procedures h)

pub levels_few : (tree : T.Tree) → ItemsHave IsRanged 0 0 false tree.procedures → LevelsFew (blocks_of tree)
levels_few tree h n = by (slice_get (blocks_of tree) n) refl where
  by : (o : Option Block) → slice_get (blocks_of tree) n ≡ o → depth_of_block o - 2 ≤ 15
  by None e = omega arith
  by (Some b) e =
      let deep : length b.around ≤ 17 = every_at IsShallow (blocks_of tree) n b (all_shallow tree h) e in
      omega (arith, deep)
