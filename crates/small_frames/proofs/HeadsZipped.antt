-- What is so of each head by one law and by another is so of it by both.
use Rattle.std.proofs.Common.{ℕ, suc, Bool, true, false}
use Rattle.pli_language.specs.Heads as H
use Rattle.pli_language.specs.Tree as T
use Rattle.well_formed_trees.specs.Spelled.{StmtHas, ItemHas, ItemsHave}
use Rattle.well_formed_trees.proofs.DeclaredEach.{OfHeads}

-- two properties of heads that give a third
abbrev pub Gives : OfHeads → OfHeads → OfHeads → Type 0
Gives P Q R = (b u : ℕ) (r : Bool) (h : H.Head) → P b u r h → Q b u r h → R b u r h

mutual
  pub items_zipped : (P Q R : OfHeads) → Gives P Q R → (b u : ℕ) (r : Bool) (is : T.Items) → ItemsHave P b u r is
      → ItemsHave Q b u r is → ItemsHave R b u r is
  items_zipped P Q R f b u r T.NoItem h k = tt
  items_zipped P Q R f b u r (T.ItemThen i is) h k =
      (item_zipped P Q R f b u r i h.0 k.0, items_zipped P Q R f b u r is h.1 k.1)

  item_zipped : (P Q R : OfHeads) → Gives P Q R → (b u : ℕ) (r : Bool) (i : T.Item) → ItemHas P b u r i
      → ItemHas Q b u r i → ItemHas R b u r i
  item_zipped P Q R f b u r (T.Procedure head body) h k = (
    (f b u r (H.ProcedureFront head.place head.parameters head.options) h.0.0 k.0.0, h.0.1),
    items_zipped P Q R f (suc b) u true body h.1 k.1,
  )
  item_zipped P Q R f b u r (T.Declare items place) h k = f b u r (H.Declaring items place) h k
  item_zipped P Q R f b u r (T.Statement labels s) h k = stmt_zipped P Q R f b u r s h k
  item_zipped P Q R f b u r (T.EndLabels labels place) h k = tt

  stmt_zipped : (P Q R : OfHeads) → Gives P Q R → (b u : ℕ) (r : Bool) (s : T.Stmt) → StmtHas P b u r s
      → StmtHas Q b u r s → StmtHas R b u r s
  stmt_zipped P Q R f b u r (T.If e unit place) h k =
      (f b u r (H.IfThen e place) h.0 k.0, stmt_zipped P Q R f b (suc u) r unit h.1 k.1)
  stmt_zipped P Q R f b u r (T.IfElse e unit otherwise place) h k = (
    f b u r (H.IfThen e place) h.0 k.0,
    (
      stmt_zipped P Q R f b (suc u) r unit h.1.0 k.1.0,
      stmt_zipped P Q R f b (suc u) r otherwise h.1.1 k.1.1,
    ),
  )
  stmt_zipped P Q R f b u r (T.Do body place) h k =
      (f b u r (H.DoGroup place) h.0 k.0, items_zipped P Q R f b (suc u) r body h.1 k.1)
  stmt_zipped P Q R f b u r (T.DoWhile e body place) h k =
      (f b u r (H.DoWhileGroup e place) h.0 k.0, items_zipped P Q R f b (suc u) r body h.1 k.1)
  stmt_zipped P Q R f b u r (T.DoCount c body place) h k =
      (f b u r (H.DoCountGroup c place) h.0 k.0, items_zipped P Q R f b (suc u) r body h.1 k.1)
  stmt_zipped P Q R f b u r (T.Begin body place) h k =
      (f b u r (H.BeginBlock place) h.0 k.0, items_zipped P Q R f (suc b) u r body h.1 k.1)
  stmt_zipped P Q R f b u r (T.OnSystem on place) h k = f b u r (H.On on place) h k
  stmt_zipped P Q R f b u r (T.OnUnit on unit place) h k =
      (f b u r (H.On on place) h.0 k.0, stmt_zipped P Q R f b (suc u) false unit h.1 k.1)
  stmt_zipped P Q R f b u r (T.Null place) h k = f b u r (H.Simple (T.Null place)) h k
  stmt_zipped P Q R f b u r (T.Assign target source place) h k =
      f b u r (H.Simple (T.Assign target source place)) h k
  stmt_zipped P Q R f b u r (T.Call name a place) h k = f b u r (H.Simple (T.Call name a place)) h k
  stmt_zipped P Q R f b u r (T.Return value place) h k = f b u r (H.Simple (T.Return value place)) h k
  stmt_zipped P Q R f b u r (T.Goto label place) h k = f b u r (H.Simple (T.Goto label place)) h k
  stmt_zipped P Q R f b u r (T.Stop place) h k = f b u r (H.Simple (T.Stop place)) h k
  stmt_zipped P Q R f b u r (T.Signal on place) h k = f b u r (H.Simple (T.Signal on place)) h k
  stmt_zipped P Q R f b u r (T.Revert on place) h k = f b u r (H.Simple (T.Revert on place)) h k
  stmt_zipped P Q R f b u r (T.Allocate as' place) h k = f b u r (H.Simple (T.Allocate as' place)) h k
  stmt_zipped P Q R f b u r (T.Free fs place) h k = f b u r (H.Simple (T.Free fs place)) h k
  stmt_zipped P Q R f b u r (T.Get skip pairs place) h k = f b u r (H.Simple (T.Get skip pairs place)) h k
  stmt_zipped P Q R f b u r (T.Put skip pairs place) h k = f b u r (H.Simple (T.Put skip pairs place)) h k
