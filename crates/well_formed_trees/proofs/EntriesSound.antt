-- Each entry of the table of blocks has its own number first, and none stands deeper than a block may.
use Rattle.std.proofs.Common.{◌≡◌, ℕ, suc, ◌+◌, ◌<◌, ◌≤◌, Bool, List, [], ◌∷◌, length, refl, ap, ◌∙◌, subst, arith}
use Rattle.std.proofs.Common.{⊎_elim}
use Rattle.std.proofs.lemmas.Bool.{cases_lt}
use Rattle.pli_language.specs.Tree as T
use Rattle.pli_typing.specs.SingleStatements as S
use Rattle.pli_typing.specs.Resolving.{letters_of}
use Rattle.well_formed_trees.specs.Every.{Every}
use Rattle.well_formed_trees.specs.Surroundings.{Around, Table, with_inner, without_inner}
use Rattle.well_formed_trees.specs.Spelled.{IsRanged, StmtHas, ItemHas, ItemsHave}
use Rattle.well_formed_trees.specs.WellFormed.{IsEntry}
use Rattle.well_formed_trees.specs.Held.{entry, entries_in, entries_in_item, entries_in_stmt, table_of}
use Rattle.well_formed_trees.specs.Held.{AreNumberedFrom, DepthsKept}
use Rattle.well_formed_trees.proofs.Lists.{every_both}
use Rattle.well_formed_trees.proofs.Places.{HasAt, has_end}
use Rattle.well_formed_trees.proofs.Entries.{entries_kept}
use Rattle.well_formed_trees.proofs.TableNests.{inner_length, outer_length}

abbrev IsShallow : List Around → Type 0
IsShallow [] = ⊥
IsShallow (a ∷ more) = a.level < 16

shallow : (n b : ℕ) → n ≡ b → b < 16 → n < 16
shallow n b e h = omega (arith, e, h)

mutual
  unfolding entries_in entries_in_item entries_in_stmt

  stmt_shallow : (w : List Around) (n b u : ℕ) (r : Bool) (s : T.Stmt) → length w ≡ b → StmtHas IsRanged b u r s
      → Every IsShallow (entries_in_stmt w n s)
  stmt_shallow w n b u r (T.If e unit p) k h = stmt_shallow w n b (suc u) r unit k h.1
  stmt_shallow w n b u r (T.IfElse e unit otherwise p) k h =
      let es = entries_in_stmt w n unit in
      every_both IsShallow es (entries_in_stmt w (n + length es) otherwise) (stmt_shallow w n b (suc u) r unit k h.1.0)
      (stmt_shallow w (n + length es) b (suc u) r otherwise k h.1.1)
  stmt_shallow w n b u r (T.Do body p) k h =
      let ls = letters_of (S.labels_in body) in
      list_shallow (with_inner ls w) n b (suc u) r body (inner_length ls w ∙ k) h.1
  stmt_shallow w n b u r (T.DoWhile e body p) k h =
      let ls = letters_of (S.labels_in body) in
      list_shallow (with_inner ls w) n b (suc u) r body (inner_length ls w ∙ k) h.1
  stmt_shallow w n b u r (T.DoCount c body p) k h =
      let ls = letters_of (S.labels_in body) in
      list_shallow (with_inner ls w) n b (suc u) r body (inner_length ls w ∙ k) h.1
  stmt_shallow w n b u r (T.OnUnit c unit p) k h =
      stmt_shallow (without_inner w) n b (suc u) _ unit (outer_length w ∙ k) h.1
  stmt_shallow w n b u r (T.Begin body p) k h = (
    shallow (length w) b k h.0.1,
    list_shallow (entry n (S.labels_in body) w) (n + 1) (suc b) u r body (ap suc k) h.1,
  )
  stmt_shallow w n b u r _ k h = tt

  list_shallow : (w : List Around) (n b u : ℕ) (r : Bool) (is : T.Items) → length w ≡ b → ItemsHave IsRanged b u r is
      → Every IsShallow (entries_in w n is)
  list_shallow w n b u r T.NoItem k h = tt
  list_shallow w n b u r (T.ItemThen i is) k h =
      let es = entries_in_item w n i in
      every_both IsShallow es (entries_in w (n + length es) is) (item_shallow w n b u r i k h.0)
      (list_shallow w (n + length es) b u r is k h.1)

  item_shallow : (w : List Around) (n b u : ℕ) (r : Bool) (i : T.Item) → length w ≡ b → ItemHas IsRanged b u r i
      → Every IsShallow (entries_in_item w n i)
  item_shallow w n b u r (T.Procedure head body) k h =
      let v = without_inner w in (
        shallow (length v) b (outer_length w ∙ k) h.0.0.1.1,
        list_shallow (entry n (S.labels_in body) v) (n + 1) (suc b) u _ body (ap suc (outer_length w ∙ k)) h.1,
      )
  item_shallow w n b u r (T.Declare items place) k h = tt
  item_shallow w n b u r (T.Statement labels s) k h = stmt_shallow w n b u r s k h
  item_shallow w n b u r (T.EndLabels labels place) k h = tt

entry_at : (all : Table) (n : ℕ) (es : Table) → HasAt all n es → AreNumberedFrom n es → Every IsShallow es → (k : ℕ)
    → n ≤ k → k < n + length es → IsEntry all k
entry_at all n [] h m l k low high = absurd (omega (arith, low, high))
entry_at all n ([] ∷ es) h m l k low high = absurd m.0
entry_at all n ((own ∷ outer) ∷ es) h m l k low high =
    ⊎_elim (λ later. entry_at all (n + 1) es h.1 m.1 l.1 k (omega (arith, later)) (omega (arith, high)))
    (λ here.
    let same : n ≡ k = omega (arith, here, low) in
    subst (IsEntry all) same
    (record { own = own; outer = outer; entry = h.0; number_is = m.0.0; shallow = l.0 }))
    (cases_lt n k)

pub depths_kept : DepthsKept
depths_kept tree h number low high =
    let all = table_of tree in
    let es = entries_in [] 1 tree.procedures in
    entry_at all 1 es (has_end all ([] ∷ []) es refl) (entries_kept tree)
    (list_shallow [] 1 0 0 _ tree.procedures refl h) number low (omega (arith, high))
