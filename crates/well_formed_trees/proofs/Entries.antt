-- The entries of the table of blocks have their numbers, one after another.
use Rattle.std.proofs.Common.{◌≡◌, ℕ, suc, ◌+◌, List, [], ◌∷◌, ◌++◌, length, refl, subst, arith}
use Rattle.pli_language.specs.Tree as T
use Rattle.pli_typing.specs.SingleStatements as S
use Rattle.pli_typing.specs.Resolving.{letters_of}
use Rattle.well_formed_trees.specs.Surroundings.{Around, with_inner, without_inner, Table}
use Rattle.well_formed_trees.specs.Held.{entry, entries_in, entries_in_item, entries_in_stmt, AreNumberedFrom}
use Rattle.well_formed_trees.specs.Held.{EntriesKept}

both_numbered : (n : ℕ) (es fs : Table) → AreNumberedFrom n es → AreNumberedFrom (n + length es) fs
    → AreNumberedFrom n (es ++ fs)
both_numbered n [] fs h l =
    let z : n + 0 ≡ n = omega arith in
    subst (λ k. AreNumberedFrom k fs) z l
both_numbered n (e ∷ es) fs h l =
    let z : n + suc (length es) ≡ (n + 1) + length es = omega arith in
    (h.0, both_numbered (n + 1) es fs h.1 (subst (λ k. AreNumberedFrom k fs) z l))

mutual
  unfolding entries_in entries_in_item entries_in_stmt

  stmt_numbered : (w : List Around) (n : ℕ) (s : T.Stmt) → AreNumberedFrom n (entries_in_stmt w n s)
  stmt_numbered w n (T.If e unit p) = stmt_numbered w n unit
  stmt_numbered w n (T.IfElse e unit otherwise p) =
      let es = entries_in_stmt w n unit in
      both_numbered n es (entries_in_stmt w (n + length es) otherwise) (stmt_numbered w n unit)
      (stmt_numbered w (n + length es) otherwise)
  stmt_numbered w n (T.Do body p) = list_numbered (with_inner (letters_of (S.labels_in body)) w) n body
  stmt_numbered w n (T.DoWhile e body p) = list_numbered (with_inner (letters_of (S.labels_in body)) w) n body
  stmt_numbered w n (T.DoCount c body p) = list_numbered (with_inner (letters_of (S.labels_in body)) w) n body
  stmt_numbered w n (T.OnUnit c unit p) = stmt_numbered (without_inner w) n unit
  stmt_numbered w n (T.Begin body p) = ((refl, refl), list_numbered (entry n (S.labels_in body) w) (n + 1) body)
  stmt_numbered w n _ = tt

  list_numbered : (w : List Around) (n : ℕ) (is : T.Items) → AreNumberedFrom n (entries_in w n is)
  list_numbered w n T.NoItem = tt
  list_numbered w n (T.ItemThen i is) =
      let es = entries_in_item w n i in
      both_numbered n es (entries_in w (n + length es) is) (item_numbered w n i) (list_numbered w (n + length es) is)

  item_numbered : (w : List Around) (n : ℕ) (i : T.Item) → AreNumberedFrom n (entries_in_item w n i)
  item_numbered w n (T.Procedure head body) =
      ((refl, refl), list_numbered (entry n (S.labels_in body) (without_inner w)) (n + 1) body)
  item_numbered w n (T.Declare items place) = tt
  item_numbered w n (T.Statement labels s) = stmt_numbered w n s
  item_numbered w n (T.EndLabels labels place) = tt

pub entries_kept : EntriesKept
entries_kept tree = list_numbered [] 1 tree.procedures
