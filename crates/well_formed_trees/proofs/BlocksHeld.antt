-- The labels of typed lists, and the table of blocks: as many entries as blocks.
use Rattle.std.proofs.Common.{◌≡◌, ℕ, suc, ◌+◌, List, [], ◌∷◌, ◌++◌, length, refl, sym, ap, ◌∙◌, arith}
use Rattle.std.proofs.lemmas.List.{append-nil, length-append}
use Rattle.pli_language.specs.Tree as T
use Rattle.pli_language.specs.Declarations.{blocks_in, blocks_in_item, blocks_in_stmt, blocks_of}
use Rattle.pli_typing.specs.SingleStatements.{Context, Turns, OneTurn, CountedTurns, do_statement, in_list, in_block}
use Rattle.pli_typing.specs.SingleStatements.{in_unit, turns, assign_statement, call_statement, return_statement}
use Rattle.pli_typing.specs.SingleStatements.{goto_statement}
use Rattle.pli_typing.specs.SingleStatements as S
use Rattle.pli_typing.specs.Resolving.{statements, behind_stmt, behind_item, letters_of}
use Rattle.well_formed_trees.specs.Surroundings.{Around, with_inner, without_inner}
use Rattle.well_formed_trees.specs.Statements.{labels_in}
use Rattle.well_formed_trees.specs.Written.{AllEndLast}
use Rattle.well_formed_trees.specs.Held.{entry, entries_in, entries_in_item, entries_in_stmt, TableKept}

-- ---- labels of lists

letters_append : (ls ks : List T.Name) → letters_of (ls ++ ks) ≡ letters_of ls ++ letters_of ks
letters_append [] ks = refl
letters_append (l ∷ ls) ks = ap (λ x. l.letters ∷ x) (letters_append ls ks)

-- the labels of a typed list are those of the list
pub typed_labels : (c : Context) (next : ℕ) (is : T.Items) → AllEndLast is
    → labels_in (statements c next is).value ≡ letters_of (S.labels_in is)
unfolding statements
typed_labels c next T.NoItem l = refl
typed_labels c next (T.ItemThen (T.Procedure head body) is) l =
    typed_labels c (behind_item c next (T.Procedure head body)) is l.1
typed_labels c next (T.ItemThen (T.Declare items place) is) l = typed_labels c next is l
typed_labels c next (T.ItemThen (T.Statement labels s) is) l =
    ap (λ x. letters_of labels ++ x) (typed_labels c (behind_stmt c next s) is l.1)
    ∙ sym (letters_append labels (S.labels_in is))
typed_labels c next (T.ItemThen (T.EndLabels labels place) is) l =
    sym (ap (λ is. letters_of (labels ++ S.labels_in is)) l ∙ ap letters_of (append-nil labels))

-- ---- as many entries as blocks

append_length : {A B : Type 0} (xs ys : List A) (cs ds : List B) → length xs ≡ length cs → length ys ≡ length ds
    → length (xs ++ ys) ≡ length (cs ++ ds)
append_length xs ys cs ds e f =
    let a = length-append xs ys in
    let b = length-append cs ds in
    omega (arith, a, b, e, f)

mutual
  unfolding entries_in entries_in_item entries_in_stmt blocks_in blocks_in_item blocks_in_stmt

  pub stmt_length : (w : List Around) (ns : List ℕ) (m n : ℕ) (s : T.Stmt)
      → length (entries_in_stmt w m s) ≡ length (blocks_in_stmt ns n s)
  stmt_length w ns m n (T.If e unit p) = stmt_length w ns m n unit
  stmt_length w ns m n (T.IfElse e unit otherwise p) =
      let es = entries_in_stmt w m unit in
      let bs = blocks_in_stmt ns n unit in
      append_length es (entries_in_stmt w (m + length es) otherwise) bs (blocks_in_stmt ns (n + length bs) otherwise)
      (stmt_length w ns m n unit) (stmt_length w ns (m + length es) (n + length bs) otherwise)
  stmt_length w ns m n (T.Do body p) = list_length (with_inner (letters_of (S.labels_in body)) w) ns m n body
  stmt_length w ns m n (T.DoWhile e body p) = list_length (with_inner (letters_of (S.labels_in body)) w) ns m n body
  stmt_length w ns m n (T.DoCount c body p) = list_length (with_inner (letters_of (S.labels_in body)) w) ns m n body
  stmt_length w ns m n (T.OnUnit c unit p) = stmt_length (without_inner w) ns m n unit
  stmt_length w ns m n (T.Begin body p) =
      ap suc (list_length (entry m (S.labels_in body) w) (n ∷ ns) (m + 1) (n + 1) body)
  stmt_length w ns m n _ = refl

  pub list_length : (w : List Around) (ns : List ℕ) (m n : ℕ) (is : T.Items)
      → length (entries_in w m is) ≡ length (blocks_in ns n is)
  list_length w ns m n T.NoItem = refl
  list_length w ns m n (T.ItemThen i is) =
      let es = entries_in_item w m i in
      let bs = blocks_in_item ns n i in
      append_length es (entries_in w (m + length es) is) bs (blocks_in ns (n + length bs) is) (item_length w ns m n i)
      (list_length w ns (m + length es) (n + length bs) is)

  pub item_length : (w : List Around) (ns : List ℕ) (m n : ℕ) (i : T.Item)
      → length (entries_in_item w m i) ≡ length (blocks_in_item ns n i)
  item_length w ns m n (T.Procedure head body) =
      ap suc (list_length (entry m (S.labels_in body) (without_inner w)) (n ∷ ns) (m + 1) (n + 1) body)
  item_length w ns m n (T.Declare items place) = refl
  item_length w ns m n (T.Statement labels s) = stmt_length w ns m n s
  item_length w ns m n (T.EndLabels labels place) = refl

pub table_kept : TableKept
unfolding blocks_of
table_kept tree = ap suc (list_length [] (0 ∷ []) 1 1 tree.procedures)
