-- Where the table of blocks has what is around a block's first statement, the block sees all that is around it.
use Rattle.std.proofs.Common.{◌≡◌, ℕ, suc, ◌+◌, ◌-◌, List, [], ◌∷◌, length, Some, refl, sym, ap, ◌∙◌, subst}
use Rattle.std.proofs.Common.{arith, inl, inr}
use Rattle.std.specs.Prelude.{slice_get}
use Rattle.pli_language.specs.Tree as T
use Rattle.pli_language.specs.Declarations.{Block, blocks_in, blocks_in_item, blocks_in_stmt, blocks_of}
use Rattle.pli_typing.specs.TypedTree as Y
use Rattle.pli_typing.specs.SingleStatements as S
use Rattle.pli_typing.specs.Resolving.{letters_of}
use Rattle.pli_typing.specs.Variables.{level_of_block, depth_of_block}
use Rattle.well_formed_trees.specs.Every.{Every}
use Rattle.well_formed_trees.specs.Surroundings.{Around, with_inner, without_inner, NoReturn}
use Rattle.well_formed_trees.specs.Held.{entry, entries_in, entries_in_item, entries_in_stmt, table_of}
use Rattle.well_formed_trees.proofs.Lists.{every_both}
use Rattle.well_formed_trees.proofs.Places.{HasAt, has_first, has_second, has_end, every_at}
use Rattle.well_formed_trees.proofs.BlocksHeld.{item_length, stmt_length}
use Rattle.well_formed_trees.proofs.HeadsHeld.{numbers_around, match_at, inner_numbers}
use Rattle.well_formed_trees.proofs.HeadsHeld.{outer_numbers}
use Rattle.well_formed_trees.proofs.Facts.{Facts, IsSeen, InScope}

-- ---- levels are those of the blocks

abbrev AreLevelled : List Block → List Around → Type 0
AreLevelled blocks w = Every (λ a. a.level ≡ level_of_block blocks a.number) w

inner_levelled : (blocks : List Block) (ls : _) (w : List Around) → AreLevelled blocks w
    → AreLevelled blocks (with_inner ls w)
inner_levelled blocks ls [] h = tt
inner_levelled blocks ls (a ∷ more) h = h

outer_levelled : (blocks : List Block) (w : List Around) → AreLevelled blocks w
    → AreLevelled blocks (without_inner w)
outer_levelled blocks [] h = tt
outer_levelled blocks (a ∷ more) h = h

numbers_length : (w : List Around) → length (numbers_around w) ≡ suc (length w)
numbers_length [] = refl
numbers_length (a ∷ more) = ap suc (numbers_length more)

-- a block's own entry is at its level
own_level : (blocks : List Block) (n : ℕ) (ns : List ℕ) (b : Block) (w : List Around) → numbers_around w ≡ ns
    → slice_get blocks n ≡ Some b → b.around ≡ n ∷ ns → length w ≡ level_of_block blocks n
own_level blocks n ns b w e f g =
    let own : level_of_block blocks n ≡ length (n ∷ ns) - 2 =
    ap (λ o. depth_of_block o - 2) f ∙ ap (λ (l : List ℕ). length l - 2) g in
    let many : length ns ≡ suc (length w) = ap length (sym e) ∙ numbers_length w in
    let two : suc (length ns) - 2 ≡ length w = omega (arith, many) in
    sym (own ∙ two)

mutual
  unfolding entries_in entries_in_item entries_in_stmt blocks_in blocks_in_item blocks_in_stmt

  list_levelled : (blocks : List Block) (w : List Around) (ns : List ℕ) (n : ℕ) (is : T.Items) → numbers_around w ≡ ns
      → AreLevelled blocks w → HasAt blocks n (blocks_in ns n is) → Every (AreLevelled blocks) (entries_in w n is)
  list_levelled blocks w ns n T.NoItem e l h = tt
  list_levelled blocks w ns n (T.ItemThen i is) e l h =
      let es = entries_in_item w n i in
      let bs = blocks_in_item ns n i in
      let cs = blocks_in ns (n + length bs) is in
      let same : length bs ≡ length es = sym (item_length w ns n n i) in
      every_both (AreLevelled blocks) es (entries_in w (n + length es) is)
      (item_levelled blocks w ns n i e l (has_first blocks n bs cs h))
      (subst (λ k. Every (AreLevelled blocks) (entries_in w (n + k) is)) same
      (list_levelled blocks w ns (n + length bs) is e l (has_second blocks n bs cs h)))

  item_levelled : (blocks : List Block) (w : List Around) (ns : List ℕ) (n : ℕ) (i : T.Item) → numbers_around w ≡ ns
      → AreLevelled blocks w → HasAt blocks n (blocks_in_item ns n i)
      → Every (AreLevelled blocks) (entries_in_item w n i)
  item_levelled blocks w ns n (T.Procedure head body) e l h =
      let f : numbers_around (without_inner w) ≡ ns = outer_numbers w ∙ e in
      let k = own_level blocks n ns _ (without_inner w) f h.0 refl in
      let all : AreLevelled blocks (entry n (S.labels_in body) (without_inner w)) = (k, outer_levelled blocks w l) in (
        all,
        list_levelled blocks (entry n (S.labels_in body) (without_inner w)) (n ∷ ns) (n + 1) body
            (ap (λ l. n ∷ l) f) all h.1,
      )
  item_levelled blocks w ns n (T.Declare items place) e l h = tt
  item_levelled blocks w ns n (T.Statement labels s) e l h = stmt_levelled blocks w ns n s e l h
  item_levelled blocks w ns n (T.EndLabels labels place) e l h = tt

  stmt_levelled : (blocks : List Block) (w : List Around) (ns : List ℕ) (n : ℕ) (s : T.Stmt) → numbers_around w ≡ ns
      → AreLevelled blocks w → HasAt blocks n (blocks_in_stmt ns n s)
      → Every (AreLevelled blocks) (entries_in_stmt w n s)
  stmt_levelled blocks w ns n (T.If x unit p) e l h = stmt_levelled blocks w ns n unit e l h
  stmt_levelled blocks w ns n (T.IfElse x unit otherwise p) e l h =
      let es = entries_in_stmt w n unit in
      let bs = blocks_in_stmt ns n unit in
      let cs = blocks_in_stmt ns (n + length bs) otherwise in
      let same : length bs ≡ length es = sym (stmt_length w ns n n unit) in
      every_both (AreLevelled blocks) es (entries_in_stmt w (n + length es) otherwise)
      (stmt_levelled blocks w ns n unit e l (has_first blocks n bs cs h))
      (subst (λ k. Every (AreLevelled blocks) (entries_in_stmt w (n + k) otherwise)) same
      (stmt_levelled blocks w ns (n + length bs) otherwise e l (has_second blocks n bs cs h)))
  stmt_levelled blocks w ns n (T.Do body p) e l h =
      let ls = letters_of (S.labels_in body) in
      list_levelled blocks (with_inner ls w) ns n body (inner_numbers ls w ∙ e) (inner_levelled blocks ls w l) h
  stmt_levelled blocks w ns n (T.DoWhile x body p) e l h =
      let ls = letters_of (S.labels_in body) in
      list_levelled blocks (with_inner ls w) ns n body (inner_numbers ls w ∙ e) (inner_levelled blocks ls w l) h
  stmt_levelled blocks w ns n (T.DoCount x body p) e l h =
      let ls = letters_of (S.labels_in body) in
      list_levelled blocks (with_inner ls w) ns n body (inner_numbers ls w ∙ e) (inner_levelled blocks ls w l) h
  stmt_levelled blocks w ns n (T.OnUnit x unit p) e l h =
      stmt_levelled blocks (without_inner w) ns n unit (outer_numbers w ∙ e) (outer_levelled blocks w l) h
  stmt_levelled blocks w ns n (T.Begin body p) e l h =
      let k = own_level blocks n ns _ w e h.0 refl in
      let all : AreLevelled blocks (entry n (S.labels_in body) w) = (k, l) in (
        all,
        list_levelled blocks (entry n (S.labels_in body) w) (n ∷ ns) (n + 1) body (ap (λ l. n ∷ l) e) all h.1,
      )
  stmt_levelled blocks w ns n _ e l h = tt

table_levelled : (tree : T.Tree) → Every (AreLevelled (blocks_of tree)) (table_of tree)
unfolding blocks_of
table_levelled tree =
    let blocks = blocks_of tree in (
      tt,
      list_levelled blocks [] (0 ∷ []) 1 tree.procedures refl tt
          (has_end blocks (_ ∷ []) (blocks_in (0 ∷ []) 1 tree.procedures) refl),
    )

-- ---- all around a block is seen

all_seen : (blocks : List Block) (w : List Around) → AreLevelled blocks w
    → Every (IsSeen blocks w) (numbers_around w)
all_seen blocks [] l = (inl refl, tt)
all_seen blocks (a ∷ more) l = (inr (inl (refl, l.0)), further (numbers_around more) (all_seen blocks more l.1)) where
  further : (ns : List ℕ) → Every (IsSeen blocks more) ns → Every (IsSeen blocks (a ∷ more)) ns
  further [] h = tt
  further (n ∷ ns) h = (by h.0, further ns h.1) where
    by : IsSeen blocks more n → IsSeen blocks (a ∷ more) n
    by (inl z) = inl z
    by (inr k) = inr (inr k)

-- where the variables of a block are declared
pub entry_scope : (tree : T.Tree) (program : Y.Program) → Facts (blocks_of tree) program (table_of tree) → (n : ℕ)
    (b : Block) (w : List Around) → slice_get (blocks_of tree) n ≡ Some b → slice_get (table_of tree) n ≡ Some w
    → InScope (record { blocks = blocks_of tree; block = n })
    (record { program = program; table = table_of tree; around = w; returning = NoReturn })
entry_scope tree program facts n b w e f =
    let blocks = blocks_of tree in
    let same = match_at (table_of tree) blocks n w b facts.entries f e in
    record {
      facts = facts;
      sees = record {
        own = b;
        has_own = e;
        seen =
            subst (Every (IsSeen blocks w)) same
            (all_seen blocks w (every_at (AreLevelled blocks) (table_of tree) n w (table_levelled tree) f));
      };
    }
