-- What is known of the blocks of an accepted source.
use Rattle.std.proofs.Common.{◌≡◌, ℕ, zero, suc, ◌+◌, List, [], ◌∷◌, ◌++◌, length, Option, Some, None, refl, sym, ap}
use Rattle.std.proofs.Common.{◌∙◌, subst, arith, inl, inr}
use Rattle.std.specs.Prelude.{slice_get}
use Rattle.pli_language.specs.declared.token.Token.{Token}
use Rattle.pli_language.specs.Tokens.{Tokens}
use Rattle.pli_language.specs.Parsing.{Spells}
use Rattle.pli_language.specs.Tree as T
use Rattle.pli_language.specs.Declarations.{Block, blocks_in, blocks_in_item, blocks_in_stmt, blocks_of, outermost}
use Rattle.pli_language.specs.Declaring.{declaring_faults}
use Rattle.pli_language.specs.Means.{around_of}
use Rattle.pli_typing.specs.Generations.{declared_variables}
use Rattle.pli_typing.specs.Resolving.{typing_faults, typed_tree, block_variables, head_demanded, resolved, statements}
use Rattle.pli_typing.specs.Resolving.{outermost_context}
use Rattle.well_formed_trees.specs.Every.{Every}
use Rattle.well_formed_trees.specs.Held.{table_of}
use Rattle.well_formed_trees.proofs.Lists.{first_empty, second_empty, every_both, every_map}
use Rattle.well_formed_trees.proofs.Places.{HasAt, has_first, has_second, has_end, every_at}
use Rattle.well_formed_trees.proofs.DeclaredOnce.{blocks_apart}
use Rattle.well_formed_trees.proofs.Found.{IsAmong}
use Rattle.well_formed_trees.proofs.LabelsOnce.{blocks_fine}
use Rattle.well_formed_trees.proofs.ParameterVariables.{block_variables_are}
use Rattle.well_formed_trees.proofs.Structures.{all_blocks_chained}
use Rattle.well_formed_trees.proofs.HeldAlone.{all_blocks_well}
use Rattle.well_formed_trees.proofs.HeldStatements.{IsFrom, HeldFrom, all_held}
use Rattle.well_formed_trees.proofs.HeadsHeld.{all_blocks_hold, table_matches, heads_typed}
use Rattle.well_formed_trees.proofs.HeadsInRange.{ranges_kept}
use Rattle.well_formed_trees.proofs.Shapes.{shape_kept}
use Rattle.well_formed_trees.proofs.Facts.{Facts}

-- ---- blocks around blocks

-- what is around each of these is one of them
abbrev IsClosed : List Block → List ℕ → Type 0
IsClosed blocks ns = (m k : ℕ) → IsAmong m ns → IsAmong k (around_of (slice_get blocks m)) → IsAmong k ns

abbrev IsClosedBlock : List Block → Block → Type 0
IsClosedBlock blocks b = IsClosed blocks b.around

closed_then : (blocks : List Block) (n : ℕ) (ns : List ℕ) (b : Block) → slice_get blocks n ≡ Some b
    → b.around ≡ n ∷ ns → IsClosed blocks ns → IsClosed blocks (n ∷ ns)
closed_then blocks n ns b e f h m k (inl s) i =
    let own : around_of (slice_get blocks m) ≡ n ∷ ns = ap (λ j. around_of (slice_get blocks j)) (sym s)
    ∙ (ap around_of e ∙ f) in
    subst (IsAmong k) own i
closed_then blocks n ns b e f h m k (inr s) i = inr (h m k s i)

mutual
  unfolding blocks_in blocks_in_item blocks_in_stmt

  list_closed : (blocks : List Block) (around : List ℕ) (n : ℕ) (is : T.Items) → IsClosed blocks around
      → HasAt blocks n (blocks_in around n is) → Every (IsClosedBlock blocks) (blocks_in around n is)
  list_closed blocks around n T.NoItem c h = tt
  list_closed blocks around n (T.ItemThen i is) c h =
      let bs = blocks_in_item around n i in
      let cs = blocks_in around (n + length bs) is in
      every_both (IsClosedBlock blocks) bs cs (item_closed blocks around n i c (has_first blocks n bs cs h))
      (list_closed blocks around (n + length bs) is c (has_second blocks n bs cs h))

  item_closed : (blocks : List Block) (around : List ℕ) (n : ℕ) (i : T.Item) → IsClosed blocks around
      → HasAt blocks n (blocks_in_item around n i) → Every (IsClosedBlock blocks) (blocks_in_item around n i)
  item_closed blocks around n (T.Procedure head body) c h =
      let k = closed_then blocks n around _ h.0 refl c in
      (k, list_closed blocks (n ∷ around) (n + 1) body k h.1)
  item_closed blocks around n (T.Declare items place) c h = tt
  item_closed blocks around n (T.Statement labels s) c h = stmt_closed blocks around n s c h
  item_closed blocks around n (T.EndLabels labels place) c h = tt

  stmt_closed : (blocks : List Block) (around : List ℕ) (n : ℕ) (s : T.Stmt) → IsClosed blocks around
      → HasAt blocks n (blocks_in_stmt around n s) → Every (IsClosedBlock blocks) (blocks_in_stmt around n s)
  stmt_closed blocks around n (T.If e unit p) c h = stmt_closed blocks around n unit c h
  stmt_closed blocks around n (T.IfElse e unit otherwise p) c h =
      let bs = blocks_in_stmt around n unit in
      let cs = blocks_in_stmt around (n + length bs) otherwise in
      every_both (IsClosedBlock blocks) bs cs (stmt_closed blocks around n unit c (has_first blocks n bs cs h))
      (stmt_closed blocks around (n + length bs) otherwise c (has_second blocks n bs cs h))
  stmt_closed blocks around n (T.Do body p) c h = list_closed blocks around n body c h
  stmt_closed blocks around n (T.DoWhile e body p) c h = list_closed blocks around n body c h
  stmt_closed blocks around n (T.DoCount x body p) c h = list_closed blocks around n body c h
  stmt_closed blocks around n (T.OnUnit x unit p) c h = stmt_closed blocks around n unit c h
  stmt_closed blocks around n (T.Begin body p) c h =
      let k = closed_then blocks n around _ h.0 refl c in
      (k, list_closed blocks (n ∷ around) (n + 1) body k h.1)
  stmt_closed blocks around n _ c h = tt

all_closed : (tree : T.Tree) → Every (IsClosedBlock (blocks_of tree)) (blocks_of tree)
unfolding blocks_of
all_closed tree =
    let blocks = blocks_of tree in
    let k = closed_then blocks 0 [] outermost refl refl (λ m k i. absurd i) in (
      k,
      list_closed blocks (0 ∷ []) 1 tree.procedures k
          (has_end blocks (outermost ∷ []) (blocks_in (0 ∷ []) 1 tree.procedures) refl),
    )

nested_by : (blocks : List Block) → Every (IsClosedBlock blocks) blocks → (n m k : ℕ) (o : Option Block)
    → slice_get blocks n ≡ o → IsAmong m (around_of o) → IsAmong k (around_of (slice_get blocks m))
    → IsAmong k (around_of o)
nested_by blocks c n m k None e h i = absurd h
nested_by blocks c n m k (Some b) e h i = every_at (IsClosedBlock blocks) blocks n b c e m k h i

-- ---- what blocks declare

judged_by : (all : List Block) (k : ℕ) (bs : List Block) → (block_variables all k bs).faults ≡ [] → (i : ℕ) (b : Block)
    → slice_get bs i ≡ Some b → (declared_variables (record { blocks = all; block = k + i })).faults ≡ []
judged_by all k [] f i b e = absurd (cc e)
judged_by all k (c ∷ bs) f zero b e =
    let z : k ≡ k + 0 = omega arith in
    let head = (head_demanded all c c.head).faults in
    let own = (declared_variables (record { blocks = all; block = k })).faults in
    let more = (block_variables all (k + 1) bs).faults in
    subst (λ n. (declared_variables (record { blocks = all; block = n })).faults ≡ []) z
    (first_empty own (more ++ []) (second_empty head (own ++ (more ++ [])) f))
judged_by all k (c ∷ bs) f (suc i) b e =
    let z : (k + 1) + i ≡ k + suc i = omega arith in
    let head = (head_demanded all c c.head).faults in
    let own = (declared_variables (record { blocks = all; block = k })).faults in
    let more = (block_variables all (k + 1) bs).faults in
    subst (λ n. (declared_variables (record { blocks = all; block = n })).faults ≡ []) z
    (judged_by all (k + 1) bs
    (first_empty more [] (second_empty own (more ++ []) (second_empty head (own ++ (more ++ [])) f))) i b e)

all_judged : (tree : T.Tree) → typing_faults tree ≡ [] → (n : ℕ) (b : Block) → slice_get (blocks_of tree) n ≡ Some b
    → (declared_variables (record { blocks = blocks_of tree; block = n })).faults ≡ []
unfolding resolved
all_judged tree f n b e =
    let all = blocks_of tree in
    let z : 0 + n ≡ n = omega arith in
    subst (λ n. (declared_variables (record { blocks = all; block = n })).faults ≡ []) z
    (judged_by all 0 all (second_empty (statements (outermost_context all) 1 tree.procedures).faults _ f) n b e)

first_block : (tree : T.Tree) → slice_get (blocks_of tree) 0 ≡ Some outermost
unfolding blocks_of
first_block tree = refl

-- ---- all

pub facts_kept : (s : List ℕ) (tokens : List Token) (tree : T.Tree) → Tokens s tokens → Spells s tokens tree
    → declaring_faults tree ≡ [] → typing_faults tree ≡ []
    → Facts (blocks_of tree) (typed_tree tree) (table_of tree)
facts_kept s tokens tree t h declared typed =
    let blocks = blocks_of tree in
    let shape = shape_kept s tokens tree h in
    record {
      apart = blocks_apart s tokens tree t h;
      chained = all_blocks_chained tree;
      fine = blocks_fine tree declared;
      first = first_block tree;
      nested = λ n m k. nested_by blocks (all_closed tree) n m k (slice_get blocks n) refl;
      variables = block_variables_are tree;
      judged = all_judged tree typed;
      well = all_blocks_well tree;
      heads = all_blocks_hold tree;
      entries = table_matches tree;
      typed = heads_typed tree shape;
      procedures =
          every_map (HeldFrom (table_of tree) blocks) (IsFrom blocks) (λ p k. k.1) (typed_tree tree).procedures
          (all_held tree shape (ranges_kept s tokens tree t h) typed);
    }
