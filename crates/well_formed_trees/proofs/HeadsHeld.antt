-- The block of each procedure that a block declares stands in that one; it has its typed procedure, and its entry.
use Rattle.std.proofs.Common.{◌≡◌, ℕ, zero, suc, ◌+◌, ◌==◌, Bool, true, false, ◌||◌, List, [], ◌∷◌, ◌++◌, map}
use Rattle.std.proofs.Common.{length, Option, Some, None, refl, sym, ap, ◌∙◌, subst, arith}
use Rattle.std.specs.Prelude.{slice_get, ⊤}
use Rattle.std.specs.List.{list_any, flat_map}
use Rattle.std.proofs.lemmas.Bool.Decides.{nat_tests}
use Rattle.pli_language.specs.Tree as T
use Rattle.pli_language.specs.Declarations as D
use Rattle.pli_language.specs.Declarations.{Block, Declaration, What, Held, Variable', ProcedureName, declared_in}
use Rattle.pli_language.specs.Declarations.{declared_in_item, declared_in_stmt, blocks_in, blocks_in_item}
use Rattle.pli_language.specs.Declarations.{blocks_in_stmt}
use Rattle.pli_language.specs.Declarations.{blocks_of, outermost, labels_declared, variable_declared, held}
use Rattle.pli_language.specs.Declarations.{variables_of}
use Rattle.pli_typing.specs.TypedTree as Y
use Rattle.pli_typing.specs.SingleStatements as S
use Rattle.pli_typing.specs.SingleStatements.{Context, in_list, in_block, in_unit}
use Rattle.pli_typing.specs.Resolving.{statement, statements, block_variables, outermost_context, resolved, typed_tree}
use Rattle.pli_typing.specs.Resolving.{letters_of}
use Rattle.well_formed_trees.specs.Every.{Every}
use Rattle.well_formed_trees.specs.Written.{EndsLast, AllEndLast, IsShaped}
use Rattle.well_formed_trees.specs.Surroundings.{Around, Table, head_of, with_inner, without_inner}
use Rattle.well_formed_trees.specs.Held.{entry, entries_in, entries_in_item, entries_in_stmt, table_of}
use Rattle.well_formed_trees.proofs.Lists.{every_both}
use Rattle.well_formed_trees.proofs.Places.{HasAt, has_first, has_second, has_end, same_some}
use Rattle.well_formed_trees.proofs.BlocksHeld.{stmt_length, item_length}

-- ---- the block of each head

pub record IsBlockOf (blocks : List Block) (around : List ℕ) (head : T.ProcedureHead) : Type 0 where
  pub number : ℕ
  pub block : Block
  pub has_block : slice_get blocks number ≡ Some block
  pub has_head : block.head ≡ Some head
  pub around_is : block.around ≡ number ∷ around

abbrev pub HeadHeld : List Block → List ℕ → What → Type 0
HeadHeld blocks around (ProcedureName head) = IsBlockOf blocks around head
HeadHeld blocks around (Variable' h) = ⊤
HeadHeld blocks around D.Label = ⊤

abbrev pub HeadsHeld : List Block → List ℕ → List Declaration → Type 0
HeadsHeld blocks around ds = Every (λ d. HeadHeld blocks around d.what) ds

no_heads : (blocks : List Block) (around : List ℕ) (hs : List Held) → HeadsHeld blocks around (map variable_declared hs)
no_heads blocks around [] = tt
no_heads blocks around (h ∷ hs) = (tt, no_heads blocks around hs)

label_heads : (blocks : List Block) (around : List ℕ) (ns : List T.Name) → HeadsHeld blocks around (labels_declared ns)
label_heads blocks around [] = tt
label_heads blocks around (n ∷ ns) = (tt, label_heads blocks around ns)

own_heads : (blocks : List Block) (around : List ℕ) (head : T.ProcedureHead) (ns : List T.Name)
    → IsBlockOf blocks around head
    → HeadsHeld blocks around (map (λ n. record { name = n; what = ProcedureName head }) ns)
own_heads blocks around head [] h = tt
own_heads blocks around head (n ∷ ns) h = (h, own_heads blocks around head ns h)

mutual
  unfolding declared_in declared_in_item declared_in_stmt blocks_in blocks_in_item blocks_in_stmt

  list_heads : (blocks : List Block) (around : List ℕ) (n : ℕ) (is : T.Items)
      → HasAt blocks n (blocks_in around n is) → HeadsHeld blocks around (declared_in is)
  list_heads blocks around n T.NoItem h = tt
  list_heads blocks around n (T.ItemThen i is) h =
      let bs = blocks_in_item around n i in
      let cs = blocks_in around (n + length bs) is in
      every_both (λ d. HeadHeld blocks around d.what) (declared_in_item i) (declared_in is)
      (item_heads blocks around n i (has_first blocks n bs cs h))
      (list_heads blocks around (n + length bs) is (has_second blocks n bs cs h))

  item_heads : (blocks : List Block) (around : List ℕ) (n : ℕ) (i : T.Item)
      → HasAt blocks n (blocks_in_item around n i) → HeadsHeld blocks around (declared_in_item i)
  item_heads blocks around n (T.Procedure head body) h =
      own_heads blocks around head head.labels (record {
        number = n;
        block = record { around = n ∷ around; head = Some head; declarations = declared_in body };
        has_block = h.0;
        has_head = refl;
        around_is = refl;
      })
  item_heads blocks around n (T.Declare items place) h =
      no_heads blocks around (held [] (flat_map variables_of items))
  item_heads blocks around n (T.Statement labels s) h =
      every_both (λ d. HeadHeld blocks around d.what) (labels_declared labels) (declared_in_stmt s)
      (label_heads blocks around labels) (stmt_heads blocks around n s h)
  item_heads blocks around n (T.EndLabels labels place) h = label_heads blocks around labels

  stmt_heads : (blocks : List Block) (around : List ℕ) (n : ℕ) (s : T.Stmt)
      → HasAt blocks n (blocks_in_stmt around n s) → HeadsHeld blocks around (declared_in_stmt s)
  stmt_heads blocks around n (T.If e unit p) h = stmt_heads blocks around n unit h
  stmt_heads blocks around n (T.IfElse e unit otherwise p) h =
      let bs = blocks_in_stmt around n unit in
      let cs = blocks_in_stmt around (n + length bs) otherwise in
      every_both (λ d. HeadHeld blocks around d.what) (declared_in_stmt unit) (declared_in_stmt otherwise)
      (stmt_heads blocks around n unit (has_first blocks n bs cs h))
      (stmt_heads blocks around (n + length bs) otherwise (has_second blocks n bs cs h))
  stmt_heads blocks around n (T.Do body p) h = list_heads blocks around n body h
  stmt_heads blocks around n (T.DoWhile e body p) h = list_heads blocks around n body h
  stmt_heads blocks around n (T.DoCount c body p) h = list_heads blocks around n body h
  stmt_heads blocks around n (T.OnUnit c unit p) h = stmt_heads blocks around n unit h
  stmt_heads blocks around n _ h = tt

-- each block holds its heads, and has its own number first
abbrev pub BlockHolds : List Block → ℕ → Block → Type 0
BlockHolds blocks n b = HeadsHeld blocks b.around b.declarations × ((rest : List ℕ) × (b.around ≡ n ∷ rest))

abbrev pub EveryFrom : {X : Type 0} → (ℕ → X → Type 0) → ℕ → List X → Type 0
EveryFrom P n [] = ⊤
EveryFrom P n (x ∷ xs) = P n x × EveryFrom P (n + 1) xs

from_same : {X : Type 0} (P : ℕ → X → Type 0) (n m : ℕ) (xs : List X) → n ≡ m → EveryFrom P n xs → EveryFrom P m xs
from_same P n m xs e h = subst (λ n. EveryFrom P n xs) e h

from_both : {X : Type 0} (P : ℕ → X → Type 0) (n : ℕ) (xs ys : List X) → EveryFrom P n xs
    → EveryFrom P (n + length xs) ys → EveryFrom P n (xs ++ ys)
from_both P n [] ys h k =
    let z : n + 0 ≡ n = omega arith in
    from_same P (n + 0) n ys z k
from_both P n (x ∷ xs) ys h k =
    let z : n + suc (length xs) ≡ (n + 1) + length xs = omega arith in
    (h.0, from_both P (n + 1) xs ys h.1 (from_same P (n + suc (length xs)) ((n + 1) + length xs) ys z k))

pub from_at : {X : Type 0} (P : ℕ → X → Type 0) (n : ℕ) (xs : List X) (i : ℕ) (x : X) → EveryFrom P n xs
    → slice_get xs i ≡ Some x → P (n + i) x
from_at P n [] i x h e = absurd (cc e)
from_at P n (y ∷ ys) zero x h e =
    let z : n ≡ n + 0 = omega arith in
    subst (λ y. P (n + 0) y) (same_some y x e) (subst (λ n. P n y) z h.0)
from_at P n (y ∷ ys) (suc i) x h e =
    let z : (n + 1) + i ≡ n + suc i = omega arith in
    subst (λ n. P n x) z (from_at P (n + 1) ys i x h.1 e)

mutual
  unfolding blocks_in blocks_in_item blocks_in_stmt

  blocks_hold : (blocks : List Block) (around : List ℕ) (n : ℕ) (is : T.Items)
      → HasAt blocks n (blocks_in around n is) → EveryFrom (BlockHolds blocks) n (blocks_in around n is)
  blocks_hold blocks around n T.NoItem h = tt
  blocks_hold blocks around n (T.ItemThen i is) h =
      let bs = blocks_in_item around n i in
      let cs = blocks_in around (n + length bs) is in
      from_both (BlockHolds blocks) n bs cs (item_blocks_hold blocks around n i (has_first blocks n bs cs h))
      (blocks_hold blocks around (n + length bs) is (has_second blocks n bs cs h))

  item_blocks_hold : (blocks : List Block) (around : List ℕ) (n : ℕ) (i : T.Item)
      → HasAt blocks n (blocks_in_item around n i) → EveryFrom (BlockHolds blocks) n (blocks_in_item around n i)
  item_blocks_hold blocks around n (T.Procedure head body) h = (
    (list_heads blocks (n ∷ around) (n + 1) body h.1, (around, refl)),
    blocks_hold blocks (n ∷ around) (n + 1) body h.1,
  )
  item_blocks_hold blocks around n (T.Declare items place) h = tt
  item_blocks_hold blocks around n (T.Statement labels s) h = stmt_blocks_hold blocks around n s h
  item_blocks_hold blocks around n (T.EndLabels labels place) h = tt

  stmt_blocks_hold : (blocks : List Block) (around : List ℕ) (n : ℕ) (s : T.Stmt)
      → HasAt blocks n (blocks_in_stmt around n s) → EveryFrom (BlockHolds blocks) n (blocks_in_stmt around n s)
  stmt_blocks_hold blocks around n (T.If e unit p) h = stmt_blocks_hold blocks around n unit h
  stmt_blocks_hold blocks around n (T.IfElse e unit otherwise p) h =
      let bs = blocks_in_stmt around n unit in
      let cs = blocks_in_stmt around (n + length bs) otherwise in
      from_both (BlockHolds blocks) n bs cs (stmt_blocks_hold blocks around n unit (has_first blocks n bs cs h))
      (stmt_blocks_hold blocks around (n + length bs) otherwise (has_second blocks n bs cs h))
  stmt_blocks_hold blocks around n (T.Do body p) h = blocks_hold blocks around n body h
  stmt_blocks_hold blocks around n (T.DoWhile e body p) h = blocks_hold blocks around n body h
  stmt_blocks_hold blocks around n (T.DoCount c body p) h = blocks_hold blocks around n body h
  stmt_blocks_hold blocks around n (T.OnUnit c unit p) h = stmt_blocks_hold blocks around n unit h
  stmt_blocks_hold blocks around n (T.Begin body p) h = (
    (list_heads blocks (n ∷ around) (n + 1) body h.1, (around, refl)),
    blocks_hold blocks (n ∷ around) (n + 1) body h.1,
  )
  stmt_blocks_hold blocks around n _ h = tt

pub all_blocks_hold : (tree : T.Tree) → EveryFrom (BlockHolds (blocks_of tree)) 0 (blocks_of tree)
unfolding blocks_of
all_blocks_hold tree = (
  (tt, ([], refl)),
  blocks_hold (blocks_of tree) (0 ∷ []) 1 tree.procedures
      (has_end (blocks_of tree) (outermost ∷ []) (blocks_in (0 ∷ []) 1 tree.procedures) refl),
)

-- ---- entries and blocks around

abbrev pub numbers_around : List Around → List ℕ
numbers_around w = map (λ a. a.number) w ++ 0 ∷ []

abbrev pub AllMatch : Table → List Block → Type 0
AllMatch [] [] = ⊤
AllMatch (e ∷ es) (b ∷ bs) = (numbers_around e ≡ b.around) × AllMatch es bs
AllMatch _ _ = ⊥

both_match : (es fs : Table) (bs cs : List Block) → AllMatch es bs → AllMatch fs cs → AllMatch (es ++ fs) (bs ++ cs)
both_match [] fs [] cs h k = k
both_match (e ∷ es) fs (b ∷ bs) cs h k = (h.0, both_match es fs bs cs h.1 k)
both_match [] fs (b ∷ bs) cs h k = absurd h
both_match (e ∷ es) fs [] cs h k = absurd h

pub match_at : (es : Table) (bs : List Block) (i : ℕ) (e : List Around) (b : Block) → AllMatch es bs
    → slice_get es i ≡ Some e → slice_get bs i ≡ Some b → numbers_around e ≡ b.around
match_at [] bs i e b h f g = absurd (cc f)
match_at (x ∷ es) [] i e b h f g = absurd (cc g)
match_at (x ∷ es) (y ∷ bs) zero e b h f g =
    ap numbers_around (sym (same_some x e f)) ∙ (h.0 ∙ ap (λ (b : Block). b.around) (same_some y b g))
match_at (x ∷ es) (y ∷ bs) (suc i) e b h f g = match_at es bs i e b h.1 f g

pub entry_at : (es : Table) (bs : List Block) (i : ℕ) (b : Block) → AllMatch es bs → slice_get bs i ≡ Some b
    → (e : List Around) × (slice_get es i ≡ Some e)
entry_at [] [] i b h g = absurd (cc g)
entry_at [] (y ∷ bs) i b h g = absurd h
entry_at (x ∷ es) [] i b h g = absurd h
entry_at (x ∷ es) (y ∷ bs) zero b h g = (x, refl)
entry_at (x ∷ es) (y ∷ bs) (suc i) b h g = entry_at es bs i b h.1 g

pub inner_numbers : (ls : _) (w : List Around) → numbers_around (with_inner ls w) ≡ numbers_around w
inner_numbers ls [] = refl
inner_numbers ls (a ∷ more) = refl

pub outer_numbers : (w : List Around) → numbers_around (without_inner w) ≡ numbers_around w
outer_numbers [] = refl
outer_numbers (a ∷ more) = refl

-- from one number on
match_from : (w : List Around) (ns : List ℕ) (n m : ℕ) (is : T.Items) → n ≡ m
    → AllMatch (entries_in w m is) (blocks_in ns m is) → AllMatch (entries_in w n is) (blocks_in ns m is)
match_from w ns n m is e h = subst (λ k. AllMatch (entries_in w k is) (blocks_in ns m is)) (sym e) h

mutual
  unfolding entries_in entries_in_item entries_in_stmt blocks_in blocks_in_item blocks_in_stmt

  list_match : (w : List Around) (ns : List ℕ) (n : ℕ) (is : T.Items) → numbers_around w ≡ ns
      → AllMatch (entries_in w n is) (blocks_in ns n is)
  list_match w ns n T.NoItem e = tt
  list_match w ns n (T.ItemThen i is) e =
      let es = entries_in_item w n i in
      let bs = blocks_in_item ns n i in
      let same : n + length es ≡ n + length bs = ap (λ k. n + k) (item_length w ns n n i) in
      both_match es (entries_in w (n + length es) is) bs (blocks_in ns (n + length bs) is) (item_match w ns n i e)
      (match_from w ns (n + length es) (n + length bs) is same (list_match w ns (n + length bs) is e))

  item_match : (w : List Around) (ns : List ℕ) (n : ℕ) (i : T.Item) → numbers_around w ≡ ns
      → AllMatch (entries_in_item w n i) (blocks_in_item ns n i)
  item_match w ns n (T.Procedure head body) e =
      let f : numbers_around (without_inner w) ≡ ns = outer_numbers w ∙ e in (
        ap (λ l. n ∷ l) f,
        list_match (entry n (S.labels_in body) (without_inner w)) (n ∷ ns) (n + 1) body (ap (λ l. n ∷ l) f),
      )
  item_match w ns n (T.Declare items place) e = tt
  item_match w ns n (T.Statement labels s) e = stmt_match w ns n s e
  item_match w ns n (T.EndLabels labels place) e = tt

  stmt_match : (w : List Around) (ns : List ℕ) (n : ℕ) (s : T.Stmt) → numbers_around w ≡ ns
      → AllMatch (entries_in_stmt w n s) (blocks_in_stmt ns n s)
  stmt_match w ns n (T.If x unit p) e = stmt_match w ns n unit e
  stmt_match w ns n (T.IfElse x unit otherwise p) e =
      let es = entries_in_stmt w n unit in
      let bs = blocks_in_stmt ns n unit in
      let same : n + length es ≡ n + length bs = ap (λ k. n + k) (stmt_length w ns n n unit) in
      both_match es (entries_in_stmt w (n + length es) otherwise) bs (blocks_in_stmt ns (n + length bs) otherwise)
      (stmt_match w ns n unit e)
      (subst (λ k. AllMatch (entries_in_stmt w k otherwise) (blocks_in_stmt ns (n + length bs) otherwise)) (sym same)
      (stmt_match w ns (n + length bs) otherwise e))
  stmt_match w ns n (T.Do body p) e =
      let ls = letters_of (S.labels_in body) in
      list_match (with_inner ls w) ns n body (inner_numbers ls w ∙ e)
  stmt_match w ns n (T.DoWhile x body p) e =
      let ls = letters_of (S.labels_in body) in
      list_match (with_inner ls w) ns n body (inner_numbers ls w ∙ e)
  stmt_match w ns n (T.DoCount x body p) e =
      let ls = letters_of (S.labels_in body) in
      list_match (with_inner ls w) ns n body (inner_numbers ls w ∙ e)
  stmt_match w ns n (T.OnUnit x unit p) e = stmt_match (without_inner w) ns n unit (outer_numbers w ∙ e)
  stmt_match w ns n (T.Begin body p) e = (
    ap (λ l. n ∷ l) e,
    list_match (entry n (S.labels_in body) w) (n ∷ ns) (n + 1) body (ap (λ l. n ∷ l) e),
  )
  stmt_match w ns n _ e = tt

pub table_matches : (tree : T.Tree) → AllMatch (table_of tree) (blocks_of tree)
unfolding blocks_of
table_matches tree = (refl, list_match [] (0 ∷ []) 1 tree.procedures refl)

-- ---- a typed procedure for each head

abbrev pub has_number : ℕ → List Y.Procedure → Bool
has_number n ps = list_any (λ p. (head_of p.block).number == n) ps

abbrev pub IsTyped : List Y.Procedure → ℕ → Option T.ProcedureHead → Type 0
IsTyped ps n None = ⊤
IsTyped ps n (Some head) = has_number n ps ≡ true

abbrev pub AreTyped : List Y.Procedure → ℕ → List Block → Type 0
AreTyped ps n bs = EveryFrom (λ n b. IsTyped ps n b.head) n bs

number_first : (n : ℕ) (ps qs : List Y.Procedure) → has_number n ps ≡ true → has_number n (ps ++ qs) ≡ true
number_first n [] qs e = absurd (cc e)
number_first n (p ∷ ps) qs e = by ((head_of p.block).number == n) e (number_first n ps qs) where
  by : (b : Bool) → (b || has_number n ps) ≡ true → (has_number n ps ≡ true → has_number n (ps ++ qs) ≡ true)
      → (b || has_number n (ps ++ qs)) ≡ true
  by true e k = refl
  by false e k = k e

number_second : (n : ℕ) (ps qs : List Y.Procedure) → has_number n qs ≡ true → has_number n (ps ++ qs) ≡ true
number_second n [] qs e = e
number_second n (p ∷ ps) qs e = by ((head_of p.block).number == n) (number_second n ps qs e) where
  by : (b : Bool) → has_number n (ps ++ qs) ≡ true → (b || has_number n (ps ++ qs)) ≡ true
  by true e = refl
  by false e = e

still_typed : (ps qs : List Y.Procedure) → ((n : ℕ) → has_number n ps ≡ true → has_number n qs ≡ true) → (n : ℕ)
    (bs : List Block) → AreTyped ps n bs → AreTyped qs n bs
still_typed ps qs f n [] h = tt
still_typed ps qs f n (b ∷ bs) h = (by b.head h.0, still_typed ps qs f (n + 1) bs h.1) where
  by : (o : Option T.ProcedureHead) → IsTyped ps n o → IsTyped qs n o
  by None k = tt
  by (Some head) k = f n k

typed_first : (ps qs : List Y.Procedure) (n : ℕ) (bs : List Block) → AreTyped ps n bs → AreTyped (ps ++ qs) n bs
typed_first ps qs n bs h = still_typed ps (ps ++ qs) (λ n e. number_first n ps qs e) n bs h

typed_second : (ps qs : List Y.Procedure) (n : ℕ) (bs : List Block) → AreTyped qs n bs → AreTyped (ps ++ qs) n bs
typed_second ps qs n bs h = still_typed qs (ps ++ qs) (λ n e. number_second n ps qs e) n bs h

own_number : (n : ℕ) → (n == n) ≡ true
own_number n = grind (arith, nat_tests)

mutual
  unfolding statement statements blocks_in blocks_in_item blocks_in_stmt

  list_typed : (c : Context) (n : ℕ) (is : T.Items) → AllEndLast is
      → AreTyped (statements c n is).procedures n (blocks_in c.around n is)
  list_typed c n T.NoItem l = tt
  list_typed c n (T.ItemThen (T.Procedure head body) is) l =
      let d = in_block c n (S.labels_in body) in
      let r = statements d (n + 1) body in
      let bs = blocks_in_item c.around n (T.Procedure head body) in
      let ps = (statements c n (T.ItemThen (T.Procedure head body) is)).procedures in
      let inner = list_typed d (n + 1) body l.0 in
      let more = list_typed c (n + length bs) is l.1 in
      let here : AreTyped ps n bs = (
        ap (λ b. b || has_number n (r.procedures ++ (statements c (n + length bs) is).procedures)) (own_number n),
        still_typed r.procedures ps
            (λ k e. later ((n == k)) (number_first k r.procedures (statements c (n + length bs) is).procedures e)) (n
            + 1)
            (blocks_in (n ∷ c.around) (n + 1) body) inner,
      ) in
      from_both (λ n b. IsTyped ps n b.head) n bs (blocks_in c.around (n + length bs) is) here
      (still_typed (statements c (n + length bs) is).procedures ps
      (λ k e. later (n == k) (number_second k r.procedures (statements c (n + length bs) is).procedures e))
      (n + length bs) (blocks_in c.around (n + length bs) is) more) where
        later : (b : Bool) {x : Bool} → x ≡ true → (b || x) ≡ true
        later true e = refl
        later false e = e
  list_typed c n (T.ItemThen (T.Declare items place) is) l =
      let z : n + 0 ≡ n = omega arith in
      subst (λ m. AreTyped (statements c n is).procedures n (blocks_in c.around m is)) (sym z) (list_typed c n is l)
  list_typed c n (T.ItemThen (T.Statement labels s) is) l =
      let bs = blocks_in_stmt c.around n s in
      let ps = (statement c n s).procedures in
      let qs = (statements c (n + length bs) is).procedures in
      from_both (λ k b. IsTyped (ps ++ (qs ++ [])) k b.head) n bs (blocks_in c.around (n + length bs) is)
      (typed_first ps (qs ++ []) n bs (stmt_typed c n s l.0))
      (typed_second ps (qs ++ []) (n + length bs) (blocks_in c.around (n + length bs) is)
      (typed_first qs [] (n + length bs) (blocks_in c.around (n + length bs) is)
      (list_typed c (n + length bs) is l.1)))
  list_typed c n (T.ItemThen (T.EndLabels labels place) is) l =
      let z : n + 0 ≡ n = omega arith in
      subst (λ m. AreTyped [] n (blocks_in c.around m is)) (sym z)
      (subst (λ is. AreTyped [] n (blocks_in c.around n is)) (sym l) tt)

  stmt_typed : (c : Context) (n : ℕ) (s : T.Stmt) → EndsLast s
      → AreTyped (statement c n s).procedures n (blocks_in_stmt c.around n s)
  stmt_typed c n (T.If e unit p) l =
      typed_first (statement c n unit).procedures [] n (blocks_in_stmt c.around n unit) (stmt_typed c n unit l)
  stmt_typed c n (T.IfElse e unit otherwise p) l =
      let bs = blocks_in_stmt c.around n unit in
      let cs = blocks_in_stmt c.around (n + length bs) otherwise in
      let ps = (statement c n unit).procedures in
      let qs = (statement c (n + length bs) otherwise).procedures in
      from_both (λ k b. IsTyped (ps ++ (qs ++ [])) k b.head) n bs cs
      (typed_first ps (qs ++ []) n bs (stmt_typed c n unit l.0))
      (typed_second ps (qs ++ []) (n + length bs) cs
      (typed_first qs [] (n + length bs) cs (stmt_typed c (n + length bs) otherwise l.1)))
  stmt_typed c n (T.Do body p) l =
      let d = in_list c (S.labels_in body) in
      typed_first (statements d n body).procedures [] n (blocks_in c.around n body) (list_typed d n body l)
  stmt_typed c n (T.DoWhile e body p) l =
      let d = in_list c (S.labels_in body) in
      typed_first (statements d n body).procedures [] n (blocks_in c.around n body) (list_typed d n body l)
  stmt_typed c n (T.DoCount e body p) l =
      let d = in_list c (S.labels_in body) in
      typed_first (statements d n body).procedures [] n (blocks_in c.around n body) (list_typed d n body l)
  stmt_typed c n (T.OnUnit x unit p) l =
      typed_first (statement (in_unit c) n unit).procedures [] n (blocks_in_stmt c.around n unit)
      (stmt_typed (in_unit c) n unit l.1)
  stmt_typed c n (T.Begin body p) l =
      let d = in_block c n (S.labels_in body) in (
        tt,
        typed_first (statements d (n + 1) body).procedures [] (n + 1) (blocks_in (n ∷ c.around) (n + 1) body)
            (list_typed d (n + 1) body l),
      )
  stmt_typed c n _ l = tt

pub heads_typed : (tree : T.Tree) → IsShaped tree → AreTyped (typed_tree tree).procedures 0 (blocks_of tree)
unfolding resolved blocks_of
heads_typed tree h =
    let all = blocks_of tree in
    let r = statements (outermost_context all) 1 tree.procedures in (
      tt,
      typed_first r.procedures (block_variables all 0 all).procedures 1 (blocks_in (0 ∷ []) 1 tree.procedures)
          (list_typed (outermost_context all) 1 tree.procedures h.ends),
    )
