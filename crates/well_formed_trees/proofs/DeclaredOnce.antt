-- No two of what blocks declare, and of the procedures that they are, stand at one place.
use Rattle.std.proofs.Common.{◌≡◌, ℕ, zero, suc, ◌+◌, ◌≤◌, ◌<◌, ◌==◌, Bool, true, false, ◌&&◌, List, [], ◌∷◌, ◌++◌}
use Rattle.std.proofs.Common.{map, length, Option, Some, None, refl, sym, ap, ◌∙◌, arith, inl}
use Rattle.std.proofs.Common.{inr}
use Rattle.std.specs.Prelude.{slice_get}
use Rattle.std.specs.List.{flat_map}
use Rattle.std.proofs.lemmas.Bool.{eqb-true}
use Rattle.std.proofs.lemmas.Bool.Decides.{nat_tests}
use Rattle.pli_language.specs.declared.expr.Place.{Place}
use Rattle.pli_language.specs.declared.token.Token.{Token}
use Rattle.pli_language.specs.Tokens.{Tokens}
use Rattle.pli_language.specs.Parsing.{Spells}
use Rattle.pli_language.specs.Tree as T
use Rattle.pli_language.specs.Declarations.{Declaration, Block, Variable, declared_in, declared_in_item}
use Rattle.pli_language.specs.Declarations.{declared_in_stmt, blocks_in, blocks_in_item, blocks_in_stmt, blocks_of}
use Rattle.pli_language.specs.Declarations.{labels_declared, variable_declared, held}
use Rattle.pli_language.specs.Declarations.{holders, variables_of, ProcedureName}
use Rattle.pli_language.specs.Declaring.{same_place}
use Rattle.well_formed_trees.specs.Every.{Every}
use Rattle.well_formed_trees.specs.Placed.{IsBefore, AreRising, name_places, declared_places, places_in, item_places}
use Rattle.well_formed_trees.specs.Placed.{stmt_places}
use Rattle.well_formed_trees.proofs.Letters.{first_true, second_true, both_true}
use Rattle.well_formed_trees.proofs.Places.{same_some}
use Rattle.well_formed_trees.proofs.PlacesRise.{places_kept}

-- ---- sums

abbrev pub total : {X : Type 0} → (X → ℕ) → List X → ℕ
total f [] = 0
total f (x ∷ xs) = f x + total f xs

pub total_append : {X : Type 0} (f : X → ℕ) (xs ys : List X) → total f (xs ++ ys) ≡ total f xs + total f ys
total_append f [] ys = omega arith
total_append f (x ∷ xs) ys =
    let a = total_append f xs ys in
    omega (arith, a)

pub total_map : {X Z : Type 0} (f : Z → ℕ) (g : X → Z) (xs : List X) → total f (map g xs) ≡ total (λ x. f (g x)) xs
total_map f g [] = refl
total_map f g (x ∷ xs) = ap (λ n. f (g x) + n) (total_map f g xs)

-- one of them is no more than the sum
pub one_of_total : {X : Type 0} (f : X → ℕ) (xs : List X) (i : ℕ) (x : X) → slice_get xs i ≡ Some x
    → f x ≤ total f xs
one_of_total f [] i x e = absurd (cc e)
one_of_total f (y ∷ ys) zero x e =
    let s : f y ≡ f x = ap f (same_some y x e) in
    omega (arith, s)
one_of_total f (y ∷ ys) (suc i) x e =
    let a = one_of_total f ys i x e in
    omega (arith, a)

-- where the sum is 1 at most, only one of them is some
pub only_one : {X : Type 0} (f : X → ℕ) (xs : List X) → total f xs ≤ 1 → (i j : ℕ) (x y : X)
    → slice_get xs i ≡ Some x → slice_get xs j ≡ Some y → 1 ≤ f x → 1 ≤ f y → i ≡ j
only_one f [] h i j x y e d a b = absurd (cc e)
only_one f (z ∷ zs) h zero zero x y e d a b = refl
only_one f (z ∷ zs) h zero (suc j) x y e d a b =
    let s : f z ≡ f x = ap f (same_some z x e) in
    let k = one_of_total f zs j y d in
    absurd (omega (arith, s, k, h, a, b))
only_one f (z ∷ zs) h (suc i) zero x y e d a b =
    let s : f z ≡ f y = ap f (same_some z y d) in
    let k = one_of_total f zs i x e in
    absurd (omega (arith, s, k, h, a, b))
only_one f (z ∷ zs) h (suc i) (suc j) x y e d a b =
    let k : total f zs ≤ 1 = omega (arith, h) in
    ap suc (only_one f zs k i j x y e d a b)

-- ---- how often a place stands among some

abbrev pub is_spot : Bool → ℕ
is_spot true = 1
is_spot false = 0

abbrev pub spot : Place → Place → ℕ
spot p q = is_spot (same_place p q)

pub spot_one : (b : Bool) → b ≡ true → 1 ≤ is_spot b
spot_one true e = omega arith
spot_one false e = absurd (cc e)

pub same_place_self : (p : Place) → same_place p p ≡ true
same_place_self p = both_true (p.line == p.line) (p.column == p.column) (eq p.line) (eq p.column) where
  eq : (n : ℕ) → (n == n) ≡ true
  eq n = grind (arith, nat_tests)

pub same_place_turned : (p q : Place) → same_place p q ≡ true → same_place q p ≡ true
same_place_turned p q e =
    both_true (q.line == p.line) (q.column == p.column)
    (turned p.line q.line (first_true (p.line == q.line) (p.column == q.column) e))
    (turned p.column q.column (second_true (p.line == q.line) (p.column == q.column) e)) where
      turned : (n m : ℕ) → (n == m) ≡ true → (m == n) ≡ true
      turned n m e = grind (arith, nat_tests)

not_spot : (p q : Place) → IsBefore p q → spot p q ≡ 0
not_spot p q (inl h) = ap (λ b. is_spot (b && (p.column == q.column))) (less p.line q.line h) where
  less : (n m : ℕ) → n < m → (n == m) ≡ false
  less n m h = grind (arith, nat_tests)
not_spot p q (inr h) = off (p.line == q.line) (p.column == q.column) (less p.column q.column h.1) where
  off : (a b : Bool) → b ≡ false → is_spot (a && b) ≡ 0
  off true b e = ap is_spot e
  off false b e = refl

  less : (n m : ℕ) → n < m → (n == m) ≡ false
  less n m h = grind (arith, nat_tests)

-- a place that stands before all of these is none of them
none_later : (p q : Place) (ps : List Place) → same_place p q ≡ true → Every (IsBefore q) ps → total (spot p) ps ≡ 0
none_later p q [] e h = refl
none_later p q (r ∷ rs) e h =
    let a : spot p r ≡ 0 = not_spot p r (moved p q r e h.0) in
    let b = none_later p q rs e h.1 in
    omega (arith, a, b) where
      moved : (p q r : Place) → same_place p q ≡ true → IsBefore q r → IsBefore p r
      moved p q r e h =
          let l = eqb-true p.line q.line (first_true (p.line == q.line) (p.column == q.column) e) in
          let c = eqb-true p.column q.column (second_true (p.line == q.line) (p.column == q.column) e) in
          by l c h where
            by : p.line ≡ q.line → p.column ≡ q.column → IsBefore q r → IsBefore p r
            by l c (inl h) = inl (omega (arith, l, h))
            by l c (inr h) =
                let a = h.0 in
                let b = h.1 in
                inr (l ∙ a, omega (arith, c, b))

rising_once : (p : Place) (ps : List Place) → AreRising ps → total (spot p) ps ≤ 1
rising_once p [] h = omega arith
rising_once p (q ∷ qs) h = by (same_place p q) refl (rising_once p qs h.1) where
  by : (b : Bool) → same_place p q ≡ b → total (spot p) qs ≤ 1 → is_spot (same_place p q) + total (spot p) qs ≤ 1
  by true e a =
      let c = none_later p q qs e h.0 in
      let b : is_spot (same_place p q) ≡ 1 = ap is_spot e in
      omega (arith, c, b)
  by false e a =
      let b : is_spot (same_place p q) ≡ 0 = ap is_spot e in
      omega (arith, a, b)

-- ---- how often one stands among what blocks declare and are

abbrev pub at_declaration : Place → Declaration → ℕ
at_declaration p d = spot p d.name.place

abbrev pub at_head : Place → Option T.ProcedureHead → ℕ
at_head p None = 0
at_head p (Some head) = spot p head.place

abbrev pub at_block : Place → Block → ℕ
at_block p b = at_head p b.head + total (at_declaration p) b.declarations

labels_total : (p : Place) (names : List T.Name)
    → total (at_declaration p) (labels_declared names) ≡ total (spot p) (name_places names)
labels_total p [] = refl
labels_total p (n ∷ ns) = ap (λ k. spot p n.place + k) (labels_total p ns)

procedure_total : (p : Place) (head : T.ProcedureHead) (names : List T.Name)
    → total (at_declaration p) (map (λ n. record { name = n; what = ProcedureName head }) names)
    ≡ total (spot p) (name_places names)
procedure_total p head [] = refl
procedure_total p head (n ∷ ns) = ap (λ k. spot p n.place + k) (procedure_total p head ns)

held_total : (p : Place) (chain vs : List Variable)
    → total (at_declaration p) (map variable_declared (held chain vs))
    ≡ total (λ v. spot p v.declared.name.place) vs
unfolding held
held_total p chain [] = refl
held_total p chain (v ∷ vs) =
    ap (λ k. spot p v.declared.name.place + k) (held_total p (holders chain v ++ v ∷ []) vs)

variables_total : (p : Place) (items : List T.DeclareItem)
    → total (λ v. spot p v.declared.name.place) (flat_map variables_of items) ≡ total (spot p) (declared_places items)
variables_total p [] = refl
variables_total p (d ∷ ds) =
    let f : Variable → ℕ = λ v. spot p v.declared.name.place in
    let a = total_append f (variables_of d) (flat_map variables_of ds) in
    let b = total_append (spot p) (map (λ n. n.name.place) d.names) (declared_places ds) in
    let c = total_map f (λ n. record { declared = n; item = d }) d.names in
    let e = total_map (spot p) (λ (n : T.DeclaredName). n.name.place) d.names in
    let g = variables_total p ds in
    omega (arith, a, b, c, e, g)

mutual
  unfolding declared_in declared_in_item declared_in_stmt blocks_in blocks_in_item blocks_in_stmt

  list_total : (p : Place) (around : List ℕ) (n : ℕ) (is : T.Items)
      → total (at_declaration p) (declared_in is) + total (at_block p) (blocks_in around n is)
      ≡ total (spot p) (places_in is)
  list_total p around n T.NoItem = refl
  list_total p around n (T.ItemThen i is) =
      let bs = blocks_in_item around n i in
      let a = total_append (at_declaration p) (declared_in_item i) (declared_in is) in
      let b = total_append (at_block p) bs (blocks_in around (n + length bs) is) in
      let c = total_append (spot p) (item_places i) (places_in is) in
      let d = item_total p around n i in
      let e = list_total p around (n + length bs) is in
      omega (arith, a, b, c, d, e)

  item_total : (p : Place) (around : List ℕ) (n : ℕ) (i : T.Item)
      → total (at_declaration p) (declared_in_item i) + total (at_block p) (blocks_in_item around n i)
      ≡ total (spot p) (item_places i)
  item_total p around n (T.Procedure head body) =
      let a = procedure_total p head head.labels in
      let b = list_total p (n ∷ around) (n + 1) body in
      let c = total_append (spot p) (name_places head.labels) (head.place ∷ places_in body) in
      omega (arith, a, b, c)
  item_total p around n (T.Declare items place) =
      let a = held_total p [] (flat_map variables_of items) in
      let b = variables_total p items in
      omega (arith, a, b)
  item_total p around n (T.Statement labels s) =
      let a = total_append (at_declaration p) (labels_declared labels) (declared_in_stmt s) in
      let b = labels_total p labels in
      let c = total_append (spot p) (name_places labels) (stmt_places s) in
      let d = stmt_total p around n s in
      omega (arith, a, b, c, d)
  item_total p around n (T.EndLabels labels place) =
      let a = labels_total p labels in
      omega (arith, a)

  stmt_total : (p : Place) (around : List ℕ) (n : ℕ) (s : T.Stmt)
      → total (at_declaration p) (declared_in_stmt s) + total (at_block p) (blocks_in_stmt around n s)
      ≡ total (spot p) (stmt_places s)
  stmt_total p around n (T.If e unit place) = stmt_total p around n unit
  stmt_total p around n (T.IfElse e unit otherwise place) =
      let bs = blocks_in_stmt around n unit in
      let a = total_append (at_declaration p) (declared_in_stmt unit) (declared_in_stmt otherwise) in
      let b = total_append (at_block p) bs (blocks_in_stmt around (n + length bs) otherwise) in
      let c = total_append (spot p) (stmt_places unit) (stmt_places otherwise) in
      let d = stmt_total p around n unit in
      let e = stmt_total p around (n + length bs) otherwise in
      omega (arith, a, b, c, d, e)
  stmt_total p around n (T.Do body place) = list_total p around n body
  stmt_total p around n (T.DoWhile e body place) = list_total p around n body
  stmt_total p around n (T.DoCount c body place) = list_total p around n body
  stmt_total p around n (T.OnUnit c unit place) = stmt_total p around n unit
  stmt_total p around n (T.Begin body place) =
      let b = list_total p (n ∷ around) (n + 1) body in
      omega (arith, b)
  stmt_total p around n _ = refl

-- ---- so none stands twice among them

abbrev pub AreApart : List Block → Type 0
AreApart blocks = (p : Place) → total (at_block p) blocks ≤ 1

pub blocks_apart : (s : List ℕ) (tokens : List Token) (tree : T.Tree) → Tokens s tokens → Spells s tokens tree
    → AreApart (blocks_of tree)
unfolding blocks_of
blocks_apart s tokens tree t h p =
    let a = rising_once p (places_in tree.procedures) (places_kept s tokens tree t h) in
    let b = list_total p (0 ∷ []) 1 tree.procedures in
    omega (arith, a, b)

-- a declaration of a block
pub record IsIn (blocks : List Block) (number index : ℕ) (d : Declaration) : Type 0 where
  pub block : Block
  pub has_block : slice_get blocks number ≡ Some block
  pub has : slice_get block.declarations index ≡ Some d

at_least : (p : Place) (ds : List Declaration) (i : ℕ) (d : Declaration) → slice_get ds i ≡ Some d
    → same_place p d.name.place ≡ true → 1 ≤ total (at_declaration p) ds
at_least p ds i d e s =
    let a = one_of_total (at_declaration p) ds i d e in
    let b = spot_one (same_place p d.name.place) s in
    omega (arith, a, b)

-- what stands at one place is one declaration
pub one_block : (blocks : List Block) → AreApart blocks → (n m i j : ℕ) (c d : Declaration) → IsIn blocks n i c
    → IsIn blocks m j d → same_place c.name.place d.name.place ≡ true → n ≡ m
one_block blocks apart n m i j c d a b s =
    let p = c.name.place in
    let k = at_least p a.block.declarations i c a.has (same_place_self p) in
    let l = at_least p b.block.declarations j d b.has s in
    only_one (at_block p) blocks (apart p) n m a.block b.block a.has_block b.has_block (omega (arith, k))
    (omega (arith, l))

one_index : (blocks : List Block) → AreApart blocks → (n i j : ℕ) (b : Block) (c d : Declaration)
    → slice_get blocks n ≡ Some b → slice_get b.declarations i ≡ Some c → slice_get b.declarations j ≡ Some d
    → same_place c.name.place d.name.place ≡ true → i ≡ j
one_index blocks apart n i j b c d e f g s =
    let p = c.name.place in
    let whole = apart p in
    let k = one_of_total (at_block p) blocks n b e in
    let one : total (at_declaration p) b.declarations ≤ 1 = omega (arith, whole, k) in
    only_one (at_declaration p) b.declarations one i j c d f g
    (spot_one (same_place p p) (same_place_self p)) (spot_one (same_place p d.name.place) s)

pub same_declaration : (blocks : List Block) → AreApart blocks → (n m i j : ℕ) (c d : Declaration) → IsIn blocks n i c
    → IsIn blocks m j d → same_place c.name.place d.name.place ≡ true → (n ≡ m) × (c ≡ d)
same_declaration blocks apart n m i j c d a b s =
    let e = one_block blocks apart n m i j c d a b s in
    let f : a.block ≡ b.block = same_some a.block b.block (sym a.has_block ∙ (ap (slice_get blocks) e ∙ b.has_block)) in
    let g : slice_get a.block.declarations j ≡ Some d = ap (λ (x : Block). slice_get x.declarations j) f ∙ b.has in
    let k = one_index blocks apart n i j a.block c d a.has_block a.has g s in
    (e, same_some c d (sym a.has ∙ (ap (slice_get a.block.declarations) k ∙ g)))
