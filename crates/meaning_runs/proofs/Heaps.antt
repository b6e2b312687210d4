-- The heap: generations stand one behind the other, and those of CONTROLLED variables have the shapes that these are
-- declared with. No other generation takes the place of one, since each offset stands once among those of all
-- variables.
use Rattle.std.proofs.Common.{◌≡◌, ℕ, suc, ◌+◌, ◌<◌, ◌≤◌, List, [], ◌∷◌, Option, Some, None, Bool, true}
use Rattle.std.proofs.Common.{false, refl, ap, sym, ◌∙◌, subst, arith}
use Rattle.std.specs.Prelude.{◌==◌, ◌&&◌, nat_le, nat_lt, cond, ⊤, slice_get}
use Rattle.std.proofs.lemmas.Bool.Decides.{nat_tests}
use Rattle.pli_typing.specs.Signatures.{PlainClass, ControlledClass}
use Rattle.pli_typing.specs.TypedTree as Y
use Rattle.pli_meaning.specs.Contents.{Generation, footprint_of, Placed, end_of, gap_from, with_placed}
use Rattle.pli_meaning.specs.Contents.{without_offset, placed_at, changed_at}
use Rattle.pli_meaning.specs.StorageState.{Stack, offsets_of, with_offsets}
use Rattle.pli_meaning.specs.DeclaredShapes as D
use Rattle.well_formed_trees.specs.Every.{Every}
use Rattle.well_formed_trees.specs.Blocks.{times}
use Rattle.meaning_runs.proofs.Shapes.{IsShapedAs, both_true}

-- ---- generations one behind the other

abbrev pub AreAscending : (start : ℕ) → List Placed → Type 0
AreAscending start [] = ⊤
AreAscending start (p ∷ ps) = (start ≤ p.offset) × AreAscending (end_of p) ps

some_bytes : (g : Generation) → 1 ≤ footprint_of g
some_bytes g = omega arith

ascending_from : (start low : ℕ) (ps : List Placed) → low ≤ start → AreAscending start ps → AreAscending low ps
ascending_from start low [] e h = tt
ascending_from start low (p ∷ ps) e h = let first = h.0 in (omega (arith, e, first), h.1)

none_below : (start o : ℕ) (ps : List Placed) → AreAscending start ps → o < start → placed_at ps o ≡ None
none_below start o [] h e = refl
none_below start o (p ∷ ps) h e =
    let first = h.0 in
    let many = some_bytes p.generation in
    let other : (p.offset == o) ≡ false = grind (arith, nat_tests, e, first) in
    over other (none_below (end_of p) o ps h.1 (omega (arith, e, first, many)))
  where
    over : (p.offset == o) ≡ false → placed_at ps o ≡ None
        → cond (p.offset == o) (Some p.generation) (placed_at ps o) ≡ None
    over f k = ap (λ t. cond t (Some p.generation) (placed_at ps o)) f ∙ k

-- what a gap is: nothing stands there, and what is placed there stands in order
pub record IsFree (start o : ℕ) (g : Generation) (ps : List Placed) : Type 0 where
  pub behind : start ≤ o
  pub none : placed_at ps o ≡ None
  pub ordered : AreAscending start (with_placed (record { offset = o; generation = g }) ps)

pub gap_free : (start capacity o : ℕ) (g : Generation) (ps : List Placed) → AreAscending start ps
    → gap_from start capacity (footprint_of g) ps ≡ Some o → IsFree start o g ps
gap_free start capacity o g [] h e = by_test (nat_le (start + footprint_of g) capacity) e
  where
    by_test : (t : Bool) → cond t (Some start) None ≡ Some o → IsFree start o g []
    by_test true f =
        let same : start ≡ o = cc f in
        record { behind = omega (arith, same); none = refl; ordered = (omega (arith, same), tt) }
    by_test false f = absurd (cc f)
gap_free start capacity o g (p ∷ ps) h e =
    by_test (nat_le (start + footprint_of g) p.offset) refl (gap_free (end_of p) capacity o g ps h.1) e
  where
    first : start ≤ p.offset
    first = h.0

    new : Placed
    new = record { offset = o; generation = g }

    put : (t : Bool) → nat_lt o p.offset ≡ t → AreAscending start (cond t (new ∷ p ∷ ps) (p ∷ with_placed new ps))
        → AreAscending start (with_placed new (p ∷ ps))
    put t f k = subst (λ x. AreAscending start (cond x (new ∷ p ∷ ps) (p ∷ with_placed new ps))) (sym f) k

    over : (p.offset == o) ≡ false → placed_at ps o ≡ None → placed_at (p ∷ ps) o ≡ None
    over f k = ap (λ t. cond t (Some p.generation) (placed_at ps o)) f ∙ k

    by_test : (t : Bool) → nat_le (start + footprint_of g) p.offset ≡ t
        → (gap_from (end_of p) capacity (footprint_of g) ps ≡ Some o → IsFree (end_of p) o g ps)
        → cond t (Some start) (gap_from (end_of p) capacity (footprint_of g) ps) ≡ Some o → IsFree start o g (p ∷ ps)
    by_test true f further k =
        let same : start ≡ o = cc k in
        let fits : start + footprint_of g ≤ p.offset = grind (arith, nat_tests, f) in
        let many = some_bytes g in
        let more = some_bytes p.generation in
        let below : nat_lt o p.offset ≡ true = grind (arith, nat_tests, same, fits, many) in
        let other : (p.offset == o) ≡ false = grind (arith, nat_tests, same, fits, many) in
        record {
          behind = omega (arith, same);
          none = over other (none_below (end_of p) o ps h.1 (omega (arith, same, first, more)));
          ordered = put true below (omega (arith, same), (omega (arith, same, fits), h.1));
        }
    by_test false f further k =
        let r = further k in
        let behind = r.behind in
        let more = some_bytes p.generation in
        let above : nat_lt o p.offset ≡ false = grind (arith, nat_tests, behind, more) in
        let other : (p.offset == o) ≡ false = grind (arith, nat_tests, behind, more) in
        record {
          behind = omega (arith, behind, more, first);
          none = over other r.none;
          ordered = put false above (first, r.ordered);
        }

-- ---- what stands at an offset

none_there : (t : Bool) (x : Generation) (o : Option Generation) → cond t (Some x) o ≡ None
    → (t ≡ false) × (o ≡ None)
none_there true x o e = absurd (cc e)
none_there false x o e = (refl, e)

-- what is placed where nothing stands is there
pub placed_there : (o : ℕ) (g : Generation) (ps : List Placed) → placed_at ps o ≡ None
    → placed_at (with_placed (record { offset = o; generation = g }) ps) o ≡ Some g
placed_there o g [] h =
    let same : (o == o) ≡ true = grind (arith, nat_tests) in ap (λ t. cond t (Some g) None) same
placed_there o g (p ∷ ps) h =
    let parts = none_there (p.offset == o) p.generation (placed_at ps o) h in
    by_test (nat_lt o p.offset) parts.0 (placed_there o g ps parts.1)
  where
    new : Placed
    new = record { offset = o; generation = g }

    by_test : (t : Bool) → (p.offset == o) ≡ false → placed_at (with_placed new ps) o ≡ Some g
        → placed_at (cond t (new ∷ p ∷ ps) (p ∷ with_placed new ps)) o ≡ Some g
    by_test true other k =
        let same : (o == o) ≡ true = grind (arith, nat_tests) in
        ap (λ t. cond t (Some g) (placed_at (p ∷ ps) o)) same
    by_test false other k = ap (λ u. cond u (Some p.generation) (placed_at (with_placed new ps) o)) other ∙ k

placed_other : (n : Placed) (x : ℕ) (ps : List Placed) → (n.offset == x) ≡ false
    → placed_at (with_placed n ps) x ≡ placed_at ps x
placed_other n x [] e = ap (λ t. cond t (Some n.generation) None) e
placed_other n x (p ∷ ps) e = by_test (nat_lt n.offset p.offset) (placed_other n x ps e)
  where
    by_test : (t : Bool) → placed_at (with_placed n ps) x ≡ placed_at ps x
        → placed_at (cond t (n ∷ p ∷ ps) (p ∷ with_placed n ps)) x ≡ placed_at (p ∷ ps) x
    by_test true k = ap (λ t. cond t (Some n.generation) (placed_at (p ∷ ps) x)) e
    by_test false k = ap (λ y. cond (p.offset == x) (Some p.generation) y) k

removed_other : (o x : ℕ) (ps : List Placed) → (o == x) ≡ false → placed_at (without_offset o ps) x ≡ placed_at ps x
removed_other o x [] e = refl
removed_other o x (p ∷ ps) e = by_test (p.offset == o) refl (removed_other o x ps e)
  where
    by_test : (t : Bool) → (p.offset == o) ≡ t → placed_at (without_offset o ps) x ≡ placed_at ps x
        → placed_at (cond t ps (p ∷ without_offset o ps)) x ≡ placed_at (p ∷ ps) x
    by_test true f k =
        let other : (p.offset == x) ≡ false = grind (arith, nat_tests, f, e) in
        sym (ap (λ t. cond t (Some p.generation) (placed_at ps x)) other)
    by_test false f k = ap (λ y. cond (p.offset == x) (Some p.generation) y) k

removed_ordered : (start o : ℕ) (ps : List Placed) → AreAscending start ps → AreAscending start (without_offset o ps)
removed_ordered start o [] h = tt
removed_ordered start o (p ∷ ps) h = by_test (p.offset == o) (removed_ordered (end_of p) o ps h.1)
  where
    by_test : (t : Bool) → AreAscending (end_of p) (without_offset o ps)
        → AreAscending start (cond t ps (p ∷ without_offset o ps))
    by_test true k = let first = h.0 in ascending_from (end_of p) start ps (omega (arith, first)) h.1
    by_test false k = (h.0, k)

-- ---- changes that keep a generation's shape

abbrev pub KeepsShape : (Generation → Generation) → Type 0
KeepsShape change = (g : Generation) → ((change g).shape ≡ g.shape) × ((change g).extent ≡ g.extent)

same_bytes : (g h : Generation) → h.shape ≡ g.shape → h.extent ≡ g.extent → footprint_of h ≡ footprint_of g
same_bytes g h e f =
    ap (λ s. footprint_of (record { shape = s; extent = h.extent; values = h.values })) e
    ∙ ap (λ z. footprint_of (record { shape = g.shape; extent = z; values = h.values })) f

changed_ordered : (start o : ℕ) (change : Generation → Generation) (ps : List Placed) → KeepsShape change
    → AreAscending start ps → AreAscending start (changed_at o change ps)
changed_ordered start o change [] c h = tt
changed_ordered start o change (p ∷ ps) c h =
    by_test (p.offset == o) refl (changed_ordered (end_of p) o change ps c h.1)
  where
    by_test : (t : Bool) → (p.offset == o) ≡ t → AreAscending (end_of p) (changed_at o change ps)
        → AreAscending start
        (cond t (record { offset = o; generation = change p.generation } ∷ ps) (p ∷ changed_at o change ps))
    by_test true f k =
        let at : p.offset ≡ o = grind (arith, nat_tests, f) in
        let bytes = same_bytes p.generation (change p.generation) (c p.generation).0 (c p.generation).1 in
        let first = h.0 in (
          omega (arith, first, at),
          ascending_from (end_of p) (o + footprint_of (change p.generation)) ps (omega (arith, at, bytes)) h.1,
        )
    by_test false f k = (h.0, k)

-- a generation that stands at an offset, of the shape of another one
pub record Followed (ps : List Placed) (x : ℕ) (g : Generation) : Type 0 where
  pub generation : Generation
  pub there : placed_at ps x ≡ Some generation
  pub shape_is : generation.shape ≡ g.shape

abbrev pub Follows : List Placed → List Placed → ℕ → Type 0
Follows ps qs x = (g : Generation) → placed_at ps x ≡ Some g → Followed qs x g

same_follow : (ps qs : List Placed) (x : ℕ) → placed_at qs x ≡ placed_at ps x → Follows ps qs x
same_follow ps qs x e g h = record { generation = g; there = e ∙ h; shape_is = refl }

changed_follow : (o : ℕ) (change : Generation → Generation) (ps : List Placed) (x : ℕ) → KeepsShape change
    → Follows ps (changed_at o change ps) x
changed_follow o change [] x c g h = absurd (cc h)
changed_follow o change (p ∷ ps) x c g h =
    by_test (p.offset == o) refl (λ k. changed_follow o change ps x c g k)
  where
    found : (t : Bool) (q : Generation) (qs : List Placed) (r : Generation) → q.shape ≡ r.shape
        → (placed_at ps x ≡ Some g → Followed qs x g) → cond t (Some r) (placed_at ps x) ≡ Some g
        → (y : Generation) × (cond t (Some q) (placed_at qs x) ≡ Some y) × (y.shape ≡ g.shape)
    found true q qs r s further k =
        let same : r ≡ g = cc k in (q, refl, s ∙ ap (λ y. y.shape) same)
    found false q qs r s further k = let f = further k in (f.generation, f.there, f.shape_is)

    kept : placed_at ps x ≡ Some g → Followed ps x g
    kept k = record { generation = g; there = k; shape_is = refl }

    by_test : (t : Bool) → (p.offset == o) ≡ t → (placed_at ps x ≡ Some g → Followed (changed_at o change ps) x g)
        → Followed
        (cond t (record { offset = o; generation = change p.generation } ∷ ps) (p ∷ changed_at o change ps)) x g
    by_test true f further =
        let at : p.offset ≡ o = grind (arith, nat_tests, f) in
        let r = found (o == x) (change p.generation) ps p.generation (c p.generation).0 kept
        (subst (λ y. cond (y == x) (Some p.generation) (placed_at ps x) ≡ Some g) at h) in
        record { generation = r.0; there = r.1; shape_is = r.2 }
    by_test false f further =
        let r = found (p.offset == x) p.generation (changed_at o change ps) p.generation refl further h in
        record { generation = r.0; there = r.1; shape_is = r.2 }

-- ---- the offsets of CONTROLLED variables

pub record IsPlacedFor (p : Y.Program) (heap : List Placed) (block variable o : ℕ) : Type 0 where
  pub generation : Generation
  pub there : placed_at heap o ≡ Some generation
  pub class_is : generation.shape.signature.class ≡ ControlledClass
  pub shaped :
      (d : Y.DeclaredVariable) → slice_get (D.variables_of_block p block) variable ≡ Some d
      → IsShapedAs d generation.shape

abbrev pub ArePlaced : Y.Program → List Placed → List Stack → Type 0
ArePlaced p heap ks = Every (λ k. Every (IsPlacedFor p heap k.block k.variable) k.offsets) ks

-- how often an offset stands in all stacks
abbrev pub total : ℕ → List Stack → ℕ
total o [] = 0
total o (k ∷ ks) = times o k.offsets + total o ks

abbrev pub HasHeap : Y.Program → List Placed → List Stack → Type 0
HasHeap p heap ks = AreAscending 0 heap × (ArePlaced p heap ks × ((o : ℕ) → total o ks ≤ 1))

-- ---- offsets that stand nowhere

unlike : (o : ℕ) (xs : List ℕ) → times o xs ≡ 0 → Every (λ x. (o == x) ≡ false) xs
unlike o [] e = tt
unlike o (x ∷ xs) e = by_test (o == x) refl (unlike o xs) e
  where
    by_test : (t : Bool) → (o == x) ≡ t → (times o xs ≡ 0 → Every (λ y. (o == y) ≡ false) xs)
        → cond t (suc (times o xs)) (times o xs) ≡ 0
        → ((o == x) ≡ false) × Every (λ y. (o == y) ≡ false) xs
    by_test true f further k = absurd (omega (arith, k))
    by_test false f further k = (f, further k)

all_unlike : (o : ℕ) (ks : List Stack) → total o ks ≡ 0 → Every (λ k. Every (λ x. (o == x) ≡ false) k.offsets) ks
all_unlike o [] e = tt
all_unlike o (k ∷ ks) e = (unlike o k.offsets (omega (arith, e)), all_unlike o ks (omega (arith, e)))

-- an offset at which no generation of a CONTROLLED variable stands
abbrev IsNone : List Placed → ℕ → Type 0
IsNone heap o = (g : Generation) → placed_at heap o ≡ Some g → g.shape.signature.class ≡ ControlledClass → ⊥

none_times : (p : Y.Program) (heap : List Placed) (o block variable : ℕ) (xs : List ℕ) → IsNone heap o
    → Every (IsPlacedFor p heap block variable) xs → times o xs ≡ 0
none_times p heap o block variable [] n h = refl
none_times p heap o block variable (x ∷ xs) n h =
    by_test (o == x) refl (none_times p heap o block variable xs n h.1)
  where
    by_test : (t : Bool) → (o == x) ≡ t → times o xs ≡ 0 → cond t (suc (times o xs)) (times o xs) ≡ 0
    by_test true f k =
        let same : x ≡ o = grind (arith, nat_tests, f) in
        absurd (n h.0.generation (subst (λ y. placed_at heap y ≡ Some h.0.generation) same h.0.there) h.0.class_is)
    by_test false f k = k

none_total : (p : Y.Program) (heap : List Placed) (o : ℕ) (ks : List Stack) → IsNone heap o → ArePlaced p heap ks
    → total o ks ≡ 0
none_total p heap o [] n h = refl
none_total p heap o (k ∷ ks) n h =
    let first = none_times p heap o k.block k.variable k.offsets n h.0 in
    let rest = none_total p heap o ks n h.1 in
    omega (arith, first, rest)

-- ---- what follows stays placed

offsets_on : (p : Y.Program) (heap next : List Placed) (block variable : ℕ) (Q : ℕ → Type 0) (xs : List ℕ)
    → ((x : ℕ) → Q x → Follows heap next x) → Every Q xs → Every (IsPlacedFor p heap block variable) xs
    → Every (IsPlacedFor p next block variable) xs
offsets_on p heap next block variable Q [] f q h = tt
offsets_on p heap next block variable Q (x ∷ xs) f q h =
    let r = f x q.0 h.0.generation h.0.there in (
      record {
        generation = r.generation;
        there = r.there;
        class_is = ap (λ s. s.signature.class) r.shape_is ∙ h.0.class_is;
        shaped = λ d e. subst (IsShapedAs d) (sym r.shape_is) (h.0.shaped d e);
      },
      offsets_on p heap next block variable Q xs f q.1 h.1,
    )

stacks_on : (p : Y.Program) (heap next : List Placed) (Q : ℕ → Type 0) (ks : List Stack)
    → ((x : ℕ) → Q x → Follows heap next x) → Every (λ k. Every Q k.offsets) ks → ArePlaced p heap ks
    → ArePlaced p next ks
stacks_on p heap next Q [] f q h = tt
stacks_on p heap next Q (k ∷ ks) f q h =
    (offsets_on p heap next k.block k.variable Q k.offsets f q.0 h.0, stacks_on p heap next Q ks f q.1 h.1)

every_any : {X : Type 0} (xs : List X) → Every (λ x. ⊤) xs
every_any [] = tt
every_any (x ∷ xs) = (tt, every_any xs)

any_offsets : (ks : List Stack) → Every (λ k. Every (λ x. ⊤) k.offsets) ks
any_offsets [] = tt
any_offsets (k ∷ ks) = (every_any k.offsets, any_offsets ks)

-- ---- changes of the heap

pub heap_changed : (p : Y.Program) (o : ℕ) (change : Generation → Generation) (heap : List Placed) (ks : List Stack)
    → KeepsShape change → HasHeap p heap ks → HasHeap p (changed_at o change heap) ks
heap_changed p o change heap ks c h = (
  changed_ordered 0 o change heap c h.0,
  (
    stacks_on p heap (changed_at o change heap) (λ x. ⊤) ks (λ x q. changed_follow o change heap x c)
        (any_offsets ks) h.1.0,
    h.1.1,
  ),
)

-- where nothing stands, no CONTROLLED variable has a generation
pub free_total : (p : Y.Program) (o : ℕ) (heap : List Placed) (ks : List Stack) → placed_at heap o ≡ None
    → HasHeap p heap ks → total o ks ≡ 0
free_total p o heap ks e h = none_total p heap o ks (λ g f c. absurd (cc (e, f))) h.1.0

pub heap_placed : (p : Y.Program) (o : ℕ) (g : Generation) (heap : List Placed) (ks : List Stack) → IsFree 0 o g heap
    → HasHeap p heap ks → HasHeap p (with_placed (record { offset = o; generation = g }) heap) ks
heap_placed p o g heap ks f h =
    let new : Placed = record { offset = o; generation = g } in (
      f.ordered,
      (
        stacks_on p heap (with_placed new heap) (λ x. (o == x) ≡ false) ks
            (λ x q. same_follow heap (with_placed new heap) x (placed_other new x heap q))
            (all_unlike o ks (free_total p o heap ks f.none h)) h.1.0,
        h.1.1,
      ),
    )

removed : (p : Y.Program) (o : ℕ) (heap : List Placed) (ks : List Stack) → AreAscending 0 heap → ArePlaced p heap ks
    → ((x : ℕ) → total x ks ≤ 1) → total o ks ≡ 0 → HasHeap p (without_offset o heap) ks
removed p o heap ks a h few none = (
  removed_ordered 0 o heap a,
  (
    stacks_on p heap (without_offset o heap) (λ x. (o == x) ≡ false) ks
        (λ x q. same_follow heap (without_offset o heap) x (removed_other o x heap q)) (all_unlike o ks none) h,
    few,
  ),
)

-- a generation of a BASED variable is none of a CONTROLLED one
pub heap_freed : (p : Y.Program) (o : ℕ) (g : Generation) (heap : List Placed) (ks : List Stack)
    → placed_at heap o ≡ Some g → g.shape.signature.class ≡ PlainClass → HasHeap p heap ks
    → HasHeap p (without_offset o heap) ks
heap_freed p o g heap ks e c h =
    removed p o heap ks h.0 h.1.0 h.1.1 (none_total p heap o ks (λ x f k.
    let same : g ≡ x = cc (e, f) in
    let plain : x.shape.signature.class ≡ PlainClass = subst (λ y. y.shape.signature.class ≡ PlainClass) same c in
    absurd (cc (plain, k))) h.1.0)

-- ---- ALLOCATE and FREE of CONTROLLED variables

placed_with : (p : Y.Program) (heap : List Placed) (block variable : ℕ) (new : List ℕ) (ks : List Stack)
    → Every (IsPlacedFor p heap block variable) new → ArePlaced p heap ks
    → ArePlaced p heap (with_offsets block variable new ks)
placed_with p heap block variable new [] n h = (n, tt)
placed_with p heap block variable new (k ∷ ks) n h =
    by_test ((k.block == block) && (k.variable == variable)) refl (placed_with p heap block variable new ks n h.1)
  where
    by_test : (t : Bool) → ((k.block == block) && (k.variable == variable)) ≡ t
        → ArePlaced p heap (with_offsets block variable new ks)
        → ArePlaced p heap (cond t (record k { offsets = new } ∷ ks) (k ∷ with_offsets block variable new ks))
    by_test true f j =
        let both = both_true (k.block == block) (k.variable == variable) f in
        let b : block ≡ k.block = grind (arith, nat_tests, both.0) in
        let v : variable ≡ k.variable = grind (arith, nat_tests, both.1) in (
          subst (λ x. Every (IsPlacedFor p heap x k.variable) new) b
              (subst (λ x. Every (IsPlacedFor p heap block x) new) v n),
          h.1,
        )
    by_test false f j = (h.0, j)

pub offsets_placed : (p : Y.Program) (heap : List Placed) (block variable : ℕ) (ks : List Stack) → ArePlaced p heap ks
    → Every (IsPlacedFor p heap block variable) (offsets_of ks block variable)
offsets_placed p heap block variable [] h = tt
offsets_placed p heap block variable (k ∷ ks) h =
    by_test ((k.block == block) && (k.variable == variable)) refl (offsets_placed p heap block variable ks h.1)
  where
    by_test : (t : Bool) → ((k.block == block) && (k.variable == variable)) ≡ t
        → Every (IsPlacedFor p heap block variable) (offsets_of ks block variable)
        → Every (IsPlacedFor p heap block variable) (cond t k.offsets (offsets_of ks block variable))
    by_test true f j =
        let both = both_true (k.block == block) (k.variable == variable) f in
        let b : k.block ≡ block = grind (arith, nat_tests, both.0) in
        let v : k.variable ≡ variable = grind (arith, nat_tests, both.1) in
        subst (λ x. Every (IsPlacedFor p heap x variable) k.offsets) b
        (subst (λ x. Every (IsPlacedFor p heap k.block x) k.offsets) v h.0)
    by_test false f j = j

with_total : (o block variable : ℕ) (new : List ℕ) (ks : List Stack)
    → total o (with_offsets block variable new ks) + times o (offsets_of ks block variable) ≡ total o ks + times o new
with_total o block variable new [] = omega arith
with_total o block variable new (k ∷ ks) =
    let rest = with_total o block variable new ks in
    by_test ((k.block == block) && (k.variable == variable)) rest
  where
    by_test : (t : Bool)
        → total o (with_offsets block variable new ks) + times o (offsets_of ks block variable)
        ≡ total o ks + times o new
        → total o (cond t (record k { offsets = new } ∷ ks) (k ∷ with_offsets block variable new ks))
        + times o (cond t k.offsets (offsets_of ks block variable))
        ≡ (times o k.offsets + total o ks) + times o new
    by_test true e = omega arith
    by_test false e = omega (arith, e)

once_more : (o x : ℕ) (xs : List ℕ) → (o == x) ≡ true → times o (x ∷ xs) ≡ suc (times o xs)
once_more o x xs e = ap (λ t. cond t (suc (times o xs)) (times o xs)) e

no_more : (o x : ℕ) (xs : List ℕ) → (o == x) ≡ false → times o (x ∷ xs) ≡ times o xs
no_more o x xs e = ap (λ t. cond t (suc (times o xs)) (times o xs)) e

pub heap_pushed : (p : Y.Program) (heap : List Placed) (block variable o : ℕ) (ks : List Stack)
    → IsPlacedFor p heap block variable o → total o ks ≡ 0 → HasHeap p heap ks
    → HasHeap p heap (with_offsets block variable (o ∷ offsets_of ks block variable) ks)
heap_pushed p heap block variable o ks i none h = (
  h.0,
  (
    placed_with p heap block variable (o ∷ offsets_of ks block variable) ks
        (i, offsets_placed p heap block variable ks h.1.0) h.1.0,
    λ x. by_test x (x == o) refl,
  ),
)
  where
    by_test : (x : ℕ) (t : Bool) → (x == o) ≡ t
        → total x (with_offsets block variable (o ∷ offsets_of ks block variable) ks) ≤ 1
    by_test x true e =
        let sum = with_total x block variable (o ∷ offsets_of ks block variable) ks in
        let one = once_more x o (offsets_of ks block variable) e in
        let same : o ≡ x = grind (arith, nat_tests, e) in
        let nowhere : total x ks ≡ 0 = subst (λ y. total y ks ≡ 0) same none in
        omega (arith, sum, one, nowhere)
    by_test x false e =
        let sum = with_total x block variable (o ∷ offsets_of ks block variable) ks in
        let same = no_more x o (offsets_of ks block variable) e in
        let few = h.1.1 x in
        omega (arith, sum, same, few)

pub heap_popped : (p : Y.Program) (heap : List Placed) (block variable o : ℕ) (os : List ℕ) (ks : List Stack)
    → offsets_of ks block variable ≡ o ∷ os → HasHeap p heap ks
    → HasHeap p (without_offset o heap) (with_offsets block variable os ks)
heap_popped p heap block variable o os ks e h =
    let front : Every (IsPlacedFor p heap block variable) (o ∷ os) =
    subst (Every (IsPlacedFor p heap block variable)) e (offsets_placed p heap block variable ks h.1.0) in
    removed p o heap (with_offsets block variable os ks) h.0 (placed_with p heap block variable os ks front.1 h.1.0)
    few nowhere
  where
    sum : (x : ℕ)
        → total x (with_offsets block variable os ks) + times x (o ∷ os) ≡ total x ks + times x os
    sum x =
        subst (λ xs. total x (with_offsets block variable os ks) + times x xs ≡ total x ks + times x os) e
        (with_total x block variable os ks)

    nowhere : total o (with_offsets block variable os ks) ≡ 0
    nowhere =
        let all = sum o in
        let self : (o == o) ≡ true = grind (arith, nat_tests) in
        let one = once_more o o os self in
        let most = h.1.1 o in
        omega (arith, all, one, most)

    by_test : (x : ℕ) (t : Bool) → (x == o) ≡ t → total x (with_offsets block variable os ks) ≤ 1
    by_test x true f =
        let all = sum x in
        let one = once_more x o os f in
        let most = h.1.1 x in
        omega (arith, all, one, most)
    by_test x false f =
        let all = sum x in
        let same = no_more x o os f in
        let most = h.1.1 x in
        omega (arith, all, same, most)

    few : (x : ℕ) → total x (with_offsets block variable os ks) ≤ 1
    few x = by_test x (x == o) refl
