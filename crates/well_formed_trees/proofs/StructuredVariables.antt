-- Each variable of an accepted source has the members of a structure, with their dimensions, and areas by themselves.
use Rattle.std.proofs.Common.{◌≡◌, ℕ, zero, suc, ◌+◌, ◌≤◌, ◌==◌, Bool, true, false, List, [], ◌∷◌, ◌++◌, map, length}
use Rattle.std.proofs.Common.{Option, Some, None, if◌then◌else◌, refl, sym, ap, ◌∙◌, subst, arith, inl, inr}
use Rattle.std.specs.Prelude.{slice_get, unwrap_or, ◌⊎◌}
use Rattle.std.proofs.lemmas.Bool.Decides.{nat_tests}
use Rattle.std.proofs.lemmas.List.{length-append}
use Rattle.pli_language.specs.Declarations.{Variable, Held, Block, blocks_of}
use Rattle.pli_language.specs.Declaring.{has, own_attributes, is_deeper, is_parameter, names_of, root_of, first_or}
use Rattle.pli_language.specs.Declaring.{block_faults, block_head_faults, twice_faults, declarations_faults}
use Rattle.pli_language.specs.Means.{declarations_of}
use Rattle.pli_typing.specs.TypedTree as Y
use Rattle.pli_typing.specs.Judging.{each}
use Rattle.pli_typing.specs.Converting.{area_of_type}
use Rattle.pli_typing.specs.Generations.{member_held, declared_variable}
use Rattle.pli_typing.specs.Resolving.{typed_tree}
use Rattle.pli_typing.specs.Variables as V
use Rattle.pli_typing.specs.Variables.{leaves_in, leaf_of, leaves_of, written_extents, variables_in, declarations_at}
use Rattle.pli_typing.specs.Variables.{head_of_block, bounds_of, extent_of, type_of, variable_meant}
use Rattle.well_formed_trees.specs.Every.{Every}
use Rattle.well_formed_trees.specs.Surroundings.{Table, variables_of_block}
use Rattle.well_formed_trees.specs.Declarations.{AreMembers, IsBelow, HaveBounds, leaf_dimensions, AreasAlone}
use Rattle.well_formed_trees.specs.Declarations.{IsNoArea, HoldsArea}
use Rattle.well_formed_trees.specs.Held.{table_of}
use Rattle.well_formed_trees.specs.Structured.{IsStructured, AcceptedVariables}
use Rattle.well_formed_trees.proofs.Lists.{second_empty}
use Rattle.well_formed_trees.proofs.Places.{every_at, HasAt, has_end}
use Rattle.well_formed_trees.proofs.Structures.{AreHeld, IsStructure, BlockChained, structures}
use Rattle.well_formed_trees.proofs.MemberParts.{among_are, map_length, structure_dimensions}
use Rattle.well_formed_trees.proofs.FineVariables.{IsFineMember, IsFineVariable, variables_fine, all_fine, no_clash}
use Rattle.well_formed_trees.proofs.FineVariables.{only_area}
use Rattle.well_formed_trees.proofs.KindsSound.{area_written, area_type, kept_by, IsKept}
use Rattle.well_formed_trees.proofs.ProgramNumbers.{lists_kept}
use Rattle.well_formed_trees.proofs.Facts.{Facts}
use Rattle.well_formed_trees.proofs.AcceptedFacts.{facts_kept}

-- ---- members

shorter : (vs chain : List Variable) → (rest : List Variable) × (chain ≡ vs ++ rest) → length vs ≤ length chain
shorter vs chain b =
    let e : length chain ≡ length vs + length b.0 = ap length b.1 ∙ length-append vs b.0 in
    omega (arith, e)

some_above : (n : ℕ) → (n == 0) ≡ false → 1 ≤ n
some_above n e = grind (arith, nat_tests)

are_below : (depth : ℕ) (chain : List Variable) (ms : List Held) → length chain ≡ suc depth → AreHeld chain ms
    → IsBelow depth (map member_held ms)
are_below depth chain [] e h = tt
are_below depth chain (m ∷ ms) e h =
    let s = shorter m.above chain h.0 in
    let next : length (m.above ++ m.variable ∷ []) ≡ length m.above + 1 = length-append m.above (m.variable ∷ []) in (
      (some_above (length m.above) h.1.0, omega (arith, s, e)),
      are_below (length m.above) (m.above ++ m.variable ∷ []) ms (omega (arith, next)) h.1.1,
    )

are_members : (all : List Held) → IsStructure all → AreMembers (map member_held all)
are_members [] s = absurd s
are_members (h ∷ ms) s = (ap length s.0, are_below 0 (h.variable ∷ []) ms refl s.1)

-- ---- dimensions

leaves_dimensions : (f : Held → ℕ) (hs : List Held)
    → leaf_dimensions (map member_held hs) (map f hs) ≡ map f (leaves_in hs)
leaves_dimensions f [] = refl
leaves_dimensions f (a ∷ []) = refl
leaves_dimensions f (a ∷ b ∷ more) = by (is_deeper a b) (leaves_dimensions f (b ∷ more)) where
  by : (t : Bool) → leaf_dimensions (map member_held (b ∷ more)) (map f (b ∷ more)) ≡ map f (leaves_in (b ∷ more))
      → (if t then leaf_dimensions (map member_held (b ∷ more)) (map f (b ∷ more))
      else f a ∷ leaf_dimensions (map member_held (b ∷ more)) (map f (b ∷ more)))
      ≡ map f (if t then leaves_in (b ∷ more) else a ∷ leaves_in (b ∷ more))
  by true e = e
  by false e = ap (λ l. f a ∷ l) e

have_bounds : (leaf : Held → Y.Leaf) (f : Held → ℕ) → ((h : Held) → length (leaf h).bounds ≡ f h) → (hs : List Held)
    → HaveBounds (map leaf hs) (map f hs)
have_bounds leaf f k [] = tt
have_bounds leaf f k (h ∷ hs) = (k h, have_bounds leaf f k hs)

-- ---- areas

abbrev IsThere : List Held → Held → Type 0
IsThere all m = (i : ℕ) × (slice_get all i ≡ Some m)

there_at : (all : List Held) (i : ℕ) (xs : List Held) → HasAt all i xs → Every (IsThere all) xs
there_at all i [] h = tt
there_at all i (x ∷ xs) h = ((i, h.0), there_at all (i + 1) xs h.1)

area_or_not : (t : Y.LeafType) → IsNoArea t ⊎ (area_of_type (Some t) ≡ true)
area_or_not (Y.FixedLeaf p) = inl tt
area_or_not (Y.CharacterLeaf n) = inl tt
area_or_not (Y.VaryingLeaf n) = inl tt
area_or_not Y.BitLeaf = inl tt
area_or_not Y.PointerLeaf = inl tt
area_or_not (Y.OffsetLeaf a) = inl tt
area_or_not (Y.AreaLeaf n) = inr refl

-- one that is an area, or none
record AnArea (all : List Held) : Type 0 where
  m : Held
  there : IsThere all m
  written : has 7 (own_attributes m) ≡ true

find_area : (blocks : List Block) (b : ℕ) (all ms : List Held) → Every (IsThere all) ms
    → Every (λ m. IsNoArea (leaf_of blocks b (written_extents all) m).type) ms ⊎ AnArea all
find_area blocks b all [] h = inl tt
find_area blocks b all (m ∷ ms) h =
    by (area_or_not (leaf_of blocks b (written_extents all) m).type) (find_area blocks b all ms h.1) where
      P : Held → Type 0
      P m = IsNoArea (leaf_of blocks b (written_extents all) m).type

      by : IsNoArea (leaf_of blocks b (written_extents all) m).type
          ⊎ (area_of_type (Some (leaf_of blocks b (written_extents all) m).type) ≡ true)
          → Every (λ m. IsNoArea (leaf_of blocks b (written_extents all) m).type) ms ⊎ AnArea all
          → Every (λ m. IsNoArea (leaf_of blocks b (written_extents all) m).type) (m ∷ ms) ⊎ AnArea all
      by (inr e) k =
          inr (record {
            m = m;
            there = h.0;
            written = area_written blocks b (written_extents all) (own_attributes m) e;
          })
      by (inl n) (inl k) = inl (n, k)
      by (inl n) (inr a) = inr a

no_leaf : (leaf : Held → Y.Leaf) (hs : List Held) → Every (λ h. IsNoArea (leaf h).type) hs
    → Every (λ l. IsNoArea l.type) (map leaf (leaves_in hs))
no_leaf leaf [] h = tt
no_leaf leaf (a ∷ []) h = (h.0, tt)
no_leaf leaf (a ∷ b ∷ more) h = by (is_deeper a b) (no_leaf leaf (b ∷ more) h.1) where
  by : (t : Bool) → Every (λ l. IsNoArea l.type) (map leaf (leaves_in (b ∷ more)))
      → Every (λ l. IsNoArea l.type) (map leaf (if t then leaves_in (b ∷ more) else a ∷ leaves_in (b ∷ more)))
  by true e = e
  by false e = (h.0, e)

holds_area : (c : Y.StorageClass) → IsKept c → HoldsArea c
holds_area Y.AutomaticClass k = tt
holds_area Y.ParameterClass k = tt
holds_area Y.StaticClass k = tt
holds_area Y.BasedClass k = absurd k
holds_area Y.ControlledClass k = absurd k

areas_alone : (blocks : List Block) (b : ℕ) (root : Held) (ms : List Held) → IsStructure (root ∷ ms)
    → IsFineVariable (names_of (head_of_block (slice_get blocks b))) (root ∷ ms)
    → AreasAlone (declared_variable (record { blocks = blocks; block = b }) (root ∷ ms)).value
areas_alone blocks b root ms s f =
    by (find_area blocks b (root ∷ ms) (root ∷ ms) (there_at (root ∷ ms) 0 (root ∷ ms)
    (has_end (root ∷ ms) [] (root ∷ ms) refl))) where
      first : (m : Held) → root ∷ ms ≡ m ∷ [] → root ≡ m
      first m e = cc e

      by : Every (λ m. IsNoArea (leaf_of blocks b (written_extents (root ∷ ms)) m).type) (root ∷ ms) ⊎ AnArea (root ∷
          ms)
          → AreasAlone (declared_variable (record { blocks = blocks; block = b }) (root ∷ ms)).value
      by (inl k) = inl (no_leaf (leaf_of blocks b (written_extents (root ∷ ms))) (root ∷ ms) k)
      by (inr a) =
          let all = root ∷ ms in
          let names = names_of (head_of_block (slice_get blocks b)) in
          let written = written_extents all in
          let only = only_area names all s f a.there.0 a.m a.there.1 a.written in
          let same = first a.m only.only in
          let fine = every_at (IsFineMember names) all a.there.0 a.m (all_fine names all f) a.there.1 in
          let leaf = leaf_of blocks b written a.m in
          let rooted : root_of root ≡ root.variable = ap (λ vs. first_or vs root.variable) s.0 in
          let attributes : (root_of root).item.attributes ≡ own_attributes a.m =
          ap (λ (v : Variable). v.item.attributes) rooted ∙ ap own_attributes same in
          inr (record {
            leaf = leaf;
            only = ap (λ hs. map (leaf_of blocks b written) (leaves_in hs)) only.only;
            size = V.size_of_area written (own_attributes a.m);
            is = area_type blocks b written (own_attributes a.m) (no_clash names a.m fine) a.written;
            none = ap (map (bounds_of (extent_of written))) only.none;
            class_holds =
                holds_area (variable_meant blocks b root).class
                (kept_by (is_parameter names root) (has 9 (root_of root).item.attributes)
                (has 10 (root_of root).item.attributes) (has 11 (root_of root).item.attributes)
                (ap (has 10) attributes ∙ only.not_controlled) (ap (has 11) attributes ∙ only.not_based));
          })

-- ---- all variables

variable_structured : (blocks : List Block) (b : ℕ) (all : List Held) → IsStructure all
    → IsFineVariable (names_of (head_of_block (slice_get blocks b))) all
    → IsStructured (declared_variable (record { blocks = blocks; block = b }) all).value
variable_structured blocks b [] s f = absurd s
variable_structured blocks b (root ∷ ms) s f =
    let all = root ∷ ms in
    let leaf = leaf_of blocks b (written_extents all) in
    let count : Held → ℕ = λ h. length (V.all_dimensions h) in
    record {
      members = are_members all s;
      many = among_are all ∙ sym (map_length leaf (leaves_in all));
      dimensions =
          subst (HaveBounds (map leaf (leaves_in all)))
          (sym (ap (leaf_dimensions (map member_held all)) (structure_dimensions all s)
          ∙ leaves_dimensions (λ h. length (V.all_dimensions h)) all))
          (have_bounds leaf (λ h. length (V.all_dimensions h))
          (λ h. map_length (bounds_of (extent_of (written_extents all))) (V.all_dimensions h)) (leaves_in all));
      areas = areas_alone blocks b root ms s f;
    }

all_structured : (blocks : List Block) (b : ℕ) (vs : List (List Held)) → Every IsStructure vs
    → Every (IsFineVariable (names_of (head_of_block (slice_get blocks b)))) vs
    → Every IsStructured (each (declared_variable (record { blocks = blocks; block = b })) vs).value
all_structured blocks b [] s f = tt
all_structured blocks b (all ∷ vs) s f =
    (variable_structured blocks b all s.0 f.0, all_structured blocks b vs s.1 f.1)

-- the variables of a block are structures that break no rule
pub block_structures : (blocks : List Block) (program : Y.Program) (table : Table) → Facts blocks program table
    → (n : ℕ) (b : Block) → slice_get blocks n ≡ Some b
    → Every IsStructure (variables_in (declarations_at blocks n))
    × Every (IsFineVariable (names_of (head_of_block (slice_get blocks n)))) (variables_in (declarations_at blocks n))
block_structures blocks program table facts n b e =
    let same : declarations_at blocks n ≡ b.declarations = ap declarations_of e in
    let faults = every_at (λ b. block_faults b ≡ []) blocks n b facts.fine e in
    let own = second_empty (block_head_faults b b.head ++ twice_faults [] b.declarations)
    (declarations_faults (names_of b.head) [] b.declarations) faults in
    let names : names_of (head_of_block (slice_get blocks n)) ≡ names_of b.head =
    ap (λ o. names_of (head_of_block o)) e in
    let fine : declarations_faults (names_of (head_of_block (slice_get blocks n))) [] (declarations_at blocks n) ≡ [] =
    ap (λ ds. declarations_faults (names_of (head_of_block (slice_get blocks n))) [] ds) same
    ∙ (ap (λ ps. declarations_faults ps [] b.declarations) names ∙ own) in (
      subst (λ ds. Every IsStructure (variables_in ds)) (sym same)
          (structures [] b.declarations (every_at BlockChained blocks n b facts.chained e)),
      variables_fine (names_of (head_of_block (slice_get blocks n))) [] (declarations_at blocks n) fine,
    )

block_structured : (blocks : List Block) (program : Y.Program) (table : Table) → Facts blocks program table → (n : ℕ)
    (b : Block) → slice_get blocks n ≡ Some b → Every IsStructured (variables_of_block program n)
block_structured blocks program table facts n b e =
    let s = block_structures blocks program table facts n b e in
    subst (Every IsStructured) (sym (facts.variables n b e))
    (all_structured blocks n (variables_in (declarations_at blocks n)) s.0 s.1)

pub none_behind : {X Z : Type 0} (xs : List X) (zs : List Z) (n : ℕ) → length xs ≡ length zs → slice_get zs n ≡ None
    → slice_get xs n ≡ None
none_behind [] zs n e f = refl
none_behind (x ∷ xs) [] n e f = absurd (never (length xs) e) where
  never : (k : ℕ) → suc k ≡ 0 → ⊥
  never k e = omega (arith, e)
none_behind (x ∷ xs) (z ∷ zs) zero e f = absurd (cc f)
none_behind (x ∷ xs) (z ∷ zs) (suc n) e f = none_behind xs zs n (omega (arith, e)) f

pub accepted_variables : AcceptedVariables
accepted_variables s tokens tree t h declared typed number =
    let blocks = blocks_of tree in
    let facts = facts_kept s tokens tree t h declared typed in
    by (slice_get blocks number) refl facts where
      by : (o : Option Block) → slice_get (blocks_of tree) number ≡ o
          → Facts (blocks_of tree) (typed_tree tree) (table_of tree)
          → Every IsStructured (variables_of_block (typed_tree tree) number)
      by None e facts =
          subst (λ o. Every IsStructured (unwrap_or o []))
          (sym (none_behind (typed_tree tree).variables (blocks_of tree) number (lists_kept tree) e)) tt
      by (Some b) e facts = block_structured (blocks_of tree) (typed_tree tree) (table_of tree) facts number b e
