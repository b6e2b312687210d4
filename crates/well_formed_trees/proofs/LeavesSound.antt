-- Each leaf of a variable of an accepted source is sound: its kind, its bounds, and what INITIAL gives.
use Rattle.std.proofs.Common.{◌≡◌, ℕ, suc, ◌+◌, ◌≤◌, Bool, true, false, List, [], ◌∷◌, ◌++◌, map, length, Option}
use Rattle.std.proofs.Common.{Some, None, if◌then◌else◌, refl, sym, ap, ◌∙◌, subst, arith}
use Rattle.std.specs.Prelude.{slice_get, unwrap_or, nat_lt, sum_by}
use Rattle.std.specs.List.{flat_map, fold}
use Rattle.std.proofs.lemmas.Bool.Decides.{nat_tests}
use Rattle.std.proofs.lemmas.List.{length-append}
use Rattle.pli_language.specs.declared.fault.SourceKind.TheVariants.{TooLarge}
use Rattle.pli_language.specs.Refusals.{fault}
use Rattle.pli_language.specs.Tree as T
use Rattle.pli_language.specs.Declarations.{Variable, dimensions_of, Held, Block, blocks_of}
use Rattle.pli_language.specs.Declaring.{Use, has, own_attributes, root_of, is_deeper, is_parameter, use_of}
use Rattle.pli_language.specs.Declaring.{names_of, own_dimensions, inherited_dimensions, most_dimensions, bound_faults}
use Rattle.pli_language.specs.Declaring.{attributes_clash, precision_of, precisions_in}
use Rattle.pli_language.specs.Means.{around_of, declarations_of}
use Rattle.pli_typing.specs.TypedTree as Y
use Rattle.pli_typing.specs.Judging.{Scope, each}
use Rattle.pli_typing.specs.Generations.{evaluation, declared_variable}
use Rattle.pli_typing.specs.Resolving.{typed_tree}
use Rattle.pli_typing.specs.Variables as V
use Rattle.pli_typing.specs.Variables.{WrittenExtent, written_extents, variables_in, declarations_at}
use Rattle.pli_typing.specs.Variables.{leaves_in, leaf_of}
use Rattle.pli_typing.specs.Variables.{head_of_block, class_of, variable_meant, type_of, size_of_text, size_of_area}
use Rattle.pli_typing.specs.Variables.{area_named, area_name, extent_of, bounds_of}
use Rattle.well_formed_trees.specs.Every.{Every}
use Rattle.well_formed_trees.specs.Ranges.{IsPrecision}
use Rattle.well_formed_trees.specs.Spelled.{RangedBound}
use Rattle.well_formed_trees.specs.Surroundings.{Where, IsAreaIf, variables_of_block}
use Rattle.well_formed_trees.specs.Declarations.{IsExtent, AreBounds, IsAreaSize, IsNotRefer, IsLeafType, IsLeaf}
use Rattle.well_formed_trees.specs.Held.{table_of}
use Rattle.well_formed_trees.specs.SoundVariables.{HasSoundLeaves, AcceptedLeaves}
use Rattle.well_formed_trees.proofs.Lists.{first_empty, second_empty, every_first, every_both, all_empty}
use Rattle.well_formed_trees.proofs.Places.{every_at}
use Rattle.well_formed_trees.proofs.Parameters.{none_when}
use Rattle.well_formed_trees.proofs.ResultTypes.{precision_is}
use Rattle.well_formed_trees.proofs.Structures.{AreHeld, IsStructure, structure_root}
use Rattle.well_formed_trees.proofs.MemberParts.{map_length}
use Rattle.well_formed_trees.proofs.FineVariables.{IsFineMember, IsFineVariable, all_fine, no_clash}
use Rattle.well_formed_trees.proofs.KindsSound.{digits_fine, area_named_sound}
use Rattle.well_formed_trees.proofs.HeadsInRange.{ranges_kept}
use Rattle.well_formed_trees.proofs.ProgramNumbers.{lists_kept}
use Rattle.well_formed_trees.proofs.StructuredVariables.{none_behind, block_structures}
use Rattle.well_formed_trees.proofs.DeclaredRanges.{RangedHeld, BlockRanged, all_blocks_ranged, variables_ranged}
use Rattle.well_formed_trees.proofs.EntryScopes.{entry_scope}
use Rattle.well_formed_trees.proofs.EvaluationsSound.{every_flat, where_of}
use Rattle.well_formed_trees.proofs.ExtentsSound.{IsUse, BoundRefers, BoundPlaced, IsSizeOfText, bounds_sound}
use Rattle.well_formed_trees.proofs.ExtentsSound.{text_sound, area_sound}
use Rattle.well_formed_trees.proofs.ExtentsPlaced.{HeldPlaced, all_placed}
use Rattle.well_formed_trees.proofs.MembersFine.{member_use, member_based, member_refers, initial_sound}
use Rattle.well_formed_trees.proofs.Facts.{Facts, IsSeen, IsVisible, InScope}
use Rattle.well_formed_trees.proofs.AcceptedFacts.{facts_kept}

-- ---- bounds

abbrev SoundBound : Y.StorageClass → List WrittenExtent → T.Bound → Type 0
SoundBound class written b = AreBounds class (length written) (bounds_of (extent_of written) b)

all_bounds : (way : Use) (class : Y.StorageClass) → IsUse way class → (written : List WrittenExtent)
    (bs : List T.Bound) → Every RangedBound bs → Every (λ b. bound_faults way b ≡ []) bs
    → Every (BoundRefers class) bs → Every (BoundPlaced written) bs → Every (SoundBound class written) bs
all_bounds way class u written [] r f m p = tt
all_bounds way class u written (b ∷ bs) r f m p =
    (bounds_sound way class u written b r.0 f.0 m.0 p.0, all_bounds way class u written bs r.1 f.1 m.1 p.1)

abbrev SoundDimensions : Y.StorageClass → List WrittenExtent → Variable → Type 0
SoundDimensions class written v = Every (SoundBound class written) (dimensions_of v)

-- what is so of each variable that is held is so of those that hold it
pub above_hold : (P : Variable → Type 0) (chain : List Variable) (ms : List Held) → Every P chain → AreHeld chain ms
    → Every (λ m. P m.variable) ms → Every (λ m. Every P m.above) ms
above_hold P chain [] k h own = tt
above_hold P chain (m ∷ ms) k h own =
    let above = every_first P m.above h.0.0 (subst (Every P) h.0.1 k) in (
      above,
      above_hold P (m.above ++ m.variable ∷ []) ms (every_both P m.above (m.variable ∷ []) above (own.0, tt))
          h.1.1 own.1,
    )

pub every_mapped : {X Z : Type 0} (P : Z → Type 0) (f : X → Z) (xs : List X) → Every (λ x. P (f x)) xs
    → Every P (map f xs)
every_mapped P f [] h = tt
every_mapped P f (x ∷ xs) h = (h.0, every_mapped P f xs h.1)

dimensions_from : (n : ℕ) (vs : List Variable)
    → fold (λ a v. a + length (dimensions_of v)) n vs ≡ n + length (flat_map dimensions_of vs)
dimensions_from n [] = omega arith
dimensions_from n (v ∷ vs) =
    let more = dimensions_from (n + length (dimensions_of v)) vs in
    let both = length-append (dimensions_of v) (flat_map dimensions_of vs) in
    more ∙ omega (arith, both)

pub dimensions_length : (vs : List Variable)
    → length (flat_map dimensions_of vs) ≡ sum_by (λ v. length (dimensions_of v)) vs
dimensions_length vs = let e = dimensions_from 0 vs in sym (e ∙ omega arith)

few_bounds : (h : Held) (f : T.Bound → Y.Bounds)
    → nat_lt most_dimensions (own_dimensions h + inherited_dimensions h) ≡ false
    → length (map f (V.all_dimensions h)) ≤ 8
few_bounds h f e =
    let many : length (map f (V.all_dimensions h))
    ≡ sum_by (λ v. length (dimensions_of v)) h.above + length (dimensions_of h.variable) =
    map_length f (V.all_dimensions h)
    ∙ (length-append (flat_map dimensions_of h.above) (dimensions_of h.variable)
    ∙ ap (λ n. n + length (dimensions_of h.variable)) (dimensions_length h.above)) in
    by (length (dimensions_of h.variable)) (sum_by (λ v. length (dimensions_of v)) h.above)
    (length (map f (V.all_dimensions h))) many e where
      by : (own above all : ℕ) → all ≡ above + own → nat_lt 8 (own + above) ≡ false → all ≤ 8
      by own above all m e = let k = at_most (own + above) e in omega (arith, k, m) where
        at_most : (n : ℕ) → nat_lt 8 n ≡ false → n ≤ 8
        at_most n e = grind (arith, nat_tests)

-- ---- kinds

kind_by : (w : Where) (class : Y.StorageClass) (many : ℕ) (two three four five six seven : Bool)
    (size bytes : Y.Extent) (area : Option Y.Variable) (p : ℕ) → IsSizeOfText class many three size
    → IsExtent class many bytes × (IsAreaSize bytes × IsNotRefer bytes) → IsAreaIf w area → IsPrecision p
    → IsLeafType w class many (if two then (if three then Y.VaryingLeaf size else Y.CharacterLeaf size)
    else (if four then Y.BitLeaf else (if five then Y.PointerLeaf
    else (if six then Y.OffsetLeaf area else (if seven then Y.AreaLeaf bytes else Y.FixedLeaf p)))))
kind_by w class many true true four five six seven size bytes area p s b a k = (s.0, (s.1.0, s.1.1 refl))
kind_by w class many true false four five six seven size bytes area p s b a k = (s.0, s.1.0)
kind_by w class many false three true five six seven size bytes area p s b a k = tt
kind_by w class many false three false true six seven size bytes area p s b a k = tt
kind_by w class many false three false false true seven size bytes area p s b a k = a
kind_by w class many false three false false false true size bytes area p s b a k = b
kind_by w class many false three false false false false size bytes area p s b a k = k

-- ---- members

-- what is known of a member, where its variable is of a class
record IsKnown (ps : List T.Name) (class : Y.StorageClass) (written : List WrittenExtent) (h : Held) : Type 0 where
  use_is : IsUse (use_of ps h) class
  fine : IsFineMember ps h
  based : is_parameter ps h ≡ false → has 11 (root_of h).item.attributes ≡ true → class ≡ Y.BasedClass
  ranged : RangedHeld h
  placed : HeldPlaced written h

all_known : (ps : List T.Name) (root : Held) (written : List WrittenExtent) (ms : List Held)
    → attributes_clash (own_attributes root) ≡ false → root_of root ≡ root.variable
    → Every (λ m. root_of m ≡ root.variable) ms → Every (IsFineMember ps) ms → Every RangedHeld ms
    → Every (HeldPlaced written) ms
    → Every (IsKnown ps (class_of ps root (root_of root).item.attributes) written) ms
all_known ps root written [] c e g f r p = tt
all_known ps root written (m ∷ ms) c e g f r p = (
  record {
    use_is = member_use ps root m c e g.0;
    fine = f.0;
    based = member_based ps root m c e g.0;
    ranged = r.0;
    placed = p.0;
  },
  all_known ps root written ms c e g.1 f.1 r.1 p.1,
)

own_dimensions_sound : (ps : List T.Name) (class : Y.StorageClass) (written : List WrittenExtent) (h : Held)
    → IsKnown ps class written h → SoundDimensions class written h.variable
own_dimensions_sound ps class written h k =
    let f = k.fine in
    let extents = second_empty _ _ (first_empty _ _ f.fine) in
    all_bounds (use_of ps h) class k.use_is written (dimensions_of h.variable) k.ranged.0
    (all_empty (bound_faults (use_of ps h)) (dimensions_of h.variable) (first_empty _ _ extents))
    (member_refers ps class f.earlier h f.after f.fine k.based).0 k.placed.0

leaf_sound : (blocks : List Block) (w : Where) → Facts blocks w.program w.table → (b : ℕ) → IsVisible blocks w.around b
    → (ps : List T.Name) (class : Y.StorageClass) (written : List WrittenExtent) (h : Held)
    → IsKnown ps class written h → Every (SoundDimensions class written) h.above
    → IsLeaf w class (length written) (leaf_of blocks b written h)
leaf_sound blocks w facts b see ps class written h k above =
    let f = k.fine in
    let all = own_attributes h in
    let way = use_of ps h in
    let clash = no_clash ps h f in
    let extents = second_empty _ _ (first_empty _ _ f.fine) in
    let sizes = second_empty (flat_map (bound_faults way) (dimensions_of h.variable)) _ extents in
    let refers = (member_refers ps class f.earlier h f.after f.fine k.based).1 in
    let bounds = every_both (SoundBound class written) (flat_map dimensions_of h.above) (dimensions_of h.variable)
    (every_flat (SoundDimensions class written) (SoundBound class written) dimensions_of (λ v d. d) h.above above)
    (own_dimensions_sound ps class written h k) in
    record {
      type_is =
          kind_by w class (length written) (has 2 all) (has 3 all) (has 4 all) (has 5 all) (has 6 all) (has 7 all)
          (size_of_text written all) (size_of_area written all) (area_named blocks b (area_name all))
          (precision_of (precisions_in all))
          (text_sound way class k.use_is written (has 3 all) all k.ranged.1 sizes refers k.placed.1)
          (area_sound way class k.use_is written (has 3 all) all k.ranged.1 sizes refers k.placed.1)
          (area_named_sound blocks w facts b (area_name all) see)
          (precision_is (precisions_in all) (digits_fine all clash));
      bounds_are =
          every_mapped (AreBounds class (length written)) (bounds_of (extent_of written)) (V.all_dimensions h) bounds;
      few =
          few_bounds h (bounds_of (extent_of written))
          (none_when _ (fault h.variable.declared.name.place TooLarge)
          (second_empty _ _ (first_empty _ _ (first_empty _ _ f.fine))));
      initial_is = initial_sound blocks b written ps f.earlier h f.after f.fine clash k.ranged.1;
    }

all_leaves : (blocks : List Block) (w : Where) → Facts blocks w.program w.table → (b : ℕ)
    → IsVisible blocks w.around b → (ps : List T.Name) (class : Y.StorageClass) (written : List WrittenExtent)
    (hs : List Held) → Every (IsKnown ps class written) hs
    → Every (λ h. Every (SoundDimensions class written) h.above) hs
    → Every (λ h. IsLeaf w class (length written) (leaf_of blocks b written h)) hs
all_leaves blocks w facts b see ps class written [] k a = tt
all_leaves blocks w facts b see ps class written (h ∷ hs) k a = (
  leaf_sound blocks w facts b see ps class written h k.0 a.0,
  all_leaves blocks w facts b see ps class written hs k.1 a.1,
)

pub every_leaf : (P : Held → Type 0) (hs : List Held) → Every P hs → Every P (leaves_in hs)
every_leaf P [] h = tt
every_leaf P (a ∷ []) h = h
every_leaf P (a ∷ b ∷ more) h = by (is_deeper a b) (every_leaf P (b ∷ more) h.1) where
  by : (t : Bool) → Every P (leaves_in (b ∷ more))
      → Every P (if t then leaves_in (b ∷ more) else a ∷ leaves_in (b ∷ more))
  by true e = e
  by false e = (h.0, e)

known_dimensions : (ps : List T.Name) (class : Y.StorageClass) (written : List WrittenExtent) (hs : List Held)
    → Every (IsKnown ps class written) hs → Every (λ h. SoundDimensions class written h.variable) hs
known_dimensions ps class written [] k = tt
known_dimensions ps class written (h ∷ hs) k =
    (own_dimensions_sound ps class written h k.0, known_dimensions ps class written hs k.1)

-- ---- variables

pub evaluations_length : (scope : Scope) (own : Y.Variable) (written ws : List WrittenExtent)
    → length (each (evaluation scope own written) ws).value ≡ length ws
evaluations_length scope own written [] = refl
evaluations_length scope own written (x ∷ xs) = ap suc (evaluations_length scope own written xs)

variable_leaves : (blocks : List Block) (w : Where) → Facts blocks w.program w.table → (b : ℕ)
    → IsVisible blocks w.around b → (all : List Held) → IsStructure all
    → IsFineVariable (names_of (head_of_block (slice_get blocks b))) all → Every RangedHeld all
    → HasSoundLeaves w (declared_variable (record { blocks = blocks; block = b }) all).value
variable_leaves blocks w facts b see [] s f r = absurd s
variable_leaves blocks w facts b see (root ∷ ms) s f r =
    let all = root ∷ ms in
    let ps = names_of (head_of_block (slice_get blocks b)) in
    let class = class_of ps root (root_of root).item.attributes in
    let written = written_extents all in
    let scope : Scope = record { blocks = blocks; block = b } in
    let fine = all_fine ps all f in
    let roots = structure_root root ms s in
    let known = all_known ps root written all (no_clash ps root fine.0) roots.0 roots fine r (all_placed all) in
    let dimensions = known_dimensions ps class written all known in
    let above = above_hold (SoundDimensions class written) (root.variable ∷ []) ms (dimensions.0, tt) s.1
    dimensions.1 in
    let none = subst (Every (SoundDimensions class written)) (sym s.0) tt in
    let leaves = every_leaf (λ h. IsLeaf w class (length written) (leaf_of blocks b written h)) all
    (all_leaves blocks w facts b see ps class written all known (none, above)) in
    subst (λ n. Every (IsLeaf w class n) (map (leaf_of blocks b written) (leaves_in all)))
    (sym (evaluations_length scope (variable_meant blocks b root) written written))
    (every_mapped (IsLeaf w class (length written)) (leaf_of blocks b written) (leaves_in all) leaves)

all_variables : (blocks : List Block) (w : Where) → Facts blocks w.program w.table → (b : ℕ)
    → IsVisible blocks w.around b → (vs : List (List Held)) → Every IsStructure vs
    → Every (IsFineVariable (names_of (head_of_block (slice_get blocks b)))) vs → Every (Every RangedHeld) vs
    → Every (HasSoundLeaves w) (each (declared_variable (record { blocks = blocks; block = b })) vs).value
all_variables blocks w facts b see [] s f r = tt
all_variables blocks w facts b see (all ∷ vs) s f r = (
  variable_leaves blocks w facts b see all s.0 f.0 r.0,
  all_variables blocks w facts b see vs s.1 f.1 r.1,
)

block_leaves : (blocks : List Block) (w : Where) → Every BlockRanged blocks → (n : ℕ) (b : Block)
    → slice_get blocks n ≡ Some b → InScope (record { blocks = blocks; block = n }) w
    → Every (HasSoundLeaves w) (variables_of_block w.program n)
block_leaves blocks w ranged n b e i =
    let s = block_structures blocks w.program w.table i.facts n b e in
    let same : declarations_at blocks n ≡ b.declarations = ap declarations_of e in
    let r = subst (λ ds. Every (Every RangedHeld) (variables_in ds)) (sym same)
    (variables_ranged b.declarations (every_at BlockRanged blocks n b ranged e)) in
    let see : IsVisible blocks w.around n =
    subst (λ o. Every (IsSeen blocks w.around) (around_of o)) (sym i.sees.has_own) i.sees.seen in
    subst (Every (HasSoundLeaves w)) (sym (i.facts.variables n b e))
    (all_variables blocks w i.facts n see (variables_in (declarations_at blocks n)) s.0 s.1 r)

pub accepted_leaves : AcceptedLeaves
accepted_leaves s tokens tree t h declared typed number around f =
    by (slice_get (blocks_of tree) number) refl (facts_kept s tokens tree t h declared typed)
    (all_blocks_ranged tree (ranges_kept s tokens tree t h)) where
      by : (o : Option Block) → slice_get (blocks_of tree) number ≡ o
          → Facts (blocks_of tree) (typed_tree tree) (table_of tree) → Every BlockRanged (blocks_of tree)
          → Every (HasSoundLeaves (where_of tree around)) (variables_of_block (typed_tree tree) number)
      by None e facts ranged =
          subst (λ o. Every (HasSoundLeaves (where_of tree around)) (unwrap_or o []))
          (sym (none_behind (typed_tree tree).variables (blocks_of tree) number (lists_kept tree) e)) tt
      by (Some b) e facts ranged =
          block_leaves (blocks_of tree) (where_of tree around) ranged number b e
          (entry_scope tree (typed_tree tree) facts number b around e f)
