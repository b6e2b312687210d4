-- Where a variable of an accepted source has REFER, a leaf before its last one keeps the only extent of that; where it
-- has none, no extent is kept.
use Rattle.std.proofs.Common.{◌≡◌, ◌≢◌, ℕ, ◌+◌, ◌==◌, Bool, true, false, List, [], ◌∷◌}
use Rattle.std.proofs.Common.{◌++◌, map, length, Option, Some, None, if◌then◌else◌, refl, sym, ap, ◌∙◌, subst}
use Rattle.std.proofs.Common.{arith, inl, inr}
use Rattle.std.specs.Prelude.{slice_get, unwrap_or, is_some, ◌⊎◌}
use Rattle.std.specs.List.{flat_map}
use Rattle.std.proofs.lemmas.Bool.{eqb-true}
use Rattle.std.proofs.lemmas.List.{length-append}
use Rattle.pli_language.specs.declared.token.Token.{Token}
use Rattle.pli_language.specs.Tokens.{Tokens}
use Rattle.pli_language.specs.Parsing.{Spells}
use Rattle.pli_language.specs.Tree as T
use Rattle.pli_language.specs.Declarations.{dimensions_of, Held}
use Rattle.pli_language.specs.Declarations.{Declaration, Block, blocks_of}
use Rattle.pli_language.specs.Declaring.{declaring_faults, has, row_of, repeats, own_attributes}
use Rattle.pli_language.specs.Declaring.{root_of, own_dimensions, inherited_dimensions}
use Rattle.pli_language.specs.Declaring.{names_of, attributes_clash, leaves_before}
use Rattle.pli_language.specs.Means.{declarations_of}
use Rattle.pli_typing.specs.TypedTree as Y
use Rattle.pli_typing.specs.Judging.{Scope, each}
use Rattle.pli_typing.specs.Generations.{Kept, kept_with, kept_extent, kept_in_bound, kept_in_attribute, kept_in}
use Rattle.pli_typing.specs.Generations.{is_named, refer_among, declared_variable}
use Rattle.pli_typing.specs.Resolving.{typing_faults, typed_tree}
use Rattle.pli_typing.specs.Variables as V
use Rattle.pli_typing.specs.Variables.{WrittenExtent, written_extents, members_first, member_then, variables_in}
use Rattle.pli_typing.specs.Variables.{declarations_at, leaves_in, leaf_of, index_where, head_of_block, variable_meant}
use Rattle.pli_typing.specs.Variables.{evaluated, amount_of, extent_of, bounds_of, size_of_text, size_of_area, type_of}
use Rattle.pli_typing.specs.Variables.{area_named, area_name}
use Rattle.pli_language.specs.Declaring.{precision_of, precisions_in}
use Rattle.well_formed_trees.specs.Every.{Every}
use Rattle.well_formed_trees.specs.Spelled.{RangedBound, RangedAttribute}
use Rattle.well_formed_trees.specs.Surroundings.{Table, variables_of_block}
use Rattle.well_formed_trees.specs.Declarations.{IsAmount, RefersIn, IsReferBound, IsReferIf}
use Rattle.well_formed_trees.specs.Declarations.{KeepsNoneIf}
use Rattle.well_formed_trees.specs.Held.{table_of}
use Rattle.well_formed_trees.proofs.Lists.{first_false, every_second}
use Rattle.well_formed_trees.proofs.Lists.{every_pair, second_false}
use Rattle.well_formed_trees.proofs.Letters.{first_true, second_true}
use Rattle.well_formed_trees.proofs.Places.{has_end, every_at}
use Rattle.well_formed_trees.proofs.HeadsInRange.{ranges_kept}
use Rattle.well_formed_trees.proofs.ProgramNumbers.{lists_kept}
use Rattle.well_formed_trees.proofs.DeclaredRanges.{RangedHeld, BlockRanged, all_blocks_ranged, variables_ranged}
use Rattle.well_formed_trees.proofs.Structures.{IsStructure, structure_root}
use Rattle.well_formed_trees.proofs.MemberParts.{map_length, mapped_at}
use Rattle.well_formed_trees.proofs.FineVariables.{IsFineMember, IsFineVariable, all_fine, no_clash}
use Rattle.well_formed_trees.proofs.StructuredVariables.{none_behind, block_structures}
use Rattle.well_formed_trees.proofs.EvaluationsSound.{every_flat}
use Rattle.well_formed_trees.proofs.ExtentsSound.{BoundPlaced, AttributePlaced}
use Rattle.well_formed_trees.proofs.ExtentsPlaced.{HeldPlaced, all_placed}
use Rattle.well_formed_trees.proofs.MembersFine.{member_based, number_type}
use Rattle.well_formed_trees.proofs.LeavesSound.{every_leaf, dimensions_length}
use Rattle.well_formed_trees.proofs.LeavesSound.{evaluations_length}
use Rattle.well_formed_trees.proofs.ChecksSound.{amount_sound}
use Rattle.well_formed_trees.proofs.ReferRules.{KeepsExtent, KeepsLength, IsKeeping}
use Rattle.well_formed_trees.proofs.ReferRules.{bounds_kept, lengths_kept}
use Rattle.well_formed_trees.proofs.Facts.{Facts}
use Rattle.well_formed_trees.proofs.AcceptedFacts.{facts_kept}
use Rattle.well_formed_trees.proofs.NoneKept.{keeps_none}
use Rattle.well_formed_trees.proofs.LastKept.{StartsWith, starts_every, may_is, may_of, last_keeps}
use Rattle.well_formed_trees.proofs.LastKept.{leaves_end, number_among, one_of, no_parameter_of}

-- ---- dimensions

none_in : {X : Type 0} (xs : List X) → length xs ≡ 0 → xs ≡ []
none_in [] e = refl
none_in (x ∷ xs) e = absurd (omega (arith, e))

flat_above : (h : Held) → inherited_dimensions h ≡ 0 → flat_map dimensions_of h.above ≡ []
flat_above h e = none_in (flat_map dimensions_of h.above) (dimensions_length h.above ∙ e)

no_dimensions : (h : Held) → (own_dimensions h + inherited_dimensions h == 0) ≡ true → V.all_dimensions h ≡ []
no_dimensions h e =
    let none = eqb-true (own_dimensions h + inherited_dimensions h) 0 e in
    ap (λ l. l ++ dimensions_of h.variable) (flat_above h (second (own_dimensions h) (inherited_dimensions h) none))
    ∙ none_in (dimensions_of h.variable) (first (own_dimensions h) (inherited_dimensions h) none) where
      first : (m n : ℕ) → m + n ≡ 0 → m ≡ 0
      first m n e = omega (arith, e)

      second : (m n : ℕ) → m + n ≡ 0 → n ≡ 0
      second m n e = omega (arith, e)

-- ---- the extent that is kept

record OnlyBound (bs : List T.Bound) (k : Kept) : Type 0 where
  b : T.Bound
  are : bs ≡ b ∷ []
  kept : kept_in_bound b ≢ []

only_bound : (bs : List T.Bound) (k : Kept) → length bs ≡ 1 → StartsWith (flat_map kept_in_bound bs) k
    → OnlyBound bs k
only_bound [] k n s = absurd (omega (arith, n))
only_bound (b ∷ c ∷ bs) k n s = absurd (omega (arith, n))
only_bound (b ∷ []) k n s = record { b = b; are = refl; kept = some (kept_in_bound b) s.1 } where
  some : (l : List Kept) → l ++ [] ≡ k ∷ s.0 → l ≢ []
  some [] e = λ f. cc e
  some (x ∷ xs) e = λ f. cc f

kept_refers : (written : List WrittenExtent) (e : T.Extent) → kept_extent e ≢ [] → extent_of written e ≡ Y.ReferExtent
kept_refers written e f = by e.refer f where
  by : (o : Option T.Refer) → kept_with e o ≢ []
      → (if is_some o then Y.ReferExtent else amount_of written e) ≡ Y.ReferExtent
  by None f = absurd (f refl)
  by (Some r) f = refl

upper_refers : (written : List WrittenExtent) (b : T.Bound) → kept_in_bound b ≢ []
    → (bounds_of (extent_of written) b).upper ≡ Y.ReferExtent
upper_refers written (T.StarBound place) f = absurd (f refl)
upper_refers written (T.Upper u) f = kept_refers written u f
upper_refers written (T.Both l u) f = kept_refers written u f

-- a length that is kept is the only one
record LengthRefers (written : List WrittenExtent) (all : List T.Attribute) : Type 0 where
  size : size_of_text written all ≡ Y.ReferExtent
  text : has 2 all ≡ true

length_refers : (written : List WrittenExtent) (all : List T.Attribute) → repeats all ≡ false
    → flat_map kept_in_attribute all ≢ [] → LengthRefers written all
length_refers written [] r f = absurd (f refl)
length_refers written (T.Character (Some (T.Given e)) ∷ all) r f =
    by e.refer refl (length_refers written all (second_false (has 2 all) (repeats all) r)) f where
      by : (o : Option T.Refer) → e.refer ≡ o → (flat_map kept_in_attribute all ≢ [] → LengthRefers written all)
          → kept_with e o ++ flat_map kept_in_attribute all ≢ []
          → LengthRefers written (T.Character (Some (T.Given e)) ∷ all)
      by None g k f = absurd (cc (first_false (has 2 all) (repeats all) r, (k f).text))
      by (Some x) g k f =
          record { size = ap (λ o. if is_some o then Y.ReferExtent else amount_of written e) g; text = refl }
length_refers written (T.Character (Some (T.StarSize place)) ∷ all) r f =
    let k = length_refers written all (second_false (has 2 all) (repeats all) r) f in
    absurd (cc (first_false (has 2 all) (repeats all) r, k.text))
length_refers written (T.Character None ∷ all) r f =
    let k = length_refers written all (second_false (has 2 all) (repeats all) r) f in
    absurd (cc (first_false (has 2 all) (repeats all) r, k.text))
length_refers written (a ∷ all) r f =
    let k = length_refers written all (second_false (has (row_of a) all) (repeats all) r) f in
    record { size = k.size; text = k.text }

-- ---- amounts

abbrev KeepsAmount : List WrittenExtent → Kept → Type 0
KeepsAmount written k = IsAmount (length written) (amount_of written k.extent)

kept_amount : (written : List WrittenExtent) (e : T.Extent) (o : Option T.Refer)
    → IsAmount (length written) (amount_of written e) → Every (KeepsAmount written) (kept_with e o)
kept_amount written e None h = tt
kept_amount written e (Some r) h = (h, tt)

bound_amount : (written : List WrittenExtent) (b : T.Bound) → RangedBound b × BoundPlaced written b
    → Every (KeepsAmount written) (kept_in_bound b)
bound_amount written (T.StarBound place) h = tt
bound_amount written (T.Upper u) h = kept_amount written u u.refer (amount_sound written u h.0 h.1)
bound_amount written (T.Both l u) h = kept_amount written u u.refer (amount_sound written u h.0.1 h.1.1)

length_amount : (written : List WrittenExtent) (a : T.Attribute) → RangedAttribute a × AttributePlaced written a
    → Every (KeepsAmount written) (kept_in_attribute a)
length_amount written (T.Character (Some (T.Given e))) h =
    kept_amount written e e.refer (amount_sound written e h.0 h.1)
length_amount written (T.Character (Some (T.StarSize place))) h = tt
length_amount written (T.Character None) h = tt
length_amount written _ h = tt

amount_of_kept : (written : List WrittenExtent) (m : Held) (k : Kept) → RangedHeld m → HeldPlaced written m
    → StartsWith (bounds_kept m) k ⊎ StartsWith (lengths_kept m) k → KeepsAmount written k
amount_of_kept written m k r p (inl s) =
    starts_every (KeepsAmount written) (bounds_kept m) k
    (every_flat (λ b. RangedBound b × BoundPlaced written b) (KeepsAmount written) kept_in_bound (bound_amount written)
    (dimensions_of m.variable)
    (every_pair RangedBound (BoundPlaced written) (dimensions_of m.variable) r.0 p.0)) s
amount_of_kept written m k r p (inr s) =
    starts_every (KeepsAmount written) (lengths_kept m) k
    (every_flat (λ a. RangedAttribute a × AttributePlaced written a) (KeepsAmount written) kept_in_attribute
    (length_amount written) (own_attributes m)
    (every_pair RangedAttribute (AttributePlaced written) (own_attributes m) r.1 p.1)) s

-- ---- the last leaf

text_refers : (two three four five six seven : Bool) (size bytes : Y.Extent) (area : Option Y.Variable) (p : ℕ)
    → two ≡ true → three ≡ false → size ≡ Y.ReferExtent
    → RefersIn (if two then (if three then Y.VaryingLeaf size else Y.CharacterLeaf size)
    else (if four then Y.BitLeaf else (if five then Y.PointerLeaf
    else (if six then Y.OffsetLeaf area else (if seven then Y.AreaLeaf bytes else Y.FixedLeaf p)))))
text_refers true false four five six seven size bytes area p e f g =
    subst (λ s. RefersIn (Y.CharacterLeaf s)) (sym g) tt
text_refers true true four five six seven size bytes area p e f g = absurd (cc f)
text_refers false three four five six seven size bytes area p e f g = absurd (cc e)

-- what the last leaf has of it
abbrev IsKeptIn : Y.Leaf → Type 0
IsKeptIn l = ((l.bounds ≡ []) × RefersIn l.type) ⊎ ((b : Y.Bounds) × ((l.bounds ≡ b ∷ []) × IsReferBound b))

last_refers : (blocks : List Block) (b : ℕ) (written : List WrittenExtent) (ps : List T.Name) (before : List Held)
    (m : Held) (after : List Declaration) (k : Kept) → attributes_clash (own_attributes m) ≡ false
    → IsKeeping ps before m after → StartsWith (bounds_kept m) k ⊎ StartsWith (lengths_kept m) k
    → IsKeptIn (leaf_of blocks b written m)
last_refers blocks b written ps before m after k c h (inl s) =
    let keeps = starts_every (KeepsExtent ps before m after 1) (bounds_kept m) k h.bounds s in
    let only = only_bound (dimensions_of m.variable) k keeps.dimensions s in
    let above = flat_above m (may_is m after keeps.may).flat in
    let all : V.all_dimensions m ≡ only.b ∷ [] = ap (λ l. l ++ dimensions_of m.variable) above ∙ only.are in
    inr (
      bounds_of (extent_of written) only.b,
      (ap (map (bounds_of (extent_of written))) all, upper_refers written only.b only.kept),
    )
last_refers blocks b written ps before m after k c h (inr s) =
    let own = starts_every (KeepsLength ps before m after) (lengths_kept m) k h.lengths s in
    let all = own_attributes m in
    let above = flat_above m (may_is m after own.keeps.may).flat in
    let none = none_in (dimensions_of m.variable) own.keeps.dimensions in
    let repeated = first_false (repeats all) _ (first_false _ _ (first_false _ _ (first_false _ _ (first_false _ _
    (first_false _ _ c))))) in
    let refers = length_refers written all repeated (λ e. absurd (some (lengths_kept m) s.1 e)) in
    inl (
      ap (map (bounds_of (extent_of written))) (ap (λ l. l ++ dimensions_of m.variable) above ∙ none),
      text_refers (has 2 all) (has 3 all) (has 4 all) (has 5 all) (has 6 all) (has 7 all) (size_of_text written all)
          (size_of_area written all) (area_named blocks b (area_name all)) (precision_of (precisions_in all))
          refers.text own.fixed refers.size,
    ) where
      some : (l : List Kept) → l ≡ k ∷ s.0 → l ≡ [] → ⊥
      some l e f = cc (e, f)

-- ---- REFER of a variable

-- what holds of all holds of the last
last_has : (P : Held → Type 0) (all before : List Held) (m : Held) → all ≡ before ++ m ∷ [] → Every P all → P m
last_has P all before m e h = (every_second P before (m ∷ []) (subst (Every P) e h)).0

variable_refers : (blocks : List Block) (b : ℕ) (root : Held) (ms : List Held) → IsStructure (root ∷ ms)
    → IsFineVariable (names_of (head_of_block (slice_get blocks b))) (root ∷ ms) → Every RangedHeld (root ∷ ms)
    → (k : Kept) (ks : List Kept) → flat_map kept_in (root ∷ ms) ≡ k ∷ ks
    → IsReferIf (declared_variable (record { blocks = blocks; block = b }) (root ∷ ms)).value
    (refer_among (root ∷ ms) (k ∷ ks))
variable_refers blocks b root ms s f r k ks e =
    let all = root ∷ ms in
    let ps = names_of (head_of_block (slice_get blocks b)) in
    let scope : Scope = record { blocks = blocks; block = b } in
    let written = written_extents all in
    let leaf = leaf_of blocks b written in
    let l = last_keeps ps all f k ks e in
    let may = may_of ps l.before l.m l.after k l.keeping l.kept in
    let fine = all_fine ps all f in
    let roots = structure_root root ms s in
    let own = last_has (IsFineMember ps) all l.before l.m l.are fine in
    let root_is = last_has (λ m. root_of m ≡ root.variable) all l.before l.m l.are roots in
    let named = is_named k.member in
    let earlier = leaves_before l.before l.m in
    let leaves : leaves_in all ≡ earlier ++ l.m ∷ [] = ap leaves_in l.are ∙ leaves_end l.before l.m in
    let n = number_among named earlier (l.m ∷ []) (one_of ps l.before l.m l.after k l.keeping l.kept) in
    let i = index_where named (leaves_in all) in
    let at : i ≡ index_where named (earlier ++ l.m ∷ []) = ap (index_where named) leaves in
    let many : length (map leaf (leaves_in all)) ≡ length earlier + 1 =
    map_length leaf (leaves_in all) ∙ (ap length leaves ∙ length-append earlier (l.m ∷ [])) in
    let found : slice_get (leaves_in all) i ≡ Some n.number =
    ap (λ ls. slice_get ls (index_where named ls)) leaves ∙ n.found in
    let number = every_at (IsFineMember ps) (leaves_in all) i n.number (every_leaf (IsFineMember ps) all fine) found in
    let there : slice_get (leaves_in all) (length earlier) ≡ Some l.m =
    ap (λ ls. slice_get ls (length earlier)) leaves
    ∙ (has_end (earlier ++ l.m ∷ []) earlier (l.m ∷ []) refl).0 in
    let early = n.early in
    record {
      based =
          member_based ps root l.m (no_clash ps root fine.0) roots.0 root_is
          (no_parameter_of ps l.before l.m l.after k l.keeping l.kept) (may_is l.m l.after may).based;
      before = omega (arith, at, many, early);
      member = leaf n.number;
      member_is = mapped_at leaf (leaves_in all) i n.number found;
      precision = precision_of (precisions_in (own_attributes n.number));
      number =
          number_type blocks b written (own_attributes n.number) (no_clash ps n.number number)
          (second_true (own_dimensions n.number + inherited_dimensions n.number == 0) _ n.scalar);
      scalar =
          ap (map (bounds_of (extent_of written)))
          (no_dimensions n.number (first_true (own_dimensions n.number + inherited_dimensions n.number == 0) _
          n.scalar));
      last = leaf l.m;
      last_is = (
        length earlier,
        (omega (arith, many), mapped_at leaf (leaves_in all) (length earlier) l.m there),
      );
      keeps = last_refers blocks b written ps l.before l.m l.after k (no_clash ps l.m own) l.keeping l.kept;
      amount =
          subst (λ n. IsAmount n (amount_of written k.extent))
          (sym (evaluations_length scope (variable_meant blocks b root) written written))
          (amount_of_kept written l.m k (last_has RangedHeld all l.before l.m l.are r)
          (last_has (HeldPlaced written) all l.before l.m l.are (all_placed all)) l.kept);
    }

abbrev pub HasSoundRefer : Y.DeclaredVariable → Type 0
HasSoundRefer d = IsReferIf d d.refer × KeepsNoneIf d d.refer

refer_sound : (blocks : List Block) (b : ℕ) (all : List Held) → IsStructure all
    → IsFineVariable (names_of (head_of_block (slice_get blocks b))) all → Every RangedHeld all
    → HasSoundRefer (declared_variable (record { blocks = blocks; block = b }) all).value
refer_sound blocks b [] s f r = absurd s
refer_sound blocks b (root ∷ ms) s f r = by (flat_map kept_in (root ∷ ms)) refl where
  by : (l : List Kept) → flat_map kept_in (root ∷ ms) ≡ l
      → IsReferIf (declared_variable (record { blocks = blocks; block = b }) (root ∷ ms)).value
      (refer_among (root ∷ ms) l)
      × KeepsNoneIf (declared_variable (record { blocks = blocks; block = b }) (root ∷ ms)).value
      (refer_among (root ∷ ms) l)
  by [] e = (tt, keeps_none blocks b root ms s e)
  by (k ∷ ks) e = (variable_refers blocks b root ms s f r k ks e, tt)

all_refer : (blocks : List Block) (b : ℕ) (vs : List (List Held)) → Every IsStructure vs
    → Every (IsFineVariable (names_of (head_of_block (slice_get blocks b)))) vs → Every (Every RangedHeld) vs
    → Every HasSoundRefer (each (declared_variable (record { blocks = blocks; block = b })) vs).value
all_refer blocks b [] s f r = tt
all_refer blocks b (all ∷ vs) s f r =
    (refer_sound blocks b all s.0 f.0 r.0, all_refer blocks b vs s.1 f.1 r.1)

block_refers : (blocks : List Block) (program : Y.Program) (table : Table) → Facts blocks program table
    → Every BlockRanged blocks → (n : ℕ) (b : Block) → slice_get blocks n ≡ Some b
    → Every HasSoundRefer (variables_of_block program n)
block_refers blocks program table facts ranged n b e =
    let s = block_structures blocks program table facts n b e in
    let same : declarations_at blocks n ≡ b.declarations = ap declarations_of e in
    let r = subst (λ ds. Every (Every RangedHeld) (variables_in ds)) (sym same)
    (variables_ranged b.declarations (every_at BlockRanged blocks n b ranged e)) in
    subst (Every HasSoundRefer) (sym (facts.variables n b e))
    (all_refer blocks n (variables_in (declarations_at blocks n)) s.0 s.1 r)

pub refers_kept : (s : List ℕ) (tokens : List Token) (tree : T.Tree) → Tokens s tokens → Spells s tokens tree
    → declaring_faults tree ≡ [] → typing_faults tree ≡ [] → (number : ℕ)
    → Every HasSoundRefer (variables_of_block (typed_tree tree) number)
refers_kept s tokens tree t h declared typed number =
    by (slice_get (blocks_of tree) number) refl (facts_kept s tokens tree t h declared typed)
    (all_blocks_ranged tree (ranges_kept s tokens tree t h)) where
      by : (o : Option Block) → slice_get (blocks_of tree) number ≡ o
          → Facts (blocks_of tree) (typed_tree tree) (table_of tree) → Every BlockRanged (blocks_of tree)
          → Every HasSoundRefer (variables_of_block (typed_tree tree) number)
      by None e facts ranged =
          subst (λ o. Every HasSoundRefer (unwrap_or o []))
          (sym (none_behind (typed_tree tree).variables (blocks_of tree) number (lists_kept tree) e)) tt
      by (Some b) e facts ranged =
          block_refers (blocks_of tree) (typed_tree tree) (table_of tree) facts ranged number b e
