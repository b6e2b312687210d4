-- Where nothing is kept by REFER, no extent of a leaf is.
use Rattle.std.proofs.Common.{◌≡◌, ◌≢◌, ℕ, ℤ, List, [], ◌∷◌}
use Rattle.std.proofs.Common.{map, Option, Some, None, if◌then◌else◌, refl, sym, subst}
use Rattle.std.specs.Prelude.{is_some}
use Rattle.std.specs.List.{flat_map}
use Rattle.pli_language.specs.Tree as T
use Rattle.pli_language.specs.Declarations.{Variable, dimensions_of, Held}
use Rattle.pli_language.specs.Declarations.{Block}
use Rattle.pli_language.specs.Declaring.{has, own_attributes}
use Rattle.pli_language.specs.Declaring.{constant}
use Rattle.pli_typing.specs.TypedTree as Y
use Rattle.pli_typing.specs.Generations.{kept_with, kept_extent, kept_in_bound, kept_in_attribute, kept_in}
use Rattle.pli_typing.specs.Variables as V
use Rattle.pli_typing.specs.Variables.{WrittenExtent, written_extents, members_first, member_then, variables_in}
use Rattle.pli_typing.specs.Variables.{declarations_at, leaves_in, leaf_of, index_where, head_of_block, variable_meant}
use Rattle.pli_typing.specs.Variables.{evaluated, amount_of, extent_of, bounds_of, size_of_text, size_of_area, type_of}
use Rattle.pli_typing.specs.Variables.{area_named, area_name}
use Rattle.pli_language.specs.Declaring.{precision_of, precisions_in}
use Rattle.well_formed_trees.specs.Every.{Every}
use Rattle.well_formed_trees.specs.Declarations.{RefersIn, KeepsNone}
use Rattle.well_formed_trees.proofs.Lists.{first_empty, second_empty, every_both, all_empty}
use Rattle.well_formed_trees.proofs.Lists.{every_map}
use Rattle.well_formed_trees.proofs.Structures.{IsStructure}
use Rattle.well_formed_trees.proofs.KindsSound.{type_by}
use Rattle.well_formed_trees.proofs.EvaluationsSound.{every_flat}
use Rattle.well_formed_trees.proofs.LeavesSound.{above_hold, every_mapped, every_leaf}
use Rattle.well_formed_trees.proofs.ReferRules.{bounds_kept, lengths_kept}

-- ---- extents

not_kept : (written : List WrittenExtent) (e : T.Extent) → kept_extent e ≡ [] → extent_of written e ≢ Y.ReferExtent
not_kept written e f = by e.refer (constant e.value) f where
  by : (o : Option T.Refer) (c : Option ℤ) → kept_with e o ≡ []
      → (if is_some o then Y.ReferExtent else evaluated written e.value c) ≢ Y.ReferExtent
  by None None f = λ k. cc k
  by None (Some z) f = λ k. cc k
  by (Some r) c f = absurd (cc f)

bound_not_kept : (written : List WrittenExtent) (b : T.Bound) → kept_in_bound b ≡ []
    → (bounds_of (extent_of written) b).upper ≢ Y.ReferExtent
bound_not_kept written (T.StarBound place) f = λ k. cc k
bound_not_kept written (T.Upper u) f = not_kept written u f
bound_not_kept written (T.Both l u) f = not_kept written u f

length_not_kept : (written : List WrittenExtent) (all : List T.Attribute) → flat_map kept_in_attribute all ≡ []
    → size_of_text written all ≢ Y.ReferExtent
length_not_kept written [] f = λ k. cc k
length_not_kept written (T.Character (Some (T.Given e)) ∷ all) f =
    not_kept written e (first_empty (kept_extent e) (flat_map kept_in_attribute all) f)
length_not_kept written (T.Character (Some (T.StarSize place)) ∷ all) f = λ k. cc k
length_not_kept written (a ∷ all) f =
    length_not_kept written all (second_empty (kept_in_attribute a) (flat_map kept_in_attribute all) f)

refers_is : (size : Y.Extent) → RefersIn (Y.CharacterLeaf size) → size ≡ Y.ReferExtent
refers_is (Y.ConstantExtent z) h = absurd h
refers_is Y.StarExtent h = absurd h
refers_is Y.ReferExtent h = refl
refers_is (Y.EvaluatedExtent n) h = absurd h

type_not_kept : (blocks : List Block) (b : ℕ) (written : List WrittenExtent) (all : List T.Attribute)
    → flat_map kept_in_attribute all ≡ [] → ¬ RefersIn (type_of blocks b written all)
type_not_kept blocks b written all f =
    let size = size_of_text written all in
    type_by (λ t. ¬ RefersIn t) (has 2 all) (has 3 all) (has 4 all) (has 5 all) (has 6 all) (has 7 all) size
    (size_of_area written all) (area_named blocks b (area_name all)) (precision_of (precisions_in all)) (λ h. h)
    (λ h. length_not_kept written all f (refers_is size h)) (λ h. h) (λ h. h) (λ h. h) (λ h. h) (λ h. h)

abbrev KeepsNoBound : Variable → Type 0
KeepsNoBound v = Every (λ b. kept_in_bound b ≡ []) (dimensions_of v)

leaf_not_kept : (blocks : List Block) (b : ℕ) (written : List WrittenExtent) (h : Held) → kept_in h ≡ []
    → Every KeepsNoBound h.above → KeepsNone (leaf_of blocks b written h)
leaf_not_kept blocks b written h f above =
    let own = all_empty kept_in_bound (dimensions_of h.variable) (first_empty (bounds_kept h) (lengths_kept h) f) in
    let all = every_both (λ b. kept_in_bound b ≡ []) (flat_map dimensions_of h.above) (dimensions_of h.variable)
    (every_flat KeepsNoBound (λ b. kept_in_bound b ≡ []) dimensions_of (λ v k. k) h.above above) own in (
      type_not_kept blocks b written (own_attributes h) (second_empty (bounds_kept h) (lengths_kept h) f),
      every_mapped (λ b. b.upper ≢ Y.ReferExtent) (bounds_of (extent_of written)) (V.all_dimensions h)
          (every_map (λ b. kept_in_bound b ≡ []) (λ b. (bounds_of (extent_of written) b).upper ≢ Y.ReferExtent)
          (bound_not_kept written) (V.all_dimensions h) all),
    )

leaves_not_kept : (blocks : List Block) (b : ℕ) (written : List WrittenExtent) (hs : List Held)
    → Every (λ h. kept_in h ≡ []) hs → Every (λ h. Every KeepsNoBound h.above) hs
    → Every (λ h. KeepsNone (leaf_of blocks b written h)) hs
leaves_not_kept blocks b written [] f a = tt
leaves_not_kept blocks b written (h ∷ hs) f a =
    (leaf_not_kept blocks b written h f.0 a.0, leaves_not_kept blocks b written hs f.1 a.1)

pub keeps_none : (blocks : List Block) (b : ℕ) (root : Held) (ms : List Held) → IsStructure (root ∷ ms)
    → flat_map kept_in (root ∷ ms) ≡ []
    → Every KeepsNone (map (leaf_of blocks b (written_extents (root ∷ ms))) (leaves_in (root ∷ ms)))
keeps_none blocks b root ms s f =
    let all = root ∷ ms in
    let leaf = leaf_of blocks b (written_extents all) in
    let each_none = all_empty kept_in all f in
    let own = every_map (λ h. kept_in h ≡ []) (λ h. KeepsNoBound h.variable)
    (λ h e. all_empty kept_in_bound (dimensions_of h.variable) (first_empty (bounds_kept h) (lengths_kept h) e)) all
    each_none in
    let above = above_hold KeepsNoBound (root.variable ∷ []) ms (own.0, tt) s.1 own.1 in
    let none = subst (Every KeepsNoBound) (sym s.0) tt in
    every_mapped KeepsNone leaf (leaves_in all) (every_leaf (λ h. KeepsNone (leaf h)) all
    (leaves_not_kept blocks b (written_extents all) all each_none (none, above)))
