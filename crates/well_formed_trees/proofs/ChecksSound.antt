-- What is checked behind each evaluation of a variable of an accepted source is a constant in range or evaluated.
use Rattle.std.proofs.Common.{◌≡◌, ◌<◌, ℤ, Bool, true, false, List, [], ◌∷◌, length, Option, Some}
use Rattle.std.proofs.Common.{None, if◌then◌else◌, refl, sym, ap, subst}
use Rattle.std.specs.Prelude.{slice_get, unwrap_or}
use Rattle.std.specs.List.{flat_map}
use Rattle.pli_language.specs.Tree as T
use Rattle.pli_language.specs.Declarations.{dimensions_of, Held, Block, blocks_of}
use Rattle.pli_language.specs.Declaring.{own_attributes, constant, place_of_expr, same_place}
use Rattle.pli_language.specs.Means.{declarations_of}
use Rattle.pli_typing.specs.TypedTree as Y
use Rattle.pli_typing.specs.Judging.{Scope, each}
use Rattle.pli_typing.specs.Converting.{no_variable}
use Rattle.pli_typing.specs.Generations.{evaluation, declared_with, declared_variable}
use Rattle.pli_typing.specs.Resolving.{typed_tree}
use Rattle.pli_typing.specs.Variables.{WrittenExtent, WrittenCheck, WrittenNothing, WrittenLength, WrittenSize}
use Rattle.pli_typing.specs.Variables.{WrittenBounds, is_open, if_open, open_in_bound}
use Rattle.pli_typing.specs.Variables.{open_in_attribute, open_in, written_extents, variables_in, declarations_at}
use Rattle.pli_typing.specs.Variables.{evaluated, check_of, index_where, variable_meant}
use Rattle.well_formed_trees.specs.Every.{Every}
use Rattle.well_formed_trees.specs.Ranges.{IsInteger}
use Rattle.well_formed_trees.specs.Spelled.{RangedBound, RangedExtent, RangedIf}
use Rattle.well_formed_trees.specs.Surroundings.{variables_of_block}
use Rattle.well_formed_trees.specs.Declarations.{IsAmount, IsCheck}
use Rattle.well_formed_trees.specs.Held.{table_of}
use Rattle.well_formed_trees.specs.SoundVariables.{HasSoundChecks, AcceptedChecks}
use Rattle.well_formed_trees.proofs.Lists.{every_both, every_pair}
use Rattle.well_formed_trees.proofs.Places.{every_at}
use Rattle.well_formed_trees.proofs.HeadsInRange.{ranges_kept}
use Rattle.well_formed_trees.proofs.ProgramNumbers.{lists_kept}
use Rattle.well_formed_trees.proofs.StructuredVariables.{none_behind}
use Rattle.well_formed_trees.proofs.DeclaredRanges.{RangedHeld, BlockRanged, all_blocks_ranged, variables_ranged}
use Rattle.well_formed_trees.proofs.EvaluationsSound.{every_flat, order_every}
use Rattle.well_formed_trees.proofs.ExtentsSound.{IsPlaced, BoundPlaced, constant_ranged, one_ranged}
use Rattle.well_formed_trees.proofs.ExtentsPlaced.{HeldPlaced, all_placed}
use Rattle.well_formed_trees.proofs.LeavesSound.{evaluations_length}
use Rattle.well_formed_trees.proofs.Facts.{Facts}
use Rattle.well_formed_trees.proofs.AcceptedFacts.{facts_kept}

-- ---- amounts

pub amount_sound : (written : List WrittenExtent) (e : T.Extent) → RangedExtent e → IsPlaced written e.value
    → IsAmount (length written) (evaluated written e.value (constant e.value))
amount_sound written e r p = by (constant e.value) (constant_ranged e.value r) p where
  by : (c : Option ℤ) → RangedIf IsInteger c
      → (c ≡ None
      → index_where (λ w. same_place (place_of_expr w.value) (place_of_expr e.value)) written < length written)
      → IsAmount (length written) (evaluated written e.value c)
  by (Some z) r p = r
  by None r p = p refl

abbrev SoundCheck : List WrittenExtent → WrittenCheck → Type 0
SoundCheck written c = IsCheck (length written) (check_of written c)

abbrev SoundWritten : List WrittenExtent → WrittenExtent → Type 0
SoundWritten written w = SoundCheck written w.check

-- ---- what is written

open_checked : (written : List WrittenExtent) (e : T.Expr) (check : WrittenCheck) → SoundCheck written check
    → Every (SoundWritten written) (if_open e check)
open_checked written e check r = by (is_open e) where
  by : (b : Bool) → Every (SoundWritten written) (if b then record { value = e; check = check } ∷ [] else [])
  by true = (r, tt)
  by false = tt

abbrev Checkable : List WrittenExtent → T.Bound → Type 0
Checkable written b = RangedBound b × BoundPlaced written b

bound_checked : (written : List WrittenExtent) (b : T.Bound) → Checkable written b
    → Every (SoundWritten written) (open_in_bound b)
bound_checked written (T.StarBound place) h = tt
bound_checked written (T.Upper u) h =
    open_checked written u.value (WrittenBounds (T.Upper u)) (one_ranged, amount_sound written u h.0 h.1)
bound_checked written (T.Both l u) h =
    let own : SoundCheck written (WrittenBounds (T.Both l u)) =
    (amount_sound written l h.0.0 h.1.0, amount_sound written u h.0.1 h.1.1) in
    every_both (SoundWritten written)
    (if_open l.value (if is_open u.value then WrittenNothing else WrittenBounds (T.Both l u)))
    (if_open u.value (WrittenBounds (T.Both l u)))
    (open_checked written l.value (if is_open u.value then WrittenNothing else WrittenBounds (T.Both l u))
    (lower (is_open u.value) own))
    (open_checked written u.value (WrittenBounds (T.Both l u)) own) where
      lower : (b : Bool) → SoundCheck written (WrittenBounds (T.Both l u))
          → SoundCheck written (if b then WrittenNothing else WrittenBounds (T.Both l u))
      lower true k = tt
      lower false k = k

attribute_checked : (written : List WrittenExtent) (a : T.Attribute)
    → Every (SoundWritten written) (open_in_attribute a)
attribute_checked written (T.Character (Some (T.Given e))) = open_checked written e.value WrittenLength tt
attribute_checked written (T.Character (Some (T.StarSize place))) = tt
attribute_checked written (T.Character None) = tt
attribute_checked written (T.Area (Some (T.Given e))) = open_checked written e.value WrittenSize tt
attribute_checked written (T.Area (Some (T.StarSize place))) = tt
attribute_checked written (T.Area None) = tt
attribute_checked written _ = tt

attributes_checked : (written : List WrittenExtent) (all : List T.Attribute)
    → Every (SoundWritten written) (flat_map open_in_attribute all)
attributes_checked written [] = tt
attributes_checked written (a ∷ all) =
    every_both (SoundWritten written) (open_in_attribute a) (flat_map open_in_attribute all)
    (attribute_checked written a) (attributes_checked written all)

all_checked : (written : List WrittenExtent) (hs : List Held) → Every RangedHeld hs
    → Every (HeldPlaced written) hs → Every (SoundWritten written) (flat_map open_in hs)
all_checked written [] r p = tt
all_checked written (h ∷ hs) r p =
    let bounds = flat_map open_in_bound (dimensions_of h.variable) in
    every_both (SoundWritten written) (open_in h) (flat_map open_in hs)
    (every_both (SoundWritten written) bounds (flat_map open_in_attribute (own_attributes h))
    (every_flat (Checkable written) (SoundWritten written) open_in_bound (bound_checked written)
    (dimensions_of h.variable) (every_pair RangedBound (BoundPlaced written) (dimensions_of h.variable) r.0.0 p.0.0))
    (attributes_checked written (own_attributes h)))
    (all_checked written hs r.1 p.1)

written_checked : (all : List Held) → Every RangedHeld all
    → Every (SoundWritten (written_extents all)) (written_extents all)
written_checked all r =
    let written = written_extents all in
    order_every (SoundWritten written) (flat_map open_in all) (all_checked written all r (all_placed all))

-- ---- evaluations

each_checked : (scope : Scope) (own : Y.Variable) (written ws : List WrittenExtent)
    → Every (SoundWritten written) ws
    → Every (λ e. IsCheck (length written) e.check) (each (evaluation scope own written) ws).value
each_checked scope own written [] h = tt
each_checked scope own written (x ∷ xs) h = (h.0, each_checked scope own written xs h.1)

with_checked : (scope : Scope) (own : Y.Variable) (all : List Held) → Every RangedHeld all
    → HasSoundChecks (declared_with scope own all).value
with_checked scope own all r =
    let written = written_extents all in
    subst (λ n. Every (λ e. IsCheck n e.check) (each (evaluation scope own written) written).value)
    (sym (evaluations_length scope own written written))
    (each_checked scope own written written (written_checked all r))

variable_checked : (scope : Scope) (all : List Held) → Every RangedHeld all
    → HasSoundChecks (declared_variable scope all).value
variable_checked scope [] r = with_checked scope no_variable [] r
variable_checked scope (h ∷ ms) r = with_checked scope (variable_meant scope.blocks scope.block h) (h ∷ ms) r

all_variables : (scope : Scope) (vs : List (List Held)) → Every (Every RangedHeld) vs
    → Every HasSoundChecks (each (declared_variable scope) vs).value
all_variables scope [] r = tt
all_variables scope (all ∷ vs) r = (variable_checked scope all r.0, all_variables scope vs r.1)

pub accepted_checks : AcceptedChecks
accepted_checks s tokens tree t h declared typed number =
    by (slice_get (blocks_of tree) number) refl (facts_kept s tokens tree t h declared typed)
    (all_blocks_ranged tree (ranges_kept s tokens tree t h)) where
      by : (o : Option Block) → slice_get (blocks_of tree) number ≡ o
          → Facts (blocks_of tree) (typed_tree tree) (table_of tree) → Every BlockRanged (blocks_of tree)
          → Every HasSoundChecks (variables_of_block (typed_tree tree) number)
      by None e facts ranged =
          subst (λ o. Every HasSoundChecks (unwrap_or o []))
          (sym (none_behind (typed_tree tree).variables (blocks_of tree) number (lists_kept tree) e)) tt
      by (Some b) e facts ranged =
          let blocks = blocks_of tree in
          let same : declarations_at blocks number ≡ b.declarations = ap declarations_of e in
          let r = subst (λ ds. Every (Every RangedHeld) (variables_in ds)) (sym same)
          (variables_ranged b.declarations (every_at BlockRanged blocks number b ranged e)) in
          subst (Every HasSoundChecks) (sym (facts.variables number b e))
          (all_variables (record { blocks = blocks; block = number }) (variables_in (declarations_at blocks number)) r)
