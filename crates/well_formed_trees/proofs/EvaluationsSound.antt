-- What is evaluated for the extents of each variable of an accepted source is a sound number.
use Rattle.std.proofs.Common.{◌≡◌, ℕ, Bool, true, false, List, [], ◌∷◌, ◌++◌, Option, Some, None, refl, sym, ap}
use Rattle.std.proofs.Common.{subst, if◌then◌else◌}
use Rattle.std.specs.Prelude.{slice_get, unwrap_or}
use Rattle.std.specs.List.{flat_map}
use Rattle.pli_language.specs.Tree as T
use Rattle.pli_language.specs.Declarations.{dimensions_of, Held, Block, blocks_of}
use Rattle.pli_language.specs.Declaring.{own_attributes, place_of_expr, same_place}
use Rattle.pli_language.specs.Means.{declarations_of}
use Rattle.pli_typing.specs.TypedTree as Y
use Rattle.pli_typing.specs.Judging.{Scope, each}
use Rattle.pli_typing.specs.Converting.{number_operand, no_variable}
use Rattle.pli_typing.specs.References.{operand}
use Rattle.pli_typing.specs.Generations.{names_demanded, extent_demanded, extent_number, evaluation, declared_with}
use Rattle.pli_typing.specs.Generations.{declared_variable}
use Rattle.pli_typing.specs.Resolving.{typed_tree}
use Rattle.pli_typing.specs.Variables.{WrittenExtent, WrittenCheck, is_open, if_open, open_in_bound, open_in_size}
use Rattle.pli_typing.specs.Variables.{open_in_attribute, open_in, with_extent, in_order, written_extents}
use Rattle.pli_typing.specs.Variables.{stands_before, variables_in, declarations_at, variable_meant}
use Rattle.well_formed_trees.specs.Every.{Every}
use Rattle.well_formed_trees.specs.Expressions.{SoundNumber}
use Rattle.well_formed_trees.specs.Spelled.{RangedExpr, RangedBound, RangedSize, RangedAttribute, RangedIf}
use Rattle.well_formed_trees.specs.Surroundings.{Around, Where, NoReturn, variables_of_block}
use Rattle.well_formed_trees.specs.Held.{table_of}
use Rattle.well_formed_trees.specs.SoundVariables.{HasSoundValues, AcceptedEvaluations}
use Rattle.well_formed_trees.proofs.Lists.{first_empty, second_empty, every_both}
use Rattle.well_formed_trees.proofs.Places.{every_at}
use Rattle.well_formed_trees.proofs.FitValues.{number_operand_sound}
use Rattle.well_formed_trees.proofs.StatementsFit.{operand_fit}
use Rattle.well_formed_trees.proofs.HeadsInRange.{ranges_kept}
use Rattle.well_formed_trees.proofs.DeclaredRanges.{RangedHeld, BlockRanged, all_blocks_ranged, variables_ranged}
use Rattle.well_formed_trees.proofs.EntryScopes.{entry_scope}
use Rattle.well_formed_trees.proofs.ProgramNumbers.{lists_kept}
use Rattle.well_formed_trees.proofs.StructuredVariables.{none_behind}
use Rattle.well_formed_trees.proofs.Facts.{Facts, InScope}
use Rattle.well_formed_trees.proofs.AcceptedFacts.{facts_kept}

-- ---- open extents are in range

abbrev IsRangedWritten : WrittenExtent → Type 0
IsRangedWritten w = RangedExpr w.value

open_ranged : (e : T.Expr) (check : WrittenCheck) → RangedExpr e → Every IsRangedWritten (if_open e check)
open_ranged e check r = by (is_open e) where
  by : (b : Bool) → Every IsRangedWritten (if b then record { value = e; check = check } ∷ [] else [])
  by true = (r, tt)
  by false = tt

bound_ranged : (b : T.Bound) → RangedBound b → Every IsRangedWritten (open_in_bound b)
bound_ranged (T.StarBound place) r = tt
bound_ranged (T.Upper u) r = open_ranged u.value _ r
bound_ranged (T.Both l u) r =
    every_both IsRangedWritten (if_open l.value _) (if_open u.value _) (open_ranged l.value _ r.0)
    (open_ranged u.value _ r.1)

size_ranged : (check : WrittenCheck) (size : Option T.Size) → RangedIf RangedSize size
    → Every IsRangedWritten (open_in_size check size)
size_ranged check None r = tt
size_ranged check (Some (T.StarSize place)) r = tt
size_ranged check (Some (T.Given e)) r = open_ranged e.value check r

attribute_ranged : (a : T.Attribute) → RangedAttribute a → Every IsRangedWritten (open_in_attribute a)
attribute_ranged (T.Character size) r = size_ranged _ size r
attribute_ranged (T.Area size) r = size_ranged _ size r
attribute_ranged _ r = tt

pub every_flat : {X Z : Type 0} (P : X → Type 0) (Q : Z → Type 0) (f : X → List Z)
    → ((x : X) → P x → Every Q (f x)) → (xs : List X) → Every P xs → Every Q (flat_map f xs)
every_flat P Q f k [] h = tt
every_flat P Q f k (x ∷ xs) h = every_both Q (f x) (flat_map f xs) (k x h.0) (every_flat P Q f k xs h.1)

held_ranged : (h : Held) → RangedHeld h → Every IsRangedWritten (open_in h)
held_ranged h r =
    every_both IsRangedWritten (flat_map open_in_bound (dimensions_of h.variable))
    (flat_map open_in_attribute (own_attributes h))
    (every_flat RangedBound IsRangedWritten open_in_bound bound_ranged (dimensions_of h.variable) r.0)
    (every_flat RangedAttribute IsRangedWritten open_in_attribute attribute_ranged (own_attributes h) r.1)

-- what is so of all extents is so of those that are kept
with_every : (P : WrittenExtent → Type 0) (w : WrittenExtent) (vs : List WrittenExtent) → P w → Every P vs
    → Every P (with_extent w vs)
with_every P w [] r h = (r, tt)
with_every P w (v ∷ vs) r h =
    by (stands_before (place_of_expr w.value) (place_of_expr v.value))
    (same_place (place_of_expr w.value) (place_of_expr v.value)) (with_every P w vs r h.1) where
      by : (b c : Bool) → Every P (with_extent w vs)
          → Every P (if b then w ∷ v ∷ vs else (if c then v ∷ vs else v ∷ with_extent w vs))
      by true c k = (r, h)
      by false true k = h
      by false false k = (h.0, k)

pub order_every : (P : WrittenExtent → Type 0) (ws : List WrittenExtent) → Every P ws → Every P (in_order ws)
order_every P [] h = tt
order_every P (w ∷ ws) h = with_every P w (in_order ws) h.0 (order_every P ws h.1)

written_ranged : (all : List Held) → Every RangedHeld all → Every IsRangedWritten (written_extents all)
written_ranged all h =
    order_every IsRangedWritten (flat_map open_in all) (every_flat RangedHeld IsRangedWritten open_in held_ranged all h)

-- ---- evaluations

evaluations_sound : (scope : Scope) (w : Where) → InScope scope w → (own : Y.Variable) (written ws : List WrittenExtent)
    → Every IsRangedWritten ws → (each (evaluation scope own written) ws).faults ≡ []
    → Every (λ e. SoundNumber w e.value) (each (evaluation scope own written) ws).value
evaluations_sound scope w i own written [] r f = tt
evaluations_sound scope w i own written (x ∷ xs) r f =
    let more = (each (evaluation scope own written) xs).faults in
    let here = (evaluation scope own written x).faults in
    let one = first_empty here (more ++ []) f in
    let demanded = (extent_demanded own x.value (extent_number scope x.value)).faults in
    let number = (extent_number scope x.value).faults in
    let judged = first_empty number _ (first_empty demanded [] one) in
    let o = operand scope x.value in
    let n = (number_operand o.value).faults in (
      number_operand_sound w o.value (operand_fit scope w i x.value r.0 (first_empty o.faults (n) judged))
          (second_empty o.faults (n) judged),
      evaluations_sound scope w i own written xs r.1
          (first_empty more [] (second_empty here (more ++ []) f)),
    )

with_sound : (scope : Scope) (w : Where) → InScope scope w → (own : Y.Variable) (all : List Held)
    → Every RangedHeld all → (declared_with scope own all).faults ≡ []
    → HasSoundValues w (declared_with scope own all).value
with_sound scope w i own all r f =
    let names = (each (λ h. names_demanded scope.blocks scope.block (own_attributes h)) all).faults in
    let values = (each (evaluation scope own (written_extents all)) (written_extents all)).faults in
    evaluations_sound scope w i own (written_extents all) (written_extents all) (written_ranged all r)
    (first_empty values [] (second_empty names (values ++ []) f))

variable_sound : (scope : Scope) (w : Where) → InScope scope w → (all : List Held) → Every RangedHeld all
    → (declared_variable scope all).faults ≡ [] → HasSoundValues w (declared_variable scope all).value
variable_sound scope w i [] r f = with_sound scope w i no_variable [] r f
variable_sound scope w i (h ∷ ms) r f =
    with_sound scope w i (variable_meant scope.blocks scope.block h) (h ∷ ms) r f

all_sound : (scope : Scope) (w : Where) → InScope scope w → (vs : List (List Held)) → Every (Every RangedHeld) vs
    → (each (declared_variable scope) vs).faults ≡ []
    → Every (HasSoundValues w) (each (declared_variable scope) vs).value
all_sound scope w i [] r f = tt
all_sound scope w i (all ∷ vs) r f =
    let more = (each (declared_variable scope) vs).faults in
    let here = (declared_variable scope all).faults in (
      variable_sound scope w i all r.0 (first_empty here (more ++ []) f),
      all_sound scope w i vs r.1 (first_empty more [] (second_empty here (more ++ []) f)),
    )

-- ---- blocks

block_sound : (blocks : List Block) (w : Where) → Every BlockRanged blocks → (n : ℕ) (b : Block)
    → slice_get blocks n ≡ Some b → InScope (record { blocks = blocks; block = n }) w
    → Every (HasSoundValues w) (variables_of_block w.program n)
block_sound blocks w ranged n b e i =
    let scope : Scope = record { blocks = blocks; block = n } in
    let same : declarations_at blocks n ≡ b.declarations = ap declarations_of e in
    let r = subst (λ ds. Every (Every RangedHeld) (variables_in ds)) (sym same)
    (variables_ranged b.declarations (every_at BlockRanged blocks n b ranged e)) in
    subst (Every (HasSoundValues w)) (sym (i.facts.variables n b e))
    (all_sound scope w i (variables_in (declarations_at blocks n)) r (i.facts.judged n b e))

abbrev pub where_of : T.Tree → List Around → Where
where_of tree around =
    record { program = typed_tree tree; table = table_of tree; around = around; returning = NoReturn }

pub accepted_evaluations : AcceptedEvaluations
accepted_evaluations s tokens tree t h declared typed number around f =
    by (slice_get (blocks_of tree) number) refl (facts_kept s tokens tree t h declared typed)
    (all_blocks_ranged tree (ranges_kept s tokens tree t h)) where
      by : (o : Option Block) → slice_get (blocks_of tree) number ≡ o
          → Facts (blocks_of tree) (typed_tree tree) (table_of tree) → Every BlockRanged (blocks_of tree)
          → Every (HasSoundValues (where_of tree around)) (variables_of_block (typed_tree tree) number)
      by None e facts ranged =
          subst (λ o. Every (HasSoundValues (where_of tree around)) (unwrap_or o []))
          (sym (none_behind (typed_tree tree).variables (blocks_of tree) number (lists_kept tree) e)) tt
      by (Some b) e facts ranged =
          block_sound (blocks_of tree) (where_of tree around) ranged number b e
          (entry_scope tree (typed_tree tree) facts number b around e f)
