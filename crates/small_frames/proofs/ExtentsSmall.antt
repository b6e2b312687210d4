-- What is evaluated for the extents of each variable of an accepted source takes no more words than an extent may.
use Rattle.std.proofs.Common.{◌≡◌, ℕ, ◌≤◌, Bool, true, false, not, List, [], ◌∷◌, ◌++◌, Option, Some, None, refl}
use Rattle.std.proofs.Common.{sym, ap, subst, arith, if◌then◌else◌}
use Rattle.std.specs.Prelude.{slice_get, unwrap_or}
use Rattle.std.specs.List.{flat_map, list_any}
use Rattle.pli_language.specs.declared.expr.Place.{Place}
use Rattle.pli_language.specs.declared.fault.SourceKind.{SourceKind}
use Rattle.pli_language.specs.declared.fault.SourceKind.TheVariants.{BadExtent}
use Rattle.pli_language.specs.Tree as T
use Rattle.pli_language.specs.Declarations.{dimensions_of, Held, Block, blocks_of}
use Rattle.pli_language.specs.Declaring.{own_attributes, place_of_expr}
use Rattle.pli_language.specs.Means.{declarations_of}
use Rattle.pli_typing.specs.TypedTree as Y
use Rattle.pli_typing.specs.Judging.{Scope, Mention, MentionsFunction, MentionsVariable, demand, each}
use Rattle.pli_typing.specs.Converting.{number_operand, no_variable}
use Rattle.pli_typing.specs.References.{expression, operand}
use Rattle.pli_typing.specs.Generations.{is_forbidden, extent_demanded, extent_number, evaluation, names_demanded}
use Rattle.pli_typing.specs.Generations.{declared_with, declared_variable}
use Rattle.pli_typing.specs.Resolving.{typed_tree}
use Rattle.pli_typing.specs.Variables.{WrittenExtent, WrittenCheck, is_open, if_open, open_in_bound, open_in_size}
use Rattle.pli_typing.specs.Variables.{open_in_attribute, open_in, written_extents}
use Rattle.pli_typing.specs.Variables.{variables_in, declarations_at, variable_meant}
use Rattle.well_formed_trees.specs.Every.{Every}
use Rattle.well_formed_trees.specs.Spelled.{RangedIf, ItemsHave}
use Rattle.well_formed_trees.specs.Surroundings.{Table, variables_of_block}
use Rattle.well_formed_trees.proofs.Lists.{first_empty, second_empty, first_false, second_false, every_first}
use Rattle.well_formed_trees.proofs.Lists.{every_both}
use Rattle.well_formed_trees.proofs.Places.{every_at}
use Rattle.well_formed_trees.proofs.Facts.{Facts}
use Rattle.well_formed_trees.proofs.EvaluationsSound.{every_flat, order_every}
use Rattle.well_formed_trees.proofs.ProgramNumbers.{lists_kept}
use Rattle.well_formed_trees.proofs.StructuredVariables.{none_behind}
use Rattle.small_frames.specs.Weights.{weight}
use Rattle.small_frames.specs.Within.{IsCounted, AreCounted}
use Rattle.small_frames.specs.Light.{LightBound, LightSize, LightAttribute, HasLight}
use Rattle.small_frames.proofs.ValuesWithin.{within_more, number_operand_within}
use Rattle.small_frames.proofs.ExpressionsWithin.{weight_least, expressions_within}
use Rattle.small_frames.proofs.DeclaredLight.{LightHeld, BlockLight, all_blocks_light, variables_light}
use Rattle.temporary_bounds.specs.WordBounds.{number_words}

-- ---- the extents of a variable

abbrev IsLightWritten : WrittenExtent → Type 0
IsLightWritten w = weight 1 w.value ≤ 529

open_light : (e : T.Expr) (check : WrittenCheck) → weight 1 e ≤ 529 → Every IsLightWritten (if_open e check)
open_light e check h = by (is_open e) where
  by : (b : Bool) → Every IsLightWritten (if b then record { value = e; check = check } ∷ [] else [])
  by true = (h, tt)
  by false = tt

bound_light : (b : T.Bound) → LightBound b → Every IsLightWritten (open_in_bound b)
bound_light (T.StarBound place) h = tt
bound_light (T.Upper u) h = open_light u.value _ h
bound_light (T.Both l u) h =
    every_both IsLightWritten (if_open l.value _) (if_open u.value _) (open_light l.value _ h.0)
    (open_light u.value _ h.1)

size_light : (check : WrittenCheck) (s : Option T.Size) → RangedIf LightSize s
    → Every IsLightWritten (open_in_size check s)
size_light check (Some (T.Given e)) h = open_light e.value check h
size_light check (Some (T.StarSize place)) h = tt
size_light check None h = tt

attribute_light : (a : T.Attribute) → LightAttribute a → Every IsLightWritten (open_in_attribute a)
attribute_light (T.Character size) h = size_light _ size h
attribute_light (T.Area size) h = size_light _ size h
attribute_light _ h = tt

held_light : (h : Held) → LightHeld h → Every IsLightWritten (open_in h)
held_light h r =
    every_both IsLightWritten (flat_map open_in_bound (dimensions_of h.variable))
    (flat_map open_in_attribute (own_attributes h))
    (every_flat LightBound IsLightWritten open_in_bound bound_light (dimensions_of h.variable) r.0)
    (every_flat LightAttribute IsLightWritten open_in_attribute attribute_light (own_attributes h) r.1)

written_light : (all : List Held) → Every LightHeld all → Every IsLightWritten (written_extents all)
written_light all h =
    order_every IsLightWritten (flat_map open_in all) (every_flat LightHeld IsLightWritten open_in held_light all h)

-- ---- no function is called in an extent

mention_counted : (own : Y.Variable) (m : Mention) → is_forbidden own m ≡ false → IsCounted 1 m
mention_counted own MentionsFunction e = absurd (cc e)
mention_counted own (MentionsVariable v) e = tt

all_counted : (own : Y.Variable) (ms : List Mention) → list_any (is_forbidden own) ms ≡ false → AreCounted 1 ms
all_counted own [] e = tt
all_counted own (m ∷ ms) e = (
  mention_counted own m (first_false (is_forbidden own m) (list_any (is_forbidden own) ms) e),
  all_counted own ms (second_false (is_forbidden own m) (list_any (is_forbidden own) ms) e),
)

none_demanded : (b : Bool) (place : Place) (kind : SourceKind) → (demand (not b) place kind).faults ≡ [] → b ≡ false
none_demanded true place kind e = absurd (cc e)
none_demanded false place kind e = refl

-- ---- evaluations

abbrev IsSmall : Y.Evaluation → Type 0
IsSmall e = number_words e.value ≤ 529

abbrev pub HasSmallExtents : Y.DeclaredVariable → Type 0
HasSmallExtents d = Every IsSmall d.evaluations

evaluation_small : (scope : Scope) (own : Y.Variable) (written : List WrittenExtent) (x : WrittenExtent)
    → IsLightWritten x → (evaluation scope own written x).faults ≡ []
    → IsSmall (evaluation scope own written x).value
evaluation_small scope own written x l f =
    let j = extent_number scope x.value in
    let o = operand scope x.value in
    let forbidden = list_any (is_forbidden own) j.mentions in
    let place = place_of_expr x.value in
    let d = (demand (not forbidden) place BadExtent).faults in
    let one = second_empty j.faults (d ++ []) (first_empty (extent_demanded own x.value j).faults [] f) in
    let all = all_counted own j.mentions (none_demanded forbidden place BadExtent (first_empty d [] one)) in
    let least = weight_least 1 x.value in
    number_operand_within 529 o.value (
      omega (arith, least, l),
      within_more (weight 1 x.value) 529 l (expression scope x.value).value
          (expressions_within 1 (omega arith) scope x.value
          (every_first (IsCounted 1) (expression scope x.value).mentions []
          (every_first (IsCounted 1) o.mentions (number_operand o.value).mentions all))),
    )

evaluations_small : (scope : Scope) (own : Y.Variable) (written ws : List WrittenExtent) → Every IsLightWritten ws
    → (each (evaluation scope own written) ws).faults ≡ []
    → Every IsSmall (each (evaluation scope own written) ws).value
evaluations_small scope own written [] l f = tt
evaluations_small scope own written (x ∷ xs) l f =
    let here = (evaluation scope own written x).faults in
    let more = (each (evaluation scope own written) xs).faults in (
      evaluation_small scope own written x l.0 (first_empty here (more ++ []) f),
      evaluations_small scope own written xs l.1 (first_empty more [] (second_empty here (more ++ []) f)),
    )

-- ---- variables

with_small : (scope : Scope) (own : Y.Variable) (all : List Held) → Every LightHeld all
    → (declared_with scope own all).faults ≡ [] → HasSmallExtents (declared_with scope own all).value
with_small scope own all l f =
    let names = (each (λ h. names_demanded scope.blocks scope.block (own_attributes h)) all).faults in
    let values = (each (evaluation scope own (written_extents all)) (written_extents all)).faults in
    evaluations_small scope own (written_extents all) (written_extents all) (written_light all l)
    (first_empty values [] (second_empty names (values ++ []) f))

variable_small : (scope : Scope) (all : List Held) → Every LightHeld all → (declared_variable scope all).faults ≡ []
    → HasSmallExtents (declared_variable scope all).value
variable_small scope [] l f = with_small scope no_variable [] l f
variable_small scope (h ∷ ms) l f = with_small scope (variable_meant scope.blocks scope.block h) (h ∷ ms) l f

all_small : (scope : Scope) (vs : List (List Held)) → Every (Every LightHeld) vs
    → (each (declared_variable scope) vs).faults ≡ []
    → Every HasSmallExtents (each (declared_variable scope) vs).value
all_small scope [] l f = tt
all_small scope (all ∷ vs) l f =
    let here = (declared_variable scope all).faults in
    let more = (each (declared_variable scope) vs).faults in (
      variable_small scope all l.0 (first_empty here (more ++ []) f),
      all_small scope vs l.1 (first_empty more [] (second_empty here (more ++ []) f)),
    )

-- ---- blocks

block_small : (blocks : List Block) (program : Y.Program) (table : Table) → Facts blocks program table
    → Every BlockLight blocks → (n : ℕ) (b : Block) → slice_get blocks n ≡ Some b
    → Every HasSmallExtents (variables_of_block program n)
block_small blocks program table facts light n b e =
    let scope : Scope = record { blocks = blocks; block = n } in
    let same : declarations_at blocks n ≡ b.declarations = ap declarations_of e in
    let l = subst (λ ds. Every (Every LightHeld) (variables_in ds)) (sym same)
    (variables_light b.declarations (every_at BlockLight blocks n b light e)) in
    subst (Every HasSmallExtents) (sym (facts.variables n b e))
    (all_small scope (variables_in (declarations_at blocks n)) l (facts.judged n b e))

pub extents_small : (tree : T.Tree) (table : Table) → Facts (blocks_of tree) (typed_tree tree) table
    → ItemsHave HasLight 0 0 false tree.procedures → (n : ℕ)
    → Every HasSmallExtents (variables_of_block (typed_tree tree) n)
extents_small tree table facts h n = by (slice_get (blocks_of tree) n) refl where
  by : (o : Option Block) → slice_get (blocks_of tree) n ≡ o
      → Every HasSmallExtents (variables_of_block (typed_tree tree) n)
  by None e =
      subst (λ o. Every HasSmallExtents (unwrap_or o []))
      (sym (none_behind (typed_tree tree).variables (blocks_of tree) n (lists_kept tree) e)) tt
  by (Some b) e = block_small (blocks_of tree) (typed_tree tree) table facts (all_blocks_light tree h) n b e
