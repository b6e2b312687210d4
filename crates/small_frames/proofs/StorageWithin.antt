-- What ALLOCATE, FREE, GET and PUT take: no more words than their heaviest expression, and eight.
use Rattle.std.proofs.Common.{ℕ, suc, ◌+◌, ◌≤◌, Bool, true, false, ◌||◌, List, [], ◌∷◌, Option, Some, None}
use Rattle.std.proofs.Common.{if◌then◌else◌, refl, arith}
use Rattle.std.specs.Prelude.{is_some}
use Rattle.pli_language.specs.declared.expr.Place.{Place}
use Rattle.pli_language.specs.declared.scope.Found.{Found}
use Rattle.pli_language.specs.declared.scope.Found.TheVariants as F
use Rattle.pli_language.specs.declared.fault.SourceKind.TheVariants.{Undeclared}
use Rattle.pli_language.specs.Tree as T
use Rattle.pli_language.specs.Declarations.{Held, Block, What, Variable', Label, ProcedureName}
use Rattle.pli_language.specs.Declaring.{is_builtin, stands_alone, class_attributes}
use Rattle.pli_typing.specs.TypedTree as Y
use Rattle.pli_typing.specs.Judging.{Scope, Judged, fine, broken, each}
use Rattle.pli_typing.specs.Variables.{what_at, name_means, variable_meant, locator_name}
use Rattle.pli_typing.specs.Converting.{Designated, Referent, Designates, Gives, GivesUnknown, GivesEmptyArea}
use Rattle.pli_typing.specs.Converting.{GivesNothing, NotKnown, Operand, is_aggregate, scalar_type, operand_value}
use Rattle.pli_typing.specs.Assigning.{holds_fixed, get_designated, get_referent, get_item}
use Rattle.pli_typing.specs.Assigning.{put_scalar, put_aggregate, put_referent, put_item}
use Rattle.pli_typing.specs.Generations.{judged_if, target_with, target_or_mismatch, locator_target, set_target}
use Rattle.pli_typing.specs.Generations.{declared_target, based_target, target_given, Allocating, bad_allocation}
use Rattle.pli_typing.specs.Generations.{no_allocation, allocated_controlled, allocated_class}
use Rattle.pli_typing.specs.Generations.{allocated_what, allocated_found, allocation, in_area, pointer_to, freed_class}
use Rattle.pli_typing.specs.Generations.{freed_whole, freed_reference, freed_referent, freeing, target_or}
use Rattle.pli_typing.specs.References.{locator_found, expressions, referred}
use Rattle.pli_typing.specs.SingleStatements.{allocate_statement, free_statement, get_of, put_of, get_statement}
use Rattle.pli_typing.specs.SingleStatements.{put_statement}
use Rattle.temporary_bounds.specs.WordBounds.{target_words, allocation_words, allocations_words, freeing_words}
use Rattle.temporary_bounds.specs.WordBounds.{freeings_words, words_behind_record, pointer_words, reference_words}
use Rattle.temporary_bounds.specs.WordBounds.{locator_value_words}
use Rattle.temporary_bounds.specs.WordBounds as W
use Rattle.well_formed_trees.specs.Every.{Every}
use Rattle.well_formed_trees.specs.Spelled.{RangedIf}
use Rattle.well_formed_trees.proofs.Lists.{HoldsIf}
use Rattle.small_frames.specs.Weights.{reference_weight, heaviest_of}
use Rattle.small_frames.specs.Within.{Within}
use Rattle.small_frames.proofs.ValuesWithin.{OperandWithin, operand_within}
use Rattle.small_frames.proofs.BuiltinsWithin.{AllWithin}
use Rattle.small_frames.proofs.ExpressionsWithin.{all_more, located_most, plain_found, expressions_are_within}
use Rattle.small_frames.proofs.SingleWithin.{all_counted, referred_light, SingleWithin, computed_within}

-- ---- ALLOCATE

abbrev TargetWithin : (words : ℕ) → Y.LocatorTarget → Type 0
TargetWithin w t = target_words t ≤ suc w

type_within : (w : ℕ) (r : Y.Reference) (t : Option Y.LeafType) → reference_words r ≤ w
    → HoldsIf (TargetWithin w) (target_with r t)
type_within w r (Some Y.PointerLeaf) h = omega (arith, h)
type_within w r (Some (Y.OffsetLeaf (Some area))) h = omega (arith, h)
type_within w r (Some (Y.OffsetLeaf None)) h = tt
type_within w r (Some (Y.FixedLeaf p)) h = tt
type_within w r (Some (Y.CharacterLeaf n)) h = tt
type_within w r (Some (Y.VaryingLeaf n)) h = tt
type_within w r (Some Y.BitLeaf) h = tt
type_within w r (Some (Y.AreaLeaf n)) h = tt
type_within w r None h = tt

or_within : (w : ℕ) (place : Place) (t : Option Y.LocatorTarget) → HoldsIf (TargetWithin w) t
    → TargetWithin w (target_or_mismatch place t).value
or_within w place None h = omega arith
or_within w place (Some t) h = h

set_within : (w : ℕ) (place : Place) (r : Referent) → Within w r → TargetWithin w (locator_target place r).value
set_within w place (Designates d) h =
    or_within w place (target_with d.reference (scalar_type d)) (type_within w d.reference (scalar_type d) h)
set_within w place (Gives v) h = omega arith
set_within w place GivesUnknown h = omega arith
set_within w place GivesEmptyArea h = omega arith
set_within w place GivesNothing h = omega arith
set_within w place NotKnown h = omega arith

set_light : (w : ℕ) (scope : Scope) (r : Option T.Reference) → RangedIf (λ r. reference_weight 6 r ≤ w) r
    → HoldsIf (TargetWithin w) (judged_if (set_target scope) r).value
set_light w scope None h = tt
set_light w scope (Some r) h =
    let o = (referred scope r).value in
    set_within w o.place o.referent (referred_light w scope r h).1

given_or_within : (w : ℕ) (t : Option Y.LocatorTarget) → HoldsIf (TargetWithin w) t → TargetWithin w (target_or t)
given_or_within w None h = omega arith
given_or_within w (Some t) h = h

-- the locator that the declaration names
declared_within : (w : ℕ) → 5 ≤ w → (o : Option Designated) → HoldsIf (λ d. reference_words d.reference ≤ 5) o
    → TargetWithin w (declared_target o)
declared_within w s None h = omega arith
declared_within w s (Some d) h =
    given_or_within w (target_with d.reference (scalar_type d))
    (type_within w d.reference (scalar_type d) (omega (arith, s, h)))

based_within : (w : ℕ) → 5 ≤ w → (blocks : List Block) (b : ℕ) (place : Place) (name : Option T.Name)
    → TargetWithin w (based_target blocks b place name).value
based_within w s blocks b place None = omega arith
based_within w s blocks b place (Some name) =
    let f = name_means blocks b name in
    declared_within w s (locator_found blocks f) (plain_found blocks f)

target_within : (w : ℕ) → 5 ≤ w → (blocks : List Block) (b : ℕ) (h : Held) (place : Place)
    (t : Option Y.LocatorTarget) → HoldsIf (TargetWithin w) t
    → TargetWithin w (target_given blocks b h place t).value
target_within w s blocks b h place (Some t) k = k
target_within w s blocks b h place None k = based_within w s blocks b place (locator_name (class_attributes h))

abbrev AllocationWithin : (words : ℕ) → Y.Allocation → Type 0
AllocationWithin w a = allocation_words a ≤ w + 8

none_within : (w : ℕ) → 2 ≤ w + 8
none_within w = omega arith

controlled_within : (w : ℕ) (v : Y.Variable) (a : Allocating)
    → AllocationWithin w (allocated_controlled v a).value
controlled_within w v a = by (is_some a.area || is_some a.target) where
  by : (b : Bool) → AllocationWithin w (if b then bad_allocation a else fine (Y.AllocateControlled v)).value
  by true = none_within w
  by false = none_within w

class_within : (w : ℕ) → 5 ≤ w → (blocks : List Block) (b : ℕ) (h : Held) (class : Y.StorageClass) (a : Allocating)
    → HoldsIf (TargetWithin w) a.target → AllocationWithin w (allocated_class blocks b h class a).value
class_within w s blocks b h Y.BasedClass a k =
    let t = target_within w s blocks b h a.name.place a.target k in
    omega (arith, t)
class_within w s blocks b h Y.ControlledClass a k = controlled_within w (variable_meant blocks b h) a
class_within w s blocks b h Y.AutomaticClass a k = none_within w
class_within w s blocks b h Y.ParameterClass a k = none_within w
class_within w s blocks b h Y.StaticClass a k = none_within w

what_within : (w : ℕ) → 5 ≤ w → (blocks : List Block) (b : ℕ) (o : Option What) (a : Allocating)
    → HoldsIf (TargetWithin w) a.target → AllocationWithin w (allocated_what blocks b o a).value
what_within w s blocks b None a k = none_within w
what_within w s blocks b (Some Label) a k = none_within w
what_within w s blocks b (Some (ProcedureName head)) a k = none_within w
what_within w s blocks b (Some (Variable' h)) a k = by (stands_alone h) where
  by : (x : Bool) → AllocationWithin w
      (if x then allocated_class blocks b h (variable_meant blocks b h).class a else bad_allocation a).value
  by true = class_within w s blocks b h (variable_meant blocks b h).class a k
  by false = none_within w

found_within : (w : ℕ) → 5 ≤ w → (blocks : List Block) (f : Found) (a : Allocating) → HoldsIf (TargetWithin w) a.target
    → AllocationWithin w (allocated_found blocks f a).value
found_within w s blocks (F.One at) a k = what_within w s blocks at.block (what_at blocks at) a k
found_within w s blocks F.None a k = by (is_builtin a.name.word) where
  by : (x : Bool) → AllocationWithin w
      (if x then bad_allocation a else broken a.name.place Undeclared no_allocation).value
  by true = none_within w
  by false = none_within w
found_within w s blocks F.Ambiguous a k = none_within w

allocation_light : (w : ℕ) → 5 ≤ w → (scope : Scope) (place : Place) (a : T.Allocation)
    → RangedIf (λ r. reference_weight 6 r ≤ w) a.locator → AllocationWithin w (allocation scope place a).value
allocation_light w s scope place a h =
    found_within w s scope.blocks (name_means scope.blocks scope.block a.variable)
    (record {
      place = place;
      name = a.variable;
      area = (judged_if (in_area scope) a.area).value;
      target =
          (judged_if (set_target scope) a.locator).value;
    }) (set_light w scope a.locator h)

allocations_light : (w : ℕ) → 5 ≤ w → (scope : Scope) (place : Place) (as' : List T.Allocation)
    → Every (λ a. RangedIf (λ r. reference_weight 6 r ≤ w) a.locator) as'
    → allocations_words (each (allocation scope place) as').value ≤ w + 8
allocations_light w s scope place [] h = omega arith
allocations_light w s scope place (a ∷ as') h =
    let one = allocation_light w s scope place a h.0 in
    let more = allocations_light w s scope place as' h.1 in
    omega (arith, one, more)

pub allocate_light : (w : ℕ) → 5 ≤ w → (scope : Scope) (as' : List T.Allocation) (place : Place)
    → Every (λ a. RangedIf (λ r. reference_weight 6 r ≤ w) a.locator) as'
    → SingleWithin w (allocate_statement scope as' place).value
allocate_light w s scope as' place h = (allocations_light w s scope place as' h, refl)

-- ---- FREE

abbrev FreeingWithin : (words : ℕ) → Y.Freeing → Type 0
FreeingWithin w f = freeing_words f ≤ w + 8

locator_within : (w : ℕ) → 5 ≤ w → (l : Y.Locator) → locator_value_words l ≤ w → pointer_words (pointer_to l) ≤ w
locator_within w s Y.NotLocated h = omega (arith, s)
locator_within w s (Y.LocatedBy p) h = h

freed_class_within : (w : ℕ) → 5 ≤ w → (place : Place) (v : Y.Variable) (class : Y.StorageClass) (l : Y.Locator)
    (area : Option Y.Variable) → locator_value_words l ≤ w → FreeingWithin w (freed_class place v class l area).value
freed_class_within w s place v Y.BasedClass l area h = let p = locator_within w s l h in omega (arith, p)
freed_class_within w s place v Y.ControlledClass l None h = omega arith
freed_class_within w s place v Y.ControlledClass l (Some area) h = omega arith
freed_class_within w s place v Y.AutomaticClass l area h = omega arith
freed_class_within w s place v Y.ParameterClass l area h = omega arith
freed_class_within w s place v Y.StaticClass l area h = omega arith

whole_within : (w : ℕ) (place reference_place : Place) (b : Bool) (j : Judged Y.Freeing) → FreeingWithin w j.value
    → FreeingWithin w (freed_whole place reference_place b j).value
whole_within w place reference_place true j h = h
whole_within w place reference_place false j h = omega arith

freed_reference_within : (w : ℕ) → 5 ≤ w → (place : Place) (r : Y.Reference) (area : Option Y.Variable)
    → reference_words r ≤ w → FreeingWithin w (freed_reference place r area).value
freed_reference_within w s place (Y.Referring v l part subscripts) area h =
    freed_class_within w s place v v.class l area (omega (arith, h))

freed_within : (w : ℕ) → 5 ≤ w → (place reference_place : Place) (r : Referent) (area : Option Y.Variable)
    → Within w r → FreeingWithin w (freed_referent place reference_place r area).value
freed_within w s place reference_place (Designates d) area h =
    whole_within w place reference_place d.is_whole (freed_reference place d.reference area)
    (freed_reference_within w s place d.reference area h)
freed_within w s place reference_place (Gives v) area h = omega arith
freed_within w s place reference_place GivesUnknown area h = omega arith
freed_within w s place reference_place GivesEmptyArea area h = omega arith
freed_within w s place reference_place GivesNothing area h = omega arith
freed_within w s place reference_place NotKnown area h = omega arith

freeings_light : (w : ℕ) (scope : Scope) (place : Place) (fs : List T.Freeing)
    → Every (λ f. reference_weight 6 f.generation ≤ w) fs
    → freeings_words (each (freeing scope place) fs).value ≤ w + 8
freeings_light w scope place [] h = omega arith
freeings_light w scope place (f ∷ fs) h =
    let o = (referred scope f.generation).value in
    let k = referred_light w scope f.generation h.0 in
    let one = freed_within w k.0 place o.place o.referent (judged_if (in_area scope) f.area).value k.1 in
    let more = freeings_light w scope place fs h.1 in
    omega (arith, one, more)

pub free_light : (w : ℕ) (scope : Scope) (fs : List T.Freeing) (place : Place)
    → Every (λ f. reference_weight 6 f.generation ≤ w) fs → SingleWithin w (free_statement scope fs place).value
free_light w scope fs place h = (freeings_light w scope place fs h, refl)

-- ---- GET and PUT

behind_within : (r : Y.Reference) → words_behind_record r ≤ 9
behind_within (Y.Referring v l part subscripts) = let own = located_most v in omega (arith, own)

aggregate_within : (w : ℕ) → 5 ≤ w → (r : Y.Reference) → reference_words r ≤ w → W.streamed_words r ≤ w + 8
aggregate_within w s r h = let behind = behind_within r in omega (arith, s, h, behind)

get_designated_within : (w : ℕ) → 5 ≤ w → (d : Designated) → reference_words d.reference ≤ w
    → W.get_item_words (get_designated d) ≤ w + 8
get_designated_within w s d h = by (is_aggregate d) where
  by : (b : Bool)
      → W.get_item_words (if b then Y.GetAggregate d.reference else Y.GetScalar d.reference) ≤ w + 8
  by true = aggregate_within w s d.reference h
  by false = omega (arith, h)

get_within : (w : ℕ) → 5 ≤ w → (b : Bool) (place : Place) (r : Referent) → Within w r
    → W.get_item_words (get_referent b place r).value ≤ w + 8
get_within w s b place (Designates d) h = get_designated_within w s d h
get_within w s b place (Gives v) h = omega arith
get_within w s b place GivesUnknown h = omega arith
get_within w s b place GivesEmptyArea h = omega arith
get_within w s b place GivesNothing h = omega arith
get_within w s b place NotKnown h = omega arith

gets_within : (w : ℕ) (b : Bool) (os : List Operand) → AllWithin w os
    → W.get_items_words (each (get_item b) os).value ≤ w + 8
gets_within w b [] h = omega arith
gets_within w b (o ∷ os) h =
    let one = get_within w h.0.0 b o.place o.referent h.0.1 in
    let more = gets_within w b os h.1 in
    omega (arith, one, more)

put_scalar_within : (w : ℕ) (o : Operand) → OperandWithin w o → W.put_item_words (put_scalar o).value ≤ w + 8
put_scalar_within w o h =
    let v = computed_within w h.0 o.place (operand_value o).value (operand_within w o h) in
    omega (arith, v)

put_within : (w : ℕ) (o : Operand) → OperandWithin w o → (r : Referent) → Within w r
    → W.put_item_words (put_referent o r).value ≤ w + 8
put_within w o h (Designates d) k = by (is_aggregate d) where
  by : (b : Bool) → W.put_item_words (if b then put_aggregate o.place d else put_scalar o).value ≤ w + 8
  by true = aggregate_within w h.0 d.reference k
  by false = put_scalar_within w o h
put_within w o h (Gives v) k = put_scalar_within w o h
put_within w o h GivesUnknown k = put_scalar_within w o h
put_within w o h GivesEmptyArea k = put_scalar_within w o h
put_within w o h GivesNothing k = put_scalar_within w o h
put_within w o h NotKnown k = put_scalar_within w o h

puts_within : (w : ℕ) (os : List Operand) → AllWithin w os → W.put_items_words (each put_item os).value ≤ w + 8
puts_within w [] h = omega arith
puts_within w (o ∷ os) h =
    let one = put_within w o h.0 o.referent h.0.1 in
    let more = puts_within w os h.1 in
    omega (arith, one, more)

items_light : (w : ℕ) (scope : Scope) (es : T.Exprs) → heaviest_of 6 es ≤ w
    → AllWithin w (expressions scope es).value
items_light w scope es h =
    all_more (heaviest_of 6 es) w h (expressions scope es).value
    (expressions_are_within 6 (omega arith) scope es (all_counted (expressions scope es).mentions))

get_pairs_light : (w : ℕ) (scope : Scope) (ps : List T.EditPair) → Every (λ p. heaviest_of 6 p.items ≤ w) ps
    → W.get_words (each (get_of scope) ps).value ≤ w + 8
get_pairs_light w scope [] h = omega arith
get_pairs_light w scope (p ∷ ps) h =
    let one = gets_within w (holds_fixed p.formats) (expressions scope p.items).value
    (items_light w scope p.items h.0) in
    let more = get_pairs_light w scope ps h.1 in
    omega (arith, one, more)

put_pairs_light : (w : ℕ) (scope : Scope) (ps : List T.EditPair) → Every (λ p. heaviest_of 6 p.items ≤ w) ps
    → W.put_words (each (put_of scope) ps).value ≤ w + 8
put_pairs_light w scope [] h = omega arith
put_pairs_light w scope (p ∷ ps) h =
    let one = puts_within w (expressions scope p.items).value (items_light w scope p.items h.0) in
    let more = put_pairs_light w scope ps h.1 in
    omega (arith, one, more)

pub get_light : (w : ℕ) (scope : Scope) (skip : Option T.Skip) (ps : List T.EditPair) (place : Place)
    → Every (λ p. heaviest_of 6 p.items ≤ w) ps → SingleWithin w (get_statement scope skip ps place).value
get_light w scope skip ps place h = (get_pairs_light w scope ps h, refl)

pub put_light : (w : ℕ) (scope : Scope) (skip : Option T.Skip) (ps : List T.EditPair) (place : Place)
    → Every (λ p. heaviest_of 6 p.items ≤ w) ps → SingleWithin w (put_statement scope skip ps place).value
put_light w scope skip ps place h = (put_pairs_light w scope ps h, refl)
